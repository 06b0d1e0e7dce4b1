-- What a script says: what is sent, one event a line, or the first line that is no event.
use Rattle.std.specs.Prelude.{◌≡◌, ◌≢◌, ℕ, ◌+◌, ◌<◌, ◌≤◌, ◌||◌, ◌==◌, Bool, true, false, List, [], ◌∷◌, ◌++◌, length}
use Rattle.std.specs.Prelude.{map, codes}
use Rattle.std.specs.List.{slice_split, filter, before_first, AllZip}
use Rattle.std.specs.Str.Parse.{AllDigits, digits_value}
use Rattle.keymap_core.specs.Numbers.{key_count}
use Rattle.play_core.specs.Types.{What, Down, Repeat, Up, Reset, Load, Sent, ScriptFault}
use Rattle.play_core.specs.declared.script.ScriptFault.TheVariants.{BadLine, BadKey}
use Rattle.play_core.specs.declared.script.ScriptError.{ScriptError}
use Rattle.play_core.specs.declared.script.ScriptError.TheVariants as errors

-- a comment begins at a number sign and ends with its line
abbrev pub without_comment : List ℕ → List ℕ
without_comment line = before_first (λ b. b == 35) line

-- blank, tab and carriage return separate words
abbrev pub separates_words : ℕ → Bool
separates_words b = (b == 32) || (b == 9) || (b == 13)

abbrev pub is_there : {A : Type 0} → List A → Bool
is_there [] = false
is_there (x ∷ xs) = true

unfoldable pub words_in : List ℕ → List (List ℕ)
words_in bytes = filter is_there (slice_split separates_words bytes)

abbrev pub words_of : List ℕ → List (List ℕ)
words_of line = words_in (without_comment line)

-- line feeds separate lines
unfoldable pub parts_of : List ℕ → List (List ℕ)
parts_of script = slice_split (λ b. b == 10) script

-- the lines of a script, each as its words
unfoldable pub lines_of : List ℕ → List (List (List ℕ))
lines_of script = map words_of (parts_of script)

-- decimal digits, leading zeros among them
abbrev pub IsNumber : List ℕ → ℕ → Type 0
IsNumber word n = AllDigits 10 word × (n ≡ digits_value 10 word)

-- the words that tell of what is sent, of keys of any number
abbrev pub Tells : List (List ℕ) → What → Type 0
Tells words (Down k) = (number : List ℕ) × (words ≡ codes "down" ∷ number ∷ []) × IsNumber number k
Tells words (Repeat k) = (number : List ℕ) × (words ≡ codes "repeat" ∷ number ∷ []) × IsNumber number k
Tells words (Up k) = (number : List ℕ) × (words ≡ codes "up" ∷ number ∷ []) × IsNumber number k
Tells words Reset = words ≡ codes "reset" ∷ []
Tells words Load = words ≡ codes "load" ∷ []

-- the word `lost` before the words of what is sent, where that is lost
abbrev pub mark_of : Bool → List (List ℕ)
mark_of true = codes "lost" ∷ []
mark_of false = []

abbrev pub Sends : List (List ℕ) → Sent → Type 0
Sends words s = (command : List (List ℕ)) × (words ≡ mark_of s.lost ++ command) × Tells command s.what

-- the number of the key, 0 where there is none
abbrev pub key_of : What → ℕ
key_of (Down k) = k
key_of (Repeat k) = k
key_of (Up k) = k
key_of Reset = 0
key_of Load = 0

-- the line is this event
abbrev pub IsEvent : List (List ℕ) → Sent → Type 0
IsEvent words s = Sends words s × (key_of s.what < key_count)

-- the line has the form of an event, with a number that is no key's
abbrev pub HasBadKey : List (List ℕ) → Type 0
HasBadKey words = (s : Sent) × Sends words s × (key_count ≤ key_of s.what)

-- the line has words, and not the form of an event
abbrev pub HasBadForm : List (List ℕ) → Type 0
HasBadForm words = (words ≢ []) × ((s : Sent) → Sends words s → ⊥)

-- each line that has a word is one event
abbrev pub AreEvents : List (List (List ℕ)) → List Sent → Type 0
AreEvents lines sent = AllZip IsEvent (filter is_there lines) sent

abbrev pub IsScript : List ℕ → List Sent → Type 0
IsScript script sent = AreEvents (lines_of script) sent

-- the fault of the line with this number
abbrev pub IsFaultOf : List (List ℕ) → ℕ → ScriptFault → Type 0
IsFaultOf line number (BadLine n) = (n ≡ number) × HasBadForm line
IsFaultOf line number (BadKey n) = (n ≡ number) × HasBadKey line

-- the fault is that of the first line that is no event
pub record IsScriptFault (script : List ℕ) (fault : ScriptFault) : Type 0 where
  pub before : List (List (List ℕ))
  pub line : List (List ℕ)
  pub after : List (List (List ℕ))
  pub split : lines_of script ≡ before ++ line ∷ after
  pub sent : List Sent
  pub events : AreEvents before sent
  pub first : IsFaultOf line (length before + 1) fault

-- The lines before some line are events, and so is that line, for which memory was refused.
pub record RunsOut (script : List ℕ) : Type 0 where
  pub before : List (List (List ℕ))
  pub line : List (List ℕ)
  pub after : List (List (List ℕ))
  pub split : lines_of script ≡ before ++ line ∷ after
  pub sent : List Sent
  pub events : AreEvents before sent
  pub unkept : Sent
  pub event : IsEvent line unkept

-- why a script is refused
abbrev pub IsScriptError : List ℕ → ScriptError → Type 0
IsScriptError script errors.Memory = RunsOut script
IsScriptError script (errors.Fault f) = IsScriptFault script f
