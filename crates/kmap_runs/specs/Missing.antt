-- The characters of a sentence that keys can't type, and what is printed of them.
use Rattle.std.specs.Prelude.{◌≡◌, ◌<◌, ℕ, ◌+◌, List, [], ◌∷◌, ◌++◌, ◌⊎◌, All, ⊤, true, codes, decimal, encode_utf8}
use Rattle.std.specs.Prelude.{length, map}
use Rattle.std.specs.Prelude.{if◌then◌else◌, slice_index}
use Rattle.std.specs.List.{Contains, flat_map}
use Rattle.std.specs.Str.{all_scalars, encode_utf8_all}
use Rattle.keymap_core.specs.CodePoints.{code_text}
use Rattle.keymap_core.specs.Maps.{MapValue}
use Rattle.keymap_core.specs.Unseen.{is_unseen}
use Rattle.keymap_places.specs.LineOf.{before_in_line}
use Rattle.keymap_text.specs.Meaning.{line}
use Rattle.messages.specs.Filled.{filled}
use Rattle.console_scripts.specs.Typing.{CanType}
use Rattle.console_states.specs.Moves.{alone}
use Rattle.console_states.specs.Sticking.{ReachesMoreThan, state_limit}
use Rattle.kmap_runs.specs.declared.missing.Missing.{Missing}
use Rattle.kmap_runs.specs.declared.type_error.TypeError.{TypeError}
use Rattle.kmap_runs.specs.declared.type_error.TypeError.TheVariants as type
use Rattle.kmap_runs.specs.Sentences.{IsTypeError}

-- ---- which are missing

-- The character stands among these, where the text of those before it has the offset for its length, and isn't one of
-- those.
pub record StandsFirst (characters : List ℕ) (x : Missing) : Type 0 where
  pub before : List ℕ
  pub after : List ℕ
  pub there : characters ≡ before ++ x.character ∷ after
  pub first : Contains before x.character → ⊥
  pub offset : x.offset ≡ length (encode_utf8_all before)

-- keys can't type the character, and this is its first place
abbrev pub IsMissing : MapValue → List ℕ → Missing → Type 0
IsMissing m characters x = StandsFirst characters x × (CanType m x.character → ⊥)

abbrev pub characters_of : List Missing → List ℕ
characters_of found = map (λ (x : Missing). x.character) found

abbrev pub offsets_of : List Missing → List ℕ
offsets_of found = map (λ (x : Missing). x.offset) found

-- each of the numbers is greater than those before it
abbrev pub Ascend : List ℕ → Type 0
Ascend ns = (i j : ℕ) → i < j → j < length ns → slice_index ns i < slice_index ns j

-- Those of the characters that keys can't type, each once, where it stands first, in the order of these places; keys
-- can type all the others.
pub record AreMissing (m : MapValue) (characters : List ℕ) (found : List Missing) : Type 0 where
  pub missing : All (IsMissing m characters) found
  pub others : All (λ c. CanType m c ⊎ Contains (characters_of found) c) characters
  pub order : Ascend (offsets_of found)

-- it isn't known of all characters whether keys can type them
abbrev pub IsUndecided : MapValue → Type 0
IsUndecided m = (p : ℕ) × ReachesMoreThan (alone m) state_limit p

-- The bytes are the text of characters, and of these keys can't type those that were found.
pub record AreMissingIn (m : MapValue) (bytes : List ℕ) (found : List Missing) : Type 0 where
  pub characters : List ℕ
  pub scalars : all_scalars characters ≡ true
  pub text : encode_utf8_all characters ≡ bytes
  pub are : AreMissing m characters found

-- why it isn't known: as for a sentence that is to be typed, but for a character that can't be
abbrev pub IsMissingError : MapValue → List ℕ → TypeError → Type 0
IsMissingError m bytes (type.NoWay offset c) = ⊥
IsMissingError m bytes type.Memory = ⊤
IsMissingError m bytes (type.NotText offset) = IsTypeError m bytes (type.NotText offset)
IsMissingError m bytes type.TooManyStates = IsUndecided m

-- ---- what is printed

-- the number of a character, and behind it the character, where a terminal shows it
unfoldable pub character_told : ℕ → List ℕ
character_told c =
    if is_unseen c then code_text c else filled (codes "{} '{}'") (code_text c ∷ encode_utf8 c ∷ [])

-- a line: this name of the text, the line and the column of the character, both counted from 1, and the character
abbrev pub missing_line : List ℕ → List ℕ → Missing → List ℕ
missing_line name text x =
    filled (codes "{}:{}:{}: {}\n") (name ∷ decimal (line text x.offset)
    ∷ decimal (length (before_in_line text x.offset) + 1) ∷ character_told x.character ∷ [])

abbrev pub missing_text : List ℕ → List ℕ → List Missing → List ℕ
missing_text name text found = flat_map (missing_line name text) found
