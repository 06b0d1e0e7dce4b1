-- What the reading of a line means: it is an event exactly where its words say so.
use Rattle.play_core.proofs.Common.{◌≡◌, ℕ, ◌<◌, ◌≤◌, min, Bool, true, false, not, cond, ltb, List, [], ◌∷◌, ◌++◌}
use Rattle.play_core.proofs.Common.{Option, None, Some, Result, Ok, Err, refl, sym, ap, subst, ◌∙◌, arith, lit<, codes}
use Rattle.play_core.proofs.Common.{⊤, AllDigits, digits_value, lt-ltb, ltb-true, ltb-false, le-ltb, LineFault, Form}
use Rattle.play_core.proofs.Common.{Key, What, Down, Repeat, Up, Reset, Load, Sent, IsNumber, Tells, Sends, mark_of}
use Rattle.play_core.proofs.Common.{key_of, IsEvent, HasBadKey, HasBadForm, reading_of_lost, reading, rules}
use Rattle.std.proofs.Common.{◌≢◌, ◌↔◌}
use Rattle.std.specs.Prelude.{IsSome, IfSome}
use Rattle.std.specs.Option.{ok_or}
use Rattle.std.specs.Str.{bytes_eq}
use Rattle.std.proofs.lemmas.Bool.{and_from, and_parts, cond_both, false_from_ne_true, not-false}
use Rattle.std.proofs.lemmas.Slice.Eq.{bytes_eq-Decides}
use Rattle.keymap_core.specs.Numbers.{key_count}
use Rattle.play_core.specs.Inner.Readings.{all_digits, key_in, of_key, what_with_key, what_alone, what_of, sent_by}
use Rattle.play_core.proofs.PlainLines.{NamesKey, down_names, repeat_names, up_names}

-- digits pass the test for digits
digits_pass : (word : List ℕ) → AllDigits 10 word → all_digits word ≡ true
digits_pass [] h = refl
digits_pass (b ∷ bs) h = and_from _ _ (lt-ltb _ _ h.0) (digits_pass bs h.1)

-- what passes the test is digits
digits_from_pass : (word : List ℕ) → all_digits word ≡ true → AllDigits 10 word
digits_from_pass [] e = tt
digits_from_pass (b ∷ bs) e = let both = and_parts _ _ e in (ltb-true _ _ both.0, digits_from_pass bs both.1)

-- a number below 128 is a key
abbrev judged_key : ℕ → Result ℕ LineFault
judged_key k = cond (ltb k 128) (Ok k) (Err Key)

-- digits are read as the key of their value
key_of_number : (word : List ℕ) → AllDigits 10 word → key_in word ≡ judged_key (digits_value 10 word)
unfolding key_in
key_of_number word h = rw (digits_pass word h) refl

-- a word that is no number is read as a fault
pub key_of_none : (word : List ℕ) → (AllDigits 10 word → ⊥) → key_in word ≡ Err Form
unfolding key_in
key_of_none word h = rw (false_from_ne_true (all_digits word) (λ e. h (digits_from_pass word e))) refl

large : (n : ℕ) → (n < 128 → ⊥) → 128 ≤ n
large n h = grind (arith, h)

-- where the number was made a key
pub key_of_some : (word : List ℕ) (n : ℕ) (key : Option ℕ) → AllDigits 10 word → n ≡ min 128 (digits_value 10 word)
    → (IsSome key ↔ (n < 128)) → IfSome key (λ k. k ≡ n) → ok_or key Key ≡ key_in word
key_of_some word n None h e small same = search (rules, large, key_of_number, le-ltb)
key_of_some word n (Some k) h e small same = search (rules, key_of_number, lt-ltb)

-- ---- what tells of an event is read so

-- what a command's words are read as
abbrev what_in : List (List ℕ) → Result What LineFault
what_in [] = Err Form
what_in (word ∷ rest) = what_of word rest

-- what an event is read as, by whether its key is one
abbrev judged_what : What → Result What LineFault
judged_what w = cond (ltb (key_of w) 128) (Ok w) (Err Key)

-- what a line's event is read as, by whether its key is one
abbrev judged : Sent → Result (Option Sent) LineFault
judged s = cond (ltb (key_of s.what) 128) (Ok (Some s)) (Err Key)

-- a key that is judged, made an event
of_key_judged : (what : ℕ → What) (b : Bool) (k : ℕ)
    → of_key what (cond b (Ok k) (Err Key)) ≡ cond b (Ok (what k)) (Err Key)
of_key_judged what true k = refl
of_key_judged what false k = refl

-- a number is read as the key of an event
number_read : (what : ℕ → What) (number : List ℕ) (k : ℕ) → IsNumber number k
    → of_key what (key_in number) ≡ cond (ltb k 128) (Ok (what k)) (Err Key)
number_read what number k h = rw (key_of_number number h.0, ← h.1) (of_key_judged what (ltb k 128) k)

-- the words of a command are read as what they tell
what_read : (words : List (List ℕ)) (w : What) → Tells words w → what_in words ≡ judged_what w
unfolding what_of what_with_key what_alone
what_read words (Down k) h = ap what_in h.1 ∙ number_read (λ k. Down k) h.0 k h.2
what_read words (Repeat k) h = ap what_in h.1 ∙ number_read (λ k. Repeat k) h.0 k h.2
what_read words (Up k) h = ap what_in h.1 ∙ number_read (λ k. Up k) h.0 k h.2
what_read words Reset h = ap what_in h
what_read words Load h = ap what_in h

-- behind the mark of a lost event stands a command
lost_read : (words : List (List ℕ)) → reading_of_lost words ≡ sent_by true (what_in words)
unfolding reading_of_lost sent_by
lost_read [] = refl
lost_read (word ∷ rest) = refl

-- a line that begins with `lost`
pub lost_line : (words : List (List ℕ)) (word : List ℕ) (rest : List (List ℕ)) → words ≡ word ∷ rest
    → false ≡ not (bytes_eq word (codes "lost"))
    → reading words ≡ reading_of_lost rest
unfolding reading
lost_line words word rest e lost = rw (e, not-false _ (sym lost)) refl

-- the mark of a lost event alone is a fault
pub lost_alone : reading_of_lost [] ≡ Err Form
unfolding reading_of_lost
lost_alone = refl

-- the mark of a lost event and a command are that command, lost
pub lost_command : (word : List ℕ) (rest : List (List ℕ))
    → reading_of_lost (word ∷ rest) ≡ sent_by true (what_of word rest)
unfolding reading_of_lost
lost_command word rest = refl

-- no command begins with `lost`
not_lost : (words : List (List ℕ)) (w : What) → Tells words w → reading words ≡ sent_by false (what_in words)
unfolding reading
not_lost words (Down k) h = rw h.1 refl
not_lost words (Repeat k) h = rw h.1 refl
not_lost words (Up k) h = rw h.1 refl
not_lost words Reset h = rw h refl
not_lost words Load h = rw h refl

-- an event that is judged, made a line's
sent_judged : (lost : Bool) (w : What) (b : Bool)
    → sent_by lost (cond b (Ok w) (Err Key)) ≡ cond b (Ok (Some (record { lost = lost; what = w }))) (Err Key)
unfolding sent_by
sent_judged lost w true = refl
sent_judged lost w false = refl

-- a command with its mark is read as the command
marked : (lost : Bool) (command : List (List ℕ)) (w : What) → Tells command w
    → reading (mark_of lost ++ command) ≡ sent_by lost (what_in command)
unfolding reading
marked true command w h = lost_read command
marked false command w h = not_lost command w h

-- the words of an event are read as the event
pub event_read : (words : List (List ℕ)) (s : Sent) → Sends words s → reading words ≡ judged s
event_read words s h = search (rules, marked, what_read, sent_judged)

-- ---- what is read as an event tells of it

-- what holds for both branches of a comparison with a name
chosen : {A : Type 0} (P : A → Type 0) (word name : List ℕ) (x y : A) → (word ≡ name → P x) → P y
    → P (cond (bytes_eq word name) x y)
chosen P word name x y is other =
    cond_both (bytes_eq word name) x y P (λ e. is ((bytes_eq-Decides word name).0 e)) (λ _. other)

-- what a reading says of the words, but that a bad form is one
abbrev IsKey : List ℕ → Result ℕ LineFault → Type 0
IsKey number (Ok k) = IsNumber number k × (k < 128)
IsKey number (Err Key) = (k : ℕ) × IsNumber number k × (key_count ≤ k)
IsKey number (Err Form) = ⊤

-- what a word is read as is the key that it names, or its fault
key_is : (number : List ℕ) → IsKey number (key_in number)
unfolding key_in
key_is number =
    cond_both (all_digits number) _ _ (IsKey number)
    (λ d. let is : IsNumber number (digits_value 10 number) = (digits_from_pass number d, refl) in
    cond_both (ltb (digits_value 10 number) 128) _ _ (IsKey number) (λ low. (is, ltb-true _ _ low))
    (λ high. (digits_value 10 number, is, ltb-false _ _ high)))
    (λ _. tt)

-- what a reading says of a command, but that a bad form is one
abbrev IsWhat : List (List ℕ) → Result What LineFault → Type 0
IsWhat words (Ok w) = Tells words w × (key_of w < 128)
IsWhat words (Err Key) = (w : What) × Tells words w × (key_count ≤ key_of w)
IsWhat words (Err Form) = ⊤

-- a word and a key tell an event, or have the key's fault
keyed : (name number : List ℕ) (what : ℕ → What) (r : Result ℕ LineFault) → NamesKey name what → IsKey number r
    → IsWhat (name ∷ number ∷ []) (of_key what r)
keyed name number what (Ok k) names h = (names.tells number k h.0, rw names.key h.1)
keyed name number what (Err Key) names h = (what h.0, names.tells number h.0 h.1, rw names.key h.2)
keyed name number what (Err Form) names h = tt

-- a word and a number are what they are read as
with_key : (word number : List ℕ) → IsWhat (word ∷ number ∷ []) (what_with_key word number)
unfolding what_with_key
with_key word number =
    chosen (IsWhat (word ∷ number ∷ [])) word (codes "down") _ _ (λ e. named _ _ e down_names)
    (chosen (IsWhat (word ∷ number ∷ [])) word (codes "repeat") _ _ (λ e. named _ _ e repeat_names)
    (chosen (IsWhat (word ∷ number ∷ [])) word (codes "up") _ _ (λ e. named _ _ e up_names) tt))
  where
    named : (name : List ℕ) (what : ℕ → What) → word ≡ name → NamesKey name what
        → IsWhat (word ∷ number ∷ []) (of_key what (key_in number))
    named name what e names = rw e (keyed name number what (key_in number) names (key_is number))

-- a word alone is what it is read as
alone : (word : List ℕ) → IsWhat (word ∷ []) (what_alone word)
unfolding what_alone
alone word =
    chosen (IsWhat (word ∷ [])) word (codes "reset") _ _ (λ e. (ap (λ w. w ∷ []) e, lit< tt))
    (chosen (IsWhat (word ∷ [])) word (codes "load") _ _ (λ e. (ap (λ w. w ∷ []) e, lit< tt)) tt)

-- each command is what it is read as
what_is : (words : List (List ℕ)) → IsWhat words (what_in words)
unfolding what_of
what_is [] = tt
what_is (word ∷ []) = alone word
what_is (word ∷ number ∷ []) = with_key word number
what_is (word ∷ number ∷ more ∷ rest) = tt

-- what a reading says, but that a bad form is one
abbrev IsSentOrBad : List (List ℕ) → Result (Option Sent) LineFault → Type 0
IsSentOrBad words (Ok None) = words ≡ []
IsSentOrBad words (Ok (Some s)) = IsEvent words s
IsSentOrBad words (Err Key) = HasBadKey words
IsSentOrBad words (Err Form) = words ≢ []

-- each command with its mark is what it is read as
sent_is : (words command : List (List ℕ)) (lost : Bool) (r : Result What LineFault) → words ≡ mark_of lost ++ command
    → words ≢ []
    → IsWhat command r → IsSentOrBad words (sent_by lost r)
unfolding sent_by
sent_is words command lost (Ok w) e some h = ((command, e, h.0), h.1)
sent_is words command lost (Err Key) e some h = (record { lost = lost; what = h.0 }, (command, e, h.1), h.2)
sent_is words command lost (Err Form) e some h = some

-- each line is what it is read as
sent_or_bad : (words : List (List ℕ)) → IsSentOrBad words (reading words)
unfolding reading
sent_or_bad [] = refl
sent_or_bad (word ∷ rest) =
    let words = word ∷ rest in
    let some : words ≢ [] = λ e. cc in
    chosen (IsSentOrBad words) word (codes "lost") _ _
    (λ e. subst (IsSentOrBad words) (sym (lost_read rest))
    (sent_is words rest true (what_in rest) (ap (λ w. w ∷ rest) e) some (what_is rest)))
    (sent_is words words false (what_of word rest) refl some (what_is words))

-- the reading of a line says what its words say
abbrev pub IsReading : List (List ℕ) → Result (Option Sent) LineFault → Type 0
IsReading words (Ok None) = words ≡ []
IsReading words (Ok (Some s)) = IsEvent words s
IsReading words (Err Key) = HasBadKey words
IsReading words (Err Form) = HasBadForm words

-- no event is read as a bad form
not_judged : (s : Sent) (b : Bool) → Err Form ≡ cond b (Ok (Some s)) (Err Key) → ⊥
not_judged s true e = cc
not_judged s false e = cc

-- what a line is read as is its one reading
is_reading : (words : List (List ℕ)) (r : Result (Option Sent) LineFault) → reading words ≡ r → IsSentOrBad words r
    → IsReading words r
is_reading words (Ok None) e h = h
is_reading words (Ok (Some s)) e h = h
is_reading words (Err Key) e h = h
is_reading words (Err Form) e h =
    (h, λ s sends. not_judged s (ltb (key_of s.what) 128) (sym e ∙ event_read words s sends))

-- what the code reads is the line's reading
pub reading_is : (words : List (List ℕ)) (r : Result (Option Sent) LineFault) → r ≡ reading words → IsReading words r
reading_is words r e = is_reading words r (sym e) (subst (IsSentOrBad words) (sym e) (sent_or_bad words))
