-- The name that is meant by a word without a meaning.
use Rattle.std.specs.Prelude.{ℕ, ◌+◌, ◌-◌, ◌==◌, ◌&&◌, ◌||◌, nat_lt, Bool, true, false, if◌then◌else◌}
use Rattle.std.specs.Prelude.{List, [], ◌∷◌, ◌++◌, codes, length, take, drop, slice_index, slice_index_or}
use Rattle.std.specs.List.{filter, list_any, range_with_len}
use Rattle.std.specs.Option.{option_map_or}
use Rattle.keymap_core.specs.Actions.{action_of, name_of}
use Rattle.keymap_text.specs.Printed.{control_name}
use Rattle.keymap_core.specs.declared.action.Action.TheVariants.{DeadKey}
use Rattle.keymap_text.specs.Words.{meaning, same_name}
use Rattle.keymap_lint_text.specs.OtherNames.{other_name, other_word}
use Rattle.keymap_places.specs.declared.wanted.Wanted.{Wanted}
use Rattle.keymap_places.specs.declared.wanted.Wanted.TheVariants as wants
use Rattle.keymap_text.specs.declared.words.Meaning.{Meaning}
use Rattle.keymap_text.specs.declared.words.Meaning.TheVariants.{Char, Act}

-- the names that no control character up to 31 has, and those that actions have besides
abbrev pub more_names : List (List ℕ)
more_names =
    codes "del" ∷ codes "lf" ∷ codes "np" ∷ codes "us" ∷ codes "alt" ∷ codes "ctrl" ∷ codes "backtab" ∷ codes "ddia"
    ∷ []

-- The names of keymap(5), without the lock letters, by numbers below 296: below 256 the action with this code, if there
-- is one, then the control characters, then more names.
unfoldable pub known_name : ℕ → List ℕ
known_name n =
    if nat_lt n 256 then option_map_or name_of (action_of n) []
    else if nat_lt n 288 then control_name (n - 256)
    else slice_index_or more_names (n - 288) []

-- the letter at a place, if one stands there
abbrev pub letter_at : ℕ → List ℕ → List ℕ
letter_at i word = take 1 (drop i word)

-- the letter at this place and the next one stand in the name the other way round, and the same stands behind them
abbrev pub is_exchanged_at : List ℕ → List ℕ → ℕ → Bool
is_exchanged_at word name i =
    same_name (letter_at i word) (letter_at (i + 1) name) && same_name (letter_at (i + 1) word) (letter_at i name)
    && same_name (drop (i + 2) word) (drop (i + 2) name)

-- Up to this place the word is the name, and so it is behind the place, where one letter there is taken out of the
-- word, of the name, or of both, or where two are exchanged.
abbrev pub is_near_at : List ℕ → List ℕ → ℕ → Bool
is_near_at word name i =
    same_name (take i word) (take i name)
    && (same_name (drop (i + 1) word) (drop i name) || same_name (drop i word) (drop (i + 1) name)
    || same_name (drop (i + 1) word) (drop (i + 1) name) || is_exchanged_at word name i)

-- one letter is added, left out or another one, or two are exchanged
abbrev pub is_one_slip_from : List ℕ → List ℕ → Bool
is_one_slip_from word name = list_any (is_near_at word name) (range_with_len 0 (length word + 1))

-- ---- where a name may stand

abbrev pub is_character : Meaning → Bool
is_character (Char c) = true
is_character _ = false

abbrev pub is_action : Meaning → Bool
is_action (Act a) = true
is_action _ = false

abbrev pub is_accent : Meaning → Bool
is_accent (Act (DeadKey i)) = true
is_accent _ = false

-- A word that means this may stand where this is wanted. Lock letters are no names.
abbrev pub may_stand : Wanted → Meaning → Bool
may_stand wants.Definition m = is_accent m
may_stand (wants.Cell n) m = is_character m || is_action m
may_stand wants.Lock m = false
may_stand wants.AccentCharacter m = is_character m
may_stand (wants.Pair n) m = is_accent m
may_stand (wants.Base n) m = is_character m
may_stand (wants.Composed n) m = is_character m
may_stand (wants.PairEnd n) m = false

-- ---- which name is meant

abbrev pub is_near : List ℕ → Wanted → ℕ → Bool
is_near word wanted n = is_one_slip_from word (known_name n) && may_stand wanted (meaning (known_name n))

-- the names that may stand here and are one slip from the word, by their numbers
unfoldable pub near_names : List ℕ → Wanted → List ℕ
near_names word wanted = filter (is_near word wanted) (range_with_len 0 296)

-- the word without `dead_` in front of it, as X has it in front of the name of an accent
abbrev pub without_dead : List ℕ → List ℕ
without_dead word = if same_name (take 5 word) (codes "dead_") then drop 5 word else word

-- the numbers of the words of others that are this one
unfoldable pub other_places : List ℕ → List ℕ
other_places word = filter (λ i. same_name word (other_word i)) (range_with_len 0 66)

-- the name of what is numbered by one or two digits behind these words: here that of a front and two digits
abbrev pub numbered : List ℕ → List ℕ → List ℕ → List ℕ
numbered word words front =
    if same_name (take (length words) word) words
    && (length (drop (length words) word) == 1 || length (drop (length words) word) == 2)
    then (if length (drop (length words) word) == 1 then front ++ codes "0" else front) ++ drop (length words) word
    else []

-- what others mean by a word: a key or an accent, a function key or a screen
unfoldable pub usual_name : List ℕ → List ℕ
usual_name word =
    if length (other_places (without_dead word)) == 1
    then other_name (slice_index (other_places (without_dead word)) 0)
    else if length (numbered word (codes "f") (codes "fkey")) == 0
    then numbered word (codes "console_") (codes "scr")
    else numbered word (codes "f") (codes "fkey")

-- what a name means, or a quoted blank
abbrev pub name_meaning : List ℕ → Meaning
name_meaning name = if slice_index name 0 == 39 then Char 32 else meaning name

-- The name that is meant by a word: what others mean by it and what is joined to it by low lines, or else the only name
-- that is one slip from it, of those that may stand here. It is empty where there is none.
unfoldable pub meant_name : List ℕ → List ℕ → Wanted → List ℕ
meant_name word joined wanted =
    if may_stand wanted (name_meaning (usual_name joined)) then usual_name joined
    else if length (near_names word wanted) == 1 then known_name (slice_index (near_names word wanted) 0)
    else []
