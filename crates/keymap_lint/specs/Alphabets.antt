-- The letters that keys give and the control characters of letters, in lists; and which diagnostics a text has on them.
use Rattle.std.specs.Prelude.{ℕ, ◌+◌, ◌-◌, ◌==◌, Bool, false, ◌&&◌, not, nat_lt, nat_le, if◌then◌else◌, List, [], ◌∷◌}
use Rattle.std.specs.Prelude.{◌++◌}
use Rattle.std.specs.Prelude.{length, Option, Some, None, find, count_by}
use Rattle.std.specs.List.{list_any}
use Rattle.std.specs.Option.{option_to_list}
use Rattle.keymap_core.specs.Actions.{within}
use Rattle.keymap_core.specs.Below.{gathered, passed}
use Rattle.keymap_core.specs.Borne.{is_upper_live}
use Rattle.keymap_core.specs.Maps.{cell_at}
use Rattle.keymap_core.specs.Numbers.{key_count, slot_limit}
use Rattle.keymap_places.specs.Placed.{last_of}
use Rattle.keymap_lint.specs.Types.{Cell, Char, Act, CellInForce, Slot, Placed, Diagnostic}
use Rattle.keymap_lint.specs.declared.alphabet.Alphabet.{Alphabet}
use Rattle.keymap_lint.specs.declared.alphabet.Alphabet.TheVariants.{Small, Capital, Control, UpperControl}
use Rattle.keymap_lint.specs.declared.diagnostic.Kind.TheVariants as kinds
use Rattle.keymap_lint.specs.Kinds.{at, is_some_in, is_the}
use Rattle.keymap_lint.specs.Letters.{is_main, is_whole}
use Rattle.keymap_lint.specs.Spelled.{Spelled, offset_at}

-- the slots and the column in which an alphabet is looked for, and the character of its first letter
abbrev pub has_slot : Alphabet → ℕ → Bool
has_slot Small slot = is_main slot
has_slot Capital slot = is_main slot
has_slot Control slot = nat_lt slot key_count
has_slot UpperControl slot = not (nat_lt slot key_count)

abbrev pub column_of : Alphabet → ℕ
column_of Small = 0
column_of Capital = 1
column_of Control = 2
column_of UpperControl = 2

abbrev pub first_of : Alphabet → ℕ
first_of Small = 97
first_of Capital = 65
first_of Control = 1
first_of UpperControl = 1

-- letters by their numbers, a is 0
abbrev pub letter_count : ℕ
letter_count = 26

abbrev pub letter_of : ℕ → Cell → Option ℕ
letter_of first (Char c) = if within first (first + 25) c then Some (c - first) else None
letter_of first (Act a) = None

-- the letter that a slot gives, if it gives one
abbrev pub letter_at : Spelled → Alphabet → ℕ → Option ℕ
letter_at t a slot = if has_slot a slot then letter_of (first_of a) (cell_at t.map slot (column_of a)) else None

abbrev pub letter_in : Spelled → Alphabet → ℕ → List ℕ
letter_in t a slot = option_to_list (letter_at t a slot)

-- those that all slots give, in the order of the slots
abbrev pub letters : Spelled → Alphabet → List ℕ
letters t a = gathered (letter_in t a) slot_limit

-- the slots that give a letter
abbrev pub holder : Spelled → Alphabet → ℕ → ℕ → List ℕ
holder t a i slot = passed (is_the i (letter_at t a slot)) slot

abbrev pub holders : Spelled → Alphabet → ℕ → List ℕ
holders t a i = gathered (holder t a i) slot_limit

-- the letters that stand so many times in a list
abbrev pub times : List ℕ → ℕ → ℕ
times ls i = count_by (λ j. j == i) ls

abbrev pub standing_letter : List ℕ → ℕ → ℕ → List ℕ
standing_letter ls n i = passed (times ls i == n) i

abbrev pub standing : List ℕ → ℕ → List ℕ
standing ls n = gathered (standing_letter ls n) letter_count

-- TWICE: of a column of the main block one letter stands in two slots, one in none, and each other one in one
abbrev pub later : Placed → Placed → ℕ
later p q = if nat_lt p.first q.first then q.first else p.first

abbrev pub twice_at : Spelled → Alphabet → ℕ → ℕ → ℕ → ℕ → Option Placed → Option Placed → Option Diagnostic
twice_at t a i missing one other (Some p) (Some q) =
    Some (at (offset_at t (later p q + (1 + column_of a)))
    (kinds.Twice one other (column_of a) (i + first_of a) (missing + first_of a)))
twice_at t a i missing one other _ _ = None

abbrev pub twice_in : Spelled → Alphabet → ℕ → ℕ → List ℕ → Option Diagnostic
twice_in t a i missing (one ∷ other ∷ []) =
    twice_at t a i missing one other (last_of (Slot one) t.definitions) (last_of (Slot other) t.definitions)
twice_in t a i missing _ = None

abbrev pub twice_of : Spelled → Alphabet → List ℕ → List ℕ → Option Diagnostic
twice_of t a (i ∷ []) (missing ∷ []) = twice_in t a i missing (holders t a i)
twice_of t a _ _ = None

abbrev pub twice_by : Spelled → Alphabet → List ℕ → Option Diagnostic
twice_by t a ls = if length (standing ls 1) == 24 then twice_of t a (standing ls 2) (standing ls 0) else None

abbrev pub twice : Spelled → Alphabet → List Diagnostic
twice t a = if is_whole t then option_to_list (twice_by t a (letters t a)) else []

abbrev pub all_twice : Spelled → List Diagnostic
all_twice t = twice t Small ++ twice t Capital

-- NO CONTROL: letters that are there and whose control characters aren't, by their characters
abbrev pub has_letter : List ℕ → ℕ → Bool
has_letter ls i = list_any (λ j. j == i) ls

abbrev pub is_lost : List ℕ → List ℕ → ℕ → Bool
is_lost there typed i = has_letter there i && not (has_letter typed i)

abbrev pub lost_letter : List ℕ → List ℕ → ℕ → List ℕ
lost_letter there typed i = passed (is_lost there typed i) (i + 97)

abbrev pub lost : List ℕ → List ℕ → List ℕ
lost there typed = gathered (lost_letter there typed) letter_count

-- of the small letters, where 20 stand in the main block and so at most 6 don't
abbrev pub lost_below : Spelled → List ℕ
lost_below t =
    if nat_le (length (standing (letters t Small) 0)) 6 then lost (letters t Small) (letters t Control) else []

-- else of those that have one below 128, where the slots from 128 on are live
abbrev pub lost_above : Spelled → List ℕ
lost_above t = if is_upper_live t.map then lost (letters t Control) (letters t UpperControl) else []

abbrev pub is_above : Spelled → Bool
is_above t = not (is_some_in (lost_below t))

-- of a text that isn't a part of a keymap
abbrev pub lost_letters : Spelled → List ℕ
lost_letters t = if is_whole t then (if is_above t then lost_above t else lost_below t) else []

-- the first cell of column 2 of a slot of that half, where the slot below 128 of its key gives one of them
abbrev pub is_one_of : List ℕ → Cell → Bool
is_one_of ls (Char c) = list_any (λ l. l == c) ls
is_one_of ls (Act a) = false

abbrev pub lower_slot : ℕ → ℕ
lower_slot slot = if nat_lt slot key_count then slot else slot - key_count

abbrev pub in_half : Bool → ℕ → Bool
in_half above slot = if above then not (nat_lt slot key_count) else nat_lt slot key_count

abbrev pub is_concerned : Spelled → List ℕ → Bool → CellInForce → Bool
is_concerned t ls above c =
    c.column == 2 && (in_half above c.slot && is_one_of ls (cell_at t.map (lower_slot c.slot) 0))

abbrev pub no_control_by : Bool → Option CellInForce → List Diagnostic
no_control_by above (Some c) = at c.span.start (kinds.NoControl above) ∷ []
no_control_by above None = []

abbrev pub no_control : Spelled → List CellInForce → List Diagnostic
no_control t cells = no_control_by (is_above t) (find (is_concerned t (lost_letters t) (is_above t)) cells)
