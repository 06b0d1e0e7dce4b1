-- Which diagnostics a text has on what the keys of letters, digits and punctuation give.
use Rattle.std.specs.Prelude.{ℕ, ◌==◌, Bool, false, ◌&&◌, ◌||◌, not, nat_lt, nat_le, if◌then◌else◌, List, [], ◌∷◌}
use Rattle.std.specs.Prelude.{length, Option, Some, None, find}
use Rattle.keymap_core.specs.Actions.{within}
use Rattle.keymap_core.specs.Below.{gathered, passed}
use Rattle.keymap_core.specs.Borne.{any_below}
use Rattle.keymap_core.specs.Numbers.{key_count}
use Rattle.keymap_lint.specs.Types.{Defined, Slot, Accent, Placed, Diagnostic}
use Rattle.keymap_lint.specs.declared.diagnostic.Kind.TheVariants as kinds
use Rattle.keymap_lint.specs.Kinds.{at, defines}
use Rattle.keymap_lint.specs.Spelled.{Spelled, offset_at}

-- the main block, 48 slots: the keys of letters, digits and punctuation that each board has, and the space bar
abbrev pub is_main : ℕ → Bool
is_main slot =
    within 2 13 slot || within 16 27 slot || within 30 41 slot || within 43 53 slot || slot == 57

abbrev pub main_end : ℕ
main_end = 58

-- GAP: the slots of the main block that aren't defined, where at least 40 are
abbrev pub is_left_out : Spelled → ℕ → Bool
is_left_out t slot = is_main slot && not (defines t slot)

abbrev pub slot_left_out : Spelled → ℕ → List ℕ
slot_left_out t slot = passed (is_left_out t slot) slot

abbrev pub left_out : Spelled → List ℕ
left_out t = gathered (slot_left_out t) main_end

-- the text isn't a part of a keymap
abbrev pub is_whole : Spelled → Bool
is_whole t = nat_le (length (left_out t)) 8

abbrev pub gaps : Spelled → List ℕ
gaps t = if is_whole t then left_out t else []

-- the first definition of a slot below 128 that is greater than the first gap, or else than all that are defined
abbrev pub is_greater : Spelled → ℕ → ℕ → Bool
is_greater t slot k = nat_lt slot k && defines t k

abbrev pub is_greatest : Spelled → ℕ → Bool
is_greatest t slot = not (any_below (is_greater t slot) key_count)

abbrev pub is_slot_behind : Spelled → ℕ → Defined → Bool
is_slot_behind t first (Slot slot) = nat_lt slot key_count && (nat_lt first slot || is_greatest t slot)
is_slot_behind t first (Accent i) = false

abbrev pub is_behind : Spelled → ℕ → Placed → Bool
is_behind t first p = is_slot_behind t first p.what

abbrev pub gap_by : Spelled → Option Placed → List Diagnostic
gap_by t (Some p) = at (offset_at t p.first) kinds.Gap ∷ []
gap_by t None = []

abbrev pub gap_before : Spelled → List ℕ → List Diagnostic
gap_before t [] = []
gap_before t (first ∷ rest) = gap_by t (find (is_behind t first) t.definitions)

abbrev pub gap : Spelled → List Diagnostic
gap t = gap_before t (gaps t)
