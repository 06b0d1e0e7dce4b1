-- What was seen, as tables by place and a list of pairs.
use Rattle.std.specs.Prelude.{◌≡◌, ◌⊎◌, ℕ, ◌==◌, nat_lt, Bool, true, false, ◌&&◌, List, Option, Some, slice_index_or}
use Rattle.std.specs.List.{list_any}
use Rattle.keymap_core.specs.Maps.{MapValue}
use Rattle.console_core.specs.declared.event.Event.{Event}
use Rattle.console_states.specs.Sights.{SeesBy, SeesNext}
use Rattle.console_states.specs.declared.selection.Selection.{Selection}
use Rattle.console_states.specs.declared.selection.Sight.{Sight}
use Rattle.console_states.specs.declared.selection.Sight.TheVariants as sight
use Rattle.keymap_cover.specs.declared.seen.Seen.{Seen}
use Rattle.keymap_cover.specs.SightLists.{cell_place, lock_setting_place}

-- the sight is this pair
abbrev pub is_pair : ℕ → ℕ → Sight → Bool
is_pair accent c (sight.Pair i d) = (i == accent) && (d == c)
is_pair accent c _ = false

-- the sight was seen
abbrev pub seen_in : List Bool → List Bool → List Sight → Sight → Bool
seen_in cells settings pairs (sight.Cell slot column) =
    nat_lt column 8 && slice_index_or cells (cell_place slot column) false
seen_in cells settings pairs (sight.Locks slot caps num) =
    slice_index_or settings (lock_setting_place slot caps num) false
seen_in cells settings pairs (sight.Pair accent c) = list_any (is_pair accent c) pairs

abbrev pub has_seen : Seen → Sight → Bool
has_seen t x = seen_in t.cells.items t.lock_settings.items t.pairs.items x

-- all of which P holds was added, and nothing else
abbrev pub Gains : (Sight → Type 0) → (Sight → Bool) → (Sight → Bool) → Type 0
Gains P old now =
    (x : Sight) → (old x ≡ true → now x ≡ true) × (P x → now x ≡ true) × (now x ≡ true → (old x ≡ true) ⊎ P x)

-- the accent of a pair is the one that is pending
abbrev pub IsPendingBy : Option ℕ → Sight → Type 0
IsPendingBy pending (sight.Pair accent c) = pending ≡ Some accent
IsPendingBy pending _ = Unit {0}

-- a press of the key sees it under the selection, where this accent is pending, or none
abbrev pub SeesWith : MapValue → Selection → ℕ → Option ℕ → Sight → Type 0
SeesWith m y k pending x = SeesBy m y k x × IsPendingBy pending x

-- what a press of the key sees after the list was added, and nothing else
abbrev pub AddsSights : MapValue → List Event → ℕ → (Sight → Bool) → (Sight → Bool) → Type 0
AddsSights m h k old now = Gains (SeesNext m h k) old now
