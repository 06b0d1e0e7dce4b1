-- The scripts that a demonstration tries, as events in the order of delivery.
use Rattle.std.specs.Prelude.{ℕ, ◌/◌, ◌%◌, ◌^◌, ◌==◌, Bool, true, false, ◌&&◌, ◌||◌, not, List, [], ◌∷◌, ◌++◌}
use Rattle.std.specs.Prelude.{Option, None, Some, if◌then◌else◌, reverse, find, slice_index_or}
use Rattle.std.specs.Option.{is_some, is_none}
use Rattle.keymap_core.specs.Maps.{MapValue}
use Rattle.keymap_core.specs.Numbers.{key_count}
use Rattle.keymap_core.specs.Below.{gathered, first_below}
use Rattle.keymap_check.specs.Types.{Event, Press, Release, Group, Finding}
use Rattle.console_core.specs.History.{between, is_any_on_after}
use Rattle.keymap_check.specs.declared.kind.Group.TheVariants as group
use Rattle.keymap_check.specs.declared.kind.Kind.TheVariants as kind
use Rattle.keymap_check.specs.Cells.{first_place}
use Rattle.keymap_check.specs.Computed.{findings_at}

-- A set of shift, control, alt and ashift is a number: bit 0 is shift, bit 1 control, bit 2 alt, bit 3 ashift. The left
-- and the right one count alike.
abbrev pub has_bit : ℕ → ℕ → Bool
has_bit set bit = ((set / 2 ^ bit) % 2) == 1

abbrev pub group_at : ℕ → Group
group_at bit =
    if bit == 0 then group.Shift else if bit == 1 then group.Control else if bit == 2 then group.Alt
    else group.AltShift

-- a cell of the key is a modifier of the bit's group
abbrev pub bears_group : MapValue → ℕ → ℕ → Bool
bears_group m bit k = is_some (first_place m (kind.Of (group_at bit)) k)

-- the key j bears what is asked for, and isn't the tried key k
abbrev pub is_other : (ℕ → Bool) → ℕ → ℕ → Bool
is_other bears k j = not (j == k) && bears j

-- the key of a bit, which is held for it: the least one, other than the tried key k, that bears a modifier of its group
unfoldable pub bit_key : MapValue → ℕ → ℕ → Option ℕ
bit_key m k bit = first_below (is_other (bears_group m bit) k) key_count

abbrev pub bit_keys : MapValue → ℕ → List (Option ℕ)
bit_keys m k = bit_key m k 0 ∷ bit_key m k 1 ∷ bit_key m k 2 ∷ bit_key m k 3 ∷ []

-- the key that is held for a bit
abbrev pub key_at : List (Option ℕ) → ℕ → Option ℕ
key_at keys bit = slice_index_or keys bit None

-- the set has the bit, and no key is held for it
abbrev pub is_lacking : List (Option ℕ) → ℕ → ℕ → Bool
is_lacking keys set bit = has_bit set bit && is_none (key_at keys bit)

-- the set has a bit for which no key is held
unfoldable pub lacks_key : List (Option ℕ) → ℕ → Bool
lacks_key keys set = is_lacking keys set 0 || is_lacking keys set 1 || is_lacking keys set 2 || is_lacking keys set 3

abbrev pub event_of : Bool → ℕ → Event
event_of is_press k = if is_press then Press k else Release k

abbrev pub event_if : Bool → Option ℕ → List Event
event_if is_press None = []
event_if is_press (Some k) = event_of is_press k ∷ []

-- in the set, and not in the other one
abbrev pub is_chosen : ℕ → ℕ → ℕ → Bool
is_chosen set except bit = has_bit set bit && not (has_bit except bit)

abbrev pub event_at : Bool → List (Option ℕ) → ℕ → ℕ → ℕ → List Event
event_at is_press keys set except bit = if is_chosen set except bit then event_if is_press (key_at keys bit) else []

-- presses, or releases, of the keys of the bits that are in the set and not in the other one, in the order of the bits
abbrev pub events_of : Bool → List (Option ℕ) → ℕ → ℕ → List Event
events_of is_press keys set except = gathered (event_at is_press keys set except) 4

-- press A's keys; press the key
abbrev pub start_of : List (Option ℕ) → ℕ → ℕ → List Event
start_of keys k a = events_of true keys a 0 ++ Press k ∷ []

-- start so; release the keys of A that aren't in B; press those of B that aren't in A; press the key; release the key;
-- release B's keys
abbrev pub script : List (Option ℕ) → ℕ → ℕ → ℕ → List Event
script keys k a b =
    (((start_of keys k a ++ events_of false keys a b) ++ events_of true keys b a) ++ Press k ∷ Release k ∷ [])
    ++ events_of false keys b 0

-- where a set has a bit for which no key is held, no script with it is tried
abbrev pub scripts_of : List (Option ℕ) → ℕ → ℕ → ℕ → List (List Event)
scripts_of keys k a b = if lacks_key keys b then [] else script keys k a b ∷ []

abbrev pub scripts_from : List (Option ℕ) → ℕ → ℕ → List (List Event)
scripts_from keys k a = gathered (scripts_of keys k a) 16

abbrev pub scripts_with : List (Option ℕ) → ℕ → ℕ → List (List Event)
scripts_with keys k a = if lacks_key keys a then [] else scripts_from keys k a

abbrev pub scripts_for : List (Option ℕ) → ℕ → List (List Event)
scripts_for keys k = gathered (scripts_with keys k) 16

abbrev pub has_some : List Finding → Bool
has_some [] = false
has_some (f ∷ fs) = true

abbrev pub tried_at : MapValue → ℕ → List (List Event)
tried_at m k = if has_some (findings_at m k) then scripts_for (bit_keys m k) k else []

-- the scripts in the order in which they are tried: by key with a finding, then by set A, then by set B
abbrev pub tried : MapValue → List (List Event)
tried m = gathered (tried_at m) key_count

-- some modifier is on after a new console was delivered the script
abbrev pub leaves_modifier_on : MapValue → List Event → Bool
leaves_modifier_on m events = is_any_on_after (between m m) (reverse events)

-- the first of the tried scripts after which some modifier is on
abbrev pub demonstration_of : MapValue → Option (List Event)
demonstration_of m = find (leaves_modifier_on m) (tried m)
