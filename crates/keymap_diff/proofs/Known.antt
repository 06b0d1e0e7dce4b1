-- Changes that presses meet are marked so where it is known what presses can see, as where it isn't.
use Rattle.std.proofs.Common.{rules}
use Rattle.std.proofs.Common.{◌≡◌, Bool, true, false, List, refl, ap, is_some}
use Rattle.std.specs.List.{Contains}
use Rattle.keymap_core.specs.Maps.{MapValue}
use Rattle.keymap_diff.specs.Changes.{AreChanges, AreDifferences, IsChange, MeetsCell}
use Rattle.keymap_diff.specs.Changes.{MeetsDeadKey, MeetsLetters, MeetsPair}
use Rattle.keymap_diff.specs.Inner.Versions.{AreVersions, HasAccent, IsMet}
use Rattle.keymap_diff.specs.Types.{Change, Slots, Cell, Letter, Accents, Accent, Pair, ListedOtherwise, Versions}
use Rattle.keymap_diff.proofs.Marks.{mark-one}

-- the change, as if it were seen
abbrev seen : Change → Change
seen (Cell s c a b u) = Cell s c a b false
seen (Letter s a b u) = Letter s a b false
seen (Accent i a b u) = Accent i a b false
seen (Pair i base a b u) = Pair i base a b false
seen x = x

-- it is one where nothing is known
seen-change : (m n : MapValue) (x : Change) → IsChange true m n x → IsChange false m n (seen x)
seen-change m n (Cell s c a b u) (few, eight, old, new, ne, mark) = (few, eight, old, new, ne, refl)
seen-change m n (Letter s a b u) (few, old, new, ne, mark) = (few, old, new, ne, refl)
seen-change m n (Accent i a b u) (few, old, new, ne, mark) = (few, old, new, ne, refl)
seen-change m n (Pair i base a b u) (few, old, new, ne, mark) = (few, old, new, ne, refl)
seen-change m n (Slots a b) is = is
seen-change m n (Accents a b) is = is
seen-change m n (ListedOtherwise i) is = is

-- and where it is known, if a press meets it
met-change : (m n : MapValue) (x : Change) → IsChange false m n x → IsMet m n x → IsChange true m n x
met-change m n (Cell s c a b u) (few, eight, old, new, ne, mark) met = (few, eight, old, new, ne, rw mark met)
met-change m n (Letter s a b u) (few, old, new, ne, mark) met = (few, old, new, ne, rw mark met)
met-change m n (Accent i a b u) (few, old, new, ne, mark) met = (few, old, new, ne, rw mark met)
met-change m n (Pair i base a b u) (few, old, new, ne, mark) met = (few, old, new, ne, rw mark met)
met-change m n (Slots a b) is met = is
met-change m n (Accents a b) is met = is
met-change m n (ListedOtherwise i) is met = is

-- one mark alone is right
seen-same : (m n : MapValue) (x : Change) → IsChange true m n x → IsChange true m n (seen x) → seen x ≡ x
seen-same m n (Cell s c a b u) is other = ap (Cell s c a b) (mark-one true m n (MeetsCell s c) false u other.5 is.5)
seen-same m n (Letter s a b u) is other =
    ap (Letter s a b) (mark-one true m n (MeetsLetters s a b) false u other.4 is.4)
seen-same m n (Accent i a b u) is other = ap (Accent i a b) (mark-one true m n (MeetsDeadKey i) false u other.4 is.4)
seen-same m n (Pair i base a b u) is other =
    ap (Pair i base a b) (mark-one true m n (MeetsPair i base) false u other.4 is.4)
seen-same m n (Slots a b) is other = refl
seen-same m n (Accents a b) is other = refl
seen-same m n (ListedOtherwise i) is other = refl

pub known-met : (m n : MapValue) (found : List Change) → AreChanges false m n found
    → ((x : Change) → Contains found x → IsMet m n x) → AreChanges true m n found
known-met m n found are met = search (rules, seen-change, seen-same, met-change)

pub differences-of : (m n : MapValue) (v : Versions) (found : List Change) → AreVersions m n v
    → AreChanges (is_some v.seen) v.old.now v.new.now found → AreDifferences m n found
differences-of m n v found (old, new, sights, gave_up) are = search rules

pub has-accent : (known : Bool) (m n : MapValue) (x : Change) → IsChange known m n x → HasAccent x
has-accent known m n (Accent i a b u) is = is.0
has-accent known m n x is = tt
