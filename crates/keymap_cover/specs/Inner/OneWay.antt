-- What a script goes on to that no moves lead back from. Mirrors src/one_way.rt.
use Rattle.std.specs.Prelude.{◌≡◌, ◌⊎◌, Bool, true, false, ◌&&◌, not, List}
use Rattle.std.specs.List.{Contains}
use Rattle.keymap_core.specs.Maps.{MapValue}
use Rattle.console_core.specs.declared.event.Event.{Event}
use Rattle.console_states.specs.declared.selection.Sight.{Sight}
use Rattle.console_states.specs.declared.sights.Sights.{Sights}
use Rattle.console_states.specs.Sights.{can_see}
use Rattle.console_scripts.specs.Visiting.{CannotSee, IsPair}
use Rattle.keymap_cover.specs.Covering.{IsScrollOff}
use Rattle.keymap_cover.specs.Inner.Scripts.{ComesAfter, IsResting, Standing}
use Rattle.keymap_cover.specs.SeenSights.{has_seen}
use Rattle.keymap_cover.specs.declared.script.Script.{Script}
use Rattle.keymap_cover.specs.declared.seen.Seen.{Seen}

-- the sight can be seen, by what a search found, and wasn't
abbrev pub is_left : MapValue → Seen → Sights → Sight → Bool
is_left m seen sights x = not (has_seen seen x) && can_see m sights x

-- none of the sights is a pair
abbrev pub AreKeys : List Sight → Type 0
AreKeys xs = (x : Sight) → Contains xs x → IsPair x → ⊥

-- each of the first sights was seen, or is one of the second, which are of the first
abbrev pub AreLeft : {T : Type 0} → List Sight → Script T → List Sight → Type 0
AreLeft xs t ys =
    ((x : Sight) → Contains xs x → (has_seen t.seen x ≡ true) ⊎ Contains ys x)
    × ((x : Sight) → Contains ys x → Contains xs x)

-- one of the sights was seen, or none is seen by a press to which moves lead
abbrev pub IsNext : {T : Type 0} → MapValue → List Event → List Sight → Script T → Bool → Type 0
IsNext m h xs t true = (x : Sight) × Contains xs x × (has_seen t.seen x ≡ true)
IsNext m h xs t false = (x : Sight) → Contains xs x → CannotSee m h x

-- the console goes on at rest by some events more, with the scroll lock off, and then that is so
abbrev pub GoesToNext : {T : Type 0} → MapValue → Standing T → List Sight → Script T → Script T → Bool → Type 0
GoesToNext m stands xs a b more =
    (h : List Event) → IsResting m stands h a → IsScrollOff m h
    → (g : List Event) × IsResting m stands g b × ComesAfter h g × IsScrollOff m g × IsNext m g xs b more

-- the console goes on so until each of the sights was seen, or by no press to which moves lead
abbrev pub SeesRest : {T : Type 0} → MapValue → Standing T → List Sight → Script T → Script T → Type 0
SeesRest m stands xs a b =
    (h : List Event) → IsResting m stands h a → IsScrollOff m h
    → (g : List Event) × IsResting m stands g b × ComesAfter h g × IsScrollOff m g
    × ((x : Sight) → Contains xs x → (has_seen b.seen x ≡ true) ⊎ CannotSee m g x)
