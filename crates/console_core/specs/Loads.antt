-- How a history reads where loads change nothing: without loads, and where both maps are the same.
use Rattle.std.specs.Prelude.{◌≡◌, List, [], ◌∷◌}
use Rattle.console_core.specs.Types.{Modifier, Lock, Event, Press, Release, Reset, Load}
use Rattle.keymap_core.specs.Maps.{MapValue}
use Rattle.console_core.specs.Positions.{count_where, is_odd}
use Rattle.console_core.specs.History.{Maps, between, in_force, resolved, is_on_after, is_locked_after}
use Rattle.console_core.specs.History.{accent_pending_after, answers_to, HasKeys, HasNoLoads}
use Rattle.console_core.specs.Reading.{turns_at}

-- a list without loads reads as under the first map alone, and a lock is on after an odd number of turns
abbrev pub WithoutLoads : Type 0
WithoutLoads =
    (ms : Maps) (h : List Event) → HasNoLoads h
    → (in_force ms h ≡ ms.first)
    × (resolved ms h ≡ resolved (between ms.first ms.first) h)
    × ((l : Lock) → is_locked_after ms l h ≡ is_odd (count_where (turns_at ms l) h))

abbrev pub as_reset : Event → Event
as_reset (Press k) = Press k
as_reset (Release k) = Release k
as_reset Reset = Reset
as_reset Load = Reset

abbrev pub loads_as_resets : List Event → List Event
loads_as_resets [] = []
loads_as_resets (e ∷ h) = as_reset e ∷ loads_as_resets h

-- under one map twice a load is a reset
abbrev pub LoadsOfOneMapAreResets : Type 0
LoadsOfOneMapAreResets =
    (m : MapValue) (h : List Event) → HasKeys h
    → ((i : Modifier) → is_on_after (between m m) i h ≡ is_on_after (between m m) i (loads_as_resets h))
    × ((l : Lock) → is_locked_after (between m m) l h ≡ is_locked_after (between m m) l (loads_as_resets h))
    × (accent_pending_after (between m m) h ≡ accent_pending_after (between m m) (loads_as_resets h))
    × ((later : List Event) → HasKeys later
    → answers_to (between m m) h later ≡ answers_to (between m m) (loads_as_resets h) (loads_as_resets later))
