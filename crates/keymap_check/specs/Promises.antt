-- What the check promises for every list of delivered events, newest first. The list may hold loads of another map:
-- then the promises are those of the map that is in force after it. KeepsPromise is the one to read first.
use Rattle.std.specs.Prelude.{◌≡◌, ℕ, ◌⊎◌, List}
use Rattle.keymap_check.specs.Types.{Lock, Event}
use Rattle.keymap_core.specs.Maps.{MapValue}
use Rattle.console_core.specs.History.{Maps, in_force, HasKeys, HasNoLoads, is_locked_after}
use Rattle.console_core.specs.Positions.{count_where, is_odd}
use Rattle.console_core.specs.Plain.{plain_look}
use Rattle.console_core.specs.Reading.{look_after}
use Rattle.console_core.specs.Headline.{IsSafe, HeadlineAfter, is_fresh_press}

-- After every list of events about keys 0 to 127 that leaves the map in force the headline holds, each clause that
-- wants a safe map where `accepted` does: a modifier is on only while a key that bears it is pressed, and exactly then
-- if one key alone bears it throughout. A repeat never turns a steady lock. Once no key is pressed, no modifier is on
-- and, if no accent is pending, the console goes on as after a reset.
abbrev pub KeepsPromise : MapValue → Type 0 → Type 0
KeepsPromise m accepted = (ms : Maps) (h : List Event) → in_force ms h ≡ m → HasKeys h → HeadlineAfter accepted ms h

-- a safe map keeps all of it
abbrev pub SafeMapsKeepTheirPromise : Type 0
SafeMapsKeepTheirPromise = (m : MapValue) → KeepsPromise m (IsSafe m)

-- where no other map is loaded, the lock is on exactly after an odd number of fresh presses of the key
abbrev pub IsOnAfterOddFreshPresses : MapValue → Lock → ℕ → Type 0
IsOnAfterOddFreshPresses m l k =
    (ms : Maps) (h : List Event) → ms.first ≡ m → HasNoLoads h ⊎ (ms.second ≡ m) → HasKeys h
    → is_locked_after ms l h ≡ is_odd (count_where (is_fresh_press k) h)

-- without loads, what a key looks up follows from which keys are pressed, and from the fresh presses of the locks' keys
abbrev pub LooksPlainlyIn : MapValue → Type 0
LooksPlainlyIn m =
    (ms : Maps) (h : List Event) → ms.first ≡ m → HasNoLoads h → HasKeys h → (k : ℕ)
    → look_after ms k h ≡ plain_look m k h
