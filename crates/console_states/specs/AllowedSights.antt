-- What allowed presses see of a keymap alone.
use Rattle.std.specs.Prelude.{◌≡◌, ℕ, ◌<◌, Bool, true, false, List, ◌∷◌, Option}
use Rattle.keymap_core.specs.Maps.{MapValue}
use Rattle.keymap_core.specs.Numbers.{key_count}
use Rattle.console_states.specs.Types.{Event, Press, Move, Sight}
use Rattle.console_states.specs.declared.look.KeyAt.{KeyAt}
use Rattle.console_states.specs.declared.selection.Sight.TheVariants as sight
use Rattle.console_states.specs.Allowed.{Allows}
use Rattle.console_states.specs.Looks.{IsFirst}
use Rattle.console_states.specs.Moves.{Under, State, alone_by, IsPath, selection_of, state_after, state_of}
use Rattle.console_states.specs.Searching.{Entries}
use Rattle.console_states.specs.Sights.{IsAdmitted, IsOfferedAlong, SeesBy, SeesNext, look_selected}
use Rattle.console_states.specs.Sticking.{AreAllowed, NeverForgets}

-- a press of the key is allowed and sees the sight, where a pair's accent is pending
abbrev pub SeesAllowed : Under → State → ℕ → Sight → Type 0
SeesAllowed u s k x =
    SeesBy u.maps.first (selection_of s) k x
    × (u.allows (selection_of s) k (look_selected u.maps.first (selection_of s) k) ≡ true)

-- the first place for whose state a press is allowed that sees it
abbrev pub IsFirstAllowed : Under → Sight → Entries → Option KeyAt → Type 0
IsFirstAllowed u x es o = IsFirst (λ h k. (k < key_count) × SeesAllowed u (state_of h) k x) es o

-- the accent of a pair can be pending at the end of the path
abbrev pub CanPendUnder : Under → List Move → Sight → Type 0
CanPendUnder u path (sight.Pair accent c) = IsOfferedAlong u path accent
CanPendUnder u path _ = Unit {0}

-- A sight can be seen: allowed moves lead from the start to a state where an allowed press of some key sees it, and a
-- pair's accent can be pending there.
abbrev pub IsReachableUnder : Under → Sight → Type 0
IsReachableUnder u x =
    (path : List Move) × IsPath u path × CanPendUnder u path x
    × ((k : ℕ) × (k < key_count) × SeesAllowed u (state_after u path) k x)

-- What an allowed press after a list of allowed presses sees can be seen so: after all such lists if no path leads to
-- where a holder looks up a character by an allowed press, and else after clean ones.
abbrev pub AllowedSightsAreReachable : Type 0
AllowedSightsAreReachable =
    (a : Allows) (m : MapValue) (forgets : Bool) (h : List Event) (k : ℕ) (x : Sight)
    → (forgets ≡ false → NeverForgets (alone_by a m)) → IsAdmitted m forgets h
    → AreAllowed (alone_by a m) (Press k ∷ h) → k < key_count → SeesNext m h k x
    → IsReachableUnder (alone_by a m) x
