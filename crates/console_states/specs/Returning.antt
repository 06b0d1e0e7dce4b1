-- Whether moves always lead back to where no lock is on, and where a press leads once all keys are let go.
use Rattle.std.specs.Prelude.{◌≡◌, ◌⊎◌, ℕ, Bool, false, List, ◌++◌, None}
use Rattle.keymap_core.specs.Maps.{MapValue}
use Rattle.console_states.specs.Types.{Lock, Caps, Num, Scroll, Alt, Move, Turn}
use Rattle.console_states.specs.Moves.{Under, alone, State, IsFree, IsMove, with_lock_turned, IsPath}
use Rattle.console_states.specs.Moves.{state_after}

-- no lock is on
abbrev pub IsUnlocked : State → Type 0
IsUnlocked s = (l : Lock) → s.is_locked l ≡ false

-- home: nothing is held, and no lock is on
abbrev pub IsHome : State → Type 0
IsHome s = IsFree s × IsUnlocked s

-- No turn of a lock is one-way: wherever moves lead, more of them lead home.
abbrev pub NoTurnIsOneWay : MapValue → Type 0
NoTurnIsOneWay m =
    (path : List Move) → IsPath (alone m) path
    → (later : List Move) × IsPath (alone m) (later ++ path) × IsHome (state_after (alone m) (later ++ path))

-- all holders let go
abbrev pub freed : State → State
freed s = record s { holder = λ i. None }

-- where a press of the key leads once all let go: the lock is turned that it turns, if it turns one
abbrev pub IsAfter : Under → State → ℕ → State → Type 0
IsAfter u s k t =
    ((l : Lock) × IsMove u s (Turn k l) × (t ≡ freed (with_lock_turned s l)))
    ⊎ (((l : Lock) → IsMove u s (Turn k l) → ⊥) × (t ≡ freed s))

-- the locks that are on but for the scroll lock, of which no state tells
abbrev pub but_scroll : (Lock → Bool) → Lock → Bool
but_scroll on Caps = on Caps
but_scroll on Num = on Num
but_scroll on Scroll = false
but_scroll on Alt = on Alt
