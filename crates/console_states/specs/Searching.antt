-- What the search keeps: the states that it has met, in their order, each with how it was come to, and which of them
-- are done. Mirrors `Held` and `Keymaps` of src/held.rt and the functions of src/search.rt and src/few.rt.
use Rattle.std.specs.Prelude.{◌≡◌, ◌≢◌, ℕ, ◌+◌, ◌<◌, ◌≤◌, ◌⊎◌, length, List, [], ◌∷◌, ◌++◌, All, Option, None}
use Rattle.std.specs.Prelude.{Some, slice_get, true, false, if◌then◌else◌}
use Rattle.std.specs.Option.{is_some}
use Rattle.std.specs.List.{Contains}
use Rattle.keymap_core.specs.declared.action.Modifier.{Modifier}
use Rattle.keymap_core.specs.declared.action.Lock.{Lock}
use Rattle.keymap_core.specs.declared.action.Lock.TheVariants.{Scroll}
use Rattle.keymap_core.specs.declared.action.Action.TheVariants as act
use Rattle.keymap_core.specs.declared.entry.Cell.{Cell}
use Rattle.keymap_core.specs.declared.entry.Cell.TheVariants.{Act}
use Rattle.console_core.specs.declared.event.Event.{Event}
use Rattle.console_states.specs.declared.held.Held.{Held}
use Rattle.console_states.specs.declared.held.Keymaps.{Keymaps}
use Rattle.console_states.specs.declared.held.Move.{Move}
use Rattle.console_states.specs.declared.held.Step.{Step}
use Rattle.console_states.specs.declared.search.Origin.{Origin}
use Rattle.console_states.specs.declared.search.End.{End}
use Rattle.console_states.specs.declared.search.End.TheVariants as end
use Rattle.console_core.specs.History.{between}
use Rattle.console_states.specs.Moves.{Under, alone, State, start, look_in, IsMade, IsIdle, HolderForgets}
use Rattle.console_states.specs.Moves.{IsForgetful, IsMove, IsPath}
use Rattle.console_states.specs.Moves.{moved, presses_of, presses_along, state_from, IsPathFrom}
use Rattle.console_states.specs.Moves.{state_after, script_of_path, with_holder, with_lock_turned, with_accent}
use Rattle.console_states.specs.Moves.{selection_of}
use Rattle.console_core.specs.Answers.{usable}
pub use Rattle.console_states.specs.Moves.{state_of}
use Rattle.console_states.specs.Returning.{IsUnlocked}
use Rattle.console_states.specs.Sticking.{state_limit}
use Rattle.console_states.specs.Allowed.{allowed_by}

-- what a search of the keymaps goes under
abbrev pub under_of : Keymaps → Under
under_of x = record {
  maps = between x.first.now x.second.now;
  has_loads = x.has_loads;
  allows = allowed_by x.presses;
  minded = x.minded;
}

-- so many states the search goes over: twice as many where an accent is minded, which is pending or not
abbrev pub limit_of : Under → ℕ
limit_of u = if is_some u.minded then state_limit + state_limit else state_limit

-- a state that was met, and how it was come to
abbrev pub Entry : Type 0
Entry = Held × Origin

abbrev pub Entries : Type 0
Entries = List Entry

-- a path of moves leads to the state
abbrev pub IsLedTo : Under → State → Type 0
IsLedTo u s = (path : List Move) × IsPath u path × (state_after u path ≡ s)

abbrev pub AreLedTo : Under → List Held → Type 0
AreLedTo u states = All (λ h. IsLedTo u (state_of h)) states

-- the state is among these
abbrev pub IsAmong : List Held → State → Type 0
IsAmong states s = (h : Held) × Contains states h × (state_of h ≡ s)

-- one of the states has the selection of the state, and like it some lock on or none
abbrev pub HasLike : List Held → State → Type 0
HasLike states s =
    (h : Held) × Contains states h × (selection_of (state_of h) ≡ selection_of s)
    × (IsUnlocked (state_of h) → IsUnlocked s) × (IsUnlocked s → IsUnlocked (state_of h))

-- the step is a move from the state, by so many presses
abbrev pub IsStep : Under → State → ℕ → Step → Type 0
IsStep u s n x = IsMove u s x.by × (state_of x.to ≡ moved u s x.by) × (presses_of x.by ≡ n)

-- the state was met by at most p presses
abbrev pub IsMetBy : Entries → ℕ → State → Type 0
IsMetBy es p s = (j : ℕ) × (x : Entry) × (slice_get es j ≡ Some x) × (state_of x.0 ≡ s) × (x.1.presses ≤ p)

-- the step leads to the state
abbrev pub StepsTo : Option Step → State → Type 0
StepsTo step s = (x : Step) × (step ≡ Some x) × (state_of x.to ≡ s)

-- where the moves of one press of the key lead has the property
abbrev pub PressesLead : Under → State → ℕ → (State → Type 0) → Type 0
PressesLead u s k P =
    IsIdle s k
    → ((i : Modifier) → IsMade u s k (Act (act.Mod i)) → s.holder i ≡ None → P (with_holder s i (Some k)))
    × ((l : Lock) → l ≢ Scroll → IsMade u s k (Act (act.Lock l)) → P (with_lock_turned s l))
    × ((accent : ℕ) → u.minded ≡ Some accent → usable u.maps.first accent ≡ true
    → IsMade u s k (Act (act.DeadKey accent)) → s.is_pending ≡ false → P (with_accent s))

-- where moves of n presses lead was met, by at most p presses
abbrev pub AreMet : Under → Entries → ℕ → ℕ → State → Type 0
AreMet u es n p s =
    (move : Move) → IsMove u s move → presses_of move ≡ n → IsMetBy es p (moved u s move)

-- A press that looks up the cell is no move: it is no modifier, no lock but the scroll lock, and not the dead key of
-- the accent that is minded.
abbrev pub IsUnmoving : Option ℕ → Cell → Type 0
IsUnmoving minded x =
    ((i : Modifier) → x ≡ Act (act.Mod i) → ⊥) × ((l : Lock) → l ≢ Scroll → x ≡ Act (act.Lock l) → ⊥)
    × ((accent : ℕ) → minded ≡ Some accent → x ≡ Act (act.DeadKey accent) → ⊥)

-- each key below the number whose press is a move in some state is among these
abbrev pub HasMovingKeys : Under → List ℕ → ℕ → Type 0
HasMovingKeys u keys n = (k : ℕ) → k < n → Contains keys k ⊎ ((s : State) → IsUnmoving u.minded (look_in u s k))

-- more were met
abbrev pub Grows : Entries → Entries → Type 0
Grows es now = (more : Entries) × (now ≡ es ++ more)

-- each entry was met by at most p presses
abbrev pub AreWithin : Entries → ℕ → Type 0
AreWithin es p = (j : ℕ) (x : Entry) → slice_get es j ≡ Some x → x.1.presses ≤ p

-- the entry is new: a move from the state at the place leads to it, by n presses more and p in all
abbrev pub IsFrom : Under → State → ℕ → ℕ → ℕ → Entry → Type 0
IsFrom u s place n p x =
    (by : Move) × (x.1.presses ≡ p) × (x.1.last ≡ Some (place, by))
    × IsMove u s by × (state_of x.0 ≡ moved u s by) × (presses_of by ≡ n)

-- what was added are entries of moves from the state at the place
abbrev pub AreAdded : Under → State → ℕ → ℕ → ℕ → Entries → Entries → Type 0
AreAdded u s place n p es now = (more : Entries) × (now ≡ es ++ more) × All (IsFrom u s place n p) more

-- the moves lead from the start to the place
abbrev pub IsTrail : Entries → ℕ → List Move → Type 0
IsTrail es j [] = (x : Entry) × (slice_get es j ≡ Some x) × (x.1.last ≡ None)
IsTrail es j (move ∷ path) =
    (x : Entry) × (parent : ℕ) × (slice_get es j ≡ Some x) × (x.1.last ≡ Some (parent, move)) × (parent < j)
    × IsTrail es parent path

-- a path from the origin leads to the entry, by as many presses as are told
abbrev pub IsReached : Under → State → Entries → ℕ → Entry → Type 0
IsReached u o es j x =
    (path : List Move) × IsTrail es j path × IsPathFrom u o path × (state_from u o path ≡ state_of x.0)
    × (presses_along path ≡ x.1.presses)

-- where moves without a press lead was met by as many presses
abbrev pub IsClosed : Under → Entries → Entry → Type 0
IsClosed u es x = AreMet u es 0 x.1.presses (state_of x.0)

-- where presses lead was met by one press more
abbrev pub IsPressed : Under → Entries → Entry → Type 0
IsPressed u es x = AreMet u es 1 (x.1.presses + 1) (state_of x.0)

-- where moves lead from what was met, by fewer than n presses in all, was met by as many
abbrev pub AreDone : Under → Entries → ℕ → Type 0
AreDone u es n =
    (j : ℕ) (x : Entry) → slice_get es j ≡ Some x → (move : Move) → IsMove u (state_of x.0) move
    → x.1.presses + presses_of move < n
    → IsMetBy es (x.1.presses + presses_of move) (moved u (state_of x.0) move)

-- the state alone was met, by no press
abbrev pub IsBegun : Held → Entries → Type 0
IsBegun from es = es ≡ (from, record { presses = 0; last = None }) ∷ []

-- The origins were met, and what was met is reached from one of them; those below `pressed_to` are pressed, and those
-- below `closed_to` are closed.
pub record Searched (u : Under) (origins : List State) (es : Entries) (pressed_to closed_to : ℕ) : Type 0 where
  pub start : (o : State) → Contains origins o → IsMetBy es 0 o
  pub reached : (j : ℕ) (x : Entry) → slice_get es j ≡ Some x
      → (o : State) × Contains origins o × IsReached u o es j x
  pub pressed : (j : ℕ) (x : Entry) → slice_get es j ≡ Some x → j < pressed_to → IsPressed u es x
  pub closed : (j : ℕ) (x : Entry) → slice_get es j ≡ Some x → j < closed_to → IsClosed u es x

-- a search of one keymap, without loads, met all states that moves lead to from the start
abbrev pub HasMetAll : Keymaps → Entries → Type 0
HasMetAll x es =
    (under_of x ≡ alone x.first.now) × Searched (alone x.first.now) (start ∷ []) es (length es) (length es)
    × (length es ≤ state_limit)

-- in the states below the place no holder looks up a character
abbrev pub AreSafe : Under → Entries → ℕ → Type 0
AreSafe u es n = (j : ℕ) (x : Entry) → slice_get es j ≡ Some x → j < n → IsForgetful u (state_of x.0) → ⊥

-- what stands behind another was met by no fewer presses
abbrev pub AreOrdered : Entries → Type 0
AreOrdered es =
    (i j : ℕ) (x y : Entry) → i ≤ j → slice_get es i ≡ Some x → slice_get es j ≡ Some y → x.1.presses ≤ y.1.presses

-- the entries below the place were met by fewer than p presses, and the others by p
abbrev pub AreInOrder : Entries → ℕ → ℕ → Type 0
AreInOrder es level p =
    ((j : ℕ) (x : Entry) → slice_get es j ≡ Some x → (j < level → x.1.presses < p) × (level ≤ j → x.1.presses ≡ p))
    × AreOrdered es

-- each was come to from one before it
abbrev pub GoBack : Entries → Type 0
GoBack es = (j : ℕ) (x : Entry) (parent : ℕ) (by : Move) → slice_get es j ≡ Some x → x.1.last ≡ Some (parent, by)
    → parent < j

-- the events are the script of each path to the place, with the newest first
abbrev pub IsScriptTo : Under → Entries → ℕ → ℕ → List Event → Type 0
IsScriptTo u es j k h =
    (path : List Move) (x : Entry) → slice_get es j ≡ Some x → IsTrail es j path → state_after u path ≡ state_of x.0
    → h ≡ script_of_path u path k

-- at the place a modifier is held by the key, which looks up a character
abbrev pub IsStuck : Under → Entries → ℕ → ℕ → Type 0
IsStuck u es j k = (x : Entry) × (slice_get es j ≡ Some x) × ((i : Modifier) × HolderForgets u (state_of x.0) i k)

-- each state was met once
abbrev pub AreMetOnce : Entries → Type 0
AreMetOnce es =
    (i j : ℕ) (x y : Entry) → i < j → slice_get es i ≡ Some x → slice_get es j ≡ Some y → state_of x.0 ≡ state_of y.0
    → ⊥

-- a search that ends so met all states that moves lead to, or more than it goes over
abbrev pub IsEnd : Under → List State → Entries → End → Type 0
IsEnd u origins es end.Complete = Searched u origins es (length es) (length es) × (length es ≤ limit_of u)
IsEnd u origins es (end.TooMany p) = (limit_of u < length es) × AreWithin es p × AreDone u es p

-- The search met the states in the order of the fewest presses from any of the origins, each once.
pub record HasEnded (u : Under) (origins : List State) (es : Entries) (end : End) : Type 0 where
  pub searched : Searched u origins es 0 0
  pub ordered : AreOrdered es
  pub once : AreMetOnce es
  pub is : IsEnd u origins es end
