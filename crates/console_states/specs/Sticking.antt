-- Whether a keymap, or two that loads exchange, can leave a modifier on while no key is pressed.
use Rattle.std.specs.Prelude.{◌≡◌, ℕ, ◌<◌, ◌≤◌, Bool, false, true, List, [], ◌∷◌, ◌++◌, All, reverse, filter}
use Rattle.keymap_core.specs.declared.action.Modifier.{Modifier}
use Rattle.keymap_core.specs.Actions.{modifiers}
use Rattle.keymap_core.specs.Maps.{MapValue}
use Rattle.console_core.specs.declared.event.Event.{Event}
use Rattle.console_core.specs.declared.event.Event.TheVariants.{Press, Release, Reset, Load}
use Rattle.console_states.specs.declared.outcome.Sticking.{Sticking}
use Rattle.console_states.specs.declared.outcome.Sticking.TheVariants.{Sticks, Never, Undecided}
use Rattle.console_core.specs.Positions.{count_where}
use Rattle.console_core.specs.Reading.{look_after}
use Rattle.console_core.specs.History.{Maps, in_force, is_locked_after, is_on_after, pressed, HasKeys, HasNoLoads}
use Rattle.console_core.specs.History.{IsQuiet}
use Rattle.console_core.specs.Headline.{IsSafe, IsOnOnlyWhilePressed, IsOffOnceQuiet}
use Rattle.console_states.specs.declared.held.Move.{Move}
use Rattle.console_states.specs.declared.selection.Selection.{Selection}
use Rattle.console_states.specs.Moves.{Under, alone, with_loads, State, start, IsPath, state_after, presses_along}
use Rattle.console_states.specs.Moves.{IsForgetful, HolderForgets, script_of_path, IsPathFrom, selection_with}
use Rattle.console_states.specs.Moves.{state_from}

-- The pairs of maps that a search under u speaks of. Where no loads come, the second map may be any.
abbrev pub AreUnder : Under → Maps → Type 0
AreUnder u ms = (ms.first ≡ u.maps.first) × (u.has_loads ≡ true → ms ≡ u.maps)

-- what picks the cells that keys look up after a list of events
abbrev pub selection_behind : Maps → List Event → Selection
selection_behind ms h = selection_with (λ i. is_on_after ms i h) (λ l. is_locked_after ms l h)

-- the list has loads only where there are any
abbrev pub LoadsWhereAny : Under → List Event → Type 0
LoadsWhereAny u h = u.has_loads ≡ false → HasNoLoads h

-- each press of the list is allowed, by what it looks up
abbrev pub AreAllowed : Under → List Event → Type 0
AreAllowed u h =
    (later before : List Event) (k : ℕ) → h ≡ later ++ Press k ∷ before
    → u.allows (selection_behind u.maps before) k (look_after u.maps k before) ≡ true

-- The lists that are spoken of: with loads only where there are any, and with presses that are allowed, which are all
-- unless some are told.
abbrev pub Admits : Under → List Event → Type 0
Admits u h = LoadsWhereAny u h × AreAllowed u h

-- Sticks: no key is pressed after the list, and the modifier is on.
abbrev pub SticksUnder : Under → List Event → Modifier → Type 0
SticksUnder u h i = IsQuiet h × ((ms : Maps) → AreUnder u ms → is_on_after ms i h ≡ true)

-- presses and releases of keys, and loads where there are any, without resets
abbrev pub IsSent : Bool → Event → Type 0
IsSent has_loads (Press k) = Unit {0}
IsSent has_loads (Release k) = Unit {0}
IsSent has_loads Reset = ⊥
IsSent has_loads Load = has_loads ≡ true

abbrev pub IsPressOrRelease : Event → Type 0
IsPressOrRelease e = IsSent false e

-- how many presses there are in a list, repeats among them
abbrev pub is_a_press : Event → List Event → Bool
is_a_press (Press k) before = true
is_a_press _ before = false

abbrev pub presses : List Event → ℕ
presses h = count_where is_a_press h

-- some modifier sticks after this list
abbrev pub LeavesOnUnder : Under → List Event → Type 0
LeavesOnUnder u h = HasKeys h × All (IsSent u.has_loads) h × ((i : Modifier) × SticksUnder u h i)

-- no list, with resets or without, after which a modifier sticks has fewer presses than this one
abbrev pub HasFewestUnder : Under → List Event → Type 0
HasFewestUnder u h =
    (g : List Event) → HasKeys g → Admits u g → (i : Modifier) → SticksUnder u g i → presses h ≤ presses g

-- each release is of a key that is pressed
abbrev pub IsOfPressedKey : Event → List Event → Type 0
IsOfPressedKey (Release k) before = pressed k before ≡ true
IsOfPressedKey e before = Unit {0}

abbrev pub ReleasesPressedKeys : List Event → Type 0
ReleasesPressedKeys [] = Unit {0}
ReleasesPressedKeys (e ∷ h) = IsOfPressedKey e h × ReleasesPressedKeys h

-- After each list a modifier is on only while a key is pressed that bears it in the map in force. So none is on once no
-- key is pressed.
abbrev pub NeverSticksUnder : Under → Type 0
NeverSticksUnder u =
    (ms : Maps) (h : List Event) → AreUnder u ms → HasKeys h → Admits u h
    → IsOnOnlyWhilePressed (in_force ms h) h (λ i. is_on_after ms i h) × IsOffOnceQuiet h (λ i. is_on_after ms i h)

-- paths of at most p presses lead from the state to more than n distinct states
abbrev pub ReachesMoreThanFrom : Under → State → ℕ → ℕ → Type 0
ReachesMoreThanFrom u s n p =
    (states : ℕ → State)
    × ((j : ℕ) → j ≤ n
    → (path : List Move) × IsPathFrom u s path × (presses_along path ≤ p) × (state_from u s path ≡ states j))
    × ((j k : ℕ) → j ≤ n → k ≤ n → states j ≡ states k → j ≡ k)

abbrev pub ReachesMoreThan : Under → ℕ → ℕ → Type 0
ReachesMoreThan u n p = ReachesMoreThanFrom u start n p

-- each list after which a modifier sticks has more than p presses
abbrev pub NoneSticksUnderBy : Under → ℕ → Type 0
NoneSticksUnderBy u p =
    (g : List Event) → HasKeys g → Admits u g → (i : Modifier) → SticksUnder u g i → p < presses g

-- the modifiers are those that are on after the list, in their order, and no others
abbrev pub AreOnAfter : Maps → List Event → List Modifier → Type 0
AreOnAfter ms h on = on ≡ filter (λ i. is_on_after ms i h) modifiers

-- how many states the search goes over before it gives up
abbrev pub state_limit : ℕ
state_limit = 65536

-- paths lead to no more states than that
abbrev pub HasFewStates : Under → Type 0
HasFewStates u = (p : ℕ) → ReachesMoreThan u state_limit p → ⊥

-- what each answer of a search says
abbrev pub IsAnswerUnder : Under → Sticking → Type 0
IsAnswerUnder u (Sticks events on) =
    LeavesOnUnder u (reverse events.items) × HasFewestUnder u (reverse events.items)
    × ReleasesPressedKeys (reverse events.items)
    × ((ms : Maps) → AreUnder u ms → AreOnAfter ms (reverse events.items) on.items)
IsAnswerUnder u Never = NeverSticksUnder u × HasFewStates u
IsAnswerUnder u (Undecided p) = ReachesMoreThan u state_limit p × NoneSticksUnderBy u p

-- of one keymap, without loads, and of two that loads exchange, of which the first is in force before any
abbrev pub IsAnswer : MapValue → Sticking → Type 0
IsAnswer m a = IsAnswerUnder (alone m) a

abbrev pub IsAnswerBetween : Maps → Sticking → Type 0
IsAnswerBetween ms a = IsAnswerUnder (with_loads ms) a

abbrev pub LeavesOn : MapValue → List Event → Type 0
LeavesOn m h = LeavesOnUnder (alone m) h

abbrev pub LeavesOnBetween : Maps → List Event → Type 0
LeavesOnBetween ms h = LeavesOnUnder (with_loads ms) h

abbrev pub HasFewestPresses : MapValue → List Event → Type 0
HasFewestPresses m h = HasFewestUnder (alone m) h

abbrev pub HasFewestPressesBetween : Maps → List Event → Type 0
HasFewestPressesBetween ms h = HasFewestUnder (with_loads ms) h

abbrev pub NeverSticks : MapValue → Type 0
NeverSticks m = NeverSticksUnder (alone m)

abbrev pub NeverSticksBetween : Maps → Type 0
NeverSticksBetween ms = NeverSticksUnder (with_loads ms)

-- no path leads to where a holder looks up a character
abbrev pub NeverForgets : Under → Type 0
NeverForgets u = (path : List Move) → IsPath u path → IsForgetful u (state_after u path) → ⊥

-- If no path leads to where a holder looks up a character, no modifier sticks.
abbrev pub NeverSticksUnlessReached : Type 0
NeverSticksUnlessReached = (u : Under) → NeverForgets u → NeverSticksUnder u

-- If a path leads to where the holder of a modifier looks up a character, that modifier sticks after the path's script.
abbrev pub SticksIfReached : Type 0
SticksIfReached =
    (u : Under) (path : List Move) → IsPath u path → (i : Modifier) (k : ℕ)
    → HolderForgets u (state_after u path) i k
    → HasKeys (script_of_path u path k) × All (IsSent u.has_loads) (script_of_path u path k)
    × SticksUnder u (script_of_path u path k) i

-- Loads between two safe keymaps leave no modifier on, so the search neither comes to where a holder looks up a
-- character nor answers that one sticks.
abbrev pub SafeNeverSticksBetween : Type 0
SafeNeverSticksBetween = (ms : Maps) → IsSafe ms.first → IsSafe ms.second → NeverSticksBetween ms

abbrev pub SafeNeverForgets : Type 0
SafeNeverForgets = (ms : Maps) → IsSafe ms.first → IsSafe ms.second → NeverForgets (with_loads ms)

abbrev pub says_sticks : Sticking → Bool
says_sticks (Sticks events on) = true
says_sticks _ = false

abbrev pub SafeNeverAnswersSticks : Type 0
SafeNeverAnswersSticks =
    (ms : Maps) (a : Sticking) → IsSafe ms.first → IsSafe ms.second → IsAnswerBetween ms a → says_sticks a ≡ false
