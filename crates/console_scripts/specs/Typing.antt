-- What keys can type, and the events that type characters.
use Rattle.std.specs.Prelude.{◌≡◌, ◌==◌, ℕ, ◌+◌, ◌<◌, ◌≤◌, Bool, true, false, ◌⊎◌, List, [], ◌∷◌, ◌++◌, All, Option}
use Rattle.std.specs.Prelude.{◌↔◌, slice_index_or, None, Some, ⊤, if◌then◌else◌, filter, map, reverse, slice_get}
use Rattle.std.specs.Prelude.{take, length}
use Rattle.console_scripts.specs.Types.{Action, Modifier, Lock, Meta, Cell, Char, Act, Event, Press, Release, Answer}
use Rattle.console_scripts.specs.Types.{Move}
use Rattle.keymap_core.specs.Actions.{IsAction, code_of}
use Rattle.console_states.specs.Sights.{Lists}
use Rattle.console_scripts.specs.declared.typed.Yield.{Yield}
use Rattle.keymap_core.specs.declared.action.Action.TheVariants as act
use Rattle.keymap_core.specs.Accents.{own_of}
use Rattle.keymap_core.specs.Maps.{MapValue, accent_at}
use Rattle.keymap_core.specs.Numbers.{key_count}
use Rattle.console_core.specs.declared.event.Answer.TheVariants as answer
use Rattle.console_scripts.specs.declared.explored.Symbol.{Symbol}
use Rattle.console_scripts.specs.declared.explored.Symbol.TheVariants as symbol
use Rattle.console_scripts.specs.declared.typing.Keyed.{Keyed}
use Rattle.console_scripts.specs.declared.typing.Typing.{Typing}
use Rattle.console_scripts.specs.declared.typing.TypingError.{TypingError}
use Rattle.console_scripts.specs.declared.typing.TypingError.TheVariants.{Memory, NoWay, TooManyStates}
use Rattle.console_core.specs.Answers.{usable, composed_by}
use Rattle.console_core.specs.History.{between, resolved, is_on_after, is_locked_after, accent_pending_after, answer_to}
use Rattle.console_core.specs.History.{answers_to, pressed, HasKeys, IsQuiet}
use Rattle.console_core.specs.Resolved.{remembered, down}
use Rattle.console_states.specs.Moves.{Under, alone, State, is_held, IsIdle, look_in, IsPath, state_after, IsPathFrom}
use Rattle.console_states.specs.Moves.{state_from}
use Rattle.console_states.specs.Returning.{IsHome}
use Rattle.console_states.specs.Sights.{IsAdmitted}
use Rattle.console_states.specs.Sticking.{NeverForgets, ReachesMoreThan, state_limit}

-- moves lead home from the state
abbrev pub ComesHome : Under → State → Type 0
ComesHome u s = (later : List Move) × IsPathFrom u s later × IsHome (state_from u s later)

-- the cell that is the symbol
abbrev pub cell_of : Symbol → Cell
cell_of (symbol.Character c) = Char c
cell_of (symbol.DeadKey i) = Act (act.DeadKey i)

-- A tap: the key holds nothing and looks up the symbol. A plain one types without meta.
abbrev pub IsTapOf : Under → State → Bool → Symbol → ℕ → Type 0
IsTapOf u s plain x k =
    (k < key_count) × IsIdle s k × (look_in u s k ≡ cell_of x) × (plain ≡ true → is_held s Meta ≡ false)

-- moves from the start lead to where some key can be tapped so, and more of them lead home
abbrev pub CanTap : MapValue → Bool → Symbol → Type 0
CanTap m plain x =
    (path : List Move) × IsPath (alone m) path × ComesHome (alone m) (state_after (alone m) path)
    × ((k : ℕ) × IsTapOf (alone m) (state_after (alone m) path) plain x k)

-- what a tap types while an accent is pending: what the accent makes of the character, or by the same dead key its own
abbrev pub composed_of : MapValue → ℕ → Symbol → Option ℕ
composed_of m i (symbol.Character c) = composed_by (accent_at m i) c
composed_of m i (symbol.DeadKey j) = if j == i then own_of (accent_at m i) else None

-- Keys can type the character: one tap, or the dead key of a usable accent and a tap behind it.
abbrev pub CanType : MapValue → ℕ → Type 0
CanType m c =
    CanTap m true (symbol.Character c)
    ⊎ ((i : ℕ) × (x : Symbol) × (usable m i ≡ true) × (composed_of m i x ≡ Some c)
    × CanTap m false (symbol.DeadKey i) × CanTap m true x)

-- A tap may give the action: it is more than nop, a modifier or a lock, and if a dead key, its accent has a character.
abbrev pub is_giving : MapValue → Action → Bool
is_giving m act.Nop = false
is_giving m (act.Mod i) = false
is_giving m (act.Lock l) = false
is_giving m (act.DeadKey i) = usable m i
is_giving m a = true

-- A tap gives the action: moves from the start lead to where a key that holds nothing looks it up, and more of them
-- lead home.
abbrev pub Gives : MapValue → Action → Type 0
Gives m a =
    (is_giving m a ≡ true)
    × ((path : List Move) × IsPath (alone m) path × ComesHome (alone m) (state_after (alone m) path)
    × ((k : ℕ) × (k < key_count) × IsIdle (state_after (alone m) path) k
    × (look_in (alone m) (state_after (alone m) path) k ≡ Act a)))

-- these are the codes of the actions that a tap gives
abbrev pub AreGiven : MapValue → List Bool → Type 0
AreGiven m given =
    (c : ℕ) → (slice_index_or given c false ≡ true) ↔ ((a : Action) × IsAction a × (code_of a ≡ c) × Gives m a)

-- the characters that keys can type, and the actions that a tap gives
abbrev pub IsYield : MapValue → Yield → Type 0
IsYield m x = Lists (CanType m) x.typed.keys × AreGiven m x.given

-- the answers that type something
abbrev pub types_something : Answer → Bool
types_something (answer.Char c meta) = true
types_something answer.BackTab = true
types_something _ = false

-- the character without meta
abbrev pub plainly : ℕ → Answer
plainly c = answer.Char c false

-- After the events, newest first, a console stands as a new one.
pub record IsAsNew (m : MapValue) (h : List Event) : Type 0 where
  pub quiet : IsQuiet h
  pub remembered : (k : ℕ) → remembered k (resolved (between m m) h) ≡ None
  pub on : (i : Modifier) → is_on_after (between m m) i h ≡ false
  pub down : (l : Lock) → down l (resolved (between m m) h) ≡ false
  pub locked : (l : Lock) → is_locked_after (between m m) l h ≡ false
  pub pending : accent_pending_after (between m m) h ≡ None

-- the event presses a released key, or releases a pressed one
abbrev pub ChangesKey : Event → List Event → Type 0
ChangesKey (Press k) before = pressed k before ≡ false
ChangesKey (Release k) before = pressed k before ≡ true
ChangesKey _ before = ⊥

-- Each event of the list, which has the newest first, changes a key: none is a repeat, a reset or a load.
abbrev pub ChangeKeys : List Event → Type 0
ChangeKeys [] = Unit {0}
ChangeKeys (e ∷ h) = ChangesKey e h × ChangeKeys h

-- the characters that are typed
abbrev pub characters_of : List Keyed → List ℕ
characters_of keyed = map (λ (k : Keyed). k.character) keyed

-- what the events type on a new console is these characters without meta
abbrev pub Types : MapValue → List Event → List ℕ → Type 0
Types m es cs = filter types_something (answers_to (between m m) [] es) ≡ map plainly cs

-- the ends stand in order, from one number of events to another
abbrev pub AreEnds : ℕ → List Keyed → ℕ → Type 0
AreEnds from [] last = from ≤ last
AreEnds from (k ∷ ks) last = (from ≤ k.end) × AreEnds k.end ks last

-- the events up to the end of each character type the characters up to it, and no key is pressed there
abbrev pub AreParts : MapValue → List ℕ → List Keyed → List Event → Type 0
AreParts m cs keyed es =
    (i : ℕ) (k : Keyed) → slice_get keyed i ≡ Some k
    → (k.end ≤ length es) × IsQuiet (reverse (take k.end es)) × Types m (take k.end es) (take (i + 1) cs)

-- The characters are these. The events are presses of released keys and releases of pressed ones, and none where there
-- are no characters. They type these and nothing else, part by part, and leave a new console as a new one.
pub record AreTyped (m : MapValue) (cs : List ℕ) (x : Typing) : Type 0 where
  pub characters : characters_of x.keyed.items ≡ cs
  pub ends : AreEnds 0 x.keyed.items (length x.events.items)
  pub keys : HasKeys x.events.items
  pub changes : ChangeKeys (reverse x.events.items)
  pub none : cs ≡ [] → x.events.items ≡ []
  pub types : Types m x.events.items cs
  pub parts : AreParts m cs x.keyed.items x.events.items
  pub new : IsAsNew m (reverse x.events.items)

-- some press of the list, which has the newest event first, types the character
abbrev pub TypesAlong : MapValue → List Event → ℕ → Type 0
TypesAlong m h c =
    (later before : List Event) × (k : ℕ) × (h ≡ later ++ Press k ∷ before)
    × (answer_to (between m m) before (Press k) ≡ plainly c)

-- What presses, repeats, releases and resets type that leave a new console as a new one, keys can type: of all such
-- lists if no path leads to where a holder looks up a character, and else of clean ones. So a character that keys can't
-- type is typed by none of them.
abbrev pub TypedCanBeTyped : Type 0
TypedCanBeTyped =
    (m : MapValue) (forgets : Bool) (h : List Event) (c : ℕ) → (forgets ≡ false → NeverForgets (alone m))
    → IsAdmitted m forgets h → IsAsNew m h → TypesAlong m h c
    → CanType m c

-- why a search gives up: for want of memory, or more states can be reached than are gone over
abbrev pub IsSearchError : MapValue → TypingError → Type 0
IsSearchError m Memory = ⊤
IsSearchError m (NoWay n) = ⊥
IsSearchError m TooManyStates = (p : ℕ) × ReachesMoreThan (alone m) state_limit p

-- why characters aren't typed: keys can type those before the place, and not the one there
abbrev pub IsTypingError : MapValue → List ℕ → TypingError → Type 0
IsTypingError m cs Memory = ⊤
IsTypingError m cs (NoWay n) =
    All (λ c. CanType m c) (take n cs) × ((c : ℕ) × (slice_get cs n ≡ Some c) × (CanType m c → ⊥))
IsTypingError m cs TooManyStates = (p : ℕ) × ReachesMoreThan (alone m) state_limit p
