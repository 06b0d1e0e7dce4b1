-- What a script covers.
use Rattle.std.specs.Prelude.{◌≡◌, ◌⊎◌, ℕ, ◌<◌, ◌≤◌, Bool, true, false, List, All, length, Option, None, Some, reverse}
use Rattle.std.specs.Prelude.{take}
use Rattle.std.specs.Prelude.{if◌then◌else◌}
use Rattle.std.specs.List.{count_by}
use Rattle.keymap_core.specs.declared.action.Lock.TheVariants.{Scroll}
use Rattle.keymap_core.specs.declared.action.Modifier.{Modifier}
use Rattle.keymap_core.specs.Maps.{MapValue}
use Rattle.keymap_core.specs.Numbers.{key_count}
use Rattle.console_core.specs.declared.event.Event.{Event}
use Rattle.console_states.specs.declared.selection.Sight.{Sight}
use Rattle.console_core.specs.History.{between, is_on_after, is_locked_after, accent_pending_after, HasKeys, IsQuiet}
use Rattle.console_states.specs.Moves.{alone}
use Rattle.console_states.specs.Returning.{NoTurnIsOneWay}
use Rattle.console_scripts.specs.Visiting.{CanVisit, CannotScroll, CannotSee, IsPair}
use Rattle.console_states.specs.Sticking.{ReachesMoreThan, state_limit}
use Rattle.console_states.specs.Sights.{SeesNext, SeesAlong, IsAdmitted, IsClean, IsReachable, AreSightsOf, can_see}
use Rattle.keymap_cover.specs.declared.parts.Cover.{Cover}
use Rattle.keymap_cover.specs.declared.parts.Start.{Start}
use Rattle.keymap_cover.specs.declared.script_event.ScriptEvent.{ScriptEvent}
use Rattle.keymap_cover.specs.declared.parts.Counts.{Counts}
use Rattle.keymap_cover.specs.declared.parts.Verdict.{Verdict}
use Rattle.keymap_cover.specs.declared.parts.Verdict.TheVariants.{Seen, LeftOut, Never}
use Rattle.keymap_cover.specs.SeenSights.{has_seen}
use Rattle.keymap_cover.specs.ScriptEvents.{events_of, is_down, ArePossible}
use Rattle.keymap_cover.specs.Told.{IsTold}
use Rattle.keymap_cover.specs.Parts.{starts_at}

-- the events of the script, with the newest first
abbrev pub history : Cover → List Event
history c = events_of (reverse c.events.items)

-- At the end no key is pressed, no modifier is on and no accent is pending.
abbrev pub IsAtRest : MapValue → List Event → Type 0
IsAtRest m h =
    IsQuiet h × ((i : Modifier) → is_on_after (between m m) i h ≡ false) × (accent_pending_after (between m m) h ≡ None)

-- The scroll lock is off, or presses can't turn it off: no moves lead from there to a press that turns it.
abbrev pub IsScrollOff : MapValue → List Event → Type 0
IsScrollOff m h = (is_locked_after (between m m) Scroll h ≡ false) ⊎ CannotScroll m h

-- some press of the first n events sees it
abbrev pub IsSeenBy : MapValue → List ScriptEvent → ℕ → Sight → Type 0
IsSeenBy m events n x = SeesAlong m (events_of (reverse (take n events))) x

-- what the first n events see of the cells and lock settings that can be visited: all of it
abbrev pub SeesKeysBy : MapValue → List ScriptEvent → ℕ → Type 0
SeesKeysBy m events n = (x : Sight) → IsTold m x → (IsPair x → ⊥) → CanVisit m x → IsSeenBy m events n x

-- what the first n events see of all that is told of and can be visited: all of it
abbrev pub SeesToldBy : MapValue → List ScriptEvent → ℕ → Type 0
SeesToldBy m events n = (x : Sight) → IsTold m x → CanVisit m x → IsSeenBy m events n x

-- a pair that is told of is seen by the second events, and not by the first of them
abbrev pub ShowsPair : MapValue → List ScriptEvent → ℕ → ℕ → Type 0
ShowsPair m events first second =
    (x : Sight) × IsTold m x × IsPair x × (IsSeenBy m events first x → ⊥) × IsSeenBy m events second x

-- What the parts of a script hold: that of cells ends behind the first events, that of pairs behind the second, and
-- that of trials behind the third.
pub record HoldParts (m : MapValue) (events : List ScriptEvent) (starts : List Start) (first second third : ℕ)
    : Type 0 where
  pub begins : starts ≡ starts_at first second third (length events)
  pub in_order : (first ≤ second) × (second ≤ third) × (third ≤ length events)
  -- behind the cells each cell and lock setting that can be visited was seen, and behind the pairs each pair too
  pub cells : SeesKeysBy m events first
  pub pairs : SeesToldBy m events second
  -- the pairs are there only where they show one that wasn't seen
  pub pair : first < second → ShowsPair m events first second
  -- and what one-way turns lead to only where a cell or a lock setting can be seen that wasn't
  pub left : third < length events
      → (x : Sight) × IsTold m x × (IsPair x → ⊥) × IsReachable m x × (IsSeenBy m events third x → ⊥)

-- What a script and its lists say.
pub record Covers (m : MapValue) (c : Cover) : Type 0 where
  -- what is seen is what the script sees
  pub seen : (x : Sight) → has_seen c.seen x ≡ true → SeesAlong m (history c) x
  pub all_seen : (x : Sight) → SeesAlong m (history c) x → has_seen c.seen x ≡ true
  -- what can be seen is what paths show
  pub sights : AreSightsOf m c.sights
  -- the events are about keys 0 to 127
  pub keys : HasKeys (history c)
  -- events can be made at a keyboard, and end at rest
  pub possible : ArePossible (reverse c.events.items)
  pub rest : IsAtRest m (history c)
  pub up : (k : ℕ) → k < key_count → is_down k (reverse c.events.items) ≡ false
  pub scroll : IsScrollOff m (history c)
  -- the parts begin in their order, each with its events
  pub parts : (first second third : ℕ) × HoldParts m c.events.items c.starts.items first second third
  -- nothing that is told of and can be visited is left out
  pub complete : (x : Sight) → IsTold m x → CanVisit m x → SeesAlong m (history c) x
  -- at the end no moves lead to a press that sees one of the cells and lock settings that can be seen and were not
  pub onward : (x : Sight) → IsTold m x → (IsPair x → ⊥) → IsReachable m x → (SeesAlong m (history c) x → ⊥)
      → CannotSee m (history c) x

-- No press after a list that is spoken of sees it: after any list of presses, releases and resets, or, where a holder
-- looks up a character in a state that a path leads to, after any clean one.
abbrev pub NeverSees : MapValue → Bool → Sight → Type 0
NeverSees m forgets x =
    (h : List Event) (k : ℕ) → IsAdmitted m forgets h → k < key_count → SeesNext m h k x → ⊥

-- What is told of a sight. Each sight has exactly one verdict: what can be seen by no path is seen by no list. What is
-- left out though it is told of can't be visited: no path leads to a press that sees it from which moves lead home.
abbrev pub IsVerdict : MapValue → Cover → Sight → Verdict → Type 0
IsVerdict m c x Seen = SeesAlong m (history c) x
IsVerdict m c x LeftOut =
    (SeesAlong m (history c) x → ⊥) × IsReachable m x × (IsTold m x → CanVisit m x → ⊥)
IsVerdict m c x Never =
    (SeesAlong m (history c) x → ⊥) × (IsReachable m x → ⊥) × NeverSees m c.sights.forgets x

-- the verdict on a sight
abbrev pub verdict_of : MapValue → Cover → Sight → Verdict
verdict_of m c x = if has_seen c.seen x then Seen else (if can_see m c.sights x then LeftOut else Never)

-- whether a verdict is this one
abbrev pub is_verdict : Verdict → Verdict → Bool
is_verdict Seen Seen = true
is_verdict LeftOut LeftOut = true
is_verdict Never Never = true
is_verdict _ _ = false

-- how many of the sights have each verdict
abbrev pub counts_of : (Sight → Verdict) → List Sight → Counts
counts_of told xs = record {
  seen = count_by (λ x. is_verdict Seen (told x)) xs;
  left_out = count_by (λ x. is_verdict LeftOut (told x)) xs;
  rest = count_by (λ x. is_verdict Never (told x)) xs;
}

-- What is counted of a cover is what is told of it: the verdict of each sight.
abbrev pub CountsAreOfVerdicts : Type 0
CountsAreOfVerdicts = (m : MapValue) (c : Cover) → Covers m c → (x : Sight) → IsVerdict m c x (verdict_of m c x)

-- Where no turn of a lock is one-way, nothing that is told of is counted as left out.
abbrev pub NothingIsLeftOut : Type 0
NothingIsLeftOut =
    (m : MapValue) (c : Cover) → Covers m c → NoTurnIsOneWay m → (xs : List Sight) → All (IsTold m) xs
    → (counts_of (verdict_of m c) xs).left_out ≡ 0

-- Where no press of the script makes a console forget a modifier, or none can, no moves lead from its end to a press
-- that sees one of the cells and lock settings that it didn't see.
abbrev pub NothingIsAhead : Type 0
NothingIsAhead =
    (m : MapValue) (c : Cover) → Covers m c → (c.sights.forgets ≡ true → IsClean (between m m) (history c))
    → (x : Sight) → IsTold m x → (IsPair x → ⊥) → (SeesAlong m (history c) x → ⊥) → CannotSee m (history c) x

-- the cover of the keymap, or the search gives up
abbrev pub IsCover : MapValue → Option Cover → Type 0
IsCover m None = (p : ℕ) × ReachesMoreThan (alone m) state_limit p
IsCover m (Some c) = Covers m c
