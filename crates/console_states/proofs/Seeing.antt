-- What a press after a list sees can be seen in a state that a path leads to, and an accent is pending only behind
-- where it is offered.
use Rattle.console_states.proofs.Common.{cases_Bool, none-some, suc, ◌≡◌, ℕ, ◌<◌, Bool, true, false, List, [], ◌∷◌}
use Rattle.console_states.proofs.Common.{Option, Some, None, refl, ap, subst, sym, ◌∙◌, ◌⊎◌, inl, inr, arith}
use Rattle.console_states.proofs.Common.{if◌then◌else◌, true≢false, All-head, All-tail, Action, Modifier, Cell, Char}
use Rattle.console_states.proofs.Common.{Act, Event, Press, Release, Reset, Load, Sight, Move, Hold, Turn, LetGo}
use Rattle.console_states.proofs.Common.{PressedAction, ReleasedKey, same_Some, same_action, holding_action, MapValue}
use Rattle.console_states.proofs.Common.{same_action-true, usable, ResolvedEvent, look, remembered}
use Rattle.console_states.proofs.Common.{taken_over, pending, resolve_press, next_pending, between, resolved}
use Rattle.console_states.proofs.Common.{is_second_in_force, HasKey, IsNoLoad, Under, alone, State, IsIdle}
use Rattle.console_states.proofs.Common.{state_after, NeverForgets, presses, selection_of, IsForgetful, IsAdmitted}
use Rattle.console_states.proofs.Common.{SeesBy, Follows, rules, one_map}
use Rattle.console_states.proofs.Common.{pending-action, pending-release, pending-start, resolved-more, resolved-start}
use Rattle.console_core.specs.Inner.Kept.{pending_after_dead_key}
use Rattle.console_core.specs.Resolved.{usable_dead_key}
use Rattle.console_states.specs.Sights.{selection_after, LooksAreSelected, SightsAreReachable}
use Rattle.console_core.proofs.Shared.{pending-character, pending-reset}
use Rattle.console_states.proofs.Minding.{minded_are_offers}
use Rattle.console_states.proofs.Standing.{plain-minded}
use Rattle.console_states.proofs.Visits.{none-along}
use Rattle.console_states.proofs.Common.{Admits, HasKeys, IsMove, Tap, minding, with_accent, start, presses_along, ◌++◌}
use Rattle.console_states.specs.Minding.{without_accent}
use Rattle.console_states.proofs.Following.{follows-look, follows-nothing, follows-selection, not_holding}
use Rattle.console_states.proofs.Common.{AreAllowed, IsMade, IsReachable, look_selected, selection_behind}
use Rattle.console_states.specs.Allowed.{Allows, all_allowed}
use Rattle.console_states.specs.AllowedSights.{AllowedSightsAreReachable, IsReachableUnder, SeesAllowed}
use Rattle.console_states.specs.Moves.{alone_by}
use Rattle.console_states.proofs.Sparing.{stays, AreLed, AreSpared, IsKeptBelow, allowed-before, clean-spared, fewer}
use Rattle.console_states.proofs.Staying.{Stays, KeepsHeld, LeadsOn, stays-press, stays-release}
use Rattle.console_states.proofs.Scripts.{Reached, reached-kept}
use Rattle.keymap_core.specs.declared.action.Action.TheVariants as act
use Rattle.console_states.specs.declared.selection.Sight.TheVariants as sight

-- what a key looks up follows from the selection
pub looks_are_selected : LooksAreSelected
unfolding look
looks_are_selected m h k = cc (one_map m (is_second_in_force h))

-- the list without its newest event is spoken of too
pub admitted-before : (m : MapValue) (forgets : Bool) (e : Event) (h : List Event) → IsAdmitted m forgets (e ∷ h)
    → IsAdmitted m forgets h
admitted-before m forgets e h (keys, none, clean) = (
  All-tail HasKey e h keys,
  All-tail IsNoLoad e h none,
  (λ f later before k i c at. clean f (e ∷ later) before k i c (ap (λ z. e ∷ z) at)),
)

-- no press of a list that is spoken of forgets that a key holds a modifier
pub keeps-allowed : (a : Allows) (m : MapValue) (forgets : Bool) (k : ℕ) (h : List Event)
    → (forgets ≡ false → NeverForgets (alone_by a m))
    → IsAdmitted m forgets (Press k ∷ h) → (t : State) → Reached (alone_by a m) t → Follows (resolved (between m m) h) t
    → t.is_second ≡ is_second_in_force h
    → KeepsHeld (alone_by a m) t k
keeps-allowed a m false k h never admitted t there f is =
    λ i forgets. never refl there.0 there.1 (subst (λ x. IsForgetful (alone_by a m) x) (sym there.2) (i, k, forgets))
keeps-allowed a m true k h never (keys, none, clean) t there f is =
    (clean-spared (alone_by a m) (suc (presses h)) (λ p x. Unit {0})).keeps h k (clean refl) (omega arith) t tt f is

-- lists that are spoken of are spared, where the sets are of states that paths lead to
pub allowed-spared : (a : Allows) (m : MapValue) (forgets : Bool) (n : ℕ) (S : State → Type 0)
    → (forgets ≡ false → NeverForgets (alone_by a m)) → ((t : State) → S t → Reached (alone_by a m) t)
    → AreSpared (alone_by a m) n (λ p t. S t) (IsAdmitted m forgets)
allowed-spared a m forgets n S never reached = search (rules, admitted-before, keeps-allowed)

-- the console stands in a state that a path leads to
abbrev pub StandsBy : Allows → MapValue → List Event → Type 0
StandsBy a m h = Stays (Reached (alone_by a m)) (is_second_in_force h) (resolved (between m m) h)

pub stands-allowed : (a : Allows) (m : MapValue) (forgets : Bool) (h : List Event)
    → (forgets ≡ false → NeverForgets (alone_by a m)) → IsAdmitted m forgets h → AreAllowed (alone_by a m) h
    → StandsBy a m h
stands-allowed a m forgets h never admitted may =
    let n : ℕ = suc (presses h) in
    let (s, there, f, is) =
    stays (alone_by a m) n (λ p t. Reached (alone_by a m) t) (IsAdmitted m forgets) (reached-kept (alone_by a m) n)
    (allowed-spared a m forgets n (Reached (alone_by a m)) never (λ t here. here)) h
    (admitted, admitted.0, ((λ e. admitted.1), may), omega arith) in
    (s, there (omega arith), f, is)

-- what an allowed press looks up is so in the state
made-alone : (a : Allows) (m : MapValue) (h : List Event) (s : State) (k : ℕ) (x : Cell)
    → AreAllowed (alone_by a m) (Press k ∷ h) → Follows (resolved (between m m) h) s
    → look m (resolved (between m m) h) k ≡ x → IsMade (alone_by a m) s k x
made-alone a m h s k x may f seen =
    let r : List ResolvedEvent = resolved (between m m) h in (
      sym (follows-look (alone_by a m) r s k f) ∙ subst (λ n. look n r k ≡ x) (sym (one_map m s.is_second)) seen,
      subst (λ y. a y k x ≡ true) (follows-selection r s f)
          (subst (λ c. a (selection_behind (between m m) h) k c ≡ true)
          (ap (λ n. look n r k) (one_map m (is_second_in_force h)) ∙ seen) (may [] h k refl)),
    )

-- a press sees in the state what it sees after the list
stands-sees : (a : Allows) (m : MapValue) (h : List Event) (s : State) (path : List Move) (k : ℕ) (x : Sight)
    → state_after (alone_by a m) path ≡ s → Follows (resolved (between m m) h) s → SeesBy m (selection_after m h) k x
    → AreAllowed (alone_by a m) (Press k ∷ h) → SeesAllowed (alone_by a m) (state_after (alone_by a m) path) k x
stands-sees a m h s path k x leads f sees may =
    let same : selection_after m h ≡ selection_of (state_after (alone_by a m) path) =
    follows-selection (resolved (between m m) h) s f ∙ ap (λ t. selection_of t) (sym leads) in (
      subst (λ y. SeesBy m y k x) same sees,
      subst (λ y. a y k (look_selected m y k) ≡ true) same
          (subst (λ c. a (selection_after m h) k c ≡ true) (looks_are_selected m h k) (may [] h k refl)),
    )

-- a dead key that is taken was looked up, and nothing else is remembered
taken-same : (held b : Action) (t : Bool) (i : ℕ) → same_action held b ≡ t → (if t then b else act.Nop) ≡ act.DeadKey i
    → (b ≡ act.DeadKey i) × (held ≡ act.DeadKey i)
taken-same held b true i e f = (f, same_action-true held b e ∙ f)
taken-same held b false i e f = let g : act.Nop ≡ act.DeadKey i = f in cc

abbrev IsFreeFor : Option Action → ℕ → Type 0
IsFreeFor o i = (j : Modifier) → o ≡ Some (act.Mod j) → ⊥

some_mod_dead : (held : Action) (i : ℕ) (j : Modifier) → held ≡ act.DeadKey i → Some held ≡ Some (act.Mod j) → ⊥
some_mod_dead held i j e f = let g : Some (act.DeadKey i) ≡ Some (act.Mod j) = sym (ap (λ x. Some x) e) ∙ f in cc

pub taken-dead : (o : Option Action) (b : Action) (i : ℕ) → taken_over o b ≡ act.DeadKey i
    → (b ≡ act.DeadKey i) × IsFreeFor o i
taken-dead None b i e = (e, (λ j f. let g : None ≡ Some (act.Mod j) = f in cc))
taken-dead (Some held) b i e =
    let (looked, was) = taken-same held b (same_action held b) i refl e in
    (looked, (λ j f. some_mod_dead held i j was f))

-- what becomes pending was pending, or its dead key is taken
abbrev pub Takes : MapValue → Option ℕ → Action → ℕ → Type 0
Takes m p a i = (p ≡ Some i) ⊎ ((a ≡ act.DeadKey i) × (usable m i ≡ true))

pub pends : (d : Option ℕ) (p : Option ℕ) (i : ℕ) → pending_after_dead_key d p ≡ Some i → d ≡ Some i
pends None p i e = let g : None ≡ Some i = e in cc
pends (Some j) p i e = search (rules, cases_Bool, none-some)

usable-dead : (m : MapValue) (a : Action) (i : ℕ) → usable_dead_key m a ≡ Some i
    → (a ≡ act.DeadKey i) × (usable m i ≡ true)
usable-dead m (act.DeadKey j) i e = search (rules, cases_Bool, same_Some, none-some)
usable-dead m a i e = let g : None ≡ Some i = e in cc

pub takes-pending : (m : MapValue) (p : Option ℕ) (a : Action) (i : ℕ) → next_pending m p a ≡ Some i → Takes m p a i
takes-pending m p a i e = search (rules, cases_Bool, usable-dead, pends)

-- ---- where an accent is pending

-- a console stands in a state of the set where the accent is pending
abbrev pub PendsIn : (State → Type 0) → List ResolvedEvent → Type 0
PendsIn S r = (s : State) × S s × (s.is_pending ≡ true) × Follows r s

pub follows-pending : (r : List ResolvedEvent) (s : State) (b : Bool) → Follows r s
    → Follows r (record s { is_pending = b })
follows-pending r s b f = record { on = f.on; locked = f.locked; holds = f.holds }

-- a press that takes the dead key of a usable accent leads there: the key holds nothing, and looks it up
pends-here : (a : Allows) (m : MapValue) (h : List Event) (k i : ℕ) (b : Action) (T : State → Type 0) (s : State)
    → s.is_pending ≡ false → (IsMove (minding (alone_by a m) i) s (Tap k) → T (with_accent s))
    → Follows (resolved (between m m) h) s → k < 128 → AreAllowed (alone_by a m) (Press k ∷ h)
    → look m (resolved (between m m) h) k ≡ Act b
    → taken_over (remembered k (resolved (between m m) h)) b ≡ act.DeadKey i
    → usable m i ≡ true → PendsIn T (PressedAction k b ∷ resolved (between m m) h)
pends-here a m h k i b T s off leads f lt may seen taken can =
    let r : List ResolvedEvent = resolved (between m m) h in
    let p : (b ≡ act.DeadKey i) × IsFreeFor (remembered k r) i = taken-dead (remembered k r) b i taken in
    let idle : IsIdle s k = λ j holds. p.1 j (f.holds j k holds) in
    let looked = made-alone a m h s k (Act (act.DeadKey i)) may f (seen ∙ ap (λ x. Act x) p.0) in (
      with_accent s,
      leads (i, refl, can, (lt, idle, looked), off),
      refl,
      follows-pending (PressedAction k b ∷ r) s true
          (follows-nothing r s k b f
          (λ held. ap (λ a. same_action a (holding_action held)) taken ∙ not_holding (act.DeadKey i) held refl)),
    )

-- presses that make no accent pending keep a console there, and releases
pends-press : (a : Allows) (m : MapValue) (h : List Event) (k i n p : ℕ) (b : Action) (S : ℕ → State → Type 0)
    → AreLed (minding (alone_by a m) i) n S → suc p < n → PendsIn (S p) (resolved (between m m) h) → k < 128
    → AreAllowed (alone_by a m) (Press k ∷ h) → look m (resolved (between m m) h) k ≡ Act b
    → PendsIn (S (suc p)) (PressedAction k b ∷ resolved (between m m) h)
pends-press a m h k i n p b S led le (s, there, on, f) lt may seen =
    let u : Under = minding (alone_by a m) i in
    let r : List ResolvedEvent = resolved (between m m) h in
    let looked = made-alone a m h s k (Act b) may f seen in
    let leads : LeadsOn u (λ t. S p t × (t.is_pending ≡ true)) (λ t. S (suc p) t × (t.is_pending ≡ true)) = record {
      stay = λ t (here, still). (led.more p t here, still);
      hold = λ t j l (here, still) is. (led.moved p (suc p) t (Hold j l) (omega arith) le here is, still);
      turn = λ t j l (here, still) is. (led.moved p (suc p) t (Turn j l) (omega arith) le here is, still);
    } in
    let (t, (to, still), g, is) =
    stays-press u (λ t. S p t × (t.is_pending ≡ true)) (λ t. S (suc p) t × (t.is_pending ≡ true)) leads r s (there, on)
    f k lt (λ j (holds, (c, (e, can))). let g : Act b ≡ Char c = sym looked.0 ∙ e in cc) (Act b) looked in
    (t, to, still, g)

pends-release : (u : Under) (r : List ResolvedEvent) (k n p : ℕ) (S : ℕ → State → Type 0) → AreLed u n S → p < n
    → PendsIn (S p) r → PendsIn (S p) (ReleasedKey k ∷ r)
pends-release u r k n p S led lt (s, there, on, f) =
    let (t, (to, still), g, is) =
    stays-release (λ t. S p t × (t.is_pending ≡ true))
    (λ t j l (here, still) holds. (led.moved p p t (LetGo j l) (omega arith) lt here holds, still)) r s (there, on) f k
    (remembered k r) refl in
    (t, to, still, g)

-- where none is pending moves are those of a search that minds none
plain-kept : (a : Allows) (m : MapValue) (i n : ℕ) (S : ℕ → State → Type 0)
    → IsKeptBelow (minding (alone_by a m) i) n S → IsKeptBelow (alone_by a m) n (λ p s. S p s × (s.is_pending ≡ false))
plain-kept a m i n S kept = record {
  led = record {
    more = λ p s (there, off). (kept.led.more p s there, off);
    moved = λ p q s move e lt (there, off) is.
        let (can, to) = plain-minded (alone_by a m) i s move refl is in (
          subst (S q) to (kept.led.moved p q s move e lt there can),
          none-along (alone_by a m) refl s (move ∷ []) (is, tt) off,
        );
  };
  start = (kept.start, refl);
}

-- lists that are spoken of, of fewer than n presses
abbrev pub AreShort : Under → ℕ → (List Event → Type 0) → List Event → Type 0
AreShort u n P h = P h × HasKeys h × Admits u h × (presses h < n)

short-before : (u : Under) (n : ℕ) (S : ℕ → State → Type 0) (P : List Event → Type 0) → AreSpared u n S P → (e : Event)
    (h : List Event) → AreShort u n P (e ∷ h) → AreShort u n P h
short-before u n S P spared e h (keeps, keys, (loads, may), lt) =
    let le = fewer e h (presses (e ∷ h)) (omega arith) in (
      spared.fewer e h keeps,
      All-tail HasKey e h keys,
      ((λ none. All-tail IsNoLoad e h (loads none)), allowed-before u e h may),
      omega (arith, le, lt),
    )

-- An accent is pending only where moves lead that mind it: the console stands in a state of the sets where it is.
pub pends-in : (a : Allows) (m : MapValue) (i n : ℕ) (S : ℕ → State → Type 0) (P : List Event → Type 0)
    → IsKeptBelow (minding (alone_by a m) i) n S
    → AreSpared (alone_by a m) n (λ p s. S p s × (s.is_pending ≡ false)) P → (h : List Event)
    → AreShort (alone_by a m) n P h → pending m (resolved (between m m) h) ≡ Some i
    → PendsIn (S (presses h)) (resolved (between m m) h)
pends-in a m i n S P kept spared [] given e = search (rules, pending-start, resolved-start)
pends-in a m i n S P kept spared (Release k ∷ h) given e =
    let r : List ResolvedEvent = resolved (between m m) h in
    rw (resolved-more (between m m) h (Release k))
    (pends-release (minding (alone_by a m) i) r k n (presses h) S kept.led given.3
    (pends-in a m i n S P kept spared h (short-before (alone_by a m) n _ P spared (Release k) h given)
    (sym (pending-release m k r) ∙ ap (λ r. pending m r) (sym (resolved-more (between m m) h (Release k))) ∙ e)))
pends-in a m i n S P kept spared (Reset ∷ h) given e = search (rules, pending-reset, resolved-more)
pends-in a m i n S P kept spared (Load ∷ h) given e =
    absurd (true≢false (All-head IsNoLoad Load h (given.2.0 refl)))
pends-in a m i n S P kept spared (Press k ∷ h) given e =
    let r : List ResolvedEvent = resolved (between m m) h in
    let at : resolved (between m m) (Press k ∷ h) ≡ resolve_press k (look m r k) ∷ r =
    cc (resolved-more (between m m) h (Press k), one_map m (is_second_in_force h)) in
    subst (λ z. PendsIn (S (suc (presses h))) z) (sym at)
    (by (look m r k) refl (ap (λ z. pending m z) (sym at) ∙ e)
    (λ was. pends-in a m i n S P kept spared h before was))
  where
    before : AreShort (alone_by a m) n P h
    before = short-before (alone_by a m) n _ P spared (Press k) h given

    lt : k < 128
    lt = All-head HasKey (Press k) h given.1

    by : (x : Cell) → look m (resolved (between m m) h) k ≡ x
        → pending m (resolve_press k x ∷ resolved (between m m) h) ≡ Some i
        → (pending m (resolved (between m m) h) ≡ Some i → PendsIn (S (presses h)) (resolved (between m m) h))
        → PendsIn (S (suc (presses h))) (resolve_press k x ∷ resolved (between m m) h)
    by (Char c) seen f earlier =
        let g : None ≡ Some i = sym (pending-character m k c (resolved (between m m) h)) ∙ f in cc
    by (Act b) seen f earlier =
        elim (takes-pending m (pending m (resolved (between m m) h))
        (taken_over (remembered k (resolved (between m m) h)) b) i
        (sym (pending-action m k b (resolved (between m m) h)) ∙ f)) [
          | inl was ↦
              pends-press a m h k i n (presses h) b S kept.led given.3 (earlier was) lt given.2.1 seen
          | inr (is, can) ↦
              let (s, there, g, second) =
              stays (alone_by a m) n _ P (plain-kept a m i n S kept) spared h
              (before.0, before.1, before.2, omega (arith, before.3)) in
              let (here, off) = there before.3 in
              pends-here a m h k i b (S (suc (presses h))) s off
              (λ move. kept.led.moved (presses h) (suc (presses h)) s (Tap k) (omega arith) given.3 here move) g lt
              given.2.1 seen is can
        ]

-- where all lists are spoken of, or clean ones: the state is one that a path leads to
pends-behind : (a : Allows) (m : MapValue) (forgets : Bool) (h : List Event) (i : ℕ)
    → (forgets ≡ false → NeverForgets (alone_by a m)) → IsAdmitted m forgets h → AreAllowed (alone_by a m) h
    → pending m (resolved (between m m) h) ≡ Some i
    → PendsIn (Reached (minding (alone_by a m) i)) (resolved (between m m) h)
pends-behind a m forgets h i never admitted may e =
    let u : Under = minding (alone_by a m) i in
    let n : ℕ = suc (presses h) in
    pends-in a m i n (λ p s. Reached u s) (IsAdmitted m forgets) (reached-kept u n)
    (allowed-spared a m forgets n (λ s. Reached u s × (s.is_pending ≡ false)) never
    (λ s (there, off). plain s there off))
    h (admitted, admitted.0, ((λ none. admitted.1), may), omega arith) e
  where
    plain : (s : State) → Reached (minding (alone_by a m) i) s → s.is_pending ≡ false → Reached (alone_by a m) s
    plain s (path, is, leads) off =
        let (before, made, to, count) =
        (minded_are_offers (alone_by a m) start i (presses_along path) s (refl, refl, refl) (path, is, leads, refl)).0
        off in
        (before, made, to)

-- what an allowed press after a list of such sees can be seen by such
pub allowed_sights_are_reachable : AllowedSightsAreReachable
allowed_sights_are_reachable a m forgets h k (sight.Cell slot column) never admitted may lt (sees, x) =
    let can = allowed-before (alone_by a m) (Press k) h may in
    let (s, (path, is, leads), f, second) = stands-allowed a m forgets h never admitted can in
    (path, is, tt, (k, lt, stands-sees a m h s path k (sight.Cell slot column) leads f sees may))
allowed_sights_are_reachable a m forgets h k (sight.Locks slot caps num) never admitted may lt (sees, x) =
    let can = allowed-before (alone_by a m) (Press k) h may in
    let (s, (path, is, leads), f, second) = stands-allowed a m forgets h never admitted can in
    (path, is, tt, (k, lt, stands-sees a m h s path k (sight.Locks slot caps num) leads f sees may))
allowed_sights_are_reachable a m forgets h k (sight.Pair accent c) never admitted may lt (sees, x) =
    let can = allowed-before (alone_by a m) (Press k) h may in
    let (s, (taps, made, to), on, f) =
    pends-behind a m forgets h accent never admitted can
    (subst (λ n. pending n (resolved (between m m) h) ≡ Some accent) (one_map m (is_second_in_force h)) x) in
    let (b, count, (later, before, is, offered, leads, few)) =
    (minded_are_offers (alone_by a m) start accent (presses_along taps) s (refl, refl, refl) (taps, made, to, refl)).1
    on in (
      later ++ before,
      is,
      (later, before, refl, offered),
      (
        k,
        lt,
        stands-sees a m h (without_accent s) (later ++ before) k (sight.Pair accent c) leads
            (follows-pending (resolved (between m m) h) s false f) sees may,
      ),
    )

-- ---- where all presses are allowed

pub keeps-held : (m : MapValue) (forgets : Bool) (k : ℕ) (h : List Event) → (forgets ≡ false → NeverForgets (alone m))
    → IsAdmitted m forgets (Press k ∷ h) → (t : State) → Reached (alone m) t → Follows (resolved (between m m) h) t
    → t.is_second ≡ is_second_in_force h
    → KeepsHeld (alone m) t k
keeps-held m = keeps-allowed all_allowed m

pub admitted-spared : (m : MapValue) (forgets : Bool) (n : ℕ) (S : State → Type 0)
    → (forgets ≡ false → NeverForgets (alone m)) → ((t : State) → S t → Reached (alone m) t)
    → AreSpared (alone m) n (λ p t. S t) (IsAdmitted m forgets)
admitted-spared m = allowed-spared all_allowed m

pub stands-in : (m : MapValue) (forgets : Bool) (h : List Event) → (forgets ≡ false → NeverForgets (alone m))
    → IsAdmitted m forgets h → StandsBy all_allowed m h
stands-in m forgets h never admitted =
    stands-allowed all_allowed m forgets h never admitted (λ later before k at. refl)

-- what a press after a list sees can be seen
pub sights_are_reachable : SightsAreReachable
sights_are_reachable m forgets h k x never admitted lt sees =
    seen x (allowed_sights_are_reachable all_allowed m forgets h k x never admitted (λ later before j at. refl) lt sees)
  where
    seen : (x : Sight) → IsReachableUnder (alone m) x → IsReachable m x
    seen (sight.Cell slot column) (path, is, can, (j, below, (there, may))) = (path, is, can, (j, below, there))
    seen (sight.Locks slot caps num) (path, is, can, (j, below, (there, may))) = (path, is, can, (j, below, there))
    seen (sight.Pair accent c) (path, is, can, (j, below, (there, may))) = (path, is, can, (j, below, there))
