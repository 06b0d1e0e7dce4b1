-- What a list of presses, releases and resets types on its way home, moves and taps can type.
use Rattle.console_scripts.proofs.Common.{◌≡◌, ℕ, Bool, true, false, List, [], ◌∷◌, ◌++◌, Option, Some, None, refl, ap}
use Rattle.console_scripts.proofs.Common.{subst, sym, ◌∙◌, inl, inr, arith, append_assoc, if◌then◌else◌, suc}
use Rattle.console_scripts.proofs.Common.{true≢false, eqb-true, eq-eqb, All-head, none-some, own_of, MapValue}
use Rattle.console_scripts.proofs.Common.{accent_at, Action, Answer, Meta, Cell, Char, Act, Event, Press, Release}
use Rattle.console_scripts.proofs.Common.{Reset, Load, Move, Symbol, usable, answer_action, composed_by, ResolvedEvent}
use Rattle.console_scripts.proofs.Common.{look, remembered, taken_over, pending, resolve_press, Follows, between}
use Rattle.console_scripts.proofs.Common.{in_force, resolved, is_second_in_force, is_on_after, HasKey, IsNoLoad, rules}
use Rattle.console_scripts.proofs.Common.{accent_pending_after, look_after, remembered_after, Under, alone, State}
use Rattle.console_scripts.proofs.Common.{start, look_in, IsIdle, IsMove, moved, IsPathFrom, state_from, IsHome}
use Rattle.console_scripts.proofs.Common.{IsAdmitted, NeverForgets, presses, ComesHome, IsTapOf, CanTap, CanType}
use Rattle.console_scripts.proofs.Common.{IsAsNew, cell_of, plainly, answers_by_cases, is-nothing, one_map}
use Rattle.console_scripts.proofs.Common.{pending-action, pending-character, pending-release, pending-reset}
use Rattle.console_scripts.proofs.Common.{pending-start, resolved-more, resolved-start}
use Rattle.console_core.specs.Answers.{is_pending, char_or_error}
use Rattle.console_scripts.specs.Typing.{TypedCanBeTyped}
use Rattle.console_scripts.proofs.Exploring.{path-append}
use Rattle.console_scripts.proofs.Common.{Scroll}
use Rattle.console_states.proofs.Shared.{each-lock, path-off}
use Rattle.console_states.proofs.Shared.{KeepsHeld, Reached, Stays, admitted-before, admitted-spared, follows-look}
use Rattle.console_states.proofs.Shared.{keeps-held, pending-is, stands-in, stays-on, taken-dead, takes-pending}
use Rattle.console_scripts.proofs.Taps.{answer_at, look-answer}
use Rattle.keymap_core.specs.declared.action.Action.TheVariants as act
use Rattle.console_core.specs.declared.event.Answer.TheVariants as answer
use Rattle.console_scripts.specs.declared.explored.Symbol.TheVariants as symbol

-- ---- from a state on

-- moves lead from the one state to the other
abbrev LeadsTo : Under → State → State → Type 0
LeadsTo u s t = (path : List Move) × IsPathFrom u s path × (state_from u s path ≡ t)

leads-more : (u : Under) (s t : State) (move : Move) → LeadsTo u s t → IsMove u t move → LeadsTo u s (moved u t move)
leads-more u s t move (path, made, leads) is =
    (move ∷ path, (subst (λ x. IsMove u x move) (sym leads) is, made), ap (λ x. moved u x move) leads)

-- what moves lead to from a state that a path leads to, a path leads to
reached-on : (u : Under) (s t : State) → Reached u s → LeadsTo u s t → Reached u t
reached-on u s t (way, made, there) (path, more, leads) =
    let all = path-append u start way path made (subst (λ x. IsPathFrom u x path) (sym there) more) in
    (path ++ way, all.0, all.1 ∙ ap (λ x. state_from u x path) there ∙ leads)

-- Along the events that follow, the console stands in states that moves lead to from there.
onward : (m : MapValue) (forgets : Bool) (s : State) (before : List Event) → (forgets ≡ false → NeverForgets (alone m))
    → Reached (alone m) s → Follows (resolved (between m m) before) s → s.is_second ≡ is_second_in_force before
    → (later : List Event) → IsAdmitted m forgets (later ++ before)
    → Stays (LeadsTo (alone m) s) (is_second_in_force (later ++ before)) (resolved (between m m) (later ++ before))
onward m forgets s before never there f is later admitted =
    let u : Under = alone m in
    let n : ℕ = suc (presses (later ++ before)) in
    let (t, leads, g, second) =
    stays-on u n (λ p t. LeadsTo u s t) (IsAdmitted m forgets)
    (record { more = λ p t to. to; moved = λ p q t move e lt to can. leads-more u s t move to can })
    (admitted-spared m forgets n (LeadsTo u s) never (λ t leads. reached-on u s t there leads)) before s
    (λ lt. ([], tt, refl)) f is later
    (admitted, admitted.0, ((λ e. admitted.1), (λ l b k at. refl)), omega arith) in
    (t, leads (omega arith), g, second)

-- ---- on the way home

-- a console that is as a new one stands at home
new-home : (m : MapValue) (h : List Event) (t : State) → Follows (resolved (between m m) h) t → IsAsNew m h
    → t.is_locked Scroll ≡ false → IsHome t
new-home m h t f new off = search (rules, is-nothing, each-lock)

-- the first events of a list that is spoken of are one
admitted-from : (m : MapValue) (forgets : Bool) (later h : List Event) → IsAdmitted m forgets (later ++ h)
    → IsAdmitted m forgets h
admitted-from m forgets [] h admitted = admitted
admitted-from m forgets (e ∷ later) h admitted =
    admitted-from m forgets later h (admitted-before m forgets e (later ++ h) admitted)

-- A press on the way home, of a key that looks up the symbol and holds nothing, is a tap that can be made.
can-tap : (m : MapValue) (forgets : Bool) (h later before : List Event) (k : ℕ)
    → (forgets ≡ false → NeverForgets (alone m)) → IsAdmitted m forgets h → IsAsNew m h → h ≡ later ++ Press k ∷ before
    → (plain : Bool) (x : Symbol) → look m (resolved (between m m) before) k ≡ cell_of x
    → ((s : State) → Follows (resolved (between m m) before) s → KeepsHeld (alone m) s k
    → look_in (alone m) s k ≡ cell_of x → IsIdle s k)
    → (plain ≡ true → is_on_after (between m m) Meta before ≡ false)
    → CanTap m plain x
can-tap m forgets h later before k never admitted new at plain x seen idle off =
    let u : Under = alone m in
    let r : List ResolvedEvent = resolved (between m m) before in
    let here : IsAdmitted m forgets (Press k ∷ before) =
    admitted-from m forgets later (Press k ∷ before) (subst (λ g. IsAdmitted m forgets g) at admitted) in
    let (s, there, f, second) =
    stands-in m forgets before never (admitted-before m forgets (Press k) before here) in
    let split : h ≡ (later ++ Press k ∷ []) ++ before = at ∙ sym (append_assoc later (Press k ∷ []) before) in
    let (t, (path, made, leads), g, last) =
    onward m forgets s before never there f second (later ++ Press k ∷ [])
    (subst (λ g. IsAdmitted m forgets g) split admitted) in
    let way = reached-on u s t there (path, made, leads) in
    let scroll : t.is_locked Scroll ≡ false =
    subst (λ z. z.is_locked Scroll ≡ false) way.2 (path-off m start way.0 way.1 refl) in
    let home : IsHome t =
    new-home m ((later ++ Press k ∷ []) ++ before) t g (subst (λ g. IsAsNew m g) split new) scroll in
    let looked : look_in u s k ≡ cell_of x =
    sym (follows-look u r s k f) ∙ subst (λ n. look n r k ≡ cell_of x) (sym (one_map m s.is_second)) seen in
    let tap : IsTapOf u s plain x k = (
      All-head HasKey (Press k) before here.0,
      idle s f (keeps-held m forgets k before never here s there f second) looked,
      looked,
      (λ p. sym (f.on Meta) ∙ off p),
    ) in (
      there.0,
      there.1,
      subst (λ z. ComesHome u z) (sym there.2) (path, made, subst IsHome (sym leads) home),
      (k, subst (λ z. IsTapOf u z plain x k) (sym there.2) tap),
    )

-- a character is looked up by a key that holds nothing
can-tap-character : (m : MapValue) (forgets : Bool) (h later before : List Event) (k c : ℕ)
    → (forgets ≡ false → NeverForgets (alone m)) → IsAdmitted m forgets h → IsAsNew m h → h ≡ later ++ Press k ∷ before
    → look m (resolved (between m m) before) k ≡ Char c → is_on_after (between m m) Meta before ≡ false
    → CanTap m true (symbol.Character c)
can-tap-character m forgets h later before k c never admitted new at seen off =
    can-tap m forgets h later before k never admitted new at true (symbol.Character c) seen
    (λ s f keeps looked i holds. keeps i (holds, (c, (looked, refl)))) (λ p. off)

-- a dead key that is taken is looked up by a key that holds nothing
can-tap-dead : (m : MapValue) (forgets : Bool) (h later before : List Event) (k : ℕ) (a : Action) (i : ℕ) (plain : Bool)
    → (forgets ≡ false → NeverForgets (alone m)) → IsAdmitted m forgets h → IsAsNew m h → h ≡ later ++ Press k ∷ before
    → look m (resolved (between m m) before) k ≡ Act a
    → taken_over (remembered k (resolved (between m m) before)) a ≡ act.DeadKey i
    → (plain ≡ true → is_on_after (between m m) Meta before ≡ false)
    → CanTap m plain (symbol.DeadKey i)
can-tap-dead m forgets h later before k a i plain never admitted new at seen taken off =
    let free = taken-dead (remembered k (resolved (between m m) before)) a i taken in
    can-tap m forgets h later before k never admitted new at plain (symbol.DeadKey i)
    (seen ∙ ap (λ x. Act x) free.0) (λ s f keeps looked j holds. free.1 j (f.holds j k holds)) off

-- ---- the accent that is pending

-- The dead key of an accent that is pending on the way home can be tapped.
pending-tapped : (m : MapValue) (forgets : Bool) (h later before : List Event) (i : ℕ)
    → (forgets ≡ false → NeverForgets (alone m)) → IsAdmitted m forgets h → IsAsNew m h → h ≡ later ++ before
    → pending m (resolved (between m m) before) ≡ Some i
    → (usable m i ≡ true) × CanTap m false (symbol.DeadKey i)
pending-tapped m forgets h later [] i never admitted new at e =
    absurd (none-some i (sym (ap (λ r. pending m r) (resolved-start (between m m)) ∙ pending-start m) ∙ e))
pending-tapped m forgets h later (Release k ∷ before) i never admitted new at e =
    pending-tapped m forgets h (later ++ Release k ∷ []) before i never admitted new
    (at ∙ sym (append_assoc later (Release k ∷ []) before))
    (cc (resolved-more (between m m) before (Release k), pending-release m k (resolved (between m m) before), e))
pending-tapped m forgets h later (Reset ∷ before) i never admitted new at e =
    search (rules, none-some, resolved-more, pending-reset)
pending-tapped m forgets h later (Load ∷ before) i never admitted new at e =
    absurd (true≢false (All-head IsNoLoad Load before
    (admitted-from m forgets later (Load ∷ before) (subst (λ g. IsAdmitted m forgets g) at admitted)).1))
pending-tapped m forgets h later (Press k ∷ before) i never admitted new at e =
    let r : List ResolvedEvent = resolved (between m m) before in
    let here : pending m (resolve_press k (look (in_force (between m m) before) r k) ∷ r) ≡ Some i =
    ap (λ x. pending m x) (sym (resolved-more (between m m) before (Press k))) ∙ e in
    by (look m r k) refl
    (subst (λ n. pending m (resolve_press k (look n r k) ∷ r) ≡ Some i) (one_map m (is_second_in_force before)) here)
    (λ was. pending-tapped m forgets h (later ++ Press k ∷ []) before i never admitted new
    (at ∙ sym (append_assoc later (Press k ∷ []) before)) was)
  where
    by : (x : Cell) → look m (resolved (between m m) before) k ≡ x
        → pending m (resolve_press k x ∷ resolved (between m m) before) ≡ Some i
        → (pending m (resolved (between m m) before) ≡ Some i
        → (usable m i ≡ true) × CanTap m false (symbol.DeadKey i))
        → (usable m i ≡ true) × CanTap m false (symbol.DeadKey i)
    by (Char c) seen f earlier =
        absurd (none-some i (sym (pending-character m k c (resolved (between m m) before)) ∙ f))
    by (Act a) seen f earlier =
        elim (takes-pending m (pending m (resolved (between m m) before))
        (taken_over (remembered k (resolved (between m m) before)) a) i
        (sym (pending-action m k a (resolved (between m m) before)) ∙ f)) [
          | inl was ↦ earlier was
          | inr is ↦ (
            is.1,
            can-tap-dead m forgets h later before k a i false never admitted new at seen is.0
                (λ p. absurd (true≢false (sym p))),
          )
        ]

-- ---- what a press types

-- a character without meta, or an error
char-given : (meta : Bool) (o : Option ℕ) (c : ℕ) → char_or_error meta o ≡ plainly c → (o ≡ Some c) × (meta ≡ false)
char-given meta None c e = let f : answer.Error ≡ answer.Char c false = e in cc
char-given meta (Some d) c e = let f : answer.Char d meta ≡ answer.Char c false = e in (cc, cc)

pending-same : (i : ℕ) (p : Option ℕ) → is_pending i p ≡ true → p ≡ Some i
pending-same i None e = absurd (true≢false (sym e))
pending-same i (Some j) e = ap (λ n. Some n) (eqb-true j i e)

abbrev is_character : Answer → Bool
is_character (answer.Char c meta) = true
is_character _ = false

-- an action that types a plain character is the dead key that is pending
abbrev GivesOwn : MapValue → Option ℕ → Bool → Action → ℕ → Type 0
GivesOwn m p meta a c =
    (i : ℕ) × (a ≡ act.DeadKey i) × (p ≡ Some i) × (own_of (accent_at m i) ≡ Some c) × (meta ≡ false)

dead-gives : (m : MapValue) (p : Option ℕ) (meta : Bool) (i c : ℕ) (can t : Bool) → is_pending i p ≡ t
    → (if can then (if t then char_or_error meta (own_of (accent_at m i)) else answer.None) else answer.Error)
    ≡ plainly c
    → GivesOwn m p meta (act.DeadKey i) c
dead-gives m p meta i c true true is e = search (rules, char-given, pending-same)
dead-gives m p meta i c true false is e = let f : answer.None ≡ answer.Char c false = e in cc
dead-gives m p meta i c false t is e = let f : answer.Error ≡ answer.Char c false = e in cc

action-gives : (m : MapValue) (p : Option ℕ) (meta : Bool) (a : Action) (c : ℕ) → answer_action m p meta a ≡ plainly c
    → GivesOwn m p meta a c
action-gives m p meta (act.DeadKey i) c e = dead-gives m p meta i c (usable m i) (is_pending i p) refl e
action-gives m None meta a c e = absurd (true≢false (sym (ap is_character e)))
action-gives m (Some j) meta a c e = absurd (true≢false (sym (ap is_character e)))

pub typed-can : TypedCanBeTyped
typed-can m forgets h c never admitted new (later, before, k, at, types) =
    by (look_after (between m m) k before) refl (accent_pending_after (between m m) before) refl
    (sym ((answers_by_cases (between m m) k before).0 ∙ look-answer m before k (look_after (between m m) k before))
    ∙ types)
  where
    seen-by : (x : Cell) → look_after (between m m) k before ≡ x → look m (resolved (between m m) before) k ≡ x
    seen-by x seen =
        subst (λ n. look n (resolved (between m m) before) k ≡ x) (one_map m (is_second_in_force before)) seen

    dead : (i : ℕ) → accent_pending_after (between m m) before ≡ Some i
        → (usable m i ≡ true) × CanTap m false (symbol.DeadKey i)
    dead i is =
        pending-tapped m forgets h (later ++ Press k ∷ []) before i never admitted new
        (at ∙ sym (append_assoc later (Press k ∷ []) before)) (sym (pending-is m before) ∙ is)

    tap : (d : ℕ) → look_after (between m m) k before ≡ Char d → is_on_after (between m m) Meta before ≡ false
        → CanTap m true (symbol.Character d)
    tap d seen off =
        can-tap-character m forgets h later before k d never admitted new at (seen-by (Char d) seen) off

    by : (x : Cell) → look_after (between m m) k before ≡ x → (p : Option ℕ)
        → accent_pending_after (between m m) before ≡ p
        → answer_at m p (is_on_after (between m m) Meta before) (remembered_after (between m m) k before) x ≡ plainly c
        → CanType m c
    by (Char d) seen None is e = search (rules, tap)
    by (Char d) seen (Some i) is e =
        let given = char-given (is_on_after (between m m) Meta before) (composed_by (accent_at m i) d) c e in
        let first = dead i is in
        inr (i, symbol.Character d, first.0, given.0, first.1, tap d seen given.1)
    by (Act a) seen p is e =
        let (i, taken, pend, own, off) =
        action-gives m p (is_on_after (between m m) Meta before)
        (taken_over (remembered_after (between m m) k before) a)
        c e in
        let first = dead i (is ∙ pend) in
        inr (
          i,
          symbol.DeadKey i,
          first.0,
          ap (λ t. if t then own_of (accent_at m i) else None) (eq-eqb i i refl) ∙ own,
          first.1,
          can-tap-dead m forgets h later before k a i true never admitted new at (seen-by (Act a) seen) taken
              (λ q. off),
        )
