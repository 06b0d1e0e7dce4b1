-- The search level by level: it meets what a release, a load or a press leads to, and closes and presses each place.
use Rattle.console_states.proofs.Common.{cases_Bool, false, suc, List, ◌≡◌, ℕ, ◌+◌, ◌<◌, ◌≤◌, true, ◌⊎◌, inl, inr, []}
use Rattle.console_states.proofs.Common.{◌∷◌}
use Rattle.console_states.proofs.Common.{◌++◌, IfSome, length, slice_get, Option, Some, None, refl, ap, subst, sym, ◌∙◌}
use Rattle.console_states.proofs.Common.{arith, cases_lt, true≢false, slice_get_within, same_Some, All-nil, All-cons}
use Rattle.console_states.proofs.Common.{limit_of, usable, Offers, with_accent, Modifier, Lock, Act, Move, Hold, Turn}
use Rattle.console_states.proofs.Common.{Tap, LetGo, Exchange, Held, Step, is_some}
use Rattle.console_states.proofs.Common.{lookup, Under, State, look_in, with_holder, with_lock_turned, Holds, IsMove}
use Rattle.console_states.proofs.Common.{moved, presses_of, state_of, Entry, Entries, Grows, IsStep, StepsTo}
use Rattle.console_states.proofs.Common.{PressesLead, IsMetBy, AreMet, AreWithin, IsFrom, AreAdded, AreDone, Searched}
use Rattle.console_states.proofs.Common.{AreInOrder, rules}
use Rattle.console_states.specs.Searching.{IsClosed, IsPressed}
use Rattle.console_states.proofs.SameStates.{are_same, tells-same}
use Rattle.console_states.proofs.Growing.{at-now, at_old, at_new, all-at, from-cases, added-longer}
use Rattle.console_states.proofs.Growing.{met-grows, met-last, moves-grow, reached-grows, reached-next}
use Rattle.keymap_core.specs.declared.action.Action.TheVariants as act

-- what was searched stays so when the entries grow
pub searched-grows : {os : List State} (u : Under) (es now : Entries) (place n p a b : ℕ) (y : Entry)
    → slice_get es place ≡ Some y
    → p ≡ y.1.presses + n
    → AreAdded u (state_of y.0) place n p es now → a ≤ length es → b ≤ length es → Searched u os es a b
    → Searched u os now a b
searched-grows {os} u es now place n p a b y here e added le_a le_b s =
    let g : Grows es now = (added.0, added.1) in
    let lt : place < length es = slice_get_within es place y here in
    let either : (j : ℕ) (x : Entry) → slice_get now j ≡ Some x
    → (slice_get es j ≡ Some x) ⊎ ((length es ≤ j) × IsFrom u (state_of y.0) place n p x) =
    from-cases u (state_of y.0) place n p es now added in
    record {
      start = λ o is. met-grows es now 0 o g (s.start o is);
      reached = λ j x at. elim (either j x at) [
        | inl old ↦ let (o, is, r) = s.reached j x old in (o, is, reached-grows u es now j x g r)
        | inr (le, from) ↦
            let (o, is, r) = s.reached place y here in
            (o, is, reached-next u es now place n p y g r e j x at (omega (arith, lt, le)) from)
      ];
      pressed = λ j x at below. elim (either j x at) [
        | inl old ↦ moves-grow u es now 1 (x.1.presses + 1) (state_of x.0) g (s.pressed j x old below)
        | inr new ↦ let le : length es ≤ j = new.0 in absurd (omega (arith, below, le_a, le))
      ];
      closed = λ j x at below. elim (either j x at) [
        | inl old ↦ moves-grow u es now 0 x.1.presses (state_of x.0) g (s.closed j x old below)
        | inr new ↦ let le : length es ≤ j = new.0 in absurd (omega (arith, below, le_b, le))
      ];
    }

-- fewer of them are asked for
pub searched-fewer : {os : List State} (u : Under) (es : Entries) (a b c d : ℕ) → c ≤ a → d ≤ b → Searched u os es a b
    → Searched u os es c d
searched-fewer u es a b c d le_c le_d s = search rules

-- fewer of them, and what is asked for unless too many were met
pub searched-both : {os : List State} (u : Under) (es : Entries) (a b c d e f : ℕ) → c ≤ a → d ≤ b
    → (length es ≤ limit_of u → (e ≤ a) × (f ≤ b)) → Searched u os es a b
    → Searched u os es c d × (length es ≤ limit_of u → Searched u os es e f)
searched-both u es a b c d e f le_c le_d end s =
    (searched-fewer u es a b c d le_c le_d s, (λ few. searched-fewer u es a b e f (end few).0 (end few).1 s))

-- a place below n + 1 is below n, or n
pub place_last : (j n : ℕ) → j < n + 1 → (j < n) ⊎ (j ≡ n)
place_last j n lt = elim (cases_lt j n) [ inl below ↦ inl below | inr le ↦ inr (omega (arith, lt, le)) ]

-- entries at the same place are the same
pub same_entry : (es : Entries) (j n : ℕ) (x y : Entry)
    → j ≡ n → slice_get es j ≡ Some x → slice_get es n ≡ Some y → y ≡ x
same_entry es j n x y e at here = same_Some y x (sym here ∙ ap (λ k. slice_get es k) (sym e) ∙ at)

-- a further entry whose releases are met
pub searched-closed : {os : List State} (u : Under) (es : Entries) (a n : ℕ) (y : Entry) → slice_get es n ≡ Some y
    → IsClosed u es y
    → Searched u os es a n → Searched u os es a (n + 1)
searched-closed u es a n y here closed s = record {
  start = s.start;
  reached = s.reached;
  pressed = s.pressed;
  closed = λ j x at lt. elim (place_last j n lt) [
    | inl below ↦ s.closed j x at below
    | inr e ↦ subst (λ z. IsClosed u es z) (same_entry es j n x y e at here) closed
  ];
}

-- a further entry whose presses are met
pub searched-pressed : {os : List State} (u : Under) (es : Entries) (n b : ℕ) (y : Entry) → slice_get es n ≡ Some y
    → IsPressed u es y
    → Searched u os es n b → Searched u os es (n + 1) b
searched-pressed u es n b y here pressed s = record {
  start = s.start;
  reached = s.reached;
  closed = s.closed;
  pressed = λ j x at lt. elim (place_last j n lt) [
    | inl below ↦ s.pressed j x at below
    | inr e ↦ subst (λ z. IsPressed u es z) (same_entry es j n x y e at here) pressed
  ];
}

-- entries in order are within the number of presses
pub order-within : (es : Entries) (level p : ℕ) → AreInOrder es level p → AreWithin es p
order-within es level p (order, ordered) j x at = search (rules, cases_lt)

-- entries that no fewer presses lead to are added in order
pub order-grows : (u : Under) (s : State) (place n p level : ℕ) (es now : Entries) → AreAdded u s place n p es now
    → level ≤ length es → AreInOrder es level p → AreInOrder now level p
order-grows u s place n p level es now added le order = (
  (λ j x at. elim (either j x at) [
    | inl old ↦ order.0 j x old
    | inr (after, from) ↦ ((λ lt. absurd (omega (arith, lt, le, after))), (λ le_j. from.1))
  ]),
  (λ i j x y up at_i at_j. elim (either i x at_i) [
    | inl old ↦ elim (either j y at_j) [
      | inl old_j ↦ order.1 i j x y up old old_j
      | inr (after, from) ↦
          let within : x.1.presses ≤ p = order-within es level p order i x old in omega (arith, within, from.1)
    ]
    | inr (after, from) ↦ elim (either j y at_j) [
      | inl old_j ↦
          let lt : j < length es = slice_get_within es j y old_j in absurd (omega (arith, lt, up, after))
      | inr (after_j, from_j) ↦ omega (arith, from.1, from_j.1)
    ]
  ]),
)
  where
    either : (j : ℕ) (x : Entry) → slice_get now j ≡ Some x
        → (slice_get es j ≡ Some x) ⊎ ((length es ≤ j) × IsFrom u s place n p x)
    either = from-cases u s place n p es now added

-- entries in order begin the next level
pub order-next : (es : Entries) (level p : ℕ) → AreInOrder es level p → AreInOrder es (length es) (p + 1)
order-next es level p order = search (rules, slice_get_within, order-within)

-- entries met by fewer presses than the level stand below it
pub below_level : (es : Entries) (level p : ℕ) → AreInOrder es level p → (j : ℕ) (x : Entry) → slice_get es j ≡ Some x
    → x.1.presses < p → j < level
below_level es level p order j x at lt = search (rules, cases_lt)

-- what a press of a key that looks up a modifier, or a lock, leads to
pub pressed-mod : (u : Under) (s : State) (k : ℕ) (i : Modifier) (step : Option Step)
    → look_in u s k ≡ Act (act.Mod i) → StepsTo step (with_holder s i (Some k)) → PressesLead u s k (StepsTo step)
pressed-mod u s k i step seen to idle = (
  (λ j (f, may) free. let e : i ≡ j = cc in subst (λ n. StepsTo step (with_holder s n (Some k))) e to),
  (λ l other (f, may). absurd (cc (seen, f))),
  (λ accent minded can (f, may) none. absurd (cc (seen, f))),
)

pub pressed-lock : (u : Under) (s : State) (k : ℕ) (l : Lock) (step : Option Step)
    → look_in u s k ≡ Act (act.Lock l) → StepsTo step (with_lock_turned s l) → PressesLead u s k (StepsTo step)
pressed-lock u s k l step seen to idle = (
  (λ j (f, may) free. absurd (cc (seen, f))),
  (λ n other (f, may). let e : l ≡ n = cc in subst (λ q. StepsTo step (with_lock_turned s q)) e to),
  (λ accent minded can (f, may) none. absurd (cc (seen, f))),
)

-- what a press of a key that looks up a dead key leads to
pub pressed-dead : (u : Under) (s : State) (k accent : ℕ) (step : Option Step)
    → look_in u s k ≡ Act (act.DeadKey accent)
    → ((i : ℕ) → u.minded ≡ Some i → usable u.maps.first i ≡ true → s.is_pending ≡ false → Offers u s k i
    → StepsTo step (with_accent s))
    → PressesLead u s k (StepsTo step)
pressed-dead u s k accent step seen to idle = (
  (λ i (f, may) free. absurd (cc (seen, f))),
  (λ l other (f, may). absurd (cc (seen, f))),
  (λ i minded can made none. to i minded can none (idle, made)),
)

-- where a step leads is as what it leads to
pub steps-to : (P : State → Type 0) (step : Option Step) (s : State) → StepsTo step s
    → IfSome step (λ x. P (state_of x.to)) → P s
steps-to P step s (x, e, is) all = subst P is (subst (λ o. IfSome o (λ x. P (state_of x.to))) e all)

-- what holds where presses lead
pub presses-map : (P Q : State → Type 0) → ((t : State) → P t → Q t) → (u : Under) (s : State) (k : ℕ)
    → PressesLead u s k P → PressesLead u s k Q
presses-map P Q f u s k lead idle = search rules

-- the moves without a press, and those with one
pub frees-met : (u : Under) (es : Entries) (p : ℕ) (s : State)
    → ((k : ℕ) (i : Modifier) → Holds s k i → IsMetBy es p (with_holder s i None))
    → (IsMove u s Exchange → IsMetBy es p (moved u s Exchange)) → AreMet u es 0 p s
frees-met u es p s let_go load (Hold k i) is none = absurd (omega (arith, none))
frees-met u es p s let_go load (Turn k l) is none = absurd (omega (arith, none))
frees-met u es p s let_go load (Tap k) is none = absurd (omega (arith, none))
frees-met u es p s let_go load (LetGo k i) is none = let_go k i is
frees-met u es p s let_go load Exchange is none = load is

pub presses-met : (u : Under) (es : Entries) (p : ℕ) (s : State)
    → ((k : ℕ) → k < 128 → PressesLead u s k (IsMetBy es p)) → AreMet u es 1 p s
presses-met u es p s press (Hold k i) ((lt, idle, made), free) one = (press k lt idle).0 i made free
presses-met u es p s press (Turn k l) ((lt, idle, made), other) one = (press k lt idle).1 l other made
presses-met u es p s press (Tap k) (accent, minded, can, (lt, idle, made), none) one =
    (press k lt idle).2 accent minded can made none
presses-met u es p s press (LetGo k i) is one = absurd (omega (arith, one))
presses-met u es p s press Exchange is one = absurd (omega (arith, one))

-- a move takes no press or one
pub no-press_or_one : (move : Move) → (presses_of move ≡ 0) ⊎ (presses_of move ≡ 1)
no-press_or_one (Hold k i) = inr refl
no-press_or_one (Turn k l) = inr refl
no-press_or_one (Tap k) = inr refl
no-press_or_one (LetGo k i) = inl refl
no-press_or_one Exchange = inl refl

-- what is met by a number of presses is by each larger one
pub met-up : (es : Entries) (p q : ℕ) (s : State) → p ≤ q → IsMetBy es p s → IsMetBy es q s
met-up es p q s up (j, x, at, is, le) = (j, x, at, is, omega (arith, le, up))

-- what a call of `meet` adds
pub meet-new : (es now : Entries) (place p : ℕ) (x : Step)
    → now ≡ es ++ (x.to, record { presses = p; last = Some (place, x.by) }) ∷ [] → AreWithin es p
    → IsMetBy now p (state_of x.to) × AreWithin now p × Grows es now
    × ((u : Under) (h : Held) (n : ℕ) → IsStep u (state_of h) n x → AreAdded u (state_of h) place n p es now)
meet-new es now place p x e within =
    let entry : Entry = (x.to, record { presses = p; last = Some (place, x.by) }) in (
      subst (λ y. IsMetBy y p (state_of x.to)) (sym e) (met-last es p entry (omega arith)),
      (λ j y at. elim (cases_lt j (length es)) [
        | inl lt ↦ within j y (at_old es (entry ∷ []) j y lt (subst (λ z. slice_get z j ≡ Some y) e at))
        | inr le ↦
            let k : (i : ℕ) × (slice_get (entry ∷ []) i ≡ Some y) =
            at_new es (entry ∷ []) j y le (subst (λ z. slice_get z j ≡ Some y) e at) in
            all-at (λ z. z.1.presses ≤ p) (entry ∷ []) k.0 y
            (All-cons (λ z. z.1.presses ≤ p) entry [] (omega arith) (All-nil (λ z. z.1.presses ≤ p))) k.1
      ]),
      (entry ∷ [], e),
      (λ u h n (is, to, by). (
        entry ∷ [],
        e,
        All-cons (IsFrom u (state_of h) place n p) entry [] (x.by, refl, refl, is, to, by)
            (All-nil (IsFrom u (state_of h) place n p)),
      )),
    )

abbrev IsFound : Entries → Held → Type 0
IsFound es k = (j : ℕ) × (x : Entry) × (slice_get es j ≡ Some x) × (state_of k ≡ state_of x.0)

found : (es : Entries) (k : Held) → is_some (lookup (are_same k) es) ≡ true → IsFound es k
found [] k e = absurd (true≢false (sym e))
found (y ∷ es) k e = elim (cases_Bool (are_same k y.0)) [
  | inl t ↦ (0, y, refl, tells-same k y.0 t)
  | inr t ↦ let r : IsFound es k = found es k (rw t at e) in (suc r.0, r.1, r.2, r.3)
]

pub meet-old : (es : Entries) (p : ℕ) (k : Held) → is_some (lookup (are_same k) es) ≡ true → AreWithin es p
    → IsMetBy es p (state_of k)
meet-old es p k e within =
    let r : IsFound es k = found es k e in
    (r.0, r.1, r.2, sym r.3, within r.0 r.1 r.2)

-- a place of a level is closed
pub close-step : (u : Under) (es now : Entries) (level p n : ℕ) (y : Entry) → AreInOrder es level p → level ≤ n
    → slice_get es n ≡ Some y → AreAdded u (state_of y.0) n 0 p es now → AreMet u now 0 p (state_of y.0)
    → {os : List State} → Searched u os es level n → Searched u os now level (n + 1)
close-step u es now level p n y order le here added met s =
    let lt : n < length es = slice_get_within es n y here in
    let e : y.1.presses ≡ p = (order.0 n y here).1 le in
    searched-closed u now level n y (at-now es now n y (added.0, added.1) here)
    (subst (λ q. AreMet u now 0 q (state_of y.0)) (sym e) met)
    (searched-grows u es now n 0 p level n y here (omega (arith, e)) added (omega (arith, le, lt)) (omega (arith, lt))
    s)

-- a place of a level is pressed
pub press-step : (u : Under) (old es now : Entries) (level p n : ℕ) (y : Entry) → AreInOrder old level p
    → Grows old es → level ≤ n → n < length old → slice_get es n ≡ Some y
    → AreAdded u (state_of y.0) n 1 (p + 1) es now → AreMet u now 1 (p + 1) (state_of y.0)
    → {os : List State} → Searched u os es n (length old) → Searched u os now (n + 1) (length old)
press-step u old es now level p n y before g le lt here added met s =
    let was : slice_get old n ≡ Some y = at_old old g.0 n y lt (subst (λ z. slice_get z n ≡ Some y) g.1 here) in
    let e : y.1.presses ≡ p = (before.0 n y was).1 le in
    let longer : length old ≤ length es = added-longer old es g in
    searched-pressed u now n (length old) y (at-now es now n y (added.0, added.1) here)
    (subst (λ q. AreMet u now 1 (q + 1) (state_of y.0)) (sym e) met)
    (searched-grows u es now n 1 (p + 1) n (length old) y here (omega (arith, e)) added (omega (arith, lt, longer))
    longer s)

-- ---- what is done

-- where moves lead from what is closed and pressed, by fewer than n presses
done-by : (u : Under) (es : Entries) (n : ℕ)
    → ((j : ℕ) (x : Entry) → slice_get es j ≡ Some x → x.1.presses < n → IsClosed u es x)
    → ((j : ℕ) (x : Entry) → slice_get es j ≡ Some x → x.1.presses + 1 < n → IsPressed u es x) → AreDone u es n
done-by u es n closed pressed j x at move is lt = elim (no-press_or_one move) [
  | inl none ↦
      met-up es x.1.presses (x.1.presses + presses_of move) (moved u (state_of x.0) move) (omega (arith, none))
      (closed j x at (omega (arith, lt, none)) move is none)
  | inr one ↦
      met-up es (x.1.presses + 1) (x.1.presses + presses_of move) (moved u (state_of x.0) move) (omega (arith, one))
      (pressed j x at (omega (arith, lt, one)) move is one)
]

-- all that was met is
pub all-done : {os : List State} (u : Under) (es : Entries) → Searched u os es (length es) (length es) → (n : ℕ)
    → AreDone u es n
all-done u es s n =
    done-by u es n (λ j x at lt. s.closed j x at (slice_get_within es j x at))
    (λ j x at lt. s.pressed j x at (slice_get_within es j x at))

-- where fewer presses than those of a level lead was met
pub level-done : {os : List State} (u : Under) (es : Entries) (level p : ℕ) → AreInOrder es level p
    → Searched u os es level level → AreDone u es p
level-done u es level p order s =
    done-by u es p (λ j x at lt. s.closed j x at (below_level es level p order j x at lt))
    (λ j x at lt. s.pressed j x at (below_level es level p order j x at (omega (arith, lt))))

-- where as many presses lead was met, where the level was closed, and some of the next one was met
pub closed-done : {os : List State} (u : Under) (old es : Entries) (level p : ℕ) → AreInOrder old level p → Grows old es
    → AreInOrder es (length old) (p + 1) → Searched u os es level (length old) → AreDone u es (p + 1)
closed-done u old es level p before g order s =
    done-by u es (p + 1) (λ j x at lt. s.closed j x at (below_level es (length old) (p + 1) order j x at lt))
    (λ j x at lt.
    let here : j < length old = below_level es (length old) (p + 1) order j x at (omega (arith, lt)) in
    let was : slice_get old j ≡ Some x = at_old old g.0 j x here (subst (λ z. slice_get z j ≡ Some x) g.1 at) in
    s.pressed j x at (below_level old level p before j x was (omega (arith, lt))))
