-- The bearers that are found, and the keys that bear.
use Rattle.keymap_check.proofs.Common.{zero, suc, ◌≡◌, ◌≢◌, ℕ, ◌<◌, true, false, not, Option, Some, None, refl, ap}
use Rattle.keymap_check.proofs.Common.{subst, sym, ◌∙◌, inl, inr, arith, true≢false, Lock, Holding, Cell, Act, Bearer}
use Rattle.keymap_check.proofs.Common.{Nobody, holding_action, MapValue, IsCellOf, Bears, BearsThroughout, below-suc}
use Rattle.keymap_check.proofs.Common.{IsPlain, IsSteady, IsActing, first_place, cell_of, is_holding, bears_holding}
use Rattle.keymap_check.proofs.Common.{bearer_with, next_bearer, bearer_below, bearer_of, IsBearer, ReportValue}
use Rattle.keymap_check.proofs.Common.{bearer_in}
use Rattle.std.proofs.lemmas.Bool.{cond_both}
use Rattle.std.specs.Option.{is_none}
use Rattle.keymap_check.specs.Types.{Throughout, Sole, Several}
use Rattle.keymap_core.specs.Bearers.{IsAlone}
use Rattle.console_core.specs.Plain.{IsPlainFor}
use Rattle.keymap_check.specs.Computed.{bearer_by, is_steady_by}
use Rattle.keymap_check.specs.Report.{is_plain_bearer, picks_a_cell, HasPlainBearers, BearersAreComputed}
use Rattle.keymap_check.specs.Report.{SteadyLocksAreComputed}
use Rattle.keymap_check.proofs.Same.{is_holding-true, is_holding-refl, not_holding-false, not_acting, acting-not}
use Rattle.keymap_check.proofs.Places.{first_place-cell, no_place-cell, has-cell}
use Rattle.keymap_check.proofs.Bearers.{bearer_below-start, bearer_below-more}
use Rattle.keymap_core.specs.declared.action.Modifier.TheVariants as modifier
use Rattle.keymap_core.specs.declared.action.Lock.TheVariants as lock
use Rattle.keymap_core.specs.declared.action.Holding.TheVariants as holding
use Rattle.keymap_check.specs.declared.kind.Kind.TheVariants as kind

-- a key that passes the test bears the holding action
pub bears-true : (m : MapValue) (k : ℕ) (a : Holding) → bears_holding m k a ≡ true → Bears m k a
bears-true m k a e =
    let h = (has-cell m (kind.Holding a) k).0 e in subst (IsCellOf m k) (is_holding-true a h.0 h.2) h.1

-- a key that bears the holding action passes the test
pub true-bears : (m : MapValue) (k : ℕ) (a : Holding) → Bears m k a → bears_holding m k a ≡ true
true-bears m k a b = (has-cell m (kind.Holding a) k).1 (Act (holding_action a), b, is_holding-refl a)

-- what is known of the keys below n
abbrev pub NoneBears : MapValue → Holding → ℕ → Type 0
NoneBears m a n = (j : ℕ) → j < n → Bears m j a → ⊥

-- a single key below n bears, and the bearer is that key, throughout or beside other cells
abbrev pub OneBears : MapValue → Holding → ℕ → Bearer → Type 0
OneBears m a n b = (k : ℕ) × (k < n) × Bears m k a × ((j : ℕ) → j < n → Bears m j a → j ≡ k) × (b ≡ bearer_with m a k)

-- two keys below n bear
abbrev pub TwoBear : MapValue → Holding → ℕ → Type 0
TwoBear m a n = (i : ℕ) × (j : ℕ) × (i < n) × (j < n) × (i ≢ j) × Bears m i a × Bears m j a

pub data BearerAmong (m : MapValue) (a : Holding) (n : ℕ) (b : Bearer) : Type 0 where
  Empty : b ≡ Nobody → NoneBears m a n → BearerAmong m a n b
  Single : OneBears m a n b → BearerAmong m a n b
  Many : b ≡ Several → TwoBear m a n → BearerAmong m a n b

-- a key that fails the test doesn't bear
no_bearer : (m : MapValue) (a : Holding) (k : ℕ) → bears_holding m k a ≡ false → Bears m k a → ⊥
no_bearer m a k e b = true≢false (sym (true-bears m k a b) ∙ e)

-- a further key that doesn't bear changes nothing of the bearer
kept : (m : MapValue) (a : Holding) (n : ℕ) (b : Bearer) → bears_holding m n a ≡ false → BearerAmong m a n b
    → BearerAmong m a (suc n) b
kept m a n b e (Empty s f) =
    Empty s
    (λ j lt is. elim (below-suc j n lt)
    [ inl l ↦ f j l is | inr q ↦ no_bearer m a n e (subst (λ x. Bears m x a) q is) ])
kept m a n b e (Single s) =
    Single (
      s.0,
      omega (arith, s.1),
      s.2,
      (λ j lt is. elim (below-suc j n lt)
          [ inl l ↦ s.3 j l is | inr q ↦ absurd (no_bearer m a n e (subst (λ x. Bears m x a) q is)) ]),
      s.4,
    )
kept m a n b e (Many s t) = Many s (t.0, t.1, omega (arith, t.2), omega (arith, t.3), t.4, t.5, t.6)

-- a bearer and one more are several
next_by : (k : ℕ) (o : Option ℕ) (c : Bearer) → next_bearer (bearer_by k o) c ≡ Several
next_by k None c = refl
next_by k (Some p) c = refl

-- a further key that bears joins the bearer
added : (m : MapValue) (a : Holding) (n : ℕ) (b : Bearer) → Bears m n a → BearerAmong m a n b
    → BearerAmong m a (suc n) (next_bearer b (bearer_with m a n))
added m a n b is (Empty s f) =
    Single (
      n,
      omega arith,
      is,
      (λ j lt other. elim (below-suc j n lt) [ inl l ↦ absurd (f j l other) | inr q ↦ q ]),
      ap (λ x. next_bearer x (bearer_with m a n)) s,
    )
added m a n b is (Single s) =
    Many (ap (λ x. next_bearer x (bearer_with m a n)) s.4 ∙ next_by s.0 _ _)
    (s.0, n, omega (arith, s.1), omega arith, (λ e. omega (arith, e, s.1)), s.2, is)
added m a n b is (Many s t) =
    Many (ap (λ x. next_bearer x (bearer_with m a n)) s)
    (t.0, t.1, omega (arith, t.2), omega (arith, t.3), t.4, t.5, t.6)

-- the bearer among the keys below n says which of them bear
pub found : (m : MapValue) (a : Holding) (n : ℕ) → BearerAmong m a n (bearer_below m a n)
found m a zero = Empty (bearer_below-start m a) (λ j lt is. omega (arith, lt))
found m a (suc n) =
    rw (bearer_below-more m a n)
    (cond_both (bears_holding m n a) _ _ (BearerAmong m a (suc n))
    (λ e. added m a n (bearer_below m a n) (bears-true m n a e) (found m a n))
    (λ e. kept m a n (bearer_below m a n) e (found m a n)))

-- the bearer of an action that one key alone bears
single : (m : MapValue) (a : Holding) (k : ℕ) (o : Option ℕ) → first_place m (kind.OtherThan a) k ≡ o → k < 128
    → Bears m k a → IsAlone m k a → IsBearer m a (bearer_by k o)
single m a k None e lt is alone =
    (lt, alone, λ x cell. is_holding-true a x (not_holding-false a x (no_place-cell m (kind.OtherThan a) k e x cell)))
single m a k (Some p) e lt is alone =
    let s : IsCellOf m k (cell_of m k p) × (not (is_holding a (cell_of m k p)) ≡ true) =
    first_place-cell m (kind.OtherThan a) k p e in (
      lt,
      is,
      alone,
      (cell_of m k p, s.0, λ q. true≢false (sym s.1 ∙ ap (λ x. not (is_holding a x)) q ∙ ap not (is_holding-refl a))),
    )

-- the bearer among all keys is the bearer
bearer-of : (m : MapValue) (a : Holding) (b : Bearer) → BearerAmong m a 128 b → IsBearer m a b
bearer-of m a b (Empty s f) = rw s f
bearer-of m a b (Single s) = rw s.4 (single m a s.0 (first_place m (kind.OtherThan a) s.0) refl s.1 s.2 s.3)
bearer-of m a b (Many s t) = rw s t

-- the bearers that are computed are the keys that bear
pub bearers_are_computed : BearersAreComputed
bearers_are_computed m a = bearer-of m a (bearer_of m a) (found m a 128)

-- a lock is steady exactly if the test says so
missing_by : (m : MapValue) (k : ℕ) (o : Option ℕ) → first_place m kind.CharacterOrNop k ≡ o → is_none o ≡ true
    → (x : Cell) → IsCellOf m k x → IsActing x
missing_by m k None e t x is = not_acting x (no_place-cell m kind.CharacterOrNop k e x is)
missing_by m k (Some p) e t x is = absurd (true≢false (sym t))

-- where each cell of a key acts, no character and no nop is found
acting_by : (m : MapValue) (k : ℕ) (o : Option ℕ) → first_place m kind.CharacterOrNop k ≡ o
    → ((x : Cell) → IsCellOf m k x → IsActing x) → is_none o ≡ true
acting_by m k None e f = refl
acting_by m k (Some p) e f =
    let s = first_place-cell m kind.CharacterOrNop k p e in
    absurd (true≢false (sym s.1 ∙ acting-not (cell_of m k p) (f (cell_of m k p) s.0)))

-- a single bearer is steady exactly if no character and no nop is found on it
steady_single : (m : MapValue) (k : ℕ) (o : Option ℕ)
    → is_steady_by m (bearer_by k o) ≡ is_none (first_place m kind.CharacterOrNop k)
steady_single m k None = refl
steady_single m k (Some p) = refl

-- a lock that passes the test is steady
steady-true : (m : MapValue) (l : Lock) (b : Bearer) → BearerAmong m (holding.Lock l) 128 b → is_steady_by m b ≡ true
    → IsSteady m l
steady-true m l b (Empty s f) e = absurd (true≢false (sym e ∙ ap (λ x. is_steady_by m x) s))
steady-true m l b (Many s t) e = absurd (true≢false (sym e ∙ ap (λ x. is_steady_by m x) s))
steady-true m l b (Single s) e = (
  s.0,
  s.1,
  s.2,
  s.3,
  missing_by m s.0 (first_place m kind.CharacterOrNop s.0) refl
      (sym (steady_single m s.0 (first_place m (kind.OtherThan (holding.Lock l)) s.0))
      ∙ ap (λ x. is_steady_by m x) (sym s.4) ∙ e),
)

-- a steady lock passes the test
true-steady : (m : MapValue) (l : Lock) (b : Bearer) → BearerAmong m (holding.Lock l) 128 b → IsSteady m l
    → is_steady_by m b ≡ true
true-steady m l b (Empty s f) steady = absurd (f steady.0 steady.1 steady.2)
true-steady m l b (Many s t) steady = absurd (t.4 (steady.3 t.0 t.2 t.5 ∙ sym (steady.3 t.1 t.3 t.6)))
true-steady m l b (Single s) steady =
    let same : s.0 ≡ steady.0 = steady.3 s.0 s.1 s.2 in
    ap (λ x. is_steady_by m x) s.4 ∙ steady_single m s.0 (first_place m (kind.OtherThan (holding.Lock l)) s.0)
    ∙ acting_by m s.0 (first_place m kind.CharacterOrNop s.0) refl
    (λ x is. steady.4 x (subst (λ j. IsCellOf m j x) same is))

-- the locks that pass the test are the steady ones
pub steady_locks_are_computed : SteadyLocksAreComputed
steady_locks_are_computed m l =
    let b = found m (holding.Lock l) 128 in (steady-true m l _ b, true-steady m l _ b)

-- what a bearer that is reported says
pub throughout-bears : (m : MapValue) (a : Holding) (k : ℕ) → bearer_of m a ≡ Throughout k → BearsThroughout m k a
throughout-bears m a k e = subst (λ b. IsBearer m a b) e (bearers_are_computed m a)

-- a holding action whose bearer is plain is borne throughout by one key alone, or by nobody
plain_for : (m : MapValue) (a : Holding) (b : Bearer) → IsBearer m a b → is_plain_bearer b ≡ true → IsPlainFor m a
plain_for m a Nobody is e = inl is
plain_for m a (Throughout k) is e = inr (k, is)
plain_for m a (Sole k) is e = absurd (true≢false (sym e))
plain_for m a Several is e = absurd (true≢false (sym e))

-- a map whose reported bearers are plain is plain
pub plain_bearers : (m : MapValue) (r : ReportValue) → ((a : Holding) → IsBearer m a (bearer_in r a))
    → HasPlainBearers r → IsPlain m
plain_bearers m r are plain = record {
  left_shift = of (holding.Mod modifier.LeftShift) refl;
  right_shift = of (holding.Mod modifier.RightShift) refl;
  left_control = of (holding.Mod modifier.LeftControl) refl;
  right_control = of (holding.Mod modifier.RightControl) refl;
  left_alt = of (holding.Mod modifier.LeftAlt) refl;
  right_alt = of (holding.Mod modifier.RightAlt) refl;
  alt_shift = of (holding.Mod modifier.AltShift) refl;
  caps = of (holding.Lock lock.Caps) refl;
  num = of (holding.Lock lock.Num) refl;
  alt_lock = of (holding.Lock lock.Alt) refl;
}
  where
    of : (a : Holding) → picks_a_cell a ≡ true → IsPlainFor m a
    of a e = plain_for m a (bearer_in r a) (are a) (plain a e)
