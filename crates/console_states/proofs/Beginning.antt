-- Where a search begins: with its origins, or with one.
use Rattle.console_states.proofs.Common.{zero, suc, ◌≡◌, ℕ, [], ◌∷◌}
use Rattle.console_states.proofs.Common.{slice_get, Some, None, refl, ap, subst, sym, arith, Contains}
use Rattle.console_states.proofs.Common.{Held, Under, State, state_of, Entry, Entries, IsMetBy}
use Rattle.console_states.proofs.Common.{IsReached, Searched, AreInOrder, IsBegun}
use Rattle.console_states.proofs.Growing.{one_entry}

-- a list of one state has that one alone
only-one : (o s : State) → Contains (o ∷ []) s → o ≡ s
only-one o s (zero, lt, at) = at
only-one o s (suc k, lt, at) = absurd (omega (arith, lt))

-- what was begun is searched
pub searched-begun : (u : Under) (from : Held) (es : Entries) → IsBegun from es
    → Searched u (state_of from ∷ []) es 0 0 × AreInOrder es 0 0
searched-begun u from es e = (
  record {
    start = λ o has. (0, new, rw e refl, only-one (state_of from) o has, omega arith);
    reached = λ j x at. let (zeroth, is) = only j x at in (
      state_of from,
      (0, omega arith, refl),
      ([], (x, at, ap (λ z. z.1.last) is), tt, ap (λ z. state_of z.0) (sym is), sym (ap (λ z. z.1.presses) is)),
    );
    pressed = λ j x at lt. absurd (omega (arith, lt));
    closed = λ j x at lt. absurd (omega (arith, lt));
  },
  (
    (λ j x at. ((λ lt. absurd (omega (arith, lt))), (λ le. ap (λ z. z.1.presses) (only j x at).1))),
    (λ i j x y up at_i at_j.
        let none : x.1.presses ≡ 0 = ap (λ z. z.1.presses) (only i x at_i).1 in omega (arith, none)),
  ),
)
  where
    new : Entry
    new = (from, record { presses = 0; last = None })

    only : (j : ℕ) (x : Entry) → slice_get es j ≡ Some x → (j ≡ 0) × (x ≡ new)
    only j x at = one_entry new j x (subst (λ z. slice_get z j ≡ Some x) e at)

-- ---- a search from one origin

pub reached-one : {u : Under} {o : State} {es : Entries} {a b : ℕ} → Searched u (o ∷ []) es a b → (j : ℕ) (x : Entry)
    → slice_get es j ≡ Some x → IsReached u o es j x
reached-one {u} {o} {es} s j x at =
    let (from, has, r) = s.reached j x at in subst (λ z. IsReached u z es j x) (sym (only-one o from has)) r

pub start-one : {u : Under} {o : State} {es : Entries} {a b : ℕ} → Searched u (o ∷ []) es a b → IsMetBy es 0 o
start-one {u} {o} s = s.start o (0, omega arith, refl)
