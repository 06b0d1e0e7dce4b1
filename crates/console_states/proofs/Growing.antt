-- What was met stays met when the entries grow.
use Rattle.console_states.proofs.Common.{zero, suc, ◌≡◌, ℕ, ◌+◌, ◌<◌, ◌≤◌, ◌⊎◌, inl, inr, All, List, [], ◌∷◌}
use Rattle.console_states.proofs.Common.{◌++◌, length, slice_get, Some, refl, ap, subst, sym, ◌∙◌, arith, append_assoc}
use Rattle.console_states.proofs.Common.{cases_lt, slice_get_within, none-some, same_Some, Move}
use Rattle.console_states.proofs.Common.{Under, State, IsMove, moved, presses_of, state_of, Entry}
use Rattle.console_states.proofs.Common.{Entries, Grows, IsMetBy, AreMet, IsFrom, AreAdded, IsTrail, IsReached}
use Rattle.console_states.proofs.Common.{rules}
use Rattle.std.proofs.lemmas.Option.{get_or_from_slice_get}
use Rattle.std.proofs.lemmas.List.Elements.{All-append}

-- entries by their places
-- an entry stays at its place when more are added
at-append : (es more : Entries) (j : ℕ) (x : Entry) → slice_get es j ≡ Some x → slice_get (es ++ more) j ≡ Some x
at-append [] more j x e = absurd (none-some x e)
at-append (y ∷ es) more zero x e = e
at-append (y ∷ es) more (suc j) x e = at-append es more j x e

-- an entry stays at its place when the entries grow
pub at-now : (es now : Entries) (j : ℕ) (x : Entry) → Grows es now → slice_get es j ≡ Some x → slice_get now j ≡ Some x
at-now es now j x g e = subst (λ y. slice_get y j ≡ Some x) (sym g.1) (at-append es g.0 j x e)

-- an entry at an old place is an old one
pub at_old : (es more : Entries) (j : ℕ) (x : Entry) → j < length es → slice_get (es ++ more) j ≡ Some x
    → slice_get es j ≡ Some x
at_old [] more j x lt e = absurd (omega (arith, lt))
at_old (y ∷ es) more zero x lt e = e
at_old (y ∷ es) more (suc j) x lt e = at_old es more j x (omega (arith, lt)) e

-- an entry at a new place is a new one
pub at_new : (es more : Entries) (j : ℕ) (x : Entry) → length es ≤ j → slice_get (es ++ more) j ≡ Some x
    → (n : ℕ) × (slice_get more n ≡ Some x)
at_new [] more j x le e = (j, e)
at_new (y ∷ es) more zero x le e = absurd (omega (arith, le))
at_new (y ∷ es) more (suc j) x le e = at_new es more j x (omega (arith, le)) e

-- the last entry stands behind the others
pub at_last : (es : Entries) (x : Entry) → slice_get (es ++ x ∷ []) (length es) ≡ Some x
at_last [] x = refl
at_last (y ∷ es) x = at_last es x

-- what holds for all entries holds for that at a place
pub all-at : (P : Entry → Type 0) (xs : Entries) (n : ℕ) (x : Entry) → All P xs → slice_get xs n ≡ Some x → P x
all-at P xs n x all e = subst P (get_or_from_slice_get xs n x x e) (all n x (slice_get_within xs n x e))

-- an entry of the longer list is old or was added
pub from-cases : (u : Under) (s : State) (place n p : ℕ) (es now : Entries) → AreAdded u s place n p es now
    → (j : ℕ) (x : Entry) → slice_get now j ≡ Some x
    → (slice_get es j ≡ Some x) ⊎ ((length es ≤ j) × IsFrom u s place n p x)
from-cases u s place n p es now (more, e, all) j x at =
    let there : slice_get (es ++ more) j ≡ Some x = subst (λ y. slice_get y j ≡ Some x) e at in
    elim (cases_lt j (length es)) [
      | inl lt ↦ inl (at_old es more j x lt there)
      | inr le ↦
          let k : (i : ℕ) × (slice_get more i ≡ Some x) = at_new es more j x le there in
          inr (le, all-at (IsFrom u s place n p) more k.0 x all k.1)
    ]

-- what is added twice is added
pub added-again : (u : Under) (s : State) (place n p : ℕ) (a b c : Entries) → AreAdded u s place n p a b
    → AreAdded u s place n p b c → AreAdded u s place n p a c
added-again u s place n p a b c x y = (
  x.0 ++ y.0,
  y.1 ∙ ap (λ z. z ++ y.0) x.1 ∙ append_assoc a x.0 y.0,
  All-append (IsFrom u s place n p) x.0 y.0 x.2 y.2,
)

-- a list that grows gets no shorter
pub added-longer : (es now : Entries) → Grows es now → length es ≤ length now
added-longer es now g = subst (λ y. length es ≤ length y) (sym g.1) (longer es g.0)
  where
    longer : (xs ys : Entries) → length xs ≤ length (xs ++ ys)
    longer [] ys = omega arith
    longer (x ∷ xs) ys = let l : length xs ≤ length (xs ++ ys) = longer xs ys in omega (arith, l)

-- a list of one entry has it at place 0
pub one_entry : (x : Entry) (j : ℕ) (y : Entry) → slice_get (x ∷ []) j ≡ Some y → (j ≡ 0) × (y ≡ x)
one_entry x zero y e = (refl, sym (same_Some x y e))
one_entry x (suc j) y e = absurd (none-some y e)

-- a list that grows twice grows
pub grows-again : (a b c : Entries) → Grows a b → Grows b c → Grows a c
grows-again a b c g h = (g.0 ++ h.0, h.1 ∙ ap (λ z. z ++ h.0) g.1 ∙ append_assoc a g.0 h.0)

-- what was met stays met
pub met-grows : (es now : Entries) (p : ℕ) (s : State) → Grows es now → IsMetBy es p s → IsMetBy now p s
met-grows es now p s g (j, x, at, is, le) = (j, x, at-now es now j x g at, is, le)

-- the state of the last entry is met
pub met-last : (es : Entries) (p : ℕ) (x : Entry) → x.1.presses ≤ p → IsMetBy (es ++ x ∷ []) p (state_of x.0)
met-last es p x le = (length es, x, at_last es x, refl, le)

-- where moves lead stays met when the entries grow
pub moves-grow : (u : Under) (es now : Entries) (n p : ℕ) (s : State) → Grows es now → AreMet u es n p s
    → AreMet u now n p s
moves-grow u es now n p s g met move is takes = search (rules, met-grows, takes)

-- a trail stays one when the entries grow
trail-grows : (es now : Entries) (j : ℕ) (path : List Move) → Grows es now → IsTrail es j path → IsTrail now j path
trail-grows es now j [] g (x, at, none) = (x, at-now es now j x g at, none)
trail-grows es now j (move ∷ path) g (x, parent, at, last, lt, rest) =
    (x, parent, at-now es now j x g at, last, lt, trail-grows es now parent path g rest)

-- a trail still leads to an entry when the entries grow
pub reached-grows : {o : State} (u : Under) (es now : Entries) (j : ℕ) (x : Entry) → Grows es now → IsReached u o es j x
    → IsReached u o now j x
reached-grows u es now j x g (path, trail, is, leads, count) = search (rules, trail-grows)

-- a move from where a path leads goes on with the path
pub reached-next : {o : State} (u : Under) (es now : Entries) (place n p : ℕ) (y : Entry) → Grows es now
    → IsReached u o es place y
    → p ≡ y.1.presses + n
    → (j : ℕ) (x : Entry) → slice_get now j ≡ Some x → place < j → IsFrom u (state_of y.0) place n p x
    → IsReached u o now j x
reached-next u es now place n p y g (path, trail, is, leads, count) e j x at lt
    (by, by_p, last, move, next, by_n) = (
      by ∷ path,
      (x, place, at, last, lt, trail-grows es now place path g trail),
      (subst (λ s. IsMove u s by) (sym leads) move, is),
      ap (λ s. moved u s by) leads ∙ sym next,
      ap (λ q. q + presses_of by) count ∙ ap (λ q. y.1.presses + q) by_n ∙ sym e ∙ sym by_p,
    )
