-- What was met is distinct, so many entries are many states that paths lead to.
use Rattle.console_states.proofs.Common.{zero, suc, ◌≡◌, ℕ, ◌<◌, ◌≤◌, false, inl, inr, [], ◌∷◌, length, get_or}
use Rattle.console_states.proofs.Common.{slice_get, Some, limit_of, subst, sym}
use Rattle.console_states.proofs.Common.{◌∙◌, arith, IsDistinct, keys_of, cases_lt}
use Rattle.console_states.proofs.Common.{true≢false, slice_get-get_or, none-some, same_Some, Held, state_of, Entry}
use Rattle.console_states.proofs.Common.{Entries, HasEnded, TooMany, Under, State, ReachesMoreThanFrom, End}
use Rattle.console_states.proofs.Common.{MapValue, Searched, alone, start, under_of, AreMetOnce, rules}
use Rattle.console_states.specs.declared.held.Keymaps.{Keymaps}
use Rattle.std.specs.List.{AllByRecursion, AllPairs}
use Rattle.console_states.proofs.Common.{All, List, Move, IsPathFrom, presses_along, state_from}
use Rattle.std.proofs.lemmas.Map.Keys.{IsDistinct-head, IsDistinct-tail}
use Rattle.console_states.specs.Searching.{HasMetAll}
use Rattle.console_states.proofs.SameStates.{are_same, same-tells}
use Rattle.console_states.proofs.Beginning.{reached-one, start-one}

-- entries at two places
rec-at : (P : Held → Type 0) (es : Entries) → AllByRecursion P (keys_of es) → (k : ℕ) (y : Entry)
    → slice_get es k ≡ Some y → P y.0
rec-at P [] all k y at = absurd (none-some y at)
rec-at P (e ∷ es) all zero y at = subst (λ z. P z.0) (same_Some e y at) all.0
rec-at P (e ∷ es) all (suc k) y at = rec-at P es all.1 k y at

-- entries at two places of distinct ones are distinct
pub distinct-at : (es : Entries) → IsDistinct are_same (keys_of es) → (j k : ℕ) (x y : Entry) → j < k
    → slice_get es j ≡ Some x → slice_get es k ≡ Some y → are_same x.0 y.0 ≡ false
distinct-at [] d j k x y lt at_j at_k = absurd (none-some x at_j)
distinct-at (e ∷ es) d zero zero x y lt at_j at_k = absurd (omega (arith, lt))
distinct-at (e ∷ es) d zero (suc k) x y lt at_j at_k =
    subst (λ z. are_same z.0 y.0 ≡ false) (same_Some e x at_j)
    (rec-at (λ z. are_same e.0 z ≡ false) es (IsDistinct-head are_same e.0 (keys_of es) d) k y at_k)
distinct-at (e ∷ es) d (suc j) zero x y lt at_j at_k = absurd (omega (arith, lt))
distinct-at (e ∷ es) d (suc j) (suc k) x y lt at_j at_k =
    distinct-at es (IsDistinct-tail are_same e.0 (keys_of es) d) j k x y (omega (arith, lt)) at_j at_k

-- a state that was met is not met again
pub met-once : (es : Entries) → IsDistinct are_same (keys_of es) → AreMetOnce es
met-once es distinct i j x y lt at_i at_j e =
    true≢false (sym (same-tells x.0 y.0 e) ∙ distinct-at es distinct i j x y lt at_i at_j)

-- more than the limit is more than where no accent is minded
pub over-limit : (u : Under) (n : ℕ) → limit_of u < n → 65536 < n
over-limit u n lt = search rules

abbrev pub AreApart : Entry → Entry → Type 0
AreApart x y = state_of x.0 ≡ state_of y.0 → ⊥

pub all-apart : (es : Entries) → AreMetOnce es → AllPairs AreApart es
all-apart es once i j d lt below = search (rules, slice_get-get_or)

-- many entries that paths of at most p presses lead to, to distinct states that are made of them
pub reaches-apart : (u : Under) (s : State) (p : ℕ) (ys : Entries) (to : Entry → State) → Entry → 65536 < length ys
    → All (λ x. (path : List Move) × IsPathFrom u s path × (presses_along path ≤ p) × (state_from u s path ≡ to x)) ys
    → AllPairs (λ x y. to x ≡ to y → ⊥) ys → ReachesMoreThanFrom u s 65536 p
reaches-apart u s p ys to d many leads apart = (
  (λ j. to (get_or ys j d)),
  (λ j le. leads j d (omega (arith, le, many))),
  (λ j k le_j le_k e. elim (cases_lt j k) [
    | inl lt ↦ absurd (apart j k d lt (omega (arith, le_k, many)) e)
    | inr up ↦ elim (cases_lt k j) [
      | inl lt ↦ absurd (apart k j d lt (omega (arith, le_j, many)) (sym e))
      | inr down ↦ omega (arith, up, down)
    ]
  ]),
)

-- a search that met more states than it goes over shows that paths of its presses lead to so many
pub reaches-more : {o : State} (u : Under) (es : Entries) (p : ℕ) → HasEnded u (o ∷ []) es (TooMany p)
    → ReachesMoreThanFrom u o 65536 p
reaches-more {o} u es p ended =
    reaches-apart u o p es (λ x. state_of x.0) (start-one ended.searched).1 (over-limit u (length es) ended.is.0)
    (λ j d lt.
    let at = slice_get-get_or es j d lt in
    let (path, trail, is, to, count) = reached-one ended.searched j (get_or es j d) at in
    let few : (get_or es j d).1.presses ≤ p = ended.is.1 j (get_or es j d) at in
    (path, is, omega (arith, few, count), to)) (all-apart es ended.once)

-- a search under this, from there, ended so
pub ended-under : (u v : Under) (es : Entries) (s t : State) (end other : End) → u ≡ v → s ≡ t → end ≡ other
    → HasEnded u (s ∷ []) es end → HasEnded v (t ∷ []) es other
ended-under u v es s t end other is from how ended = rw (← is, ← from, ← how) ended

pub ended-alone : (m : MapValue) (u : Under) (es : Entries) (s t : State) (end other : End) → u ≡ alone m → s ≡ t
    → end ≡ other → HasEnded u (s ∷ []) es end → HasEnded (alone m) (t ∷ []) es other
ended-alone m u es s t end other is from how ended = ended-under u (alone m) es s t end other is from how ended

-- what was met under a keymap is all
pub met-alone : (x : Keymaps) (m : MapValue) (es : Entries) → under_of x ≡ alone m → x.first.now ≡ m
    → Searched (alone m) (start ∷ []) es (length es) (length es) → length es ≤ 65536 → HasMetAll x es
met-alone x m es is first searched few = search rules
