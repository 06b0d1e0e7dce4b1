-- From a state that was met without a route home no moves lead there.
use Rattle.console_scripts.proofs.Common.{◌≡◌, ℕ, List, length, slice_get, Some, ap, subst, sym, ◌∙◌, inl, inr}
use Rattle.console_scripts.proofs.Common.{MapValue, Under, alone, State, IsMove, moved, Routes, HasRoute, IsAstray}
use Rattle.console_scripts.proofs.Common.{AreSettled, state_of, Entry, Entries, Searched, Move}
use Rattle.console_scripts.proofs.Common.{◌+◌, suc, arith}
use Rattle.console_states.specs.Moves.{presses_of}
use Rattle.console_states.proofs.Shared.{all-done}

-- a met state without a route
abbrev pub StraysTo : Entries → Routes → State → Type 0
StraysTo es routes s =
    (j : ℕ) × (x : Entry) × (slice_get es j ≡ Some x) × (state_of x.0 ≡ s)
    × (HasRoute routes (state_of x.0) → ⊥)

pub is-astray : (u : Under) (es : Entries) (routes : Routes) → AreSettled u es routes → (j : ℕ) (x : Entry)
    → slice_get es j ≡ Some x → (HasRoute routes (state_of x.0) → ⊥) → IsAstray u routes (state_of x.0)
is-astray u es routes settled j x at none = elim (settled j x at) [ inl has ↦ absurd (none has) | inr is ↦ is ]

-- a move leads on astray
pub strays-on : {os : List State} (m : MapValue) (es : Entries) (routes : Routes)
    → Searched (alone m) os es (length es) (length es)
    → AreSettled (alone m) es routes → (s : State) (move : Move) → IsMove (alone m) s move → StraysTo es routes s
    → StraysTo es routes (moved (alone m) s move)
strays-on m es routes searched settled s move is (j, x, at, same, none) =
    let u : Under = alone m in
    let here : IsMove u (state_of x.0) move = subst (λ z. IsMove u z move) (sym same) is in
    let n : ℕ = suc (x.1.presses + presses_of move) in
    let (i, y, there, e, le) = all-done u es searched n j x at move here (omega arith) in (
      i,
      y,
      there,
      e ∙ ap (λ z. moved u z move) same,
      (λ has. (is-astray u es routes settled j x at none).1 move here (subst (λ z. HasRoute routes z) e has)),
    )
