-- What a look tells, by what each answer tells of its state.
use Rattle.console_states.proofs.Common.{ℕ, Option, Some, None, Held, Entries}
use Rattle.console_states.specs.Looks.{IsLook}
use Rattle.console_states.specs.declared.look.KeyAt.{KeyAt}

pub look_tells : {P R : Held → Type 0} {Q S : Held → ℕ → Type 0} {es : Entries} {o : Option KeyAt}
    → IsLook P Q es o → ((h : Held) → P h → R h) → ((h : Held) (k : ℕ) → Q h k → S h k) → IsLook R S es o
look_tells {o = None} look none some = record { is = λ j x at lt. none x.0 (look.is j x at lt) }
look_tells {o = Some at} look none some =
    let ((x, here, holds), below) = look.is in
    record { is = ((x, here, some x.0 at.key holds), λ j y there lt. none y.0 (below j y there lt)) }
