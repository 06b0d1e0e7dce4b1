use Rattle.keymap_consequences.proofs.Common.{◌≡◌, ◌<◌, ◌∙◌, AllPairs, false, subst, sym, true≢false}
use Rattle.console_scripts.specs.Typing.{CanType}
use Rattle.keymap_consequences.proofs.Kept.{kept-all, kept-none, kept-push, kept-skip, sorted-pairs, typed-farther}
use Rattle.keymap_consequences.specs.Consequences.{IsFarther, TakesMore}
use Rattle.keymap_consequences.proofs.taps.farther.Goals.{then-is_farther+in_ok-push, else-is_farther}
use Rattle.keymap_consequences.proofs.taps.farther.Goals as goal

pub loop-c-init : goal.loop-c-init
loop-c-init c = λ m n are other. rw (c.new-characters.ensures.items) (kept-none _ _)

pub loop-c-preserved : goal.loop-c-preserved
loop-c-preserved c =
    let xs = c.as_slice-c-items.result.now in
    let x = c.c-item.result in
    elim c.if-is_farther.branch [
      | then-is_farther+in_ok-push w ↦
          rw (w.characters-is, w.in_ok-push.ensures.items)
          (λ m n are other.
          kept-push (λ z. CanType n z × TakesMore m n z) xs c.loop-c.c-index
          c.loop-c.characters.items x (c.loop-c.invariant m n are other)
          (subst (λ ys. AllPairs (λ y z. y < z) ys) (sym c.as_slice-c-items.ensures.value)
          (sorted-pairs _ c.in_ok-typed.ensures.in_order))
          c.loop-c-test.true (sym c.c-item.is) ((c.is_farther.ensures m n are other).0 w.if-is_farther.true))
      | else-is_farther w ↦
          rw w.characters-is
          (λ m n are other.
          kept-skip (λ z. CanType n z × TakesMore m n z) xs c.loop-c.c-index
          c.loop-c.characters.items x (c.loop-c.invariant m n are other)
          c.loop-c-test.true (sym c.c-item.is)
          (λ is. true≢false (sym ((c.is_farther.ensures m n are other).1 is) ∙ w.if-is_farther.false)))
    ]

pub returns : goal.returns
returns c = λ m n are other.
    let xs = c.as_slice-c-items.result.now in
    kept-all (λ z. CanType n z × TakesMore m n z) (IsFarther m n) xs c.loop-c.c-index
    c.loop-c.characters.items (c.loop-c.invariant m n are other)
    c.loop-c-test.false
    (λ z. typed-farther m n c.args.these.now c.args.others.now xs are other
    (c.as_slice-c-items.ensures.value ∙ c.in_ok-typed.ensures.items) z)
