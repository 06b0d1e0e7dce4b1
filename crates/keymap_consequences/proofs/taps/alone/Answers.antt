use Rattle.keymap_consequences.proofs.Common.{◌≡◌, ◌<◌, ◌∙◌, AllPairs, false, subst, sym, true≢false}
use Rattle.std.specs.BTreeSet.{contains}
use Rattle.std.specs.Ordering.{nat_cmp}
use Rattle.keymap_consequences.proofs.Kept.{kept-all, kept-none, kept-push, kept-skip, sorted-pairs, typed-alone}
use Rattle.keymap_consequences.specs.Consequences.{IsTypedAlone}
use Rattle.keymap_consequences.proofs.taps.alone.Goals.{then-not-contains+in_ok-push, else-not-contains}
use Rattle.keymap_consequences.proofs.taps.alone.Goals as goal

pub loop-c-init : goal.loop-c-init
loop-c-init c = λ m n are other. rw (c.new-characters.ensures.items) (kept-none _ _)

pub loop-c-preserved : goal.loop-c-preserved
loop-c-preserved c =
    let xs = c.as_slice-c-items.result.now in
    let x = c.c-item.result in
    elim c.if-not-contains.branch [
      | then-not-contains+in_ok-push w ↦
          rw (w.characters-is, w.in_ok-push.ensures.items)
          (λ m n are other.
          kept-push (λ z. contains nat_cmp c.args.others.now.given.typed z ≡ false) xs c.loop-c.c-index
          c.loop-c.characters.items x (c.loop-c.invariant m n are other)
          (subst (λ ys. AllPairs (λ y z. y < z) ys) (sym c.as_slice-c-items.ensures.value)
          (sorted-pairs _ c.in_ok-typed.ensures.in_order))
          c.loop-c-test.true (sym c.c-item.is) (sym c.contains.ensures ∙ w.if-not-contains.true))
      | else-not-contains w ↦
          rw w.characters-is
          (λ m n are other.
          kept-skip (λ z. contains nat_cmp c.args.others.now.given.typed z ≡ false) xs c.loop-c.c-index
          c.loop-c.characters.items x (c.loop-c.invariant m n are other)
          c.loop-c-test.true (sym c.c-item.is)
          (λ is. true≢false (sym (sym c.contains.ensures ∙ w.if-not-contains.false) ∙ is)))
    ]

pub returns : goal.returns
returns c = λ m n are other.
    let xs = c.as_slice-c-items.result.now in
    kept-all (λ z. contains nat_cmp c.args.others.now.given.typed z ≡ false) (IsTypedAlone m n) xs c.loop-c.c-index
    c.loop-c.characters.items (c.loop-c.invariant m n are other)
    c.loop-c-test.false
    (λ z. typed-alone m n c.args.these.now c.args.others.now xs are other
    (c.as_slice-c-items.ensures.value ∙ c.in_ok-typed.ensures.items) z)
