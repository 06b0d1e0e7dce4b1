use Rattle.keymap_diff.proofs.Apart.{script-press, script-release}
use Rattle.keymap_diff.proofs.Common.{◌≡◌, inl, inr, subst, sym, ◌∙◌, answer_to, between, reverse, Press}
use Rattle.keymap_diff.proofs.nearest.tell.Goals as goal

pub returns-then-not-are_same : goal.returns-then-not-are_same
returns-then-not-are_same c =
    inl (script-press c.args.both.now.old.now c.args.both.now.new.now c.args.events.items _ c.deref.result.now
    c.deref-2.result.now c.args.key _ _ c.in_ok-push.ensures.items c.deref.ensures.value c.deref-2.ensures.value
    c.answer-old.ensures c.answer-new.ensures (c.are_same.ensures.differ c.if-not-are_same.true))

pub returns : goal.returns
returns c =
    let m = c.args.both.now.old.now in
    let n = c.args.both.now.new.now in
    let (e, a, b) =
    script-release m n c.args.events.items _ _ c.deref-3.result.now c.deref-4.result.now c.args.key _ _
    c.in_ok-push.ensures.items c.in_ok-push-2.ensures.items c.deref-3.ensures.value c.deref-4.ensures.value
    c.answer-old-2.ensures c.answer-new-2.ensures in
    inr (
      e,
      a,
      b,
      sym (subst (λ z. c.answer-old.result ≡ answer_to (between m m) (reverse z) (Press c.args.key))
          c.deref.ensures.value c.answer-old.ensures)
          ∙ c.are_same.ensures.same c.if-not-are_same.false
          ∙ subst (λ z. c.answer-new.result ≡ answer_to (between n n) (reverse z) (Press c.args.key))
          c.deref-2.ensures.value c.answer-new.ensures,
    )
