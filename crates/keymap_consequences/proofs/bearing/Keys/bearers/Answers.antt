use Rattle.keymap_consequences.proofs.Common.{◌≡◌, ◌<◌, ◌∙◌, arith, subst, sym}
use Rattle.keymap_core.specs.Bearers.{Bears}
use Rattle.keymap_consequences.proofs.Holders.{IsHolder}
use Rattle.keymap_consequences.proofs.Listing.{stand-all, stand-lists, stand-none, stand-push, stand-skip}
use Rattle.keymap_consequences.proofs.bearing.Keys.bearers.Goals.{then-bears+in_ok-push, else-bears}
use Rattle.keymap_consequences.proofs.bearing.Keys.bearers.Goals as goal

pub loop-code-init : goal.loop-code-init
loop-code-init c = rw (c.new-keys.ensures.items) (stand-none _ _ _)

pub loop-code-preserved : goal.loop-code-preserved
loop-code-preserved c =
    let B = IsHolder c.args.self.now.map.now c.args.holding in
    let k = c.key_with-key.result in
    let at : k ≡ c.loop-code.code = c.key_with-key.ensures in
    let lt : c.loop-code.code < 128 = omega (arith, c.loop-code-test.true) in
    elim c.if-bears.branch [
      | then-bears+in_ok-push w ↦
          rw (w.keys-is, w.in_ok-push.ensures.items)
          (stand-push (λ z. z) B B c.loop-code.code c.loop-code.keys.items k c.loop-code.invariant at
          (subst (λ z. z < 128) (sym at) lt, c.bears.ensures.bears w.if-bears.true))
      | else-bears w ↦
          rw w.keys-is
          (stand-skip (λ z. z) B B c.loop-code.code c.loop-code.keys.items c.loop-code.invariant
          (λ is. c.bears.ensures.none w.if-bears.false
          (subst (λ z. Bears c.args.self.now.map.now z c.args.holding) (sym at) is.1)))
    ]

pub returns : goal.returns
returns c =
    let B = IsHolder c.args.self.now.map.now c.args.holding in
    stand-lists (λ z. z) B B c.loop-code.keys.items
    (stand-all (λ z. z) B B c.loop-code.code c.loop-code.keys.items c.loop-code.invariant
    (λ i is. let lt = is.0 in omega (arith, lt, c.loop-code-test.false)))
    (λ x is. is) (λ x y a b e. e)
