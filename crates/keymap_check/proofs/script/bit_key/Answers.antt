use Rattle.keymap_check.proofs.Common.{◌≡◌, ◌<◌, sym, ◌∙◌, arith, subst, None, first_below, bears_group, bit_key, rules}
use Rattle.keymap_check.proofs.Common.{is_other}
use Rattle.keymap_core.proofs.Shared.{first_below-found, first_below-more, first_below-none}
use Rattle.keymap_check.proofs.script.bit_key.Goals as goal

pub loop-key-init : goal.loop-key-init
loop-key-init g c = λ m shows is. first_below-none _

pub loop-key-preserved : goal.loop-key-preserved
loop-key-preserved g c = search (rules, first_below-more)

pub returns-then-is_other : goal.returns-then-is_other
unfolding bit_key
returns-then-is_other g c =
    λ m shows is.
    let lt : c.loop-key.key < 128 = omega (arith, c.loop-key-test.true) in
    rw c.key_with.ensures
    (sym (first_below-found (is_other (bears_group m c.args.bit) c.args.tried) c.loop-key.key 128 lt
    (c.loop-key.invariant m shows is) (sym (c.is_other.ensures m shows is) ∙ c.if-is_other.true)))

pub returns : goal.returns
unfolding bit_key
returns g c =
    λ m shows is.
    let e : c.loop-key.key ≡ 128 = omega (arith, c.loop-key-test.false, c.loop-key.auto.key-end) in
    sym (subst (λ n. first_below (is_other (bears_group m c.args.bit) c.args.tried) n ≡ None) e
    (c.loop-key.invariant m shows is))
