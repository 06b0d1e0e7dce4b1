use Rattle.std.proofs.Common.{rules}
use Rattle.console_scripts.proofs.Common.{subst, true, state_of}
use Rattle.console_scripts.proofs.Marking.{keys-none, keys-more}
use Rattle.console_scripts.specs.Inner.Places.{IsWithKey}
use Rattle.console_scripts.proofs.places.mark_in.Goals as goal

pub loop-code-init : goal.loop-code-init
loop-code-init c = keys-none c.args.map.now (state_of c.args.held.now) c.args.marks.now true

pub loop-code-preserved : goal.loop-code-preserved
loop-code-preserved c =
    keys-more c.args.map.now (state_of c.args.held.now) c.loop-code.code c.args.marks.now c.loop-code.marks
    c.mark_of_key-are_all.new.marks c.loop-code.are_all c.mark_of_key-are_all.result c.loop-code.invariant
    (subst (λ k. IsWithKey c.args.map.now (state_of c.args.held.now) k c.loop-code.are_all c.loop-code.marks
    c.mark_of_key-are_all.new.marks c.mark_of_key-are_all.result)
    c.key_with.ensures c.mark_of_key-are_all.ensures)

pub returns : goal.returns
returns c = search rules
