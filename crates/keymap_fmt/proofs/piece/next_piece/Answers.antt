use Rattle.keymap_fmt.proofs.Common.{arith, ◌∙◌, rules}
use Rattle.keymap_fmt.proofs.Finding.{blank_at, nothing_at, begins_token}
use Rattle.keymap_fmt.proofs.piece.next_piece.Goals as goal

pub loop-i-preserved : goal.loop-i-preserved
loop-i-preserved c = search (rules, blank_at)

pub token-requires-clause-stands : goal.token-requires-clause-stands
token-requires-clause-stands c =
    begins_token c.args.text.now c.loop-i.i c.loop-i-test.true c.loop-i.invariant.behind (omega arith) (omega arith)

pub returns : goal.returns
returns c =
    c.loop-i.invariant.same ∙ nothing_at c.args.text.now c.loop-i.i c.loop-i.standing (omega arith)
