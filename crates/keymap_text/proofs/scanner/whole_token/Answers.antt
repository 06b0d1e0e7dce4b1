use Rattle.keymap_text.proofs.Common.{arith}
use Rattle.keymap_text.proofs.Fronts.{quoted_fronts, left_fronts, right_fronts}
use Rattle.keymap_text.proofs.scanner.whole_token.Goals as goal

pub returns-else-rest-ne39 : goal.returns-else-rest-ne39
returns-else-rest-ne39 c =
    quoted_fronts c.args.rest.now (omega arith) c.in-39.is (omega arith) (omega arith) (omega arith)

pub returns-in-40 : goal.returns-in-40
returns-in-40 c = left_fronts c.args.rest.now c.requires c.in-40.is

pub returns-in-41 : goal.returns-in-41
returns-in-41 c = right_fronts c.args.rest.now c.requires c.in-41.is
