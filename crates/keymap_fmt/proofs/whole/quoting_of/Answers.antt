use Rattle.keymap_fmt.proofs.Common.{ap, pieces, rendered}
use Rattle.keymap_fmt.proofs.Writing.{off_stays}
use Rattle.keymap_fmt.proofs.whole.quoting_of.Goals as goal

pub returns-in-Kept : goal.returns-in-Kept
returns-in-Kept c = rw c.in-Kept.is (ap rendered (off_stays 0 (pieces c.args.text.now)))
