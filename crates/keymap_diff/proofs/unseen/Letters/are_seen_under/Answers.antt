use Rattle.std.proofs.Common.{rules}
use Rattle.keymap_diff.proofs.unseen.Letters.are_seen_under.Goals as goal

pub returns-else-old-new-clause-unseen : goal.returns-else-old-new-clause-unseen
returns-else-old-new-clause-unseen c = search rules
