use Rattle.keymap_fmt.proofs.Quoting.{says_the_same, comments_kept, in_layout}
use Rattle.keymap_fmt.proofs.laws.quoting_says_the_same.Goals as goal

pub returns-clause-tokens : goal.returns-clause-tokens
returns-clause-tokens c = says_the_same

pub returns-clause-comments : goal.returns-clause-comments
returns-clause-comments c = comments_kept

pub returns-clause-layout : goal.returns-clause-layout
returns-clause-layout c = in_layout
