use Rattle.keymap_fmt.proofs.Comments.{beside_token, own_line, own_line_apart, first_line, line_ended}
use Rattle.keymap_fmt.proofs.laws.comments_keep_their_place.Goals as goal

pub returns-clause-beside : goal.returns-clause-beside
returns-clause-beside c = beside_token

pub returns-clause-next_line : goal.returns-clause-next_line
returns-clause-next_line c = own_line

pub returns-clause-apart : goal.returns-clause-apart
returns-clause-apart c = own_line_apart

pub returns-clause-first : goal.returns-clause-first
returns-clause-first c = first_line

pub returns-clause-ends : goal.returns-clause-ends
returns-clause-ends c = line_ended
