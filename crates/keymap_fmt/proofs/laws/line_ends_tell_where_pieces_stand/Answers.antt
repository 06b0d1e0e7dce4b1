use Rattle.keymap_fmt.proofs.Comments.{standing_same, standing_first, standing_next, standing_apart}
use Rattle.keymap_fmt.proofs.Comments.{standing_behind_comment}
use Rattle.keymap_fmt.proofs.laws.line_ends_tell_where_pieces_stand.Goals as goal

pub returns-clause-same : goal.returns-clause-same
returns-clause-same c = standing_same

pub returns-clause-first : goal.returns-clause-first
returns-clause-first c = standing_first

pub returns-clause-next_line : goal.returns-clause-next_line
returns-clause-next_line c = standing_next

pub returns-clause-apart : goal.returns-clause-apart
returns-clause-apart c = standing_apart

pub returns-clause-behind_comment : goal.returns-clause-behind_comment
returns-clause-behind_comment c = standing_behind_comment
