use Rattle.keymap_places.proofs.Common.{rules}
use Rattle.keymap_places.proofs.LineStarts.{end_of_place}
use Rattle.keymap_places.proofs.text_line.end_at.Goals as goal

pub returns-then-next-starts-clause-value : goal.returns-then-next-starts-clause-value
returns-then-next-starts-clause-value c = search (rules, end_of_place)

pub returns-else-next-starts-clause-value : goal.returns-else-next-starts-clause-value
returns-else-next-starts-clause-value c = search (rules, end_of_place)
