use Rattle.keymap_lint_text.proofs.Headed.{lint_plain}
use Rattle.keymap_names.proofs.Shared.{name_line}
use Rattle.keymap_lint_text.proofs.laws.printed_lines_are_plain.Goals as goal

pub returns : goal.returns
returns c = record { all = lint_plain; name = name_line }
