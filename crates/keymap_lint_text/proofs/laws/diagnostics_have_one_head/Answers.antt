use Rattle.keymap_lint_text.proofs.Headed.{all_judged, lint_headed}
use Rattle.keymap_lint_text.proofs.laws.diagnostics_have_one_head.Goals as goal

pub returns : goal.returns
returns c = record { remarks = all_judged; heads = lint_headed }
