use Rattle.keymap_lint.proofs.Common.{◌∙◌, false, sym, true≢false}
use Rattle.keymap_core.proofs.Shared.{get_or-replicate_default}
use Rattle.keymap_lint.proofs.typed.none.Goals as goal

pub returns : goal.returns
returns c = λ m n e. absurd (true≢false (sym e ∙ get_or-replicate_default 128 n false))
