use Rattle.console_scripts.proofs.Common.{◌∙◌, false, sym, false≢true}
use Rattle.keymap_core.proofs.Shared.{get_or-replicate_default}
use Rattle.console_scripts.proofs.places.no_marks.Goals as goal

pub returns : goal.returns
returns c = λ p has. false≢true (sym (get_or-replicate_default 2048 p false) ∙ has)
