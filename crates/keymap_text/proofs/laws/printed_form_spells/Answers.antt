use Rattle.keymap_text.proofs.Common.{printed}
use Rattle.keymap_text.proofs.Printing.{printed_spells}
use Rattle.keymap_text.proofs.Verdicts.{one_map, not_both}
use Rattle.keymap_text.proofs.laws.printed_form_spells.Goals as goal

pub returns : goal.returns
returns c = record {
  spells = printed_spells;
  read_again = λ m n h s. one_map (printed m) n m s (printed_spells m h);
  no_fault = λ m f h e. not_both (printed m) m f (printed_spells m h) e;
}
