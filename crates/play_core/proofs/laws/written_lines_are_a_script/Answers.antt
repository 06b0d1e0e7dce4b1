use Rattle.play_core.proofs.Common.{text_of, sent_in}
use Rattle.play_core.proofs.Spelling.{lines-script}
use Rattle.play_core.proofs.Verdicts.{one_list, not_both}
use Rattle.play_core.proofs.laws.written_lines_are_a_script.Goals as goal

pub returns : goal.returns
returns c = record {
  script = lines-script;
  nothing_else = λ lines sent w h. one_list (text_of lines) sent (sent_in lines) h (lines-script lines w);
  no_fault = λ lines f w h. not_both (text_of lines) (sent_in lines) f (lines-script lines w) h;
}
