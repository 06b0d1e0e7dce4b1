use Rattle.play_core.proofs.Common.{sym, ap, ◌∙◌, words_in, reading_of_lost, rules}
use Rattle.play_core.proofs.Sending.{lost_line, lost_command, lost_alone}
use Rattle.play_core.proofs.script_line.read_line.Goals as goal

pub returns-in-Some-next_word : goal.returns-in-Some-next_word
returns-in-Some-next_word c =
    c.read_sent-in-Some-next_word.ensures
    ∙ sym (lost_line _ _ _ (ap words_in (sym c.without_comment.ensures) ∙ c.in-Some.ensures) c.if-ne.ensures
    ∙ ap reading_of_lost c.in-Some-next_word.ensures ∙ lost_command _ _)

pub returns-in-None : goal.returns-in-None
returns-in-None c = search (rules, lost_line, lost_alone)
