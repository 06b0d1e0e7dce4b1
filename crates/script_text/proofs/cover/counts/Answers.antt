use Rattle.script_text.proofs.Common.{◌≡◌, ◌++◌, subst, rest_word}
use Rattle.script_text.specs.Cover.{all_counts, purpose_line}
use Rattle.script_text.proofs.cover.counts.Goals as goal

pub returns : goal.returns
returns c =
    let m = c.args.map.now in
    let purpose = rw c.new-text.ensures.items at c.in_ok-push_comment.ensures in
    subst (λ told. c.push_all_counts.new.text.items ≡ purpose_line ++ all_counts (rest_word c.args.cover.now) told m)
    (c.verdicts-verdicts.ensures m) (rw (purpose, c.rest_word.ensures) at c.in_ok-push_all_counts.ensures)
