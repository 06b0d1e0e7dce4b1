use Rattle.play_core.proofs.Common.{codes}
use Rattle.play_core.proofs.PlainLines.{key_line, down_names, up_names, repeat_names, rest_of}
use Rattle.play_core.proofs.plain_line.plain_line.Goals as goal

pub returns-in-Some-clause-event : goal.returns-in-Some-clause-event
returns-in-Some-clause-event c =
    key_line _ _ c.args.text.now _ _ _ down_names
    (rest_of c.args.text.now 5 (codes "down ") (c.begins_with_down.ensures c.if-begins_with_down.true))
    c.in-Some.ensures

pub returns-in-Some-plain_key-clause-event : goal.returns-in-Some-plain_key-clause-event
returns-in-Some-plain_key-clause-event c =
    key_line _ _ c.args.text.now _ _ _ up_names
    (rest_of c.args.text.now 3 (codes "up ") (c.begins_with_up.ensures c.if-begins_with_up.true))
    c.in-Some-plain_key.ensures

pub returns-in-Some-plain_key-2-clause-event : goal.returns-in-Some-plain_key-2-clause-event
returns-in-Some-plain_key-2-clause-event c =
    key_line _ _ c.args.text.now _ _ _ repeat_names
    (rest_of c.args.text.now 7 (codes "repeat ") (c.begins_with_repeat.ensures c.if-begins_with_repeat.true))
    c.in-Some-plain_key-2.ensures
