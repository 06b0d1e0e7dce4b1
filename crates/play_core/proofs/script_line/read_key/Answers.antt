use Rattle.play_core.proofs.Common.{sym, ◌∙◌}
use Rattle.play_core.proofs.Sending.{key_of_none, key_of_some}
use Rattle.play_core.proofs.script_line.read_key.Goals as goal

pub returns-in-Some : goal.returns-in-Some
returns-in-Some c =
    let number = c.in-Some.ensures.some in
    c.ok_or.ensures.value
    ∙ key_of_some c.args.number.now c.in-Some.number c.new.result number.0 number.1 c.new.ensures.some
    c.new.ensures.same

pub returns-in-None : goal.returns-in-None
returns-in-None c = sym (key_of_none c.args.number.now c.in-None.ensures.none)
