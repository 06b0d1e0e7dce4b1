use Rattle.keymap_check.proofs.Common.{arith, sym, leaves_modifier_on, scripts_of}
use Rattle.keymap_check.proofs.Firsts.{try-found}
use Rattle.keymap_check.proofs.demonstration.try_from.Goals as goal

pub returns-in-Some : goal.returns-in-Some
returns-in-Some c =
    sym (try-found (leaves_modifier_on c.args.map.now) (scripts_of c.args.keys.now c.args.key c.args.a.bits)
    c.loop-b.b 16 c.in-Some.script.items (omega arith) c.loop-b.invariant
    (sym (c.in-Some.ensures c.args.map.now c.start-start.ensures)))
