use Rattle.keymap_check.proofs.Common.{arith, sym, leaves_modifier_on, scripts_with}
use Rattle.keymap_check.proofs.Firsts.{try-found}
use Rattle.keymap_check.proofs.demonstration.try_key.Goals as goal

pub returns-in-Some : goal.returns-in-Some
returns-in-Some c =
    sym (try-found (leaves_modifier_on c.args.map.now) (scripts_with c.args.keys.now c.args.key) c.loop-a.a 16
    c.in-Some.script.items (omega arith) c.loop-a.invariant (sym c.in-Some.ensures))
