use Rattle.keymap_check.proofs.Common.{arith, sym, leaves_modifier_on, tried_at}
use Rattle.keymap_check.proofs.Firsts.{try-found}
use Rattle.keymap_check.proofs.demonstration.first_script.Goals as goal

pub returns-in-Some : goal.returns-in-Some
returns-in-Some c =
    sym (try-found (leaves_modifier_on c.args.map.now) (tried_at c.args.map.now) c.loop-key.key 128
    c.in-Some.script.items (omega arith) c.loop-key.invariant (sym c.in-Some.ensures))
