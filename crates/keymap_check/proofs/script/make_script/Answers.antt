use Rattle.keymap_check.proofs.Common.{◌<◌, ap, arith, length, lit<, array_vec_len}
use Rattle.keymap_check.proofs.Lengths.{room}
use Rattle.keymap_check.proofs.script.make_script.Goals as goal

pub push_events-requires : goal.push_events-requires
push_events-requires c = omega (arith, ap length c.new-script.ensures, room c.args.keys.now c.args.a.bits c.args.b.bits)

pub push-requires : goal.push-requires
push-requires c =
    let lt : array_vec_len c.push_events.new.script < 11 =
    omega (arith, ap length c.new-script.ensures, room c.args.keys.now c.args.a.bits c.args.b.bits) in
    (lit< tt, lt)
