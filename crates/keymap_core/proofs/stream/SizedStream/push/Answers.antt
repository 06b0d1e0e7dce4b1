use Rattle.std.proofs.Common.{refl}
use Rattle.keymap_core.proofs.Gathering.{StopsIn-more, passed_on}
use Rattle.keymap_core.proofs.stream.SizedStream.push.Goals as goal

pub returns-in_err-make_room-clause-bytes : goal.returns-in_err-make_room-clause-bytes
returns-in_err-make_room-clause-bytes g c start text gathers =
    passed_on _ _ _ _ c.from_residual.ensures.1
    (StopsIn-more start _ _ _ _ _ refl (c.in_err-make_room.ensures.bytes start text gathers))
