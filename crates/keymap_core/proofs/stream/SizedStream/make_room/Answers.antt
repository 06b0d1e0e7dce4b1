use Rattle.keymap_core.proofs.Common.{rules}
use Rattle.keymap_core.proofs.Gathering.{Gathers-flushed}
use Rattle.keymap_core.proofs.stream.SizedStream.make_room.Goals as goal

pub returns-in_ok-written-clause-bytes : goal.returns-in_ok-written-clause-bytes
returns-in_ok-written-clause-bytes g c start text gathers = search (rules, Gathers-flushed)
