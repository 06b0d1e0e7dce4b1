use Rattle.kmap_runs.proofs.Common.{rules}
use Rattle.std.proofs.lemmas.List.{get_or-take, length-take-le}
use Rattle.kmap_runs.proofs.Sentences.{room-for, one-further}
use Rattle.kmap_runs.proofs.sentence.offset_of.Goals as goal

pub overflow_add-offset : goal.overflow_add-offset
overflow_add-offset c = search (rules, length-take-le, get_or-take, room-for)

pub loop-c-preserved : goal.loop-c-preserved
loop-c-preserved c = search (rules, length-take-le, one-further, get_or-take)
