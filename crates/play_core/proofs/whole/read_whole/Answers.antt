use Rattle.std.proofs.Common.{arith, refl}
use Rattle.play_core.proofs.whole.read_whole.Goals as goal

pub returns-then-len-gt-LIMIT-clause-reads : goal.returns-then-len-gt-LIMIT-clause-reads
returns-then-len-gt-LIMIT-clause-reads g c = record {
  bytes = c.in_ok-bytes.bytes.items;
  taken = c.in_ok-bytes.ensures.ok.taken;
  full = omega (arith, c.in_ok-bytes.ensures.ok.limit);
  offset = refl;
}
