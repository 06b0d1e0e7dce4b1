use Rattle.keymap_text.proofs.Common.{rules, arith, refl, limit, length-take-le}
use Rattle.keymap_text.proofs.Feeding.{fed_none, fed_more, fed_early, fed_whole, fed_fails, fed_past, at_once_more}
use Rattle.keymap_text.proofs.Feeding.{at_once_whole}
use Rattle.keymap_text.proofs.source.read_from.Goals as goal

pub loop-taken-init : goal.loop-taken-init
loop-taken-init g c = record { fed = fed_none _ _ c.in-Ok.ensures; within = search rules; sound = refl }

pub returns-in-Ok-eq0-clause-reads : goal.returns-in-Ok-eq0-clause-reads
returns-in-Ok-eq0-clause-reads g c =
    let fed = c.loop-taken.invariant.fed in
    let size = length-take-le c.min-room.result c.loop-taken.buffer (omega arith) in
    fed_whole _ c.read.new.buffer c.conclude.result fed c.loop-taken.invariant.within c.in-Ok-eq0.field-0-test
    c.in-Ok-eq0.ensures.bytes.0 (c.in-Ok-eq0.ensures.bytes.1 c.in-Ok-eq0.field-0-test (omega (arith, size)))
    (c.conclude.ensures fed.text fed.stands)

pub returns-in-Err-feed-clause-reads : goal.returns-in-Err-feed-clause-reads
returns-in-Err-feed-clause-reads g c =
    let fed = c.loop-taken.invariant.fed in
    let size = length-take-le c.min-room.result c.loop-taken.buffer (omega arith) in
    fed_early c.feed.new.self c.read.new.buffer fed c.in-Ok-read.ensures.bytes.0 c.in-Ok-read.ensures.bound
    (omega (arith, size, c.in-Ok-read.ensures.bound)) (c.in-Err-feed.ensures.stands fed.text fed.stands)

pub loop-taken-preserved : goal.loop-taken-preserved
loop-taken-preserved g c =
    let fed = c.loop-taken.invariant.fed in
    let size = length-take-le c.min-room.result c.loop-taken.buffer (omega arith) in
    record {
      fed = fed_more c.read.new.buffer fed c.in-Ok-read.ensures.bytes.0 c.in-Ok-read.ensures.bound
          (c.in_default-feed.ensures.stands fed.text fed.stands);
      within = omega (arith, size, c.in-Ok-read.ensures.bound);
      sound = search rules;
    }

pub returns-in-Ok-eq0-read-clause-reads : goal.returns-in-Ok-eq0-read-clause-reads
returns-in-Ok-eq0-read-clause-reads g c =
    let fed = c.loop-taken.invariant.fed in
    fed_whole _ c.read-2.new.buffer c.conclude-in-Ok-eq0-read.result fed c.loop-taken.invariant.within
    c.in-Ok-eq0-read.field-0-test c.in-Ok-eq0-read.ensures.bytes.0
    (c.in-Ok-eq0-read.ensures.bytes.1 c.in-Ok-eq0-read.field-0-test (omega arith))
    (c.conclude-in-Ok-eq0-read.ensures fed.text fed.stands)

pub returns-in-Ok-read-2-clause-reads : goal.returns-in-Ok-read-2-clause-reads
returns-in-Ok-read-2-clause-reads g c =
    rw c.read_fault-in-Ok-read-2.ensures (fed_past (g.R.Read.remaining c.read-2.new.self) c.read-2.new.buffer
    c.loop-taken.invariant.fed (omega arith) (omega arith) c.in-Ok-read-2.ensures.bound (omega arith)
    c.in-Ok-read-2.ensures.bytes.0)

pub returns-in-Err-read-clause-reads : goal.returns-in-Err-read-clause-reads
returns-in-Err-read-clause-reads g c =
    rw c.read_fault-in-Err-read.ensures (fed_fails (g.R.Read.remaining c.read-2.new.self) limit
    c.loop-taken.invariant.fed (omega arith) c.loop-taken.invariant.within c.in-Err-read.ensures.bytes)

pub returns-in-Ok-eq0-clause-at_once : goal.returns-in-Ok-eq0-clause-at_once
returns-in-Ok-eq0-clause-at_once g c =
    at_once_whole _ c.read.new.buffer c.conclude.result c.loop-taken.invariant.fed c.in-Ok-eq0.field-0-test
    c.in-Ok-eq0.ensures.bytes.0

pub returns-in-Err-feed-clause-at_once : goal.returns-in-Err-feed-clause-at_once
returns-in-Err-feed-clause-at_once g c =
    let size = length-take-le c.min-room.result c.loop-taken.buffer (omega arith) in
    at_once_more c.in-Err-feed.fault c.read.new.buffer c.loop-taken.invariant.fed c.in-Ok-read.ensures.bytes.0
    c.in-Ok-read.ensures.bound (omega (arith, size, c.in-Ok-read.ensures.bound))

pub returns-in-Ok-eq0-read-clause-at_once : goal.returns-in-Ok-eq0-read-clause-at_once
returns-in-Ok-eq0-read-clause-at_once g c =
    at_once_whole _ c.read-2.new.buffer c.conclude-in-Ok-eq0-read.result c.loop-taken.invariant.fed
    c.in-Ok-eq0-read.field-0-test c.in-Ok-eq0-read.ensures.bytes.0

pub returns-in-Err-clause-reads : goal.returns-in-Err-clause-reads
returns-in-Err-clause-reads g c =
    rw c.read_fault.ensures (fed_fails (g.R.Read.remaining c.read.new.self) c.loop-taken.taken
    c.loop-taken.invariant.fed refl c.loop-taken.invariant.within c.in-Err.ensures.bytes)

pub returns-in-Err-clause-at_once : goal.returns-in-Err-clause-at_once
returns-in-Err-clause-at_once g c = rw c.read_fault.ensures tt

pub returns-in-Ok-read-2-clause-at_once : goal.returns-in-Ok-read-2-clause-at_once
returns-in-Ok-read-2-clause-at_once g c = rw c.read_fault-in-Ok-read-2.ensures tt

pub returns-in-Err-read-clause-at_once : goal.returns-in-Err-read-clause-at_once
returns-in-Err-read-clause-at_once g c = rw c.read_fault-in-Err-read.ensures tt

pub returns-in-Err-read-clause-failed : goal.returns-in-Err-read-clause-failed
returns-in-Err-read-clause-failed g c = rw c.read_fault-in-Err-read.ensures c.in-Err-read.ensures.failed
