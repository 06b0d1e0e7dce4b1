use Rattle.keymap_check.proofs.Common.{gathered-none, event_at}
use Rattle.keymap_check.proofs.Played.{one_more, none_more}
use Rattle.keymap_check.proofs.demonstration.deliver.Goals.{in-Some, in-None}
use Rattle.keymap_check.proofs.demonstration.deliver.Goals as goal

pub loop-bit-init : goal.loop-bit-init
loop-bit-init g c =
    λ ms h s. rw (gathered-none (event_at c.args.is_press c.args.keys.now c.args.set.bits c.args.except.bits)) s

pub loop-bit-preserved : goal.loop-bit-preserved
loop-bit-preserved g c =
    elim c.match-event_at.branch [
      | in-Some w ↦ λ ms h s.
          rw (
            w.console-is,
            ← one_more (event_at c.args.is_press c.args.keys.now c.args.set.bits c.args.except.bits) c.loop-bit.bit
                w.in-Some.event h w.in-Some.ensures,
          )
          (w.step.ensures.next ms _ (c.loop-bit.invariant ms h s))
      | in-None w ↦ λ ms h s.
          rw (
            w.console-is,
            ← none_more (event_at c.args.is_press c.args.keys.now c.args.set.bits c.args.except.bits) c.loop-bit.bit h
                w.in-None.ensures,
          )
          (c.loop-bit.invariant ms h s)
    ]
