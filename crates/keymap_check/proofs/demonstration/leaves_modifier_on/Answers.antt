use Rattle.keymap_check.proofs.Common.{sym, ◌∙◌, between}
use Rattle.keymap_check.proofs.Played.{played, stays_off}
use Rattle.keymap_check.proofs.demonstration.leaves_modifier_on.Goals as goal

pub returns-then-is_any_on : goal.returns-then-is_any_on
returns-then-is_any_on c m started =
    rw (played c.args.keys.now c.args.key c.args.a.bits c.args.b.bits)
    (c.is_any_on-then-is_any_on.ensures (between m m) _
    (c.deliver-then-is_any_on.ensures (between m m) _
    (c.step-2.ensures.next (between m m) _
    (c.step.ensures.next (between m m) _
    (c.deliver-2.ensures (between m m) _
    (c.deliver.ensures (between m m) _ (c.copied-console.ensures (between m m) _ started)))))))

pub returns-else-is_any_on : goal.returns-else-is_any_on
returns-else-is_any_on c m started =
    let on =
    c.is_any_on.ensures (between m m) _
    (c.step-2.ensures.next (between m m) _
    (c.step.ensures.next (between m m) _
    (c.deliver-2.ensures (between m m) _
    (c.deliver.ensures (between m m) _ (c.copied-console.ensures (between m m) _ started)))))
    in
    rw (played c.args.keys.now c.args.key c.args.a.bits c.args.b.bits)
    (sym (stays_off (between m m) _ c.args.keys.now c.args.b.bits 0 (sym on ∙ c.if-is_any_on.false)))
