use Rattle.keymap_draw.proofs.Common.{sym, ◌∙◌, arith, bears_dead_key}
use Rattle.keymap_core.proofs.Shared.{any-none, any-some, any-start}
use Rattle.keymap_draw.proofs.lists.bears_dead_key.Goals as goal

pub loop-key-init : goal.loop-key-init
loop-key-init c = any-start _

pub returns-then-slot_bears_dead_key : goal.returns-then-slot_bears_dead_key
unfolding bears_dead_key
returns-then-slot_bears_dead_key c =
    sym (any-some _ c.loop-key.key 128 (omega arith)
    (sym c.slot_bears_dead_key.ensures ∙ c.if-slot_bears_dead_key.true))

pub loop-key-preserved : goal.loop-key-preserved
loop-key-preserved c =
    any-none _ c.loop-key.key c.loop-key.invariant
    (sym c.slot_bears_dead_key.ensures ∙ c.if-slot_bears_dead_key.false)
