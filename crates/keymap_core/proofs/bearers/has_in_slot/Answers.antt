use Rattle.keymap_core.proofs.Common.{sym, ◌∙◌, holding_action, rules}
use Rattle.keymap_core.proofs.BorneTests.{any-start, slot-none, slot-some, slot-end}
use Rattle.keymap_core.proofs.bearers.has_in_slot.Goals as goal

pub loop-column-init : goal.loop-column-init
loop-column-init g c = λ m shows. any-start _

pub returns-then-is_held : goal.returns-then-is_held
returns-then-is_held g c = search (rules, slot-some)

pub loop-column-preserved : goal.loop-column-preserved
loop-column-preserved g c =
    λ m shows. slot-none m (holding_action c.args.holding) c.args.slot c.loop-column.column
    (c.loop-column.invariant m shows) (rw (← c.cell.ensures m shows) (sym c.is_held.ensures ∙ c.if-is_held.false))

pub returns : goal.returns
returns g c = search (rules, slot-end)
