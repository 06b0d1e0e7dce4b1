use Rattle.keymap_core.proofs.Common.{rules}
use Rattle.keymap_core.proofs.BorneTests.{any-start, any-none, half-some, half-end}
use Rattle.keymap_core.proofs.bearers.has_in_half.Goals as goal

pub loop-key-init : goal.loop-key-init
loop-key-init g c = λ m shows. any-start _

pub returns-then-has_in_slot : goal.returns-then-has_in_slot
returns-then-has_in_slot g c = search (rules, half-some)

pub loop-key-preserved : goal.loop-key-preserved
loop-key-preserved g c = search (rules, any-none)

pub returns : goal.returns
returns g c = search (rules, half-end)
