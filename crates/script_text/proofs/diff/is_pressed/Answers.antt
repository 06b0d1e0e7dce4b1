use Rattle.script_text.proofs.Common.{get_or_default, rules, sym}
use Rattle.console_core.proofs.Shared.{pressed-start}
use Rattle.script_text.proofs.Differing.{pressed_more}
use Rattle.script_text.proofs.diff.is_pressed.Goals as goal

pub loop-event-init : goal.loop-event-init
loop-event-init c = sym (pressed-start c.args.key)

pub loop-event-preserved : goal.loop-event-preserved
loop-event-preserved c = search (rules, pressed_more, get_or_default)
