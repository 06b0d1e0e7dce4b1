use Rattle.script_text.proofs.KeyboardScripts.{shows-keyboard-cover}
use Rattle.script_text.proofs.laws.keyboard_scripts_send_the_events.Goals as goal

pub returns : goal.returns
returns c = shows-keyboard-cover
