use Rattle.script_text.proofs.CoverScripts.{cover-sends}
use Rattle.script_text.proofs.laws.cover_scripts_send_the_events.Goals as goal

pub returns : goal.returns
returns c = cover-sends
