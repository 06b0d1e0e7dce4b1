use Rattle.play_core.proofs.Common.{append-nil, rules}
use Rattle.play_core.proofs.Texts.{text-nil}
use Rattle.play_core.proofs.player.play_sent.Goals as goal

pub returns-in_default-clause-text : goal.returns-in_default-clause-text
returns-in_default-clause-text g c = search (rules, append-nil, text-nil)
