use Rattle.keymap_text.proofs.Common.{rules}
use Rattle.keymap_text.proofs.Keys.{packed_front}
use Rattle.keymap_text.proofs.names.key_of_eight.Goals as goal

pub returns : goal.returns
returns c = search (rules, packed_front)
