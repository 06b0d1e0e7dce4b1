use Rattle.keymap_places.proofs.Common.{rules}
use Rattle.keymap_places.proofs.Parts.{slot_tokens, cell_at, lock_at, accent_tokens, own_at, pair_at}
use Rattle.keymap_places.proofs.laws.parts_of_definitions.Goals as goal

pub returns : goal.returns
returns c = search (rules, slot_tokens, cell_at, lock_at, accent_tokens, own_at, pair_at)
