use Rattle.keymap_places.proofs.InForce.{slot_in_force, no_slot, accent_in_force, no_accent}
use Rattle.keymap_places.proofs.laws.definitions_in_force.Goals as goal

pub returns : goal.returns
returns c = record { slot = slot_in_force; no_slot = no_slot; accent = accent_in_force; no_accent = no_accent }
