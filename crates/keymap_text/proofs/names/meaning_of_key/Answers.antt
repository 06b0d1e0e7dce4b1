use Rattle.keymap_text.proofs.Meanings.{names_true, names_placed, places_inside}
use Rattle.keymap_text.proofs.names.meaning_of_key.Goals as goal

pub key_meaning-requires : goal.key_meaning-requires
key_meaning-requires c = record { means = names_true; placed = names_placed; inside = places_inside }
