use Rattle.keymap_tables.proofs.Images.{image-n_keys, image-n_accs, slot-part, accent-part}
use Rattle.keymap_tables.proofs.AtPlaces.{cell-number, cell-mark, slot-flag-at}
use Rattle.keymap_tables.proofs.laws.an_image_is_by_position.Goals as goal

pub returns-clause-n_keys : goal.returns-clause-n_keys
returns-clause-n_keys c = image-n_keys

pub returns-clause-slots : goal.returns-clause-slots
returns-clause-slots c = slot-part

pub returns-clause-cells : goal.returns-clause-cells
returns-clause-cells c = cell-number

pub returns-clause-marks : goal.returns-clause-marks
returns-clause-marks c = cell-mark

pub returns-clause-flags : goal.returns-clause-flags
returns-clause-flags c = slot-flag-at

pub returns-clause-n_accs : goal.returns-clause-n_accs
returns-clause-n_accs c = image-n_accs

pub returns-clause-accents : goal.returns-clause-accents
returns-clause-accents c = accent-part
