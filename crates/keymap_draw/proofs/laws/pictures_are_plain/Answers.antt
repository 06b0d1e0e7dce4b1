use Rattle.keymap_draw.proofs.Common.{picture_facts}
use Rattle.keymap_draw.proofs.Plain.{told_plain}
use Rattle.keymap_draw.proofs.laws.pictures_are_plain.Goals as goal

pub returns : goal.returns
returns c = λ d bytes h. told_plain (picture_facts d) bytes h
