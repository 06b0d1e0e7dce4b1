use Rattle.keymap_draw.proofs.Parts.{classes_inner}
use Rattle.keymap_draw.proofs.place.legend_classes.Goals as goal

pub returns-clause-inner : goal.returns-clause-inner
returns-clause-inner c = classes_inner c.push_class-3.new.classes.items c.push_class-3.ensures.classes
