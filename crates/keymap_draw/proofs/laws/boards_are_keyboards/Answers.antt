use Rattle.keymap_draw.proofs.Boards as lemma
use Rattle.keymap_draw.proofs.laws.boards_are_keyboards.Goals as goal

pub returns-clause-rows : goal.returns-clause-rows
returns-clause-rows c = lemma.boards_are_keyboards

pub returns-clause-once : goal.returns-clause-once
returns-clause-once c = lemma.each_key_once

pub returns-clause-apart : goal.returns-clause-apart
returns-clause-apart c = lemma.no_two_overlap

pub returns-clause-on_panel : goal.returns-clause-on_panel
returns-clause-on_panel c = lemma.all_lie_on_the_panel
