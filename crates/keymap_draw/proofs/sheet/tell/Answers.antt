use Rattle.keymap_draw.proofs.Common.{◌++◌, ◌∙◌, ap, List, Fact, ReadAs, last_facts, reverse, within}
use Rattle.keymap_draw.specs.Sheets.{facts_over}
use Rattle.keymap_draw.proofs.Parts.{led}
use Rattle.keymap_draw.proofs.Scans.{told, is_within, turned}
use Rattle.keymap_draw.proofs.sheet.tell.Goals as goal
use Rattle.keymap_draw.proofs.sheet.tell.Given

new : (g : Given.Over) → goal.In_ok-push_filled g → List Fact
new g c = facts_over g.P.Part.begun c.args.words.now c.args.contents.now

read : (g : Given.Over) (c : goal.In_ok-push_filled g)
    → ReadAs (within g.Q.Part.begun (reverse (new g c) ++ last_facts c.sheet.inside.text.items))
    c.push_filled.new.text.items
unfolding new
read g c =
    led c.args.words.now c.args.contents.now (new g c) c.sheet.invariant c.in_ok-push_filled.ensures c.requires.ready
    c.requires.read

pub invariant_of-result : goal.invariant_of-result
invariant_of-result g c = is_within (read g c)

pub returns : goal.returns
unfolding new
returns g c =
    told (read g c) ∙ turned (new g c) (last_facts c.sheet.inside.text.items) ∙ ap (λ fs. fs ++ new g c) c.sheet.view_is
