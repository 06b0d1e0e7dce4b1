use Rattle.keymap_cover.proofs.Common.{◌∙◌}
use Rattle.keymap_cover.proofs.Showing.{told-shown}
use Rattle.keymap_cover.proofs.cover.show_told.Goals as goal

pub returns : goal.returns
returns g c =
    told-shown g.T.Translator.stands c.args.map.now c.args.script.now c.show_all.new.script c.show_all-2.new.script
    c.deref.result.now c.deref-2.result.now c.len-first.result (c.deref.ensures.value ∙ c.in_ok-keys.ensures)
    (c.deref-2.ensures.value ∙ c.in_ok-pairs.ensures)
    (c.len-first.ensures ∙ c.show_all.new.script.events.ok.0) c.in_ok-show_all.ensures c.in_ok-show_all-2.ensures
