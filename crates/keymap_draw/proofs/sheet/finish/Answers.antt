use Rattle.keymap_draw.proofs.Common.{[], ◌∷◌, ◌++◌, ◌∙◌, ap, refl, reverse, List, Some, Fact, ReadAs, at, Text}
use Rattle.keymap_draw.proofs.Common.{Number, last_facts}
use Rattle.keymap_draw.specs.Pictures.{colour_key}
use Rattle.keymap_draw.specs.Sheets.{ids}
use Rattle.keymap_draw.proofs.Parts.{behind}
use Rattle.keymap_draw.proofs.Scans.{turned_back}
use Rattle.keymap_draw.specs.declared.words.TheConstants as words
use Rattle.keymap_draw.proofs.sheet.finish.Goals as goal

end : goal.In_ok-push_filled → List Fact
end c = colour_key c.args.y

read : (c : goal.In_ok-push_filled)
    → ReadAs (at Text (record {
      begun = [];
      ids = ids;
      facts = reverse (end c) ++ last_facts c.sheet.inside.text.items;
    })) c.push_filled.new.text.items
unfolding end colour_key
read c = behind words.END.now (Number c.args.y ∷ []) c.sheet.invariant c.in_ok-push_filled.ensures refl refl

pub returns : goal.returns
unfolding end
returns c = record {
  ids = ids;
  scanned = (read c).scanned ∙ ap (λ fs. Some (at Text (record { begun = []; ids = ids; facts = fs })))
      (turned_back (end c) (last_facts c.sheet.inside.text.items) c.args.sheet c.sheet.view_is);
}
