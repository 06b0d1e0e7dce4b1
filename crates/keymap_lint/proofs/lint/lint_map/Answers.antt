use Rattle.keymap_lint.proofs.Common.{◌≡◌, ◌∙◌}
use Rattle.keymap_places.specs.Placed.{places_of}
use Rattle.keymap_lint.proofs.lint.lint_map.Goals as goal

pub returns : goal.returns
returns c =
    let r = c.in_ok-placed.ensures.definitions c.args.map.now c.requires in
    let rows : c.deref.result.now ≡ places_of r.0 = c.deref.ensures.value ∙ r.2 in
    let spans = c.deref-2.ensures.value ∙ c.in_ok-placed.ensures.spans in
    (r.0, r.1, (simp (rows, spans) at c.in_ok-lint.ensures))
