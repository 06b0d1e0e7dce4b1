use Rattle.keymap_draw.proofs.Common.{◌≡◌, ◌∙◌, [], sym, eqb-true}
use Rattle.std.proofs.lemmas.List.{nil_from_length}
use Rattle.keymap_draw.proofs.name.name_of.Goals as goal

pub returns-then-is_empty-clause-value : goal.returns-then-is_empty-clause-value
returns-then-is_empty-clause-value c =
    let none : c.args.given.now ≡ [] =
    nil_from_length c.args.given.now (eqb-true _ 0 (sym c.is_empty.ensures ∙ c.if-is_empty.true)) in
    rw none c.unnamed.ensures
