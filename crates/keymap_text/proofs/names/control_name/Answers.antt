use Rattle.keymap_text.proofs.Common.{ℕ, List, ◌≤◌, length, get_or, ap, sym, subst, ◌∙◌, letters, NAMES}
use Rattle.keymap_text.proofs.ControlNames.{control_letters, short_name}
use Rattle.keymap_text.proofs.names.control_name.Goals as goal

pub returns-clause-name : goal.returns-clause-name
returns-clause-name c =
    c.letters.ensures ∙ ap (λ n. letters (get_or NAMES n _).0) c.control_place-place.ensures.value
    ∙ control_letters c.args.c _ c.requires

pub returns-clause-short : goal.returns-clause-short
returns-clause-short c =
    subst (λ (t : List ℕ). length t ≤ 3) (sym (c.letters.ensures
    ∙ ap (λ n. letters (get_or NAMES n _).0) c.control_place-place.ensures.value
    ∙ control_letters c.args.c _ c.requires)) (short_name c.args.c c.requires)
