use Rattle.std.proofs.Common.{ap, sym, ◌∙◌, rules}
use Rattle.keymap_core.specs.Accents.{AccentValue, first_result}
use Rattle.keymap_diff.proofs.Bases.{pair_one}
use Rattle.keymap_diff.proofs.compared.pair.Goals as goal

pub returns-then-ne : goal.returns-then-ne
returns-then-ne c =
    pair_one c.args.versions.now c.args.accent c.args.base c.result_of-old.result c.result_of-new.result
    c.is_unseen.result c.requires.accent
    (sym (c.result_of-old.ensures ∙ ap (λ ps. first_result ps c.args.base)
    (c.pairs.ensures.value ∙ ap (λ (a : AccentValue). a.pairs) c.accent_or_blank.ensures)))
    (sym (c.result_of-new.ensures ∙ ap (λ ps. first_result ps c.args.base)
    (c.pairs-2.ensures.value ∙ ap (λ (a : AccentValue). a.pairs) c.accent_or_blank-2.ensures)))
    (search rules) c.is_unseen.ensures
