use Rattle.keymap_text.proofs.Common.{ℕ, List, ap, ◌∙◌, same_name}
use Rattle.keymap_text.proofs.names.is_name.Goals as goal

pub returns : goal.returns
returns c = c.is_same_name.ensures ∙ ap (λ (name : List ℕ). same_name name c.args.word.now) c.letters.ensures
