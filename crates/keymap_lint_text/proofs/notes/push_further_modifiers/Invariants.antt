use Rattle.keymap_lint_text.proofs.Common.{◌≡◌, ◌++◌, take, flat_map}
use Rattle.keymap_lint_text.specs.Notes.{further_modifier}
use Rattle.keymap_lint_text.proofs.notes.push_further_modifiers.Given as goal

abbrev pub invariant-loop-modifier : goal.invariant-loop-modifier
invariant-loop-modifier l =
    l.text.items ≡ l.fn.text.items ++ flat_map further_modifier (take l.modifier-index l.modifiers)
