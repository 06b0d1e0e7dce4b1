use Rattle.keymap_core.proofs.Common.{ℕ, min, sym, ◌∙◌, ap, Option, option_map, rules}
use Rattle.keymap_core.proofs.Taking.{take-rest}
use Rattle.keymap_core.proofs.Numbers.{number-behind, none-behind, none-shorter, cut}
use Rattle.keymap_core.proofs.named.number_of.Goals.{then-word-letters-via-then-word-letters}
use Rattle.keymap_core.proofs.named.number_of.Goals.{then-word-letters-via-else-word-letters+then-not-is_name}
use Rattle.keymap_core.proofs.named.number_of.Goals as goal

abbrev cut_at_255 : Option ℕ → Option ℕ
cut_at_255 = option_map (λ n. min n 255)

pub returns-then-word-letters : goal.returns-then-word-letters
returns-then-word-letters c = elim c.then-word-letters.branch [
  | then-word-letters-via-then-word-letters w ↦
      ap cut_at_255 (sym (none-shorter c.args.letters.now c.args.word.now w.if-word-letters.true))
  | then-word-letters-via-else-word-letters+then-not-is_name w ↦
      ap cut_at_255
      (sym (none-behind c.args.letters.now c.args.word.now (sym w.is_name.ensures ∙ w.if-not-is_name.true)))
]

pub returns : goal.returns
returns c = search (rules, take-rest, cut, number-behind)
