use Rattle.keymap_diff.proofs.Common.{refl, sym, ◌∙◌, true≢false}
use Rattle.keymap_diff.proofs.Minding.{unpressed-clear, unusable-clear}
use Rattle.keymap_diff.proofs.searched.Searched.may_be_nearer.Goals.{then-is_beyond, else-is_beyond}
use Rattle.keymap_diff.proofs.searched.Searched.may_be_nearer.Goals as goal

pub returns-else-is_usable : goal.returns-else-is_usable
returns-else-is_usable c = λ e b within.
    let m = c.args.both.now.old.now in
    let n = c.args.both.now.new.now in
    let i = c.args.accent in
    elim c.if-is_beyond.branch [
      | then-is_beyond w ↦
          unusable-clear m n i b
          (λ can.
          true≢false (sym can ∙ sym (w.is_usable.ensures m refl) ∙ sym w.value-is ∙ c.if-is_usable.false))
      | else-is_beyond w ↦ unpressed-clear m n i b (c.is_beyond.ensures.within w.if-is_beyond.false b within)
    ]
