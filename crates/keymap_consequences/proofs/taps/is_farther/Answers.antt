use Rattle.keymap_consequences.proofs.Common.{◌∙◌, false≢true, sym}
use Rattle.keymap_consequences.proofs.Kept.{typed-has}
use Rattle.keymap_consequences.proofs.taps.is_farther.Goals as goal

pub returns-then-contains : goal.returns-then-contains
returns-then-contains c = λ m n are other. (
  (λ more. (
    (typed-has n c.args.others.now other c.args.c).0 (sym c.contains.ensures ∙ c.if-contains.true),
    (c.takes_more.ensures m n are.1 other.1).0 more,
  )),
  λ far. (c.takes_more.ensures m n are.1 other.1).1 far.1,
)

pub returns-else-contains : goal.returns-else-contains
returns-else-contains c = λ m n are other. (
  (λ more. absurd (false≢true (sym c.if-contains.false ∙ more))),
  λ far.
      absurd (false≢true (sym c.if-contains.false ∙ (c.contains.ensures
      ∙ (typed-has n c.args.others.now other c.args.c).1 far.0))),
)
