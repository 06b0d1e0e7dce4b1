use Rattle.keymap_consequences.proofs.taps.changes.Goals as goal

pub returns : goal.returns
returns c = λ m n are other. record {
  types_no_longer = c.in_ok-alone.ensures m n are other;
  types_now = c.in_ok-alone-2.ensures n m other are;
  more_presses = c.in_ok-farther.ensures m n are other;
  fewer_presses = c.in_ok-farther-2.ensures n m other are;
  gives_no_longer = c.in_ok-given_alone.ensures m n are.0.1 other.0.1;
  gives_now = c.in_ok-given_alone-2.ensures n m other.0.1 are.0.1;
}
