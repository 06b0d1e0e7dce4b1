use Rattle.keymap_lint_text.specs.Said.{message_text}
use Rattle.keymap_lint_text.proofs.said.kind_message.Goals as goal

pub returns-in-NoKey : goal.returns-in-NoKey
unfolding message_text
returns-in-NoKey c = rw (c.in-NoKey.is, ← c.text.ensures) c.no_key.ensures

pub returns-in-NoShift : goal.returns-in-NoShift
unfolding message_text
returns-in-NoShift c = rw c.in-NoShift.is c.filled.ensures

pub returns-in-MixedKey : goal.returns-in-MixedKey
unfolding message_text
returns-in-MixedKey c = rw (c.in-MixedKey.is, ← c.never_sticks.ensures) c.mixed_key.ensures

pub returns-in-ZeroAccent : goal.returns-in-ZeroAccent
unfolding message_text
returns-in-ZeroAccent c =
    rw (c.in-ZeroAccent.is, ← c.accent_name.ensures, ← c.as_slice-in-ZeroAccent.ensures.value)
    c.filled-in-ZeroAccent.ensures

pub returns-in-DefinedAgain : goal.returns-in-DefinedAgain
unfolding message_text
returns-in-DefinedAgain c = rw (c.in-DefinedAgain.is, ← c.number_at.ensures) c.defined_again.ensures

pub returns-in_ok-base-in-PairAgain : goal.returns-in_ok-base-in-PairAgain
unfolding message_text
returns-in_ok-base-in-PairAgain c =
    rw (c.in-PairAgain.is, ← c.accent_name-name.ensures, ← c.as_slice-in-PairAgain.ensures.value)
    (rw (← c.in_ok-base-in-PairAgain.ensures, ← c.as_slice-in-PairAgain-2.ensures.value)
    (rw (← c.number_at-in-PairAgain.ensures, ← c.number-line.ensures, ← c.as_slice-in-PairAgain-3.ensures.value)
    c.filled-in-PairAgain.ensures))

pub returns-in-BareDigit : goal.returns-in-BareDigit
unfolding message_text
returns-in-BareDigit c = rw c.in-BareDigit.is c.bare_digit.ensures
