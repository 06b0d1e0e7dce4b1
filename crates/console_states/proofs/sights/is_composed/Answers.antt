use Rattle.console_states.proofs.Common.{false_from_ne_true, true≢false, rules}
use Rattle.console_states.proofs.Visible.{some-member}
use Rattle.console_states.proofs.sights.is_composed.Goals as goal

pub returns : goal.returns
returns c = search (rules, false_from_ne_true, some-member, true≢false)
