use Rattle.console_scripts.proofs.Common.{append-nil, refl, rules}
use Rattle.console_scripts.proofs.courses.Reached.way_to.Goals as goal

pub returns : goal.returns
returns c = record {
  entry = c.entry-origin.result;
  there = c.entry-origin.ensures;
  state = c.without_accent.ensures;
  key = refl;
  presses = refl;
  events = λ path trail. search (rules, append-nil);
}
