use Rattle.console_core.proofs.Headline as headline
use Rattle.console_core.proofs.laws.headline_holds.Goals as goal

pub returns : goal.returns
returns c = headline.headline_holds
