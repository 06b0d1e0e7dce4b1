use Rattle.console_core.specs.Headline.{IsSafe}
use Rattle.keymap_check.proofs.Promises.{keeps_promise}
use Rattle.keymap_check.proofs.laws.safe_maps_keep_their_promise.Goals as goal

pub returns : goal.returns
returns c m = keeps_promise c.headline_holds.ensures m (IsSafe m) (λ safe. safe)
