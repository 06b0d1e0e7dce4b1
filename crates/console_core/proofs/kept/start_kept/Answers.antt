use Rattle.console_core.proofs.Common.{subst, sym, [], StandsAt}
use Rattle.console_core.proofs.Agreeing.{stands-start}
use Rattle.console_core.proofs.kept.start_kept.Goals as goal

pub returns : goal.returns
returns c = λ ms. subst (StandsAt ms []) (sym c.new.ensures) (stands-start ms)
