use Rattle.console_scripts.proofs.Common.{◌∷◌, ◌++◌, [], ap, ◌∙◌, reverse, slice_get_within, Press, Reset}
use Rattle.console_scripts.proofs.Common.{push-reversed}
use Rattle.console_scripts.proofs.Visitable.{goes-onward, unseen-from}
use Rattle.console_scripts.proofs.explored.Explored.go_onward.Goals as goal

pub go_looking-requires-clause-place : goal.go_looking-requires-clause-place
go_looking-requires-clause-place g c =
    let (z, has, (y, there, sees)) = c.in-Some.ensures in slice_get_within _ _ y there

pub returns-in_default : goal.returns-in_default
returns-in_default g c =
    λ h rests keys none y has. unseen-from c.args.self.now c.requires.explored h rests y (c.in_default.ensures y has)

pub returns : goal.returns
returns g c =
    λ h rests keys none.
    let (x, has, at) = c.in-Some.ensures in (
      x,
      has,
      goes-onward c.args.self.now x c.in-Some.at at (reverse c.push.new.self.items)
          (reverse c.go_looking.new.events.items) (reverse c.push-2.new.self.items)
          (ap reverse c.in_ok-push.ensures.items ∙ ap (λ z. reverse (z ++ Reset ∷ [])) c.new-events.ensures.items)
          c.in_ok-go_looking.ensures
          (ap reverse c.in_ok-push-2.ensures.items ∙ push-reversed c.go_looking.new.events.items
          (Press c.in-Some.at.key)) h rests keys none,
    )
