use Rattle.console_scripts.proofs.Common.{◌∷◌, ◌++◌, ◌∙◌, [], ap, reverse, slice_get_within, Press, Reset}
use Rattle.console_scripts.proofs.Common.{push-reversed, searched-back}
use Rattle.console_scripts.proofs.Scrolling.{turns-off, unturned}
use Rattle.console_scripts.proofs.explored.Explored.go_turning.Goals as goal

pub go_out-requires-clause-place : goal.go_out-requires-clause-place
go_out-requires-clause-place c =
    let (y, there, move) = c.in-Some.ensures.is.0 in slice_get_within _ _ y there

pub go_out-requires-clause-back : goal.go_out-requires-clause-back
go_out-requires-clause-back c = searched-back _ _ 0 0 c.requires.searched

pub returns-in_default : goal.returns-in_default
returns-in_default c = λ h rests keys none on. unturned c.args.self.now c.requires c.in_default.ensures.is h rests

pub returns : goal.returns
returns c =
    λ h rests keys none on.
    turns-off c.args.self.now c.requires c.in-Some.at c.in-Some.ensures.is.0 h rests keys none on
    (reverse c.push.new.self.items) (reverse c.go_out.new.events.items) (reverse c.push-2.new.self.items)
    (ap reverse c.in_ok-push.ensures.items ∙ ap (λ z. reverse (z ++ Reset ∷ [])) c.new-events.ensures.items)
    c.in_ok-go_out.ensures
    (ap reverse c.in_ok-push-2.ensures.items ∙ push-reversed c.go_out.new.events.items (Press c.in-Some.at.key))
