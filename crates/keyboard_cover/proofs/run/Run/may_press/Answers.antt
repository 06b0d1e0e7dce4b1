use Rattle.std.proofs.Common.{◌∙◌, List, ◌++◌, ◌≡◌, subst}
use Rattle.console_core.specs.declared.event.Event.{Event}
use Rattle.keyboard_cover.specs.Allowed.{may_press_after}
use Rattle.keyboard_cover.specs.Runs.{RunValue, IsRest, run_events}
use Rattle.keyboard_cover.proofs.Runs.{may-after}
use Rattle.keyboard_cover.proofs.run.Run.may_press.Goals as goal

pub returns-clause-may : goal.returns-clause-may
returns-clause-may c =
    let r = c.self.inside in
    let m = r.map.now in
    subst (λ (v : RunValue). (h : List Event) → IsRest v.map h
    → c.may_press.result ≡ may_press_after v.presses v.map (run_events v.events ++ h) c.args.key) c.self.view_is
    (λ h rest.
    let at = c.self.invariant.1.console h rest in
    c.may_press.ensures
    ∙ may-after c.sights_are_reachable.ensures.selected _ m r.presses r.console r.down r.events.items _ _ _ c.args.key
    c.look-cell.result h c.self.invariant.1 rest
    (λ i. at.3.agrees.marks _) (λ l. at.3.agrees.locks l) at.3.agrees.pending c.look-cell.ensures)
