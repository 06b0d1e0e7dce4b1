use Rattle.std.proofs.Common.{rules}
use Rattle.console_states.proofs.Shared.{on_ok-then}
use Rattle.keyboard_cover.proofs.Covering.{runs-further}
use Rattle.keyboard_cover.proofs.checked.add.Goals as goal

pub returns : goal.returns
returns g c =
    let run = c.args.run.now in
    on_ok-then c.see_all.result
    (λ sees.
    runs-further g.T.Translator.stands run.map c.map.result.now run.presses c.args.console.now c.see_all.new.console
    c.args.cover.now
    (record { events = c.extend_from_slice.new.self; cases = c.push.new.self; seen = c.see_all.new.seen }) run.events
    c.events-2.result.now c.args.what.now c.map.ensures c.events-2.ensures.events sees (search (rules)) (search (rules))
    c.events.ensures.comes c.events.ensures.possible c.requires)
    c.see_all.ensures
