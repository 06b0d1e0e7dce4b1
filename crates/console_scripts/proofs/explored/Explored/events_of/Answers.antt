use Rattle.console_scripts.proofs.Common.{◌∷◌, ◌++◌, [], reverse, ap, ◌∙◌, Press, Reset, map_of_explored, state_of}
use Rattle.console_scripts.proofs.Common.{alone, push-reversed}
use Rattle.console_scripts.proofs.Leading.{home-leads}
use Rattle.console_scripts.proofs.Visitable.{visits}
use Rattle.console_scripts.proofs.explored.Explored.events_of.Goals as goal

pub come_home-requires : goal.come_home-requires
come_home-requires g c = c.requires.from

pub returns : goal.returns
returns g c =
    let e = c.args.self.now in
    let m = map_of_explored e in
    let s = state_of c.args.from.now in
    let aim = c.args.aim.now in
    let (moves, home, events) = c.in_ok-come_home.ensures (alone m) c.requires.explored.0.home in
    let a = reverse c.push.new.self.items in
    let b = reverse c.come_home.new.events.items in
    let there = reverse c.approach.new.events.items in
    let now = reverse c.push-2.new.self.items in
    let begun =
    ap reverse c.in_ok-push.ensures.items ∙ ap (λ z. reverse (z ++ Reset ∷ [])) c.new-events.ensures.items in
    let last =
    ap reverse c.in_ok-push-2.ensures.items ∙ push-reversed c.approach.new.events.items (Press aim.at.key) in
    λ h rests.
    visits e c.requires.explored aim c.requires.aim s a b there now begun
    (home-leads m s moves (ap (λ z. z.is_second) rests, ap (λ z. z.is_pending) rests) home a b events)
    c.in_ok-approach.ensures last h rests
