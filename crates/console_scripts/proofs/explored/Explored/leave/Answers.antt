use Rattle.std.proofs.Common.{rules}
use Rattle.console_scripts.proofs.Common.{alone, map_of_explored, reverse, state_of}
use Rattle.console_scripts.proofs.Exploring.{leaves-freed, leaves-home}
use Rattle.console_scripts.proofs.explored.Explored.leave.Goals as goal

pub returns-in_ok-next : goal.returns-in_ok-next
returns-in_ok-next c = search (rules, leaves-freed)

pub come_home-requires : goal.come_home-requires
come_home-requires c = c.requires.route

pub returns-in_ok-come_home : goal.returns-in_ok-come_home
returns-in_ok-come_home c =
    λ origin.
    let m = map_of_explored c.args.self.now in
    let (moves, home, added) = c.in_ok-come_home.ensures (alone m) c.requires.explored.home in
    leaves-home m (state_of c.args.held.now) (reverse c.args.events.now.items) _ moves _ origin home added
    c.start.ensures
