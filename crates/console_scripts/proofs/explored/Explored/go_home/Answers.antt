use Rattle.console_scripts.proofs.Common.{reverse, true≢false, alone, map_of_explored, rules}
use Rattle.console_scripts.proofs.explored.Explored.go_home.Goals as goal

pub come_home-requires : goal.come_home-requires
come_home-requires c = c.has_route.ensures.has c.if-has_route.true

pub returns-in_ok-come_home : goal.returns-in_ok-come_home
returns-in_ok-come_home c =
    let (moves, home, added) =
    c.in_ok-come_home.ensures (alone (map_of_explored c.args.self.now)) c.requires.home in (
      (λ e. (reverse moves, home.0, home.1, added)),
      (λ e. absurd (true≢false e)),
    )

pub returns-else-has_route : goal.returns-else-has_route
returns-else-has_route c = search rules
