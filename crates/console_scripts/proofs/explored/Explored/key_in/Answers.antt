use Rattle.console_scripts.proofs.Common.{alone, map_of_explored, one_map, state_of}
use Rattle.console_scripts.proofs.explored.Explored.key_in.Goals as goal

pub returns-then-has_route : goal.returns-then-has_route
returns-then-has_route c =
    let m = map_of_explored c.args.self.now in
    let same = one_map m (state_of c.args.held.now).is_second in
    (c.has_route.ensures.has c.if-has_route.true, c.in-Some.ensures (alone m) same)

pub returns-in-None : goal.returns-in-None
returns-in-None c =
    let m = map_of_explored c.args.self.now in
    let same = one_map m (state_of c.args.held.now).is_second in
    λ k can. c.in-None.ensures (alone m) same k can.1
