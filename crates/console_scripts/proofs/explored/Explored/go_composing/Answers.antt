use Rattle.console_scripts.proofs.Common.{reverse, subst, slice_get_within, map_of_explored, LeadsHome, state_of, alone}
use Rattle.console_scripts.proofs.Common.{rules, on_ok-then, searched-back}
use Rattle.console_scripts.proofs.Leading.{out-leads, home-leads, dead-leads, met-first, composing-leads}
use Rattle.console_scripts.proofs.explored.Explored.go_composing.Goals as goal

pub go_out-requires-clause-place : goal.go_out-requires-clause-place
go_out-requires-clause-place c = search (rules, slice_get_within)

pub go_out-requires-clause-back : goal.go_out-requires-clause-back
go_out-requires-clause-back c = search (rules, searched-back)

pub state_at-requires : goal.state_at-requires
state_at-requires c = search (rules, slice_get_within)

pub come_home-requires : goal.come_home-requires
come_home-requires c = search rules

pub go_out-requires-2-clause-back : goal.go_out-requires-2-clause-back
go_out-requires-2-clause-back c = search (rules, searched-back)

pub returns : goal.returns
returns c =
    let e = c.args.self.now in
    let m = map_of_explored e in
    let x = c.requires.explored.0 in
    let d = c.args.dead in
    let old = reverse c.args.events.now.items in
    let out = reverse c.go_out.new.events.items in
    let tapped = reverse c.tap.new.events.items in
    let back = reverse c.come_home.new.events.items in
    let now = reverse c.go_out-2.new.events.items in
    on_ok-then c.go_out-2.result
    (λ added y accent at (z, there, has, (lt, idle, seen, plain)).
    let s = state_of z.0 in
    let is = c.state_at.ensures z there in
    let (moves, home, events) = c.in_ok-come_home.ensures (alone m) x.home in
    composing-leads {a = old} {b = out} {c = tapped} {d = back} {e = now}
    (rw (← c.requires.explored.1) (out-leads e x d.place z there old out c.in_ok-go_out.ensures))
    (rw c.in_ok-tap.ensures (dead-leads m s d.key accent out lt idle seen))
    (home-leads m s moves (met-first e x d.place z there)
    (subst (λ h. LeadsHome (alone m) (state_of h) moves) is home) tapped back events)
    (rw (← c.requires.explored.1) (out-leads e x c.args.place y at back now added)))
    c.go_out-2.ensures
