use Rattle.console_scripts.proofs.Common.{reverse, subst, sym, map_of_explored, state_of, IsAt, rules, on_ok-then}
use Rattle.console_scripts.proofs.Common.{searched-back}
use Rattle.console_scripts.proofs.Leading.{out-leads}
use Rattle.console_scripts.proofs.explored.Explored.go_looking.Goals as goal

pub go_out-requires-clause-back : goal.go_out-requires-clause-back
go_out-requires-clause-back g c = search (rules, searched-back)

pub returns : goal.returns
returns g c =
    let e = c.args.self.now in
    let m = map_of_explored e in
    let old = reverse c.args.events.now.items in
    let there = reverse c.go_out.new.events.items in
    on_ok-then c.tap_wanted.result
    (λ taps y at.
    let is = c.state_at-held.ensures y at in
    let out = out-leads e c.requires.explored c.args.at.place y at old there c.in_ok-go_out.ensures in
    λ h a.
    subst (λ z. IsAt m (state_of z) h (reverse c.tap_wanted.new.events.items)) is
    (taps m c.requires.explored.under h (subst (λ z. IsAt m (state_of z) h there) (sym is) (out h a).0)))
    c.tap_wanted.ensures
