use Rattle.console_scripts.proofs.Common.{subst, sym, state_of}
use Rattle.std.specs.Option.{is_none}
use Rattle.console_scripts.specs.Inner.Courses.{IsNearestAt, allows_but}
use Rattle.console_scripts.specs.Inner.Seeking.{HasAccent, IsLooked}
use Rattle.console_scripts.proofs.Looking.{looked-in}
use Rattle.console_scripts.proofs.seeking.look_in.Goals as goal

pub returns : goal.returns
returns c =
    λ b m o k got explored st ends.
    let v = c.args.explored.now in
    let f = c.in_ok-found.found in
    subst (λ t. IsLooked (allows_but b o.class o.spared) m (state_of o.from) k (is_none o.accent) (HasAccent o.accent)
    v.routes.entries (record { found = f; has_met_all = t })) (sym c.are_both.ensures)
    (looked-in b m o k c.args.ending.now c.args.reached.now v f got explored st ends
    (subst (λ n. IsNearestAt n c.args.ending.now v.routes.entries c.args.reached.now.met.entries f) explored.1
    c.in_ok-found.ensures))
