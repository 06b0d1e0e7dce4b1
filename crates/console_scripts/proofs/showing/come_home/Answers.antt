use Rattle.console_scripts.proofs.Common.{ap, subst, sym, ◌∙◌, option_copied, LeadsHome, state_of, rules, on_ok-then}
use Rattle.console_scripts.proofs.Entries.{found-by_state, none-found}
use Rattle.console_scripts.proofs.showing.come_home.Goals as goal

pub unreachable-requires : goal.unreachable-requires
unreachable-requires c = search (rules, none-found)

pub returns : goal.returns
returns c =
    on_ok-then c.push_moves.result
    (λ e u all. (
      c.deref.result.now,
      subst (λ moves. LeadsHome u (state_of c.args.held.now) moves) (sym c.deref.ensures.value)
          (found-by_state (λ s r. LeadsHome u s r.moves.items) c.args.routes.now.entries c.args.held.now _ all
          (sym c.get.ensures.value ∙ ap option_copied c.in-Some.is)),
      e,
    ))
    c.push_moves.ensures
