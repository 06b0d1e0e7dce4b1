use Rattle.console_states.proofs.Common.{◌≡◌, List, [], ◌∷◌, ◌++◌, ap, subst, ◌∙◌, Move, rules}
use Rattle.console_states.proofs.GoingBack.{LeadsBy, trail-leads, move-next, left-smaller, within-last}
use Rattle.console_states.proofs.showing.moves_to.Goals as goal

pub loop-last-init : goal.loop-last-init
loop-last-init c =
    let es = c.args.met.now.entries in
    let y = c.entry-last.result in
    record {
      within = within-last es c.args.place y c.requires.back c.entry-last.ensures;
      left = λ path trail. (
        path,
        ap (λ z. z ++ path) c.new-moves.ensures.items,
        trail-leads es c.args.place path y c.entry-last.ensures trail,
      );
    }

pub loop-last-smaller : goal.loop-last-smaller
loop-last-smaller c = search (rules, left-smaller)

pub loop-last-preserved : goal.loop-last-preserved
loop-last-preserved c =
    let es = c.args.met.now.entries in
    let items = c.loop-last.moves.items in
    record {
      within = within-last es c.in-Some.parent c.entry-last-in-Some.result c.requires.back c.entry-last-in-Some.ensures;
      left = λ path trail.
          let p : (rest : List Move) × (items ++ rest ≡ path) × LeadsBy es c.loop-last.last rest =
          c.loop-last.invariant.left path trail in
          let q : (more : List Move) × ((items ++ c.in-Some.by ∷ []) ++ more ≡ path)
          × LeadsBy es c.entry-last-in-Some.result.1.last more =
          move-next es (c.in-Some.parent, c.in-Some.by) items p.0 path
          (subst (λ o. LeadsBy es o p.0) c.in-Some.is p.2) p.1 c.entry-last-in-Some.result
          c.entry-last-in-Some.ensures in
          (q.0, ap (λ z. z ++ q.0) c.in_ok-push.ensures.items ∙ q.1, q.2);
    }
