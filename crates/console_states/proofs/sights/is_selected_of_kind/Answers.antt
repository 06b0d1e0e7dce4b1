use Rattle.console_states.proofs.Common.{false_from_ne_true, ◌<◌, length, refl, subst, sym, arith, below_more, ◌∙◌}
use Rattle.console_states.proofs.Common.{get_or_default, SeesBy, is_selected, rules}
use Rattle.console_states.proofs.Visible.{selected-true, true-selected}
use Rattle.console_states.proofs.sights.is_selected_of_kind.Goals as goal

pub loop-selection-preserved : goal.loop-selection-preserved
loop-selection-preserved c =
    let ys = c.args.selections.now in
    let n = c.loop-selection.selection-index in
    let within : n < length ys = c.loop-selection-test.true in
    below_more _ _ c.loop-selection.invariant
    (λ y at k lt sees. c.if-is_seeing.ensures.unseen refl k lt
    (subst (λ z. SeesBy c.args.map.now z k c.args.sight) (sym (get_or_default ys n _ y within ∙ at)) sees))

pub returns-then-is_seeing : goal.returns-then-is_seeing
returns-then-is_seeing c = search (rules, selected-true)

pub returns : goal.returns
returns c =
    let ys = c.args.selections.now in
    sym (false_from_ne_true (is_selected c.args.map.now ys c.args.sight) (λ passes.
    let (y, (n, lt, at), (k, below, sees)) = true-selected c.args.map.now ys c.args.sight passes in
    c.loop-selection.invariant n (omega (arith, lt, c.loop-selection-test.false)) y at k below sees))
