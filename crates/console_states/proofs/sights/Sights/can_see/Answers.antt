use Rattle.console_states.proofs.Common.{◌≡◌, sym, ◌∙◌, true≢false, can_see, rules}
use Rattle.console_states.proofs.Visible.{sees-all, sees-some, all-seen, seen-otherwise}
use Rattle.console_states.proofs.sights.Sights.can_see.Goals as goal

pair-value : (c : goal.After-is_composed) → c.is_composed.result ≡ can_see c.args.map.now c.args.self.now c.args.sight
pair-value c = search rules

pub returns-in-Pair-clause-some : goal.returns-in-Pair-clause-some
returns-in-Pair-clause-some c =
    λ are e. sees-some c.args.map.now c.args.self.now are c.args.sight (sym (pair-value c) ∙ e)

pub returns-in-Pair-clause-reachable : goal.returns-in-Pair-clause-reachable
returns-in-Pair-clause-reachable c =
    λ are e. sees-all c.args.map.now c.args.self.now are c.args.sight (sym (pair-value c) ∙ e)

pub returns-in-Pair-clause-unreachable : goal.returns-in-Pair-clause-unreachable
returns-in-Pair-clause-unreachable c = search (rules, all-seen, pair-value)

pub returns-in_default : goal.returns-in_default
returns-in_default c =
    let m = c.args.map.now in
    let s = c.args.self.now in
    let value : c.is_selected.result ≡ can_see m s c.args.sight =
    c.is_selected.ensures
    ∙ seen-otherwise m s _ c.args.sight c.in_default.not-Pair c.deref-in_default.ensures.value in
    record {
      some = λ are e. sees-some m s are c.args.sight (sym value ∙ e);
      reachable = λ are e. sees-all m s are c.args.sight (sym value ∙ e);
      unreachable = λ are e can. true≢false (sym (all-seen m s are c.args.sight can) ∙ sym value ∙ e);
      value = value;
    }
