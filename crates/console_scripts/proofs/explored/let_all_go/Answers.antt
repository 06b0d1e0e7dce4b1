use Rattle.console_scripts.proofs.Common.{reverse, subst, sym, ap, ◌∙◌, ◌+◌, Release, state_of, rules, push-reversed}
use Rattle.console_scripts.proofs.Common.{modifier-at}
use Rattle.console_scripts.proofs.Taps.{LetsGoTo, lets-go-first, lets-go-some, lets-go-none, lets-go-all}
use Rattle.console_scripts.proofs.explored.let_all_go.Goals.{in-Some+in_ok-push, in_default}
use Rattle.console_scripts.proofs.explored.let_all_go.Goals as goal

pub loop-modifier-init : goal.loop-modifier-init
loop-modifier-init c = lets-go-first (state_of c.args.from.now) (reverse c.args.events.now.items)

pub loop-modifier-preserved : goal.loop-modifier-preserved
loop-modifier-preserved c =
    let s = state_of c.args.from.now in
    let h = reverse c.args.events.now.items in
    let t = state_of c.loop-modifier.held in
    let n = c.loop-modifier.modifier-index in
    let now = reverse c.loop-modifier.events.items in
    elim c.match-holder.branch [
      | in-Some+in_ok-push w ↦
          subst (λ z. LetsGoTo s h z (state_of c.match-holder.held) (n + 1))
          (sym (ap reverse (ap (λ v. v.items) w.events-is ∙ w.in_ok-push.ensures.items)
          ∙ push-reversed c.loop-modifier.events.items (Release w.in-Some.key)))
          (rw (ap (λ x. state_of x) w.held-is ∙ w.with_holder-held.ensures)
          (lets-go-some s h now t n _ w.in-Some.key c.loop-modifier.invariant (λ i e. modifier-at i n _ e)
          (sym c.holder.ensures ∙ w.in-Some.is)))
      | in_default w ↦
          rw (ap reverse (ap (λ v. v.items) w.events-is), ap (λ x. state_of x) w.held-is)
          (lets-go-none s h now t n _ c.loop-modifier.invariant (λ i e. modifier-at i n _ e)
          (sym c.holder.ensures ∙ w.in_default.is))
    ]

pub returns : goal.returns
returns c = search (rules, lets-go-all)
