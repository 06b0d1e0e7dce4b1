use Rattle.console_scripts.proofs.Common.{CanReturn, TypesOne, [], alone, ap, refl, reverse, state_of, subst, sym, ◌++◌}
use Rattle.console_scripts.proofs.Common.{◌∙◌, ◌∷◌}
use Rattle.console_scripts.specs.Inner.Exploring.{GoesHome}
use Rattle.console_scripts.specs.Ways.{HasNoWayFrom}
use Rattle.console_scripts.proofs.Exploring.{start-returns}
use Rattle.console_scripts.proofs.Typings.{typed-alone}
use Rattle.console_scripts.specs.declared.typing.Keyed.{Keyed}
use Rattle.console_scripts.proofs.typing.Scribe.type_alone.Goals as goal

pub type_from-requires-clause-can_return : goal.type_from-requires-clause-can_return
type_from-requires-clause-can_return c =
    subst (λ t. CanReturn c.args.map.now t) (sym c.start.ensures) (start-returns c.args.map.now)

pub returns-in-NoWay-clause-typed : goal.returns-in-NoWay-clause-typed
returns-in-NoWay-clause-typed c =
    let none = rw c.in-NoWay.is at c.in_ok-step.ensures.leads in
    subst (λ t. HasNoWayFrom c.args.self.now.seeker.board c.args.map.now t c.args.target) c.start.ensures none

pub returns-clause-typed : goal.returns-clause-typed
returns-clause-typed c =
    let b = c.args.self.now.seeker.board in
    let m = c.args.map.now in
    let t = c.args.target in
    let es = c.type_from.new.self.events.items in
    let step = c.in-To.step in
    let types = rw c.in-To.is at c.in_ok-step.ensures.leads in
    let one : Keyed = record { character = t.character; end = c.len-end.result } in
    typed-alone b m t (record { keyed = c.push_keyed.new.keyed; events = c.replace-events.result }) es step one
    (subst (λ s. TypesOne b m t s [] (reverse es) step) c.start.ensures
    (subst (λ z. TypesOne b m t (state_of c.start.result) (reverse z) (reverse es) step) c.new.ensures.items types))
    refl (c.len-end.ensures ∙ c.type_from.new.self.events.ok.0)
    (c.in_ok-push_keyed.ensures ∙ ap (λ z. z ++ one ∷ []) c.new-keyed.ensures.items)
    (subst (λ v. GoesHome (alone m) (state_of step.next) (reverse es) (reverse v.items))
    (sym c.replace-events.ensures.value) c.in_ok-go_home.ensures.home)
