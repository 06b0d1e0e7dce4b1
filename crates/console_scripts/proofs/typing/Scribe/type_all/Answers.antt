use Rattle.console_scripts.proofs.Common.{◌==◌, None, length, ap, refl, subst, sym, ◌∙◌, reverse, take_all, eqb-true}
use Rattle.console_scripts.proofs.Common.{true≢false}
use Rattle.console_scripts.proofs.Common.{slice_get-get_or, state_of}
use Rattle.std.proofs.lemmas.List.{nil_from_length}
use Rattle.console_scripts.specs.Inner.Exploring.{Leads}
use Rattle.console_scripts.specs.Ways.{GoWaysFrom, ending_with}
use Rattle.console_scripts.proofs.Taking.{no-way-of}
use Rattle.console_scripts.proofs.Typings.{gives-up, typed-none, typed-one, typed-all, typed-nothing, ways-all}
use Rattle.std.proofs.lemmas.Result.{IfErr-weaker, on_ok_weaker}
use Rattle.console_scripts.specs.declared.typing.Typed.TheVariants as typed
use Rattle.console_scripts.proofs.typing.Scribe.type_all.Goals as goal

pub returns-then-is_empty-clause-typed : goal.returns-then-is_empty-clause-typed
returns-then-is_empty-clause-typed c =
    typed-nothing c.args.self.now.seeker.board c.args.map.now c.args.characters.now _
    (nil_from_length c.args.characters.now (eqb-true _ 0 (sym c.is_empty.ensures ∙ c.if-is_empty.true)))
    c.requires.keyed c.requires.events

pub returns-then-is_empty-clause-ways : goal.returns-then-is_empty-clause-ways
returns-then-is_empty-clause-ways c =
    subst (λ z. GoWaysFrom c.args.self.now.seeker.board c.args.map.now c.args.self.now.events.items 0 z)
    (sym c.requires.keyed) tt

pub loop-place-init : goal.loop-place-init
loop-place-init c = record {
  explorations = c.requires.explorations;
  board = refl;
  reached = c.requires.reached;
  known = c.requires.known;
  typed = typed-none None c.args.self.now.seeker.board c.args.map.now c.args.characters.now c.args.keyed.now.items
      c.args.self.now.events.items (state_of c.start-from.result) c.requires.keyed c.requires.events
      c.start-from.ensures;
}

pub returns-in-NoWay-clause-error : goal.returns-in-NoWay-clause-error
returns-in-NoWay-clause-error c =
    let cs = c.args.characters.now in
    let x = c.index-characters-place.result in (
      c.loop-place.invariant.typed.can,
      (
        x,
        cc (slice_get-get_or cs c.loop-place.place x c.loop-place-test.true, c.index-characters-place.is),
        no-way-of c.loop-place.self.seeker.board c.args.map.now (state_of c.loop-place.from) x
            c.loop-place.invariant.typed.can_return
            (subst (λ r. Leads c.loop-place.self.seeker.board c.args.map.now (ending_with None x)
            (state_of c.loop-place.from) (reverse c.loop-place.self.events.items)
            (reverse c.type_next.new.self.events.items) r) c.in-NoWay.is c.in_ok-step.ensures.leads),
      ),
    )

pub loop-place-preserved : goal.loop-place-preserved
loop-place-preserved c =
    let b = c.args.self.now.seeker.board in
    let m = c.args.map.now in
    let x = c.index-characters-place.result in
    let old = c.loop-place.self.events.items in
    let now = c.type_next.new.self.events.items in
    record {
      explorations = c.in_ok-step.ensures.explorations;
      board = c.in_ok-step.ensures.board ∙ c.loop-place.invariant.board;
      reached = c.in_ok-step.ensures.reached;
      known = c.in_ok-step.ensures.known;
      typed = typed-one None b m c.args.characters.now c.loop-place.place c.loop-place.keyed.items
          c.push_keyed.new.keyed.items old now (state_of c.loop-place.from)
          (record { character = x; end = c.len-end.result }) c.in-To.step c.loop-place.invariant.typed
          c.loop-place-test.true c.index-characters-place.is (c.len-end.ensures ∙ c.type_next.new.self.events.ok.0)
          (subst (λ z. Leads z m (ending_with None x) (state_of c.loop-place.from) (reverse old) (reverse now)
          (typed.To c.in-To.step))
          c.loop-place.invariant.board
          (subst (λ r. Leads c.loop-place.self.seeker.board m (ending_with None x) (state_of c.loop-place.from)
          (reverse old) (reverse now) r) c.in-To.is c.in_ok-step.ensures.leads))
          c.in_ok-push_keyed.ensures;
    }

pub go_home-requires-clause-can_return : goal.go_home-requires-clause-can_return
go_home-requires-clause-can_return c = c.loop-place.invariant.typed.can_return

pub returns-clause-typed : goal.returns-clause-typed
returns-clause-typed c =
    let cs = c.args.characters.now in
    on_ok_weaker c.go_home.result
    (λ home.
    typed-all None c.args.self.now.seeker.board c.args.map.now cs c.loop-place.place
    (record { keyed = c.loop-place.keyed; events = c.go_home.new.self.events }) c.loop-place.self.events.items
    (state_of c.loop-place.from) c.loop-place.invariant.typed
    (take_all c.loop-place.place cs c.loop-place-test.false) home
    (λ e. absurd (true≢false (ap (λ z. length z == 0) (sym e) ∙ sym c.is_empty.ensures ∙ c.if-is_empty.false))))
    c.go_home.ensures.home

pub returns-clause-ways : goal.returns-clause-ways
returns-clause-ways c =
    on_ok_weaker c.go_home.result
    (ways-all c.args.self.now.seeker.board c.args.map.now c.args.characters.now c.loop-place.place
    (record { keyed = c.loop-place.keyed; events = c.go_home.new.self.events }) c.loop-place.self.events.items
    (state_of c.loop-place.from) c.loop-place.invariant.typed)
    c.go_home.ensures.home

pub returns-clause-error : goal.returns-clause-error
returns-clause-error c =
    IfErr-weaker c.go_home.result _ _ (gives-up c.args.map.now c.args.characters.now) c.go_home.ensures.error
