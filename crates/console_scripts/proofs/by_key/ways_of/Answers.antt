use Rattle.std.proofs.Common.{rules}
use Rattle.console_scripts.proofs.Common.{Some, ap, start, subst, sym, ◌+◌, ◌∙◌}
use Rattle.console_scripts.proofs.KeyWays.{AreWaysBelow, ways-none, ways-push, ways-skip, ways-whole}
use Rattle.console_scripts.specs.Inner.Seeking.{AreReached}
use Rattle.console_scripts.specs.Ways.{HasNoWayFrom, IsTypedAlone, ending_with}
use Rattle.console_scripts.specs.declared.by_key.WayBy.{WayBy}
use Rattle.console_scripts.specs.declared.typing.Step.{Step}
use Rattle.console_scripts.proofs.by_key.ways_of.Goals.{in-Some+in_ok-push_way, in_default}
use Rattle.console_scripts.proofs.by_key.ways_of.Goals as goal

pub loop-code-init : goal.loop-code-init
loop-code-init c = record {
  explorations = c.new-scribe.ensures.explorations c.args.map.now;
  board = c.new-scribe.ensures.board;
  reached = subst (λ b. AreReached b c.args.map.now c.new-scribe.result.seeker.courses.entries)
      (sym c.new-scribe.ensures.board) (c.new-scribe.ensures.reached c.args.map.now);
  ways = ways-none c.args.board c.args.map.now c.args.character c.new-ways.result.items c.new-ways.ensures.items;
}

pub loop-code-preserved : goal.loop-code-preserved
loop-code-preserved c =
    let b = c.args.board in
    let m = c.args.map.now in
    let k = c.args.character in
    let n = c.loop-code.code in
    let ways = c.loop-code.ways.items in
    record {
      explorations = c.in_ok-step.ensures.explorations;
      board = c.in_ok-step.ensures.board ∙ c.loop-code.invariant.board;
      reached = c.in_ok-step.ensures.reached;
      ways = elim c.match-branch-2.branch [
        | in-Some+in_ok-push_way w ↦
            let step : Step = w.in-Some.step in
            let key = c.key_with-key.result in
            let way : WayBy =
            record { key = key; class = step.class; before = step.before; typing = w.in-Some.typing } in
            let typed = rw w.in-Some.is at c.in_ok-step.ensures.typed in
            ways-push b m k n ways c.match-branch-2.ways.items way c.loop-code.invariant.ways c.key_with-key.ensures
            (subst (λ z. IsTypedAlone step.class step.before z m (ending_with (Some key) k) w.in-Some.typing)
            c.loop-code.invariant.board typed)
            (ap (λ v. v.items) w.ways-is ∙ w.in_ok-push_way.ensures)
        | in_default w ↦
            let none = rw w.in_default.is at c.in_ok-step.ensures.typed in
            subst (λ v. AreWaysBelow b m k (n + 1) v.items) (sym w.ways-is)
            (ways-skip b m k n ways c.loop-code.invariant.ways
            (subst (λ z. HasNoWayFrom z m start (ending_with (Some n) k)) c.loop-code.invariant.board
            (subst (λ i. HasNoWayFrom c.loop-code.scribe.seeker.board m start (ending_with (Some i) k))
            c.key_with-key.ensures none)))
      ];
    }

pub returns-clause-ways : goal.returns-clause-ways
returns-clause-ways c = search (rules, ways-whole)
