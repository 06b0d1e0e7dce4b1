use Rattle.std.proofs.Common.{rules}
use Rattle.std.proofs.Common.{◌≡◌, ◌∙◌, false, length, refl, sym, arith, below_more}
use Rattle.std.proofs.lemmas.Bool.{eqb-true}
use Rattle.std.proofs.lemmas.List.{get_or_read_under}
use Rattle.keymap_diff.proofs.Known.{known-met, has-accent}
use Rattle.keymap_diff.proofs.marking.are_met.Goals as goal

pub is_met-requires-clause-accent : goal.is_met-requires-clause-accent
is_met-requires-clause-accent c =
    let found = c.args.found.now in
    let x = c.change-item.result in
    let n = c.loop-change.change-index in
    has-accent false c.args.old.now c.args.new.now x
    (c.requires.each.only x (
      n,
      c.loop-change-test.true,
      sym (get_or_read_under found n (length found) x x c.change-item.is c.loop-change-test.true refl),
    ))

pub returns-then-is_empty : goal.returns-then-is_empty
returns-then-is_empty c e =
    let none : length c.args.found.now ≡ 0 = eqb-true _ 0 (sym c.is_empty.ensures ∙ c.if-is_empty.true) in
    known-met c.args.old.now c.args.new.now c.args.found.now c.requires
    (λ x (k, lt, at). absurd (omega (arith, lt, none)))

pub loop-change-preserved : goal.loop-change-preserved
loop-change-preserved c = search (rules, below_more, get_or_read_under)

pub returns : goal.returns
returns c e =
    known-met c.args.old.now c.args.new.now c.args.found.now c.requires
    (λ x (k, lt, at). c.loop-change.invariant k (omega (arith, lt, c.loop-change-test.false)) x at)
