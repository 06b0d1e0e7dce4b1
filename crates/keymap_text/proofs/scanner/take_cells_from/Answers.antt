use Rattle.keymap_text.proofs.Common.{◌≡◌, ◌+◌, ◌-◌, length, take, drop, length-drop, drop-drop, sym, ◌∙◌, ap, subst}
use Rattle.keymap_text.proofs.Common.{arith, Grammar, at, Advances}
use Rattle.keymap_text.proofs.Splitting.{to_end}
use Rattle.keymap_text.proofs.Cells.{is_cell, is_lock, next_place, so_far}
use Rattle.keymap_text.proofs.Scanning.{stays, advances_on}
use Rattle.keymap_text.specs.Inner.Grammar as spec
use Rattle.keymap_text.proofs.scanner.take_cells_from.Goals as goal

pub loop-index-init : goal.loop-index-init
loop-index-init c =
    let rest = c.args.rest.now in
    let none : length rest - length rest ≡ 0 = omega arith in
    let first = spec.CellAt c.args.slot c.args.first c.args.grammar.now.entry in
    record {
      inside = omega arith;
      index = omega (arith, c.requires.index);
      left = ap (λ k. drop k rest) (sym none);
      taken = λ m.
          subst (λ p. Advances (at m first) (at m p) rest (length rest - length rest))
          (is_cell c.args.slot c.args.first c.args.grammar.now.entry c.requires.index)
          (subst (λ k. Advances (at m first) (at m first) rest k) (sym none) (stays (at m first) rest));
    }

pub loop-index-preserved : goal.loop-index-preserved
loop-index-preserved c =
    let l = c.loop-index in
    let slot = c.args.slot in
    let rest = c.args.rest.now in
    let first = spec.CellAt slot c.args.first c.args.grammar.now.entry in
    let new = c.take_cell-n.new.grammar in
    let n = c.take_cell-n.result in
    let at0 = length rest - length l.left.now in
    let size : length (drop n l.left.now) ≡ length l.left.now - n = length-drop n l.left.now in
    let next = take (length l.left.now - n) (drop n l.left.now) in
    let end = to_end l.left.now n in
    let moved : at0 + n ≡ length rest - length next =
    omega (arith, size, ap length end, l.invariant.inside, c.take_cell-n.ensures.inside) in
    record {
      inside = omega (arith, size, ap length end, l.invariant.inside);
      index = omega (arith, c.loop-index-test.true);
      left = end ∙ ap (drop n) l.invariant.left ∙ drop-drop n at0 rest ∙ ap (λ k. drop k rest) moved;
      taken = λ m.
          subst (λ p. Advances (at m first) (at m p) rest (length rest - length next))
          (next_place slot l.index new.entry)
          (subst (λ k. Advances (at m first) (at m (spec.after_cell slot l.index new.entry)) rest k) moved
          (advances_on (at m first) _ _ rest l.left.now at0 n
          (subst (λ p. Advances (at m first) (at m p) rest at0)
          (sym (is_cell slot l.index l.grammar.entry c.loop-index-test.true)) (l.invariant.taken m))
          (l.invariant.left ∙ sym (to_end rest at0))
          (c.take_cell-n.ensures.took.some (omega (arith, c.if-n-eq0.false)) m slot)));
    }

pub returns-then-n-eq0-clause-took : goal.returns-then-n-eq0-clause-took
returns-then-n-eq0-clause-took c = λ m.
    let l = c.loop-index in
    let slot = c.args.slot in
    so_far m slot c.args.first c.args.grammar.now _ _ c.args.rest.now _ c.requires.place
    (ap (λ (n : Grammar). spec.CellAt slot l.index n.entry) (c.take_cell-n.ensures.took.none c.if-n-eq0.true)
    ∙ is_cell slot l.index l.grammar.entry c.loop-index-test.true) (l.invariant.taken m)

pub returns-clause-took : goal.returns-clause-took
returns-clause-took c = λ m.
    let l = c.loop-index in
    so_far m c.args.slot c.args.first c.args.grammar.now _ _ c.args.rest.now _ c.requires.place
    (is_lock c.args.slot l.index l.grammar.entry (omega (arith, l.invariant.index, c.loop-index-test.false)))
    (l.invariant.taken m)
