use Rattle.kmap_runs.proofs.Common.{◌≡◌, ◌∙◌, ◌+◌, ◌<◌, ◌∷◌, ◌++◌, [], ℕ, All, ap, length, subst, sym, take}
use Rattle.std.proofs.lemmas.List.{take_all, take_more}
use Rattle.std.proofs.lemmas.List.Elements.{All-contains}
use Rattle.std.specs.List.{Contains}
use Rattle.std.specs.List.Sorted.{IsStrictlySortedBy}
use Rattle.std.specs.Ordering.{nat_cmp}
use Rattle.kmap_runs.proofs.Spellings.{IsSheetSo, IsTold, before-smaller, sheet-more}
use Rattle.kmap_runs.proofs.spelling.spelled_all.Goals as goal

pub loop-c-preserved : goal.loop-c-preserved
loop-c-preserved c =
    let cs = c.as_slice-c-items.result.now in
    let k = c.loop-c.c-index in
    let x : ℕ = c.c-item.result in
    let lt : k < length cs = c.loop-c-test.true in
    let more : take (k + 1) cs ≡ take k cs ++ x ∷ [] =
    take_more cs k x lt ∙ ap (λ y. take k cs ++ y ∷ []) (sym c.c-item.is) in
    subst (λ z. IsSheetSo c.args.board c.args.map.now z c.add_on_board.new.each.items) (sym more)
    (sheet-more c.args.board c.args.map.now (take k cs) x c.loop-c.each.items c.add_on_board.new.each.items
    (before-smaller cs k x
    (subst (IsStrictlySortedBy nat_cmp) (sym c.as_slice-c-items.ensures.value) c.in_ok-characters.ensures.order) lt
    c.c-item.is)
    c.loop-c.invariant c.in_ok-add_on_board.ensures.ok)

pub returns-clause-ok : goal.returns-clause-ok
returns-clause-ok c =
    let b = c.args.board in
    let m = c.args.map.now in
    let cs = c.as_slice-c-items.result.now in
    let xs = c.loop-c.each.items in
    let given = rw c.in-Some.is at c.in_ok-given.ensures in
    let told : All (IsTold b m xs) cs =
    subst (All (IsTold b m xs)) (take_all _ cs c.loop-c-test.false) c.loop-c.invariant.told in
    record {
      each = c.loop-c.invariant.each;
      all = λ d can. All-contains (IsTold b m xs) cs d told
          (subst (λ z. Contains z d) (sym (c.as_slice-c-items.ensures.value ∙ c.in_ok-characters.ensures.all))
          (given.0.all d can)) can;
      order = c.loop-c.invariant.order;
    }
