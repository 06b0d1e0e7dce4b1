use Rattle.kmap_runs.proofs.Common.{◌≡◌, ◌∙◌, ◌+◌, ◌<◌, ◌∷◌, ◌++◌, [], ℕ, All, None, Ok, Some, ap, arith, length, refl}
use Rattle.kmap_runs.proofs.Common.{rules, subst, sym, take}
use Rattle.std.proofs.lemmas.List.{take_all, take_more}
use Rattle.std.proofs.lemmas.Option.{slice_get-get_or}
use Rattle.std.specs.List.{list_any}
use Rattle.std.specs.Prelude.{nat_eq}
use Rattle.kmap_runs.specs.Spelling.{IsSpelled, StopsAt, spelled_of}
use Rattle.kmap_runs.proofs.Spellings.{AreSpelledSo, none-so, spelled-more}
use Rattle.kmap_runs.proofs.Untyped.{seen-more}
use Rattle.kmap_runs.proofs.Sentences.{one-further, room-for}
use Rattle.kmap_runs.proofs.spelling.spelled_among.Goals as goal

pub overflow_add-offset : goal.overflow_add-offset
overflow_add-offset c = search (rules, room-for)

pub loop-c-init : goal.loop-c-init
loop-c-init c = record {
  offset = refl;
  seen = λ q. ap (λ z. list_any (nat_eq q) z) c.new-seen.ensures.empty;
  so =
      subst (λ z. AreSpelledSo c.args.board c.args.map.now [] z) (sym c.new-each.ensures.items)
      (none-so c.args.board c.args.map.now);
}

pub loop-c-preserved : goal.loop-c-preserved
loop-c-preserved c =
    let cs = c.args.characters.now in
    let k = c.loop-c.c-index in
    let x : ℕ = c.c-item.result in
    let lt : k < length cs = c.loop-c-test.true in
    let more : take (k + 1) cs ≡ take k cs ++ x ∷ [] =
    take_more cs k x lt ∙ ap (λ y. take k cs ++ y ∷ []) (sym c.c-item.is) in
    let known : c.add_new.result ≡ Ok None = c.in_ok-error.was ∙ ap (λ o. Ok o) c.in_default.is in
    let before = c.loop-c.invariant in
    record {
      offset =
          let at = before.offset in
          let long = c.len_utf8.ensures.value in
          let further = one-further cs k x lt c.c-item.is in
          omega arith;
      seen =
          λ q. seen-more q x _ _ (take k cs) (c.in_ok-error.ensures.seen q) (before.seen q)
          ∙ ap (λ z. list_any (nat_eq q) z) (sym more);
      so =
          subst (λ z. AreSpelledSo c.args.board c.args.map.now z c.add_new.new.each.items) (sym more)
          (spelled-more c.args.board c.args.map.now (take k cs) x c.loop-c.each.items c.add_new.new.each.items
          before.so
          (λ e. c.add_new.ensures.again known (before.seen x ∙ e))
          (λ e. c.add_new.ensures.new known (before.seen x ∙ e)));
    }

pub returns-in-Some : goal.returns-in-Some
returns-in-Some c =
    let m = c.args.map.now in
    let cs = c.args.characters.now in
    let k = c.loop-c.c-index in
    let x : ℕ = c.c-item.result in
    let lt : k < length cs = c.loop-c-test.true in
    let before = c.loop-c.invariant in
    let kept : c.add_new.new.each.items ≡ c.loop-c.each.items = rw c.in-Some.is at c.in_ok-error.ensures.kept in
    let stops : StopsAt m x c.loop-c.offset c.in-Some.error = rw c.in-Some.is at c.in_ok-error.ensures.stopped in
    record {
      each = subst (All (IsSpelled c.args.board m)) (sym kept) before.so.each;
      place = k;
      are = ap spelled_of kept ∙ before.so.are;
      all = λ e. absurd (cc);
      stopped = (
        x,
        slice_get-get_or cs k x lt ∙ ap (λ y. Some y) (sym c.c-item.is),
        subst (λ n. StopsAt m x n c.in-Some.error) before.offset stops,
      );
    }

pub returns : goal.returns
returns c = record {
  each = c.loop-c.invariant.so.each;
  place = c.loop-c.c-index;
  are = c.loop-c.invariant.so.are;
  all = λ e. take_all _ _ c.loop-c-test.false;
  stopped = tt;
}
