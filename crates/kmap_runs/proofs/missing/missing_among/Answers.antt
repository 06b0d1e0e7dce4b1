use Rattle.kmap_runs.proofs.Common.{◌≡◌, ◌∙◌, ◌+◌, ◌<◌, ◌∷◌, ◌++◌, [], ℕ, Ok, true, ap, arith, length, rules, subst}
use Rattle.kmap_runs.proofs.Common.{sym}
use Rattle.kmap_runs.proofs.Common.{take}
use Rattle.std.proofs.lemmas.List.{take_all, take_more}
use Rattle.std.specs.List.{list_any}
use Rattle.std.specs.Prelude.{nat_eq}
use Rattle.kmap_runs.proofs.Untyped.{judged-more, seen-more}
use Rattle.kmap_runs.specs.Missing.{AreMissing}
use Rattle.kmap_runs.specs.declared.missing.Missing.{Missing}
use Rattle.kmap_runs.proofs.Sentences.{one-further, room-for}
use Rattle.kmap_runs.proofs.missing.missing_among.Goals as goal

pub overflow_add-offset : goal.overflow_add-offset
overflow_add-offset c = search (rules, room-for)

pub loop-c-preserved : goal.loop-c-preserved
loop-c-preserved c =
    let cs = c.args.characters.now in
    let k = c.loop-c.c-index in
    let x : ℕ = c.c-item.result in
    let one : Missing = record { offset = c.loop-c.offset; character = x } in
    let lt : k < length cs = c.loop-c-test.true in
    let more : take (k + 1) cs ≡ take k cs ++ x ∷ [] =
    take_more cs k x lt ∙ ap (λ y. take k cs ++ y ∷ []) (sym c.c-item.is) in
    let known : c.add_untyped.result ≡ Ok true =
    c.in_ok-add_untyped.was ∙ ap (λ b. Ok b) c.if-not-branch.false in
    let before = c.loop-c.invariant in
    record {
      offset =
          let at = before.offset in
          let long = c.len_utf8.ensures.value in
          let further = one-further cs k x lt c.c-item.is in
          omega arith;
      seen =
          λ q. seen-more q x _ _ (take k cs) (c.in_ok-add_untyped.ensures.seen q) (before.seen q)
          ∙ ap (λ z. list_any (nat_eq q) z) (sym more);
      are =
          subst (λ z. AreMissing c.args.typist.now z c.add_untyped.new.found.items) (sym more)
          (judged-more c.args.typist.now (take k cs) one c.loop-c.found.items c.add_untyped.new.found.items
          before.offset before.are
          (λ e. c.add_untyped.ensures.again known (before.seen x ∙ e))
          (λ e. c.add_untyped.ensures.new known (before.seen x ∙ e)));
    }

pub returns-then-not-branch-clause-err : goal.returns-then-not-branch-clause-err
returns-then-not-branch-clause-err c bytes =
    c.add_untyped.ensures.undecided (c.in_ok-add_untyped.was ∙ ap (λ b. Ok b) c.if-not-branch.true)

pub returns-clause-ok : goal.returns-clause-ok
returns-clause-ok c =
    subst (λ z. AreMissing c.args.typist.now z c.loop-c.found.items) (take_all _ _ c.loop-c-test.false)
    c.loop-c.invariant.are
