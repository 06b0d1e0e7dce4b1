use Rattle.keymap_diff.proofs.Common.{inl, inr, subst, sym, AreClear}
use Rattle.keymap_diff.specs.Inner.Searches.{IsSearched}
use Rattle.keymap_diff.proofs.Clearing.{nearest-more, searched-clear}
use Rattle.keymap_diff.proofs.searched.Searched.with_accent.Goals as goal

pub returns-then-not-may_be_nearer : goal.returns-then-not-may_be_nearer
returns-then-not-may_be_nearer c =
    nearest-more _ _ _ c.args.self _ c.requires c.requires.0
    (λ b within. (within, c.may_be_nearer.ensures c.if-not-may_be_nearer.true b within))

pub returns : goal.returns
returns c =
    let m = c.args.both.now.old.now in
    let n = c.args.both.now.new.now in
    let other = c.in_ok-other.other in
    let told = c.in_ok-other.ensures in
    nearest-more m n c.args.accent c.args.self c.or_nearer.result c.requires
    (elim c.or_nearer.ensures.either [
      | inl is ↦ subst (λ x. IsSearched m n x) (sym is) c.requires.0
      | inr is ↦ subst (λ x. IsSearched m n x) (sym is) told.searched
    ])
    (λ b within.
    let (mine, its) = c.or_nearer.ensures.nearer b within in
    (mine, subst (λ p. AreClear m n p b) told.minded (searched-clear m n other told.searched b its)))
