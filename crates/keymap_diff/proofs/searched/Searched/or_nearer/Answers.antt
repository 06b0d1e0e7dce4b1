use Rattle.keymap_diff.proofs.Common.{subst, sym}
use Rattle.keymap_diff.specs.Inner.Searches.{IsWithin}
use Rattle.keymap_diff.proofs.searched.Searched.or_nearer.Goals as goal

pub returns-else-is_beyond-clause-nearer : goal.returns-else-is_beyond-clause-nearer
returns-else-is_beyond-clause-nearer c b within =
    let le = c.is_beyond.ensures.within c.if-is_beyond.false b within in
    (within, subst (λ o. IsWithin b o) (sym c.in-Some.is) le)
