use Rattle.keymap_consequences.proofs.Common.{◌≡◌, ◌∙◌, arith, subst, sym, Contains}
use Rattle.std.proofs.Common.{get_or}
use Rattle.std.proofs.lemmas.Option.{same_Some, slice_get-get_or, slice_get_within}
use Rattle.console_scripts.specs.Typing.{CanType}
use Rattle.keymap_consequences.proofs.laws.sentences_stay.Goals as goal

pub returns : goal.returns
returns g =
    λ m n x are none cs all k error.
    let (before, (c, at, cannot)) = error in
    let within = slice_get_within cs k c at in
    let here : get_or cs k c ≡ c = sym (same_Some c (get_or cs k c) (sym at ∙ slice_get-get_or cs k c within)) in
    let can : CanType m c = subst (CanType m) here (all k c within) in
    let (i, lt, there) = subst (λ zs. Contains zs c) none (are.types_no_longer.all c (can, cannot)) in
    absurd (omega (arith, lt))
