use Rattle.console_scripts.proofs.Common.{false, true}
use Rattle.console_scripts.proofs.Tapping.{all-typed, gains-from, marked-tapped}
use Rattle.std.proofs.lemmas.List.Elements.{same_from_all_zip}
use Rattle.console_scripts.proofs.typed.typed_by.Goals as goal

pub returns-then-places : goal.returns-then-places
returns-then-places c =
    let m = c.args.map.now in
    let done = c.args.places.now.is_complete in
    let marks = c.args.places.now.plain in
    let plain = c.in_ok-plain.plain in
    all-typed m done plain plain _
    (marked-tapped m false done marks plain (c.requires.alike c.if-places.true) c.in_ok-plain.ensures)
    (marked-tapped m true done marks plain c.requires.plain c.in_ok-plain.ensures)
    (gains-from plain.characters c.in_ok-typed.typed _ _
    (same_from_all_zip _ _ _ c.in_ok-typed.ensures.cases (λ x y e. e)) c.in_ok-add_composed.ensures) c.requires.many

pub returns : goal.returns
returns c =
    let m = c.args.map.now in
    let done = c.args.places.now.is_complete in
    let plain = c.in_ok-plain.plain in
    all-typed m done c.in_ok-tapped.tapped plain _
    (marked-tapped m false done c.args.places.now.all c.in_ok-tapped.tapped c.requires.all c.in_ok-tapped.ensures)
    (marked-tapped m true done c.args.places.now.plain plain c.requires.plain c.in_ok-plain.ensures)
    (gains-from plain.characters c.in_ok-typed.typed _ _
    (same_from_all_zip _ _ _ c.in_ok-typed.ensures.cases (λ x y e. e)) c.in_ok-add_composed-2.ensures) c.requires.many
