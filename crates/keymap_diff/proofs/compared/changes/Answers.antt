use Rattle.std.proofs.Common.{arith, refl}
use Rattle.keymap_diff.proofs.Pushing.{all_pushed, places-both, places-more, places-one, pushes-option}
use Rattle.keymap_diff.specs.Inner.Pushing.{IsAt, PushesPlaces}
use Rattle.keymap_diff.proofs.compared.changes.Goals as goal

pub returns : goal.returns
returns c =
    let v = c.args.versions.now in
    let none = c.new-found.result.items in
    let slots = c.add.new.found.items in
    let accents = c.add-2.new.found.items in
    let cells = c.push_slots.new.found.items in
    let found = c.push_accents.new.found.items in
    let first : PushesPlaces v 0 1 none slots =
    places-one v 0 1 none slots refl
    (pushes-option (IsAt v 0) c.slot_counts.result none slots c.slot_counts.ensures c.in_ok-add.ensures) in
    let second : PushesPlaces v 0 2 none accents =
    places-more v 0 1 2 none slots accents (omega arith) refl first
    (pushes-option (IsAt v 1) c.accent_counts.result slots accents c.accent_counts.ensures c.in_ok-add-2.ensures) in
    let third : PushesPlaces v 0 2306 none cells =
    places-both v 0 2 2306 none accents cells (omega arith) (omega arith) second c.in_ok-push_slots.ensures in
    all_pushed v none found c.new-found.ensures.items
    (places-both v 0 2306 2351 none cells found (omega arith) (omega arith) third c.in_ok-push_accents.ensures)
