use Rattle.std.proofs.Common.{arith, ◌+◌, ◌*◌}
use Rattle.keymap_diff.proofs.Pushing.{places-more, places-one, pushes-option}
use Rattle.keymap_diff.specs.Inner.Pushing.{IsAt, PushesPlaces}
use Rattle.keymap_diff.proofs.compared.push_accent.Goals as goal

pub returns : goal.returns
returns c =
    let v = c.args.versions.now in
    let i = c.args.accent in
    let none = c.args.found.now.items in
    let own = c.add.new.found.items in
    let pairs = c.push_pairs_of.new.found.items in
    let now = c.add-2.new.found.items in
    let first : PushesPlaces v (2306 + i * 3) (2306 + (i * 3 + 1)) none own =
    places-one v (2306 + i * 3) (2306 + (i * 3 + 1)) none own (omega arith)
    (pushes-option (IsAt v (2306 + i * 3)) c.accent_character.result none own c.accent_character.ensures
    c.in_ok-add.ensures) in
    let second : PushesPlaces v (2306 + i * 3) (2306 + (i * 3 + 2)) none pairs =
    places-more v (2306 + i * 3) (2306 + (i * 3 + 1)) (2306 + (i * 3 + 2)) none own pairs (omega arith) (omega arith)
    first c.in_ok-push_pairs_of.ensures in
    places-more v (2306 + i * 3) (2306 + (i * 3 + 2)) (2306 + (i + 1) * 3) none pairs now (omega arith) (omega arith)
    second (pushes-option (IsAt v (2306 + (i * 3 + 2))) c.listed_otherwise.result pairs now
    c.listed_otherwise.ensures c.in_ok-add-2.ensures)
