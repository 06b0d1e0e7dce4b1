use Rattle.std.proofs.Common.{rules}
use Rattle.keymap_cover.proofs.Common.{[], refl}
use Rattle.keymap_cover.proofs.Showing.{rests-behind}
use Rattle.keymap_cover.proofs.cover.go_home.Goals as goal

pub returns-then-is_empty : goal.returns-then-is_empty
returns-then-is_empty g c = λ h at. (h, at, ([], refl))

pub returns : goal.returns
returns g c = search (rules, rests-behind)
