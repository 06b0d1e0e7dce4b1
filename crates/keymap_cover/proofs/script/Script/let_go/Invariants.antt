-- the console runs along, and the keys below the code are up
use Rattle.keymap_cover.proofs.Common.{◌≡◌, ◌<◌, ℕ, false, slice_index_or, GoesOn, MapValue}
use Rattle.keymap_cover.proofs.script.Script.let_go.Given as goal

abbrev pub invariant-loop-code : goal.invariant-loop-code
invariant-loop-code g l =
    ((m : MapValue) → GoesOn m g.T.Translator.stands l.fn.self l.self)
    × ((k : ℕ) → k < l.code → slice_index_or l.self.pressed k false ≡ false)
