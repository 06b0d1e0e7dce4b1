-- The layout of a text.
use Rattle.std.specs.Prelude.{ℕ, List, [], ◌∷◌, ◌++◌}
use Rattle.keymap_fmt.specs.Types.{State}
use Rattle.keymap_fmt.specs.Pieces.{PieceValue, pieces}
use Rattle.keymap_fmt.specs.Layout.{before, after, ending, line_end, start}

-- the pieces, written one after the other
unfoldable pub rendered_from : State → List PieceValue → List ℕ
rendered_from s [] = line_end s.column
rendered_from s (p ∷ ps) =
    before s p.part p.bytes p.standing ++ (p.bytes ++ (ending p.part ++ rendered_from (after s p.part p.bytes) ps))

abbrev pub rendered : List PieceValue → List ℕ
rendered ps = rendered_from start ps

abbrev pub formatted : List ℕ → List ℕ
formatted text = rendered (pieces text)

-- the state behind some pieces
unfoldable pub state_behind : State → List PieceValue → State
state_behind s [] = s
state_behind s (p ∷ ps) = state_behind (after s p.part p.bytes) ps
