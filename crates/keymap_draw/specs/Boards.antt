-- Where the keys of the boards stand, and their shapes, in units of which 64 are one key.
use Rattle.std.specs.Prelude.{ℕ, ◌+◌, ◌==◌, Bool, true, false, List, [], ◌∷◌, if◌then◌else◌}
use Rattle.std.specs.List.{flat_map}
use Rattle.keyboard.specs.declared.board.Board.{Board}
use Rattle.keyboard.specs.declared.board.Board.TheVariants.{Iso, Ansi}
use Rattle.keymap_draw.specs.declared.board.On.{On}
use Rattle.keymap_draw.specs.declared.board.On.TheVariants as on
use Rattle.keymap_draw.specs.declared.board.Run.{Run}
use Rattle.keymap_draw.specs.declared.board.Shape.{Shape}
use Rattle.keymap_draw.specs.declared.board.Shape.TheVariants.{A, B, C, D, E, F, G, H, Tall, Enter}
use Rattle.keymap_draw.specs.declared.board.TheConstants.{RUNS}

-- the letter that names the shape in the picture
abbrev pub letter : Shape → ℕ
letter A = 97
letter B = 98
letter C = 99
letter D = 100
letter E = 101
letter F = 102
letter G = 103
letter H = 104
letter Tall = 116
letter Enter = 69

abbrev pub width : Shape → ℕ
width A = 64
width B = 80
width C = 96
width D = 112
width E = 128
width F = 144
width G = 176
width H = 400
width Tall = 64
width Enter = 96

abbrev pub height : Shape → ℕ
height Tall = 128
height Enter = 128
height s = 64

-- a key of a board: its code, where its top left corner is, and its shape
pub record Row : Type 0 where
  pub code : ℕ
  pub x : ℕ
  pub y : ℕ
  pub shape : Shape

-- keys one behind the other up to a code 0, the first with its corner at this place
abbrev pub laid : ℕ → ℕ → Shape → List ℕ → List Row
laid x y s [] = []
laid x y s (code ∷ codes) =
    if code == 0 then [] else record { code = code; x = x; y = y; shape = s } ∷ laid (x + width s) y s codes

-- the keys stand on the board
abbrev pub stand_on : On → Board → Bool
stand_on on.Iso Ansi = false
stand_on on.Ansi Iso = false
stand_on _ _ = true

abbrev pub has_run : Board → Run → Bool
has_run board run = stand_on run.on board

abbrev pub keys_in : Board → Run → List Row
keys_in board run = if has_run board run then laid run.x run.y run.shape run.codes else []

-- the keys that a board draws, in their order
abbrev pub keys_of : Board → List Row
keys_of board = flat_map (keys_in board) RUNS
