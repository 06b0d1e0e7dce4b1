-- The boards as a person reads them: rows of keys, each from left to right, by their key codes. And what makes a board
-- one: no key twice, no key over another one, none beside the panel.
use Rattle.std.specs.Prelude.{◌≡◌, ◌≢◌, ℕ, ◌+◌, ◌==◌, nat_le, Bool, true, ◌||◌, ◌&&◌, List, [], ◌∷◌, ◌++◌, length, map}
use Rattle.std.specs.Prelude.{All, AllPairs}
use Rattle.std.specs.List.{filter_map, find, list_all, list_any, range_with_len}
use Rattle.keyboard.specs.Boards.{is_on}
use Rattle.keymap_core.specs.Numbers.{key_count}
use Rattle.keyboard.specs.declared.board.Board.{Board}
use Rattle.keyboard.specs.declared.board.Board.TheVariants.{Iso, Ansi}
use Rattle.keymap_draw.specs.declared.board.Shape.{Shape}
use Rattle.keymap_draw.specs.declared.board.Shape.TheVariants.{A, B, C, D, E, F, G, H, Tall, Enter}
use Rattle.keymap_draw.specs.Boards.{Row, keys_of, width, height}

-- keys one behind the other, the first with its corner at this place
abbrev pub keys_from : ℕ → ℕ → List (ℕ × Shape) → List Row
keys_from x y [] = []
keys_from x y (key ∷ keys) = record { code = key.0; x = x; y = y; shape = key.1 } ∷ keys_from (x + width key.1) y keys

-- keys of one shape, and of the shape of letters
abbrev pub of_shape : Shape → List ℕ → List (ℕ × Shape)
of_shape shape codes = map (λ code. (code, shape)) codes

abbrev pub alike : List ℕ → List (ℕ × Shape)
alike codes = of_shape A codes

-- Escape; F1 to F4, F5 to F8, F9 to F12; Print Screen, Scroll Lock, Pause
abbrev pub function_row : List Row
function_row =
    keys_from 0 0 (alike (1 ∷ [])) ++ keys_from 128 0 (alike (59 ∷ 60 ∷ 61 ∷ 62 ∷ []))
    ++ keys_from 416 0 (alike (63 ∷ 64 ∷ 65 ∷ 66 ∷ []))
    ++ keys_from 704 0 (alike (67 ∷ 68 ∷ 87 ∷ 88 ∷ []))
    ++ keys_from 976 0 (alike (92 ∷ 70 ∷ 104 ∷ []))

-- grave, 1 to 0, minus, equal and Backspace; Insert, Home, Page Up; Num Lock, and on the number pad slash, asterisk and
-- minus
abbrev pub digit_row : List Row
digit_row =
    keys_from 0 80 (alike (41 ∷ 2 ∷ 3 ∷ 4 ∷ 5 ∷ 6 ∷ 7 ∷ 8 ∷ 9 ∷ 10 ∷ 11 ∷ 12 ∷ 13 ∷ []) ++ (14, E) ∷ [])
    ++ keys_from 976 80 (alike (102 ∷ 94 ∷ 96 ∷ []))
    ++ keys_from 1184 80 (alike (69 ∷ 91 ∷ 55 ∷ 74 ∷ []))

-- Tab, Q W E R T Y U I O P and two more, and what stands behind them
abbrev pub upper_row : List (ℕ × Shape) → List Row
upper_row last =
    keys_from 0 144 ((15, C) ∷ alike (16 ∷ 17 ∷ 18 ∷ 19 ∷ 20 ∷ 21 ∷ 22 ∷ 23 ∷ 24 ∷ 25 ∷ 26 ∷ 27 ∷ []) ++ last)
    ++ keys_from 976 144 (alike (103 ∷ 99 ∷ 101 ∷ []))
    ++ keys_from 1184 144 (alike (71 ∷ 72 ∷ 73 ∷ []) ++ (78, Tall) ∷ [])

-- Caps Lock, A S D F G H J K L and two more, and what stands behind them; 4, 5, 6 of the number pad. In the row above:
-- Delete, End, Page Down; 7, 8, 9 of the number pad and its plus.
abbrev pub home_row : List (ℕ × Shape) → List Row
home_row last =
    keys_from 0 208 ((58, D) ∷ alike (30 ∷ 31 ∷ 32 ∷ 33 ∷ 34 ∷ 35 ∷ 36 ∷ 37 ∷ 38 ∷ 39 ∷ 40 ∷ []) ++ last)
    ++ keys_from 1184 208 (alike (75 ∷ 76 ∷ 77 ∷ []))

-- the left Shift with what stands behind it, Z X C V B N M and three more, the right Shift; the arrow up; 1, 2, 3 of
-- the number pad and its Enter
abbrev pub lower_row : List (ℕ × Shape) → List Row
lower_row first =
    keys_from 0 272 (first ++ alike (44 ∷ 45 ∷ 46 ∷ 47 ∷ 48 ∷ 49 ∷ 50 ∷ 51 ∷ 52 ∷ 53 ∷ []) ++ (54, G) ∷ [])
    ++ keys_from 1040 272 (alike (95 ∷ []))
    ++ keys_from 1184 272 (alike (79 ∷ 80 ∷ 81 ∷ []) ++ (89, Tall) ∷ [])

-- Control, Super, Alt, the blank, Alt, Super, Menu, Control; the arrows left, down and right; 0 and the period of the
-- number pad
abbrev pub blank_row : List Row
blank_row =
    keys_from 0 336 (of_shape B (29 ∷ 105 ∷ 56 ∷ []) ++ (57, H) ∷ of_shape B (93 ∷ 106 ∷ 107 ∷ 90 ∷ []))
    ++ keys_from 976 336 (alike (97 ∷ 100 ∷ 98 ∷ []))
    ++ keys_from 1184 336 ((82, E) ∷ alike (83 ∷ []))

-- The ISO board has a high Enter behind the upper letters, one key more behind the home letters, and one behind a short
-- left Shift; the ANSI one has that key behind the upper letters, and a flat Enter and a long left Shift.
abbrev pub keyboard : Board → List Row
keyboard Iso =
    function_row ++ digit_row ++ upper_row ((28, Enter) ∷ []) ++ home_row ((43, A) ∷ [])
    ++ lower_row ((42, B) ∷ (86, A) ∷ [])
    ++ blank_row
keyboard Ansi =
    function_row ++ digit_row ++ upper_row ((43, C) ∷ []) ++ home_row ((28, F) ∷ []) ++ lower_row ((42, F) ∷ [])
    ++ blank_row

-- the first key with each code, by the codes
abbrev pub by_code : List Row → List Row
by_code keys = filter_map (λ code. find (λ key. key.code == code) keys) (range_with_len 0 key_count)

-- What a board draws are the keys of the keyboard, each at its place and of its shape, and no others: those that stand
-- on the board.
pub record IsKeyboard (board : Board) : Type 0 where
  pub on :
      map (λ code. list_any (λ key. key.code == code) (keys_of board)) (range_with_len 0 key_count)
      ≡ map (is_on board) (range_with_len 0 key_count)
  pub keys : by_code (keys_of board) ≡ by_code (keyboard board)
  pub as_many : length (keys_of board) ≡ length (by_code (keys_of board))

abbrev pub BoardsAreKeyboards : Type 0
BoardsAreKeyboards = (board : Board) → IsKeyboard board

-- a rectangle of a cap: its corner, how wide it is and how high
pub record Part : Type 0 where
  pub x : ℕ
  pub y : ℕ
  pub wide : ℕ
  pub high : ℕ

-- a cap is one rectangle, but for the high Enter, whose lower part is narrower on its left
abbrev pub parts : Row → List Part
parts key = elim key.shape [
  | Enter ↦
      record { x = key.x; y = key.y; wide = 96; high = 64 }
      ∷ record { x = key.x + 16; y = key.y + 64; wide = 80; high = 64 }
      ∷ []
  | shape ↦ record { x = key.x; y = key.y; wide = width key.shape; high = height key.shape } ∷ []
]

-- two parts stand beside or below each other
abbrev pub part_apart : Part → Part → Bool
part_apart p q =
    nat_le (p.x + p.wide) q.x || nat_le (q.x + q.wide) p.x || nat_le (p.y + p.high) q.y || nat_le (q.y + q.high) p.y

abbrev pub are_apart : Row → Row → Bool
are_apart a b = list_all (λ p. list_all (part_apart p) (parts b)) (parts a)

-- the cap lies on the panel, which begins 12 to the left of the keys and 12 above them
abbrev pub is_on_panel : Row → Bool
is_on_panel key = nat_le (12 + key.x + width key.shape) 1460 && nat_le (12 + key.y + height key.shape) 420

abbrev pub EachKeyOnce : Type 0
EachKeyOnce = (board : Board) → AllPairs (λ a b. a.code ≢ b.code) (keys_of board)

abbrev pub NoTwoOverlap : Type 0
NoTwoOverlap = (board : Board) → AllPairs (λ a b. are_apart a b ≡ true) (keys_of board)

abbrev pub AllLieOnThePanel : Type 0
AllLieOnThePanel = (board : Board) → All (λ key. is_on_panel key ≡ true) (keys_of board)
