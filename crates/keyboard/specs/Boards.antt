-- The boards as they stand on a desk: rows of keys, each from left to right, by their codes and the names on them.
use Rattle.std.specs.Prelude.{ℕ, suc, ◌+◌, ◌==◌, Bool, List, [], ◌∷◌, ◌++◌, None, Some, codes, decimal, map}
use Rattle.std.specs.List.{find, list_any, range_with_len}
use Rattle.keyboard.specs.declared.board.Board.{Board}
use Rattle.keyboard.specs.declared.board.Board.TheVariants.{Iso, Ansi}

-- keys with their names
abbrev pub Keys : Type 0
Keys = List (ℕ × List ℕ)

abbrev pub key : ℕ → List ℕ → Keys
key code name = (code, name) ∷ []

-- Keys of one character each, whose codes follow each other from the first one's on.
abbrev pub lettered : ℕ → List ℕ → Keys
lettered code [] = []
lettered code (c ∷ cs) = (code, c ∷ []) ∷ lettered (suc code) cs

-- so many function keys, whose codes follow those of this number
abbrev pub functions : ℕ → ℕ → ℕ → Keys
functions before first n = map (λ i. (before + i, codes "F" ++ decimal i)) (range_with_len first n)

-- keys of the pad
abbrev pub on_pad : ℕ → List ℕ → Keys
on_pad code name = key code (codes "keypad " ++ name)

-- Escape, the function keys; Print Screen, Scroll Lock, Pause
abbrev pub function_row : Keys
function_row =
    key 1 (codes "Esc") ++ functions 58 1 10 ++ functions 76 11 2 ++ key 92 (codes "Print Screen")
    ++ key 70 (codes "Scroll Lock") ++ key 104 (codes "Pause")

-- the digits, with Backspace; Insert, Home, Page Up
abbrev pub digit_row : Keys
digit_row =
    lettered 41 (codes "`") ++ lettered 2 (codes "1234567890-=") ++ key 14 (codes "Backspace")
    ++ key 102 (codes "Insert") ++ key 94 (codes "Home") ++ key 96 (codes "Page Up")

-- Tab, the letters from Q on, and what stands behind them; Delete, End, Page Down
abbrev pub upper_row : Keys → Keys
upper_row last =
    key 15 (codes "Tab") ++ lettered 16 (codes "QWERTYUIOP[]") ++ last ++ key 103 (codes "Delete")
    ++ key 99 (codes "End") ++ key 101 (codes "Page Down")

-- Caps Lock, the letters from A on, and what stands behind them
abbrev pub home_row : Keys → Keys
home_row last = key 58 (codes "Caps Lock") ++ lettered 30 (codes "ASDFGHJKL;'") ++ last

-- the left Shift, what stands behind it, the letters from Z on, the right Shift; up
abbrev pub lower_row : Keys → Keys
lower_row first =
    key 42 (codes "left Shift") ++ first ++ lettered 44 (codes "ZXCVBNM,./") ++ key 54 (codes "right Shift")
    ++ key 95 (codes "Up")

-- the blank with the keys on its sides, of which the first on its right has another name on each board; left, down and
-- right
abbrev pub blank_row : List ℕ → Keys
blank_row name =
    key 29 (codes "left Ctrl") ++ key 105 (codes "left Super") ++ key 56 (codes "left Alt") ++ key 57 (codes "Space")
    ++ key 93 name ++ key 106 (codes "right Super") ++ key 107 (codes "Menu") ++ key 90 (codes "right Ctrl")
    ++ key 97 (codes "Left") ++ key 100 (codes "Down") ++ key 98 (codes "Right")

-- The board of 105 has the backslash behind the home letters, before the end of a high Enter, and a key behind a short
-- left Shift; the one of 104 has the backslash above Enter.
abbrev pub main_block : Board → Keys
main_block Iso =
    function_row ++ digit_row ++ upper_row [] ++ home_row (lettered 43 (codes "\\") ++ key 28 (codes "Enter"))
    ++ lower_row (lettered 86 (codes "<")) ++ blank_row (codes "AltGr")
main_block Ansi =
    function_row ++ digit_row ++ upper_row (lettered 43 (codes "\\")) ++ home_row (key 28 (codes "Enter"))
    ++ lower_row [] ++ blank_row (codes "right Alt")

-- the pad, the same on both: Num Lock and the operators; 7, 8, 9 and plus; 4, 5, 6; 1, 2, 3 and Enter; 0 and the period
abbrev pub pad : Keys
pad =
    key 69 (codes "Num Lock") ++ on_pad 91 (codes "/") ++ on_pad 55 (codes "*") ++ on_pad 74 (codes "-")
    ++ on_pad 71 (codes "7") ++ on_pad 72 (codes "8") ++ on_pad 73 (codes "9") ++ on_pad 78 (codes "+")
    ++ on_pad 75 (codes "4") ++ on_pad 76 (codes "5") ++ on_pad 77 (codes "6")
    ++ on_pad 79 (codes "1") ++ on_pad 80 (codes "2") ++ on_pad 81 (codes "3") ++ on_pad 89 (codes "Enter")
    ++ on_pad 82 (codes "0") ++ on_pad 83 (codes ".")

abbrev pub keys_on : Board → Keys
keys_on board = main_block board ++ pad

abbrev pub has_code : Keys → ℕ → Bool
has_code keys code = list_any (λ k. k.0 == code) keys

unfoldable pub is_on : Board → ℕ → Bool
is_on board code = has_code (keys_on board) code

unfoldable pub is_on_pad : ℕ → Bool
is_on_pad code = has_code pad code

-- what stands beside the code in a list, or else this
abbrev pub beside : Keys → ℕ → List ℕ → List ℕ
beside keys code other = elim (find (λ k. k.0 == code) keys) [
  | None ↦ other
  | Some k ↦ k.1
]

-- the name on the board, empty where the key isn't there
unfoldable pub name_of : Board → ℕ → List ℕ
name_of board code = beside (keys_on board) code []
