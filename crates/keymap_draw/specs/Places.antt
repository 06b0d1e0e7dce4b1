-- Where texts stand on a cap, and the classes by which the style gives them size, side and colour.
use Rattle.std.specs.Prelude.{ℕ, ◌+◌, ◌-◌, ◌*◌, ◌/◌, ◌==◌, nat_lt, Bool, true, false, ◌&&◌, not, List, [], ◌∷◌, ◌++◌}
use Rattle.std.specs.Prelude.{codes, length, min, slice_index_or}
use Rattle.std.specs.Prelude.{◌≡◌, Option, Some, None, option_to_list, slice_index, if◌then◌else◌}
use Rattle.std.specs.List.{list_any}
use Rattle.keymap_core.specs.declared.action.Action.TheVariants as a
use Rattle.keymap_core.specs.declared.entry.Cell.{Cell}
use Rattle.keymap_core.specs.declared.entry.Cell.TheVariants.{Char, Act}
use Rattle.keymap_core.specs.Maps.{MapValue, accent_or_blank}
use Rattle.keymap_draw.specs.declared.board.Shape.{Shape}
use Rattle.keymap_draw.specs.declared.board.Shape.TheVariants as shape
use Rattle.keymap_draw.specs.declared.place.Column.{Column}
use Rattle.keymap_draw.specs.declared.place.Column.TheVariants.{Base, Shift, Alt, AltShift}
use Rattle.keymap_draw.specs.Boards.{width, height}
use Rattle.keymap_draw.specs.Characters.{is_large}
use Rattle.keymap_draw.specs.Legends.{is_word}

abbrev pub is_right : Column → Bool
is_right Base = false
is_right Shift = false
is_right Alt = true
is_right AltShift = true

abbrev pub is_above : Column → Bool
is_above Base = false
is_above Shift = true
is_above Alt = false
is_above AltShift = true

-- the column beside it
abbrev pub beside_of : Column → Column
beside_of Base = Alt
beside_of Shift = AltShift
beside_of Alt = Base
beside_of AltShift = Shift

-- where the code of a key begins
abbrev pub code_x : Shape → ℕ
code_x shape.Enter = 24
code_x s = 8

-- the base line of the legends below
abbrev pub low_y : Shape → ℕ
low_y shape.Enter = 41
low_y s = height s - 23

abbrev pub middle_x : Shape → ℕ
middle_x shape.Enter = (width shape.Enter + 12) / 2
middle_x s = (width s - 4) / 2

-- where the legend of a column stands, or one that stands alone
abbrev pub legend_x : Shape → Column → Bool → ℕ
legend_x s column alone = if alone then middle_x s else if is_right column then width s - 14 else 10

-- the base line of a legend, which a word that stands alone has a little higher
abbrev pub legend_y : Shape → Column → Bool → Bool → ℕ
legend_y s column alone word =
    if alone then (if word then height s / 2 - 2 else height s / 2 + 1)
    else if is_above column then 20
    else low_y s

-- the letters that are classes of keys and of legends, and the blank between them
abbrev pub is_class : ℕ → Bool
is_class letter = list_any (λ c. c == letter) (codes " botuvwxyzcraedmfpgnq")

abbrev pub IsClass : ℕ → Type 0
IsClass letter = is_class letter ≡ true

-- The classes for the size of words of 2 characters to 8, of which the last is for longer ones too: of a word alone,
-- of one in a corner that another legend stands beside on a small cap, and of any other word in a corner.
abbrev pub alone_sizes : List ℕ
alone_sizes = codes "wwxxxuu"

abbrev pub tight_sizes : List ℕ
tight_sizes = codes "otyybbb"

abbrev pub corner_sizes : List ℕ
corner_sizes = codes "vvvoott"

-- the class for a word of so many characters
abbrev pub size_by : List ℕ → ℕ → ℕ
size_by sizes n = slice_index sizes (min n 8 - 2)

-- the class for the size of a legend: of a sign of a script with large ones w alone and o in a corner, and z of another
-- sign that stands alone
abbrev pub size_class : List ℕ → Bool → Bool → Option ℕ
size_class legend alone tight =
    if is_word legend then Some (
    if alone then size_by alone_sizes (length legend)
    else if tight then size_by tight_sizes (length legend)
    else size_by corner_sizes (length legend)
    )
    else if list_any is_large legend then Some (if alone then 119 else 111)
    else if alone then Some 122
    else None

-- how high the letters of a word or a large sign are, by the class for its size
abbrev pub pixels : ℕ → ℕ
pixels class =
    if class == 119 then 16
    else if class == 120 then 13
    else if class == 118 then 12
    else if class == 111 then 11
    else if class == 117 then 10
    else if class == 116 then 9
    else if class == 121 then 8
    else 5

-- a word that is the code of a character: U+ and digits
abbrev pub is_code : List ℕ → Bool
is_code legend = is_word legend && (slice_index_or legend 1 0 == 43)

-- how wide a word is taken to be, in tenths: seven tenths of its height for each character of a code, and six for each
-- of another word
abbrev pub tenths : List ℕ → ℕ → ℕ
tenths legend high = length legend * high * (if is_code legend then 7 else 6)

-- how wide the place of a legend is: the face of the cap but for its edges, half of it, or all of a small cap's where
-- no legend stands beside
abbrev pub room : Shape → Bool → Bool → ℕ
room s alone tight =
    if alone then width s - 16
    else if nat_lt (width s) 112 && not tight then width s - 24
    else (width s - 24) / 2

-- a word that is wider than its place is shrunk to two units less
abbrev pub shrunk_by : List ℕ → ℕ → Option ℕ → Option ℕ
shrunk_by legend place None = None
shrunk_by legend place (Some class) =
    if is_word legend && nat_lt (place * 10) (tenths legend (pixels class)) then Some (place - 2) else None

-- the length to which a legend is shrunk, if it is
unfoldable pub shrunk_length : Shape → List ℕ → Bool → Bool → Option ℕ
shrunk_length s legend alone tight = shrunk_by legend (room s alone tight) (size_class legend alone tight)

-- The class for its side: c lets it stand on both sides of its place, r on the left of it, and none on the right.
abbrev pub side_class : Column → Bool → Option ℕ
side_class column alone = if alone then Some 99 else if is_right column then Some 114 else None

-- a for a column with alt
abbrev pub plain_class : Column → Option ℕ
plain_class column = if is_right column then Some 97 else None

-- The class for its colour: e for a dead key whose accent has no character, d for any other, m for a modifier or lock.
abbrev pub kind_class : MapValue → Column → Cell → Option ℕ
kind_class m column (Char c) = plain_class column
kind_class m column (Act (a.DeadKey i)) = Some (if (accent_or_blank m i).own == 0 then 101 else 100)
kind_class m column (Act (a.Mod modifier)) = Some 109
kind_class m column (Act (a.Lock lock)) = Some 109
kind_class m column (Act action) = plain_class column

-- classes with one more, behind a blank where there are some
abbrev pub and_class : List ℕ → Option ℕ → List ℕ
and_class classes None = classes
and_class [] (Some class) = class ∷ []
and_class (c ∷ classes) (Some class) = (c ∷ classes) ++ (32 ∷ class ∷ [])

-- the classes of a legend: for its size, its side and its colour
unfoldable pub legend_classes : MapValue → Column → Cell → List ℕ → Bool → Bool → List ℕ
legend_classes m column cell legend alone tight =
    and_class (and_class (option_to_list (size_class legend alone tight)) (side_class column alone))
    (kind_class m column cell)
