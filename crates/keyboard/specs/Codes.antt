-- The codes by which others know the keys: the keyboard's wire, evdev, X and QEMU.
use Rattle.std.specs.Prelude.{ℕ, ◌+◌, ◌-◌, ◌==◌, ◌≡◌, nat_lt, nat_le, ◌&&◌, ◌||◌, not, true, Bool, List, [], ◌∷◌}
use Rattle.std.specs.Prelude.{◌++◌, if◌then◌else◌, codes, drop, map, slice_index_or}
use Rattle.std.specs.Char.{to_ascii_lowercase}
use Rattle.std.specs.List.{list_any, range_with_len}
use Rattle.keyboard.specs.declared.board.Board.TheVariants.{Iso}
use Rattle.keyboard.specs.Boards.{Keys, beside, is_on, is_on_pad, name_of}

-- Keys of other boards that have numbers of their own: Katakana, the key of _ in Japan and of / in Brazil, Henkan,
-- Muhenkan, Yen, and the separator of a Brazilian pad.
abbrev pub elsewhere : List ℕ
elsewhere = 112 ∷ 115 ∷ 121 ∷ 123 ∷ 125 ∷ 126 ∷ []

-- ---- evdev

-- Up to 88 evdev's number is the key's code; 84 and 85 are no keys. From 89 on stand Enter of the pad, right Control,
-- / of the pad, Print Screen, right Alt; Home, up, Page Up; left, right; End, down, Page Down; Insert, Delete; Pause;
-- left and right Super, Menu; and last those of other boards.
abbrev pub evdev_numbers : List ℕ
evdev_numbers =
    range_with_len 0 84 ++ 0 ∷ 0 ∷ range_with_len 86 3
    ++ 96 ∷ 97 ∷ 98 ∷ 99 ∷ 100
    ∷ 102 ∷ 103 ∷ 104
    ∷ 105 ∷ 106
    ∷ 107 ∷ 108 ∷ 109
    ∷ 110 ∷ 111
    ∷ 119
    ∷ 125 ∷ 126 ∷ 127
    ∷ 0 ∷ 0 ∷ 0 ∷ 0 ∷ 93 ∷ 0 ∷ 0 ∷ 89 ∷ 0 ∷ 0 ∷ 0 ∷ 0 ∷ 0 ∷ 92 ∷ 0 ∷ 94 ∷ 0 ∷ 124 ∷ 121 ∷ []

-- 0 where there is none
unfoldable pub evdev_of : ℕ → ℕ
evdev_of code = slice_index_or evdev_numbers code 0

-- evdev has this number for a key of the board of 105 keys
abbrev pub IsEvdevOf : ℕ → ℕ → Type 0
IsEvdevOf code number = (is_on Iso code ≡ true) × (evdev_of code ≡ number)

-- ---- X: evdev's number and 8, 0 where there is none

abbrev pub x11_of : ℕ → ℕ
x11_of code = if evdev_of code == 0 then 0 else evdev_of code + 8

-- ---- set 1

-- A key from 89 on sends e0 and the byte of another one, with which it shared a place on the board of 83 keys: those of
-- evdev in their order, but for Pause, and Break, Power, Sleep and Wake. 91, 92, 93, 94, 95 and 99 are bytes alone.
abbrev pub behind_e0 : List ℕ
behind_e0 =
    28 ∷ 29 ∷ 53 ∷ 55 ∷ 56
    ∷ 71 ∷ 72 ∷ 73
    ∷ 75 ∷ 77
    ∷ 79 ∷ 80 ∷ 81
    ∷ 82 ∷ 83
    ∷ 0
    ∷ 91 ∷ 92 ∷ 93
    ∷ 70 ∷ 94 ∷ 95 ∷ 99 ∷ []

-- the key's byte is its code
abbrev pub sends_itself : ℕ → Bool
sends_itself code = nat_lt 0 code && nat_lt code 89 || list_any (λ k. k == code) elsewhere

-- What a press sends. That of Pause is the one of Control and Num Lock behind e1.
unfoldable pub set1_of : ℕ → List ℕ
set1_of code =
    if sends_itself code then code ∷ []
    else if code == 104 then 0xe1 ∷ 29 ∷ 69 ∷ []
    else if nat_le 89 code && nat_lt code 112 then 0xe0 ∷ slice_index_or behind_e0 (code - 89) 0 ∷ []
    else []

-- a release sends the same, each byte but e0 and e1 with 128 more
abbrev pub on_release : ℕ → ℕ
on_release byte = if nat_lt byte 128 then byte + 128 else byte

-- ---- QEMU

-- The names that QEMU has for signs, and others that don't follow from those on the keys.
abbrev pub own_qcodes : Keys
own_qcodes =
    (12, codes "minus") ∷ (13, codes "equal") ∷ (26, codes "bracket_left") ∷ (27, codes "bracket_right")
    ∷ (28, codes "ret") ∷ (29, codes "ctrl") ∷ (39, codes "semicolon") ∷ (40, codes "apostrophe")
    ∷ (41, codes "grave_accent") ∷ (42, codes "shift") ∷ (43, codes "backslash") ∷ (51, codes "comma")
    ∷ (52, codes "dot") ∷ (53, codes "slash") ∷ (54, codes "shift_r") ∷ (55, codes "kp_multiply")
    ∷ (56, codes "alt") ∷ (57, codes "spc") ∷ (74, codes "kp_subtract") ∷ (78, codes "kp_add")
    ∷ (83, codes "kp_decimal") ∷ (86, codes "less") ∷ (90, codes "ctrl_r") ∷ (91, codes "kp_divide")
    ∷ (92, codes "print") ∷ (93, codes "alt_r") ∷ (96, codes "pgup") ∷ (101, codes "pgdn")
    ∷ (105, codes "meta_l") ∷ (106, codes "meta_r") ∷ (107, codes "compose") ∷ (115, codes "ro")
    ∷ (121, codes "henkan") ∷ (123, codes "muhenkan") ∷ (125, codes "yen") ∷ (126, codes "kp_comma") ∷ []

-- in small letters, with _ for a blank
abbrev pub as_a_word : List ℕ → List ℕ
as_a_word name = map (λ c. if c == 32 then 95 else to_ascii_lowercase c) name

-- the name on the key as such a word; `keypad` is `kp` there
abbrev pub named_qcode : ℕ → List ℕ
named_qcode code =
    if is_on_pad code && not (code == 69) then codes "kp_" ++ as_a_word (drop 7 (name_of Iso code))
    else as_a_word (name_of Iso code)

-- empty where there is none
unfoldable pub qcode_of : ℕ → List ℕ
qcode_of code = beside own_qcodes code (named_qcode code)
