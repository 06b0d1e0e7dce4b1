-- Lists of characters, and what is said of letters that control doesn't type and of numbers that look octal.
use Rattle.std.specs.Prelude.{ℕ, ◌+◌, ◌-◌, ◌==◌, nat_lt, Bool, if◌then◌else◌, List, [], ◌∷◌, ◌++◌, codes, decimal}
use Rattle.std.specs.Prelude.{length}
use Rattle.std.specs.Prelude.{slice_index, Option, Some, None, false}
use Rattle.std.specs.List.{flat_map, range_with_len}
use Rattle.std.specs.Fmt.{radix_digits}
use Rattle.keymap_lint_text.specs.declared.letters.Listed.{Listed}
use Rattle.keymap_lint_text.specs.declared.letters.Listed.TheVariants.{Character, Control, Letter}
use Rattle.keymap_lint_text.specs.Faults.{first_at, token_bytes}
use Rattle.keymap_lint_text.specs.Wanted.{character_name}
use Rattle.keymap_names.specs.Shown.{word_text}
use Rattle.messages.specs.Filled.{filled}

-- a character, a letter's control character as `dc1 (ctrl-q)`, and a letter
unfoldable pub item_text : Listed → ℕ → List ℕ
item_text Character c = character_name c
item_text Control c = filled (codes "{} (ctrl-{})") (character_name (c - 96) ∷ word_text (c ∷ []) ∷ [])
item_text Letter c = word_text (c ∷ [])

-- what stands before the element at a place of a list of n, and before its last one
abbrev pub before : ℕ → ℕ → List ℕ → List ℕ
before i n last = if i == 0 then [] else if i + 1 == n then last else codes ", "

abbrev pub listed_item : Listed → List ℕ → List ℕ → ℕ → List ℕ
listed_item listed last cs i = before i (length cs) last ++ item_text listed (slice_index cs i)

abbrev pub list_text : Listed → List ℕ → List ℕ → List ℕ
list_text listed last cs = flat_map (listed_item listed last cs) (range_with_len 0 (length cs))

-- characters that no keys type
abbrev pub cannot_type_text : List ℕ → List ℕ
cannot_type_text cs = filled (codes "no keys type {}") (list_text Character (codes " or ") cs ∷ [])

-- letters without a control character: up to three are told each by its character
abbrev pub above_text : Bool → List ℕ
above_text above = if above then codes " while ashift or alock is on" else []

unfoldable pub no_control_text : List ℕ → Bool → List ℕ
no_control_text cs above =
    if nat_lt (length cs) 4
    then filled (codes "control types no {}{}") (list_text Control (codes " or ") cs ∷ above_text above ∷ [])
    else filled (codes "control types no control character of the letters {}{}")
    (list_text Letter (codes ", ") cs ∷ above_text above ∷ [])

-- a number that looks octal, as it is spelled there
abbrev pub octal_text : Option ℕ → List ℕ
octal_text None = []
octal_text (Some n) = filled (codes "; the octal one is 0x{}") (word_text (radix_digits 16 false n) ∷ [])

unfoldable pub octal_like_text : List ℕ → ℕ → ℕ → Option ℕ → List ℕ
octal_like_text text c start octal =
    filled (codes "{} is the decimal number {}, which is {}{}")
    (word_text (token_bytes (first_at text start)) ∷ decimal c ∷ character_name c ∷ octal_text octal ∷ [])
