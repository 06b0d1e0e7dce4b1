-- The names as the code has them, and the keys of words: their bytes as one number. Mirrors src/names.rt, and
-- `first_set` of src/token.rt.
use Rattle.std.specs.Prelude.{take, nat_lt, not, Bool, Option, Some, None}
use Rattle.std.specs.Prelude.{◌≡◌, ℕ, zero, suc, ◌+◌, ◌*◌, ◌/◌, ◌%◌, ◌≤◌}
use Rattle.std.specs.Prelude.{if◌then◌else◌, ◌==◌, List, [], ◌∷◌, length, map, ◌<◌, ◌^◌, slice_index, slice_index_or}
use Rattle.std.specs.Char.{to_ascii_lowercase}
use Rattle.std.specs.Int.{from_le_bytes, trailing_zeros, w64}
use Rattle.keymap_text.specs.Lexical.{is_word, leading}
use Rattle.keymap_text.specs.Types.{Name, Meaning, Char, Letter, Act, Unknown}
use Rattle.keymap_text.specs.declared.names.TheConstants.{PLACES, SPREAD}
use Rattle.keymap_text.specs.Words.{meaning, same_name}
use Rattle.keymap_core.specs.Numbers.{accent_limit}
use Rattle.keymap_core.specs.declared.action.Action.TheVariants as actions
use Rattle.keymap_text.specs.declared.names.Sense.{Sense}
use Rattle.keymap_text.specs.declared.names.Sense.TheVariants as senses

-- no blank
abbrev pub is_letter : ℕ → Bool
is_letter c = not (c == 32)

-- a name without the blanks that fill it
abbrev pub letters : List ℕ → List ℕ
letters name = take (leading is_letter name) name

-- what a sense of the table of names means
abbrev pub sense_meaning : Sense → Meaning
sense_meaning (senses.Char c) = Char c
sense_meaning (senses.Letter f) = Letter f
sense_meaning (senses.Mod m) = Act (actions.Mod m)
sense_meaning (senses.Lock l) = Act (actions.Lock l)
sense_meaning (senses.DeadKey n) = if nat_lt n accent_limit then Act (actions.DeadKey n) else Unknown
sense_meaning senses.Nop = Act actions.Nop
sense_meaning senses.BackTab = Act actions.BackTab
sense_meaning senses.NextScreen = Act actions.NextScreen
sense_meaning senses.PreviousScreen = Act actions.PreviousScreen
sense_meaning senses.Boot = Act actions.Boot
sense_meaning senses.Debug = Act actions.Debug
sense_meaning senses.Suspend = Act actions.Suspend
sense_meaning senses.Saver = Act actions.Saver
sense_meaning senses.Standby = Act actions.Standby
sense_meaning senses.Panic = Act actions.Panic
sense_meaning senses.Halt = Act actions.Halt
sense_meaning senses.PowerDown = Act actions.PowerDown
sense_meaning senses.Paste = Act actions.Paste

-- as `named` tells, of the names as the code has them
unfoldable pub meaning_by_names : List Name → List ℕ → Option Meaning
meaning_by_names [] w = None
meaning_by_names (name ∷ names) w =
    if same_name (letters name.0) w then Some (sense_meaning name.1) else meaning_by_names names w

-- the bytes of a word as the digits of a number, the first byte lowest, with blanks behind the last
abbrev pub pack : ℕ → List ℕ → ℕ
pack zero w = 0
pack (suc n) [] = pack n [] * 256 + 32
pack (suc n) (c ∷ w) = pack n w * 256 + c

-- the word with this key
abbrev pub unpacked : ℕ → ℕ → List ℕ
unpacked zero k = []
unpacked (suc n) k = if k % 256 == 32 then [] else k % 256 ∷ unpacked n (k / 256)

-- the keys of fkey and scr with two digits
abbrev pub function_name : ℕ → ℕ
function_name n = 0x2020303079656b66 + n / 10 * 0x100000000 + n % 10 * 0x10000000000

abbrev pub screen_name : ℕ → ℕ
screen_name n = 0x2020203030726373 + n / 10 * 0x1000000 + n % 10 * 0x100000000

-- all words of at most eight bytes that have this key mean m
pub record KeyMeans (key : ℕ) (m : Meaning) : Type 0 where
  pub means : (w : List ℕ) → length w ≤ 8 → leading is_word w ≡ length w → pack 8 (map to_ascii_lowercase w) ≡ key
      → m ≡ meaning w

abbrev pub IsTrueName : Name → Type 0
IsTrueName name = KeyMeans (from_le_bytes w64 name.0) (sense_meaning name.1)

-- the key of a name
abbrev pub name_key : Name → ℕ
name_key name = from_le_bytes w64 name.0

-- where the table of places leads from a key
abbrev pub place_of : ℕ → ℕ
place_of key = slice_index PLACES (key * SPREAD % 2 ^ 64 / 2 ^ 56)

-- the key of each name leads to it, so no two names have one place
abbrev pub ArePlaced : List Name → Type 0
ArePlaced names = (i : ℕ) (d : Name) → i < length names → place_of (name_key (slice_index_or names i d)) ≡ i

-- the place of the lowest bit that is set, 16 where none is
abbrev pub first_of_sixteen : ℕ → ℕ
first_of_sixteen mask = if mask == 0 then 16 else trailing_zeros w64 mask
