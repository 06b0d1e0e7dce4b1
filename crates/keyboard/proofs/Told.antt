-- The tables are those of the definitions, by computation.
use Rattle.std.proofs.Common.{◌≡◌, ◌≢◌, ℕ, ◌<◌, ◌==◌, arith, refl, get_or, List, [], ◌∷◌, take, true}
use Rattle.std.proofs.Common.{Some, sym, ◌∙◌}
use Rattle.std.proofs.lemmas.Bool.Decides.{nat_tests}
use Rattle.std.proofs.lemmas.Grind.{common_steps}
use Rattle.std.proofs.lemmas.List.Quantifiers.{position-Some}
use Rattle.std.specs.List.{list_all}
use Rattle.std.specs.Prelude.{if◌then◌else◌, codes, nat_lt, not, ◌&&◌, Bool, Option, position}
unfoldable use Rattle.std.specs.Fmt.{digits}
use Rattle.keymap_core.proofs.Shared.{along}
use Rattle.keyboard.specs.Boards.{Keys, has_code, keys_on, is_on, is_on_pad, name_of}
use Rattle.keyboard.specs.Codes.{IsEvdevOf, evdev_of, set1_of, qcode_of}
use Rattle.keyboard.specs.Filled.{unfilled}
use Rattle.keyboard.specs.Rows.{IsRowOf, stands, is_pad}
use Rattle.keyboard.specs.declared.board.Board.TheVariants.{Iso, Ansi}
use Rattle.keyboard.specs.declared.table.Row.{Row}
use Rattle.keyboard.specs.declared.table.TheConstants.{KEYS, EVDEV}

pub row_told : (d : Row) (k : ℕ) → k < 128 → IsRowOf (get_or KEYS k d) k
unfolding is_on is_on_pad name_of set1_of qcode_of unfilled digits
row_told d k lt = record {
  on = along (λ k. stands (get_or KEYS k d).0) (is_on Iso) 0 128 refl k (omega arith) lt;
  on_pad = along (λ k. is_pad (get_or KEYS k d).0) is_on_pad 0 128 refl k (omega arith) lt;
  name = along (λ k. unfilled 32 (get_or KEYS k d).1) (name_of Iso) 0 128 refl k (omega arith) lt;
  qcode = along (λ k. unfilled 32 (get_or KEYS k d).2) qcode_of 0 128 refl k (omega arith) lt;
  set1 = along (λ k. unfilled 0 (get_or KEYS k d).3) set1_of 0 128 refl k (omega arith) lt;
}

pub ansi_on : (k : ℕ) → k < 128 → is_on Ansi k ≡ (not (k == 86) && is_on Iso k)
unfolding is_on
ansi_on k lt = along (is_on Ansi) (λ k. not (k == 86) && is_on Iso k) 0 128 refl k (omega arith) lt

pub ansi_name : (k : ℕ) → k < 128
    → name_of Ansi k ≡ (if k == 86 then [] else if k == 93 then codes "right Alt" else name_of Iso k)
unfolding name_of digits
ansi_name k lt =
    along (name_of Ansi) (λ k. if k == 86 then [] else if k == 93 then codes "right Alt" else name_of Iso k)
    0 128 refl k (omega arith) lt

pub evdev_told : (k : ℕ) → k < 128 → get_or EVDEV k 0 ≡ evdev_of k
unfolding evdev_of
evdev_told k lt = along (λ k. get_or EVDEV k 0) evdev_of 0 128 refl k (omega arith) lt

pub evdev_short : (k : ℕ) → k < 128 → get_or EVDEV k 0 < 128
evdev_short k lt =
    grind (arith, nat_tests, along (λ k. nat_lt (get_or EVDEV k 0) 128) (λ k. true) 0 128 refl k (omega arith) lt)

-- a code among keys of which all are below a number
below : (keys : Keys) (code n : ℕ) → list_all (λ k. nat_lt k.0 n) keys ≡ true → has_code keys code ≡ true → code < n
below [] code n all has = absurd (cc)
below (k ∷ keys) code n all has = grind (arith, nat_tests, common_steps, below keys code n)

iso_below : (k : ℕ) → is_on Iso k ≡ true → k < 108
unfolding is_on
iso_below k = below (keys_on Iso) k 108 refl

-- a key has a number before those of other boards exactly if it is on the board of 105 keys
pub numbered : (k : ℕ) → k < 108 → is_on Iso k ≡ nat_lt 0 (get_or EVDEV k 0)
unfolding is_on
numbered k lt = along (is_on Iso) (λ k. nat_lt 0 (get_or EVDEV k 0)) 0 108 refl k (omega arith) lt

abbrev first_of : ℕ → Option ℕ
first_of number = position (λ n. n == number) (take 108 EVDEV)

-- a key of this board is the first one with its number
first : (k : ℕ) → k < 108 → (if nat_lt 0 (get_or EVDEV k 0) then first_of (get_or EVDEV k 0) else Some k) ≡ Some k
first k lt =
    along (λ k. if nat_lt 0 (get_or EVDEV k 0) then first_of (get_or EVDEV k 0) else Some k) Some 0 108 refl k
    (omega arith) lt

pub found : (k n : ℕ) → IsEvdevOf k n → (first_of n ≡ Some k) × (n ≢ 0)
found k n (on, has) =
    let lt = iso_below k on in
    let e = evdev_told k (omega arith) in
    grind (arith, nat_tests, common_steps, first k lt, numbered k lt, e)

in_front : (xs : List ℕ) (k m n : ℕ) → k < m → (get_or (take m xs) k 0 == n) ≡ true → get_or xs k 0 ≡ n
in_front xs k m n lt is = grind (arith, nat_tests, common_steps)

is_some : (b : Bool) (x n : ℕ) → b ≡ nat_lt 0 x → x ≡ n → n ≢ 0 → b ≡ true
is_some b x n e same some = grind (arith, nat_tests)

pub told_by : (k n : ℕ) → n ≢ 0 → first_of n ≡ Some k → IsEvdevOf k n
told_by k n some at =
    let (lt, is, none) = position-Some (λ m. m == n) (take 108 EVDEV) k 0 at in
    let same = in_front EVDEV k 108 n lt is in
    (is_some _ _ n (numbered k lt) same some, sym (evdev_told k (omega (arith, lt))) ∙ same)
