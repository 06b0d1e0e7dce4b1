-- The bytes of numbers, and bytes that have to be 0.
use Rattle.keymap_tables.proofs.Common.{◌≡◌, ◌≢◌, ℕ, ◌+◌, ◌-◌, ◌^◌, ◌<◌, ◌≤◌, List, [], ◌∷◌, ◌++◌, length, take, drop}
use Rattle.keymap_tables.proofs.Common.{get_or, refl, sym, ap, ◌∙◌, arith, None, Some, length-drop, slice_index}
use Rattle.keymap_tables.proofs.Common.{from_le_bytes, w8, w16, nat_tests, common_steps, take-append-drop, get_or-take}
use Rattle.keymap_tables.proofs.Common.{get_or-drop, same_lists, get_or-replicate, length-replicate}
use Rattle.keymap_tables.proofs.Common.{get_or-append_right, zero_fault, number_at, count_at, zeros, count_bytes}
use Rattle.keymap_tables.proofs.Common.{number_bytes, Layout, Wide, Narrow, TableFaultKind, part, pad_size, count_size}
use Rattle.keymap_tables.proofs.Common.{number_width, number_size, number_limit}
use Rattle.std.specs.Int.{to_le_bytes, w32}
use Rattle.std.proofs.lemmas.List.{length-take-le, get_or_default}
use Rattle.std.proofs.lemmas.Nat.{le_bytes_2, le_bytes_4, from_le_bytes-to_le_bytes_4}

-- each byte is one
abbrev pub AreBytes : List ℕ → Type 0
AreBytes bytes = (i : ℕ) → get_or bytes i 0 < 256

-- a byte that isn't 0 is a fault of the given kind
pub zero-here : (kind : TableFaultKind) (bytes : List ℕ) (p : ℕ) → slice_index bytes p ≢ 0
    → zero_fault kind bytes p ≡ Some kind
zero-here kind bytes p filled = grind (arith, nat_tests)

-- a byte that is 0 is no fault
pub zero-none : (kind : TableFaultKind) (bytes : List ℕ) (p : ℕ) → slice_index bytes p ≡ 0
    → zero_fault kind bytes p ≡ None
zero-none kind bytes p empty = rw empty refl

-- zeros have zeros
pub zeros-at : (n p : ℕ) → get_or (zeros n) p 0 ≡ 0
zeros-at n p = grind (arith, common_steps)

-- behind the front stand zeros
pub zeros-behind : (front : List ℕ) (n p : ℕ) → length front ≤ p → slice_index (front ++ zeros n) p ≡ 0
zeros-behind front n p past =
    get_or-append_right front (zeros n) (length front) p 0 refl past ∙ zeros-at n (p - length front)

-- The bytes from a place on are zeros.
pub drop-zeros : (bytes : List ℕ) (from : ℕ) → ((p : ℕ) → from ≤ p → slice_index bytes p ≡ 0)
    → drop from bytes ≡ zeros (length bytes - from)
drop-zeros bytes from empty =
    same_lists (drop from bytes) (zeros (length bytes - from))
    (length-drop from bytes ∙ sym (length-replicate (length bytes - from) 0))
    (λ k d below.
    let inside : k < length bytes - from = omega (arith, length-drop from bytes) in
    get_or-drop from bytes k d ∙ get_or_default bytes (from + k) d 0 (omega arith) ∙ empty (from + k) (omega arith)
    ∙ sym (get_or-replicate (length bytes - from) k 0 d inside))

-- a part has its length
pub length-part : (bytes : List ℕ) (at n : ℕ) → at + n ≤ length bytes → length (part bytes at n) ≡ n
length-part bytes at n inside = length-take-le n (drop at bytes) (omega (arith, length-drop at bytes))

-- each byte of a part is below 256
part-small : (bytes : List ℕ) (at n : ℕ) → AreBytes bytes → AreBytes (part bytes at n)
part-small bytes at n small i = grind (arith, common_steps, get_or-take, get_or-drop, small (at + i))

-- a number of one byte
one-byte : (bytes : List ℕ) (n : ℕ) → length bytes ≡ 1 → get_or bytes 0 0 < 256 → n ≡ from_le_bytes w8 bytes
    → to_le_bytes w8 n ≡ bytes
one-byte [] n one small is = absurd (omega arith)
one-byte (b ∷ []) n one small is = grind arith
one-byte (b ∷ c ∷ bytes) n one small is = absurd (omega arith)

-- a number that was read has the bytes that were read
pub number-read : (l : Layout) (bytes : List ℕ) (at number : ℕ) → AreBytes bytes → at + number_size l ≤ length bytes
    → number ≡ number_at l bytes at → part bytes at (number_size l) ≡ number_bytes l number
number-read Wide bytes at number small fits is =
    sym (le_bytes_4 (part bytes at 4) number (length-part bytes at 4 fits) (part-small bytes at 4 small) is)
number-read Narrow bytes at number small fits is =
    sym (one-byte (part bytes at 1) number (length-part bytes at 1 fits) (part-small bytes at 1 small 0) is)

below_256 : (bytes : List ℕ) → get_or bytes 0 0 < 256 → from_le_bytes w8 bytes < 256
below_256 bytes small = omega (arith, small)

below_2_32 : (bytes : List ℕ) → AreBytes bytes → from_le_bytes w32 bytes < 2 ^ 32
below_2_32 bytes small = omega (arith, small 0, small 1, small 2, small 3)

-- a number that was read fits
pub number-fits : (l : Layout) (bytes : List ℕ) (at : ℕ) → AreBytes bytes → number_at l bytes at < number_limit l
number-fits Wide bytes at small = below_2_32 (part bytes at 4) (part-small bytes at 4 small)
number-fits Narrow bytes at small = below_256 (part bytes at 1) (part-small bytes at 1 small 0)

-- the bytes of a number give the number
pub number-back : (l : Layout) (n : ℕ) → n < number_limit l → from_le_bytes (number_width l) (number_bytes l n) ≡ n
number-back Wide n small = from_le_bytes-to_le_bytes_4 n small
number-back Narrow n small = omega arith

-- numbers that fit are the same where their bytes are
pub same-number : (l : Layout) (x y : ℕ) → x < number_limit l → y < number_limit l → number_bytes l x ≡ number_bytes l y
    → x ≡ y
same-number l x y small also same =
    sym (number-back l x small) ∙ ap (from_le_bytes (number_width l)) same ∙ number-back l y also

-- two bytes of a count and pads of 0 are the bytes of that count
pub count-whole : (l : Layout) (bytes : List ℕ) (n : ℕ) → length bytes ≡ count_size l → AreBytes bytes
    → n ≡ count_at bytes 0 → ((p : ℕ) → 2 ≤ p → slice_index bytes p ≡ 0) → bytes ≡ count_bytes l n
count-whole l bytes n whole small is empty =
    let two : length (take 2 bytes) ≡ 2 = length-take-le 2 bytes (omega arith) in
    let bytes_small : (i : ℕ) → get_or (take 2 bytes) i 0 < 256 =
    λ i. grind (arith, common_steps, get_or-take, small i) in
    let front = le_bytes_2 (take 2 bytes) n two bytes_small is in
    let long : length bytes - 2 ≡ pad_size l = omega arith in
    let back : drop 2 bytes ≡ zeros (pad_size l) = drop-zeros bytes 2 empty ∙ ap zeros long in
    sym (take-append-drop 2 bytes) ∙ ap (λ (v : List ℕ). v ++ drop 2 bytes) (sym front)
    ∙ ap (λ (v : List ℕ). to_le_bytes w16 n ++ v) back
