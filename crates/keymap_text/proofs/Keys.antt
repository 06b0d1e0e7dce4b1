-- The keys of words.
use Rattle.keymap_text.proofs.Common.{◌≡◌, ℕ, zero, suc, ◌+◌, ◌*◌, ◌<◌, ◌≤◌, true, List, [], ◌∷◌, length, take}
use Rattle.keymap_text.proofs.Common.{get_or, map, refl, ◌∙◌, ap, ap₂, arith, nat_tests, range_with_len}
use Rattle.keymap_text.proofs.Common.{from_le_bytes, w64, to_ascii_lowercase, leading, is_word, pack, unpacked}
use Rattle.keymap_text.proofs.Common.{LOW_BYTES, along, cond}
use Rattle.std.proofs.lemmas.Nat.{and_block, or_block, or_disjoint, and_le_l, and_le_r}
use lib.Bits.{bit_and, bit_or}
use Rattle.keymap_text.proofs.Leading.{leading_part, leading_tail}

-- a letter or digit in lower case is above 47, and a byte
lower_byte : (c : ℕ) → is_word c ≡ true → (c < 128) × (47 < to_ascii_lowercase c) × (to_ascii_lowercase c < 256)
lower_byte c h = grind (arith, nat_tests)

-- eight bytes at once
low : ℕ → List ℕ → ℕ
low zero w = 0
low (suc k) [] = 0
low (suc k) (c ∷ w) = low k w * 256 + c

-- the number with so many bytes of ones
ones : ℕ → ℕ
ones zero = 0
ones (suc n) = ones n * 256 + 255

-- a mask of ones and the bit 32 leave a letter or digit in lower case, by computation
masked_byte : (c : ℕ) → is_word c ≡ true → bit_or (bit_and c 255) 32 ≡ to_ascii_lowercase c
masked_byte c h =
    let all = along (λ c. cond (is_word c) (bit_or (bit_and c 255) 32) 0) (λ c. cond (is_word c) (to_ascii_lowercase c) 0)
    0 128 refl c (omega arith) (lower_byte c h).0 in
    rw h at all

-- a mask of zero leaves nothing
and_none : (x p : ℕ) → bit_or (bit_and x 0) p ≡ p
and_none x p = grind (arith, and_le_l, and_le_r, or_disjoint)

-- the first bytes with the bit 32, blanks behind them
packed_low : (k n : ℕ) (w : List ℕ) → n ≤ k → k ≤ length w → leading is_word (take n w) ≡ length (take n w)
    → bit_or (bit_and (low k w) (ones n)) (pack k []) ≡ pack k (map to_ascii_lowercase (take n w))
unfolding ones low
packed_low k zero w h l s = and_none (low k w) (pack k [])
packed_low zero (suc n) w h l s = absurd (omega (arith, h))
packed_low (suc k) (suc n) [] h l s = absurd (omega (arith, l))
packed_low (suc k) (suc n) (c ∷ w) h l s =
    let front = leading_tail is_word c (take n w) s in
    let byte = (lower_byte c front.0).0 in
    ap (λ x. bit_or x (pack k [] * 256 + 32)) (and_block 8 (low k w) (ones n) c 255 (omega (arith, byte)) (omega arith))
    ∙ or_block 8 (bit_and (low k w) (ones n)) (pack k []) (bit_and c 255) 32
    (omega (arith, and_le_l c 255, byte)) (omega arith)
    ∙ ap₂ (λ x y. x * 256 + y) (packed_low k n w (omega (arith, h)) (omega (arith, l)) front.1) (masked_byte c front.0)

-- the table of masks, by computation
masks : map (λ n. get_or LOW_BYTES n 0) (range_with_len 0 9) ≡ map ones (range_with_len 0 9)
unfolding ones
masks = refl

-- a mask of the table
mask : (n : ℕ) → n ≤ 8 → get_or LOW_BYTES n 0 ≡ ones n
mask n h = along (λ n. get_or LOW_BYTES n 0) ones 0 9 masks n (omega arith) (omega (arith, h))

-- eight bytes as a number
low_front : (w : List ℕ) → 8 ≤ length w → from_le_bytes w64 (take 8 w) ≡ low 8 w
unfolding low
low_front w h = grind arith

-- the first bytes with this bit, and blanks behind them, are their key
pub packed_front : (w : List ℕ) (n x : ℕ) (eight : List ℕ) → n ≤ 8 → 8 ≤ length w → n ≤ leading is_word w
    → eight ≡ take 8 w → x ≡ from_le_bytes w64 eight
    → bit_or (bit_and x (get_or LOW_BYTES n 0)) 0x2020202020202020 ≡ pack 8 (map to_ascii_lowercase (take n w))
packed_front w n x eight h l s a e =
    ap₂ (λ x m. bit_or (bit_and x m) 0x2020202020202020) (e ∙ ap (from_le_bytes w64) a ∙ low_front w l) (mask n h)
    ∙ packed_low 8 n w h l (leading_part is_word n w s)

-- what is packed can be unpacked
unpacked_end : (n p : ℕ) → unpacked (suc n) (p * 256 + 32) ≡ []
unpacked_end n p = grind arith

-- the lowest byte of a key
unpacked_byte : (n p c : ℕ) → 47 < c → c < 256 → unpacked (suc n) (p * 256 + c) ≡ c ∷ unpacked n p
unpacked_byte n p c h l = grind arith

-- the key of letters and digits gives them back in lower case
pub unpack_packed : (n : ℕ) (w : List ℕ) → length w ≤ n → leading is_word w ≡ length w
    → unpacked n (pack n (map to_ascii_lowercase w)) ≡ map to_ascii_lowercase w
unpack_packed zero [] h s = refl
unpack_packed zero (c ∷ w) h s = absurd (omega (arith, h))
unpack_packed (suc n) [] h s = unpacked_end n (pack n [])
unpack_packed (suc n) (c ∷ w) h s =
    let front = leading_tail is_word c w s in
    let byte = lower_byte c front.0 in
    unpacked_byte n (pack n (map to_ascii_lowercase w)) (to_ascii_lowercase c) byte.1 byte.2
    ∙ ap (λ t. to_ascii_lowercase c ∷ t) (unpack_packed n w (omega (arith, h)) front.1)
