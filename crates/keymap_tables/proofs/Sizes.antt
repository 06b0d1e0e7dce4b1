-- Sizes and places at both widths.
use Rattle.keymap_tables.proofs.Common.{common_steps, ◌≡◌, ℕ, ◌+◌, ◌-◌, ◌*◌, ◌<◌, ◌≤◌, suc, List, length, get_or, refl}
use Rattle.keymap_tables.proofs.Common.{All, arith, add-one, mul-suc, mul_comm, mul-le-mul_left, mul-sub, blank}
use Rattle.keymap_tables.proofs.Common.{undefined, number_bytes, count_bytes, slot_bytes, accent_bytes, zeros}
use Rattle.keymap_tables.proofs.Common.{number_size, number_limit, pad_size, slot_size, accent_size, Layout, Wide}
use Rattle.keymap_tables.proofs.Common.{Narrow}

-- row i of so many rows of one size
pub row-inside : (size n i : ℕ) → i < n → size * i + size ≤ n * size
row-inside size n i below =
    omega (arith, mul-le-mul_left {m = suc i} {n = n} size (omega arith), mul-suc size i, mul_comm n size)

-- the next row begins where this one ends
pub row-next : (size i : ℕ) → size * (i + 1) ≡ size * i + size
row-next size i = rw add-one (mul-suc size i)

-- the rows in use and the others
pub rows-size : (size n i : ℕ) → i ≤ n → size * i + size * (n - i) ≡ n * size
rows-size size n i few =
    omega (arith, mul-le-mul_left {m = i} {n = n} size few, mul-sub size n i, mul_comm n size)

-- a number has some byte
pub some-number : (l : Layout) → 0 < number_size l
some-number Wide = omega arith
some-number Narrow = omega arith

-- 0 fits in a number
pub zero-fits : (l : Layout) → 0 < number_limit l
zero-fits Wide = omega arith
zero-fits Narrow = omega arith

-- an accent has at most 420 bytes
pub accent-small : (l : Layout) → accent_size l ≤ 420
accent-small Wide = omega arith
accent-small Narrow = omega arith

-- a slot has some byte
pub slot-some : (l : Layout) → 0 < slot_size l
slot-some Wide = omega arith
slot-some Narrow = omega arith

-- an accent has some byte
pub accent-some : (l : Layout) → 0 < accent_size l
accent-some Wide = omega arith
accent-some Narrow = omega arith

-- how long the bytes of a number and of a count are
pub length-number : (l : Layout) (n : ℕ) → length (number_bytes l n) ≡ number_size l
length-number Wide n = refl
length-number Narrow n = refl

-- a count has two bytes and its pads
pub length-count : (l : Layout) (n : ℕ) → length (count_bytes l n) ≡ 2 + pad_size l
length-count Wide n = refl
length-count Narrow n = refl

-- An undefined entry and a blank accent are zeros.
pub slot-blank : (l : Layout) → slot_bytes l undefined ≡ zeros (slot_size l)
slot-blank Wide = refl
slot-blank Narrow = refl

-- the bytes of a blank accent are zeros
pub accent-blank : (l : Layout) → accent_bytes l blank ≡ zeros (accent_size l)
accent-blank Wide = refl
accent-blank Narrow = refl

-- what holds of all of a list and of what stands past its end, holds at each place
pub All-at : {X : Type 0} (P : X → Type 0) (xs : List X) (d : X) (i : ℕ) → P d → All P xs → P (get_or xs i d)
All-at P xs d i past all = grind (arith, common_steps)
