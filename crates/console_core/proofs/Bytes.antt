-- The bits of a packed console's word that are cut out of it as a byte.
use Rattle.console_core.proofs.Common.{◌≡◌, ℕ, ◌/◌, ◌%◌, ◌^◌, ◌==◌, ap, arith, modifier_index, lock_index, Modifier}
use Rattle.console_core.proofs.Common.{LeftShift, RightShift, LeftControl, RightControl, LeftAlt, RightAlt, AltShift}
use Rattle.console_core.proofs.Common.{Meta, Lock, Caps, Num, Scroll, Alt, bit_is_set, lock_bit}

-- the modifiers: the lowest eight bits
pub modifier-bits : (word : ℕ) (i : Modifier)
    → bit_is_set (word % 256) (modifier_index i) ≡ bit_is_set word (modifier_index i)
modifier-bits word LeftShift =
    let same : word % 256 / 2 ^ 0 % 2 ≡ word / 2 ^ 0 % 2 = omega arith in ap (λ (n : ℕ). n == 1) same
modifier-bits word RightShift =
    let same : word % 256 / 2 ^ 1 % 2 ≡ word / 2 ^ 1 % 2 = omega arith in ap (λ (n : ℕ). n == 1) same
modifier-bits word LeftControl =
    let same : word % 256 / 2 ^ 2 % 2 ≡ word / 2 ^ 2 % 2 = omega arith in ap (λ (n : ℕ). n == 1) same
modifier-bits word RightControl =
    let same : word % 256 / 2 ^ 3 % 2 ≡ word / 2 ^ 3 % 2 = omega arith in ap (λ (n : ℕ). n == 1) same
modifier-bits word LeftAlt =
    let same : word % 256 / 2 ^ 4 % 2 ≡ word / 2 ^ 4 % 2 = omega arith in ap (λ (n : ℕ). n == 1) same
modifier-bits word RightAlt =
    let same : word % 256 / 2 ^ 5 % 2 ≡ word / 2 ^ 5 % 2 = omega arith in ap (λ (n : ℕ). n == 1) same
modifier-bits word AltShift =
    let same : word % 256 / 2 ^ 6 % 2 ≡ word / 2 ^ 6 % 2 = omega arith in ap (λ (n : ℕ). n == 1) same
modifier-bits word Meta =
    let same : word % 256 / 2 ^ 7 % 2 ≡ word / 2 ^ 7 % 2 = omega arith in ap (λ (n : ℕ). n == 1) same

-- the locks: the next four
pub lock-bits : (word : ℕ) (l : Lock) → bit_is_set (word / 2 ^ 8 % 16) (lock_index l) ≡ bit_is_set word (lock_bit l)
lock-bits word Caps =
    let same : word / 2 ^ 8 % 16 / 2 ^ 0 % 2 ≡ word / 2 ^ 8 % 2 = omega arith in ap (λ (n : ℕ). n == 1) same
lock-bits word Num =
    let same : word / 2 ^ 8 % 16 / 2 ^ 1 % 2 ≡ word / 2 ^ 9 % 2 = omega arith in ap (λ (n : ℕ). n == 1) same
lock-bits word Scroll =
    let same : word / 2 ^ 8 % 16 / 2 ^ 2 % 2 ≡ word / 2 ^ 10 % 2 = omega arith in ap (λ (n : ℕ). n == 1) same
lock-bits word Alt =
    let same : word / 2 ^ 8 % 16 / 2 ^ 3 % 2 ≡ word / 2 ^ 11 % 2 = omega arith in ap (λ (n : ℕ). n == 1) same
