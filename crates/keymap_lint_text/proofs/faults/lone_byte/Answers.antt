use Rattle.keymap_lint_text.proofs.Common.{◌≡◌, ◌≤◌, ℕ, false, arith, nat_tests}
use Rattle.keymap_lint_text.specs.Faults.{lone_byte_text, is_unnamed}
use Rattle.keymap_lint_text.proofs.faults.lone_byte.Goals as goal

-- a byte from 33 on other than DEL has a name
named : (b c : ℕ) → b ≡ c → (33 ≤ b) × (b ≡ 127 → ⊥) → is_unnamed c ≡ false
named b c e h = grind (arith, nat_tests)

pub returns-then-begins_with_mark : goal.returns-then-begins_with_mark
unfolding lone_byte_text
returns-then-begins_with_mark c =
    let has_name = named _ _ c.first_byte-byte.ensures c.if-byte-eq127.false in
    rw (has_name, ← c.begins_with_mark.ensures, c.if-begins_with_mark.true) c.filled-then-begins_with_mark.ensures

pub returns-in_ok-character : goal.returns-in_ok-character
unfolding lone_byte_text
returns-in_ok-character c =
    let has_name = named _ _ c.first_byte-byte.ensures c.if-byte-eq127.false in
    rw (has_name, ← c.begins_with_mark.ensures, c.if-begins_with_mark.false)
    (rw (c.as_slice.ensures.value, c.as_slice-else-begins_with_mark.ensures.value, c.in_ok-character.ensures)
    at c.filled-else-begins_with_mark.ensures)
