use Rattle.play_core.proofs.Common.{◌<◌, ◌≤◌, ◌⊎◌, inl, inr, arith, ℕ, digit_from_value, rules}
use Rattle.std.proofs.lemmas.Int.Digits.{digits_more, digits_value_more}
use Rattle.std.proofs.lemmas.Str.{digit_value_digit}
use Rattle.play_core.proofs.LineWords.{digit_at}
use Rattle.play_core.proofs.words.number_of.Goals as goal

outside : (c : ℕ) → (c < 48) ⊎ (57 < c) → (48 ≤ c) × (c ≤ 57) → ⊥
outside c (inl h) r = omega arith
outside c (inr h) r = omega arith

pub returns-then-not-is_ascii_digit-clause-none : goal.returns-then-not-is_ascii_digit-clause-none
returns-then-not-is_ascii_digit-clause-none c digits =
    search (rules, outside, digit_from_value, digit_at)

pub loop-digit-preserved : goal.loop-digit-preserved
loop-digit-preserved c = search (rules, digit_value_digit, digits_value_more, digits_more)
