use Rattle.keymap_text.proofs.Common.{ℕ, List, ◌≡◌, ◌≤◌, take, subst, arith, rules}
use Rattle.keymap_text.proofs.Common.{take_more_set, take_more, length-set}
use Rattle.keymap_text.proofs.Leading.{leading_same}
use Rattle.keymap_text.proofs.names.key_at_end.Goals as goal

copied : (eight bytes : List ℕ) (i n : ℕ) → i ≤ n → n ≤ i → take i eight ≡ take i bytes → take n eight ≡ take n bytes
copied eight bytes i n h k e = subst (λ (m : ℕ). take m eight ≡ take m bytes) (omega (arith, h, k)) e

pub key_of_eight-requires-clause-word : goal.key_of_eight-requires-clause-word
key_of_eight-requires-clause-word c = search (rules, leading_same, copied)

pub returns : goal.returns
returns c = search (rules, copied)

pub loop-i-preserved : goal.loop-i-preserved
loop-i-preserved c = search (rules, length-set, take_more_set, take_more)
