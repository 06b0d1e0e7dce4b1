use Rattle.play_core.proofs.Common.{◌≡◌, min, take, AllDigits, digits_value}
use Rattle.play_core.proofs.words.number_of.Given as goal

-- the digits so far, and their number
abbrev pub invariant-loop-digit : goal.invariant-loop-digit
invariant-loop-digit l =
    AllDigits 10 (take l.digit-index l.word) × (l.value ≡ min 128 (digits_value 10 (take l.digit-index l.word)))
