-- Where a reader stands in a text. What it makes of the bytes to come is said by the machine of Inner, since all that
-- it knows is in private fields; a caller learns from `MapReader::new` that it stands at the beginning, and from
-- `feed` and `finish` the rest.
use Rattle.std.specs.Prelude.{◌≡◌, ℕ, ◌+◌, ◌==◌, List, ◌++◌, length, drop, count_by, Some, None, Result, Ok, Err}
use Rattle.keymap_text.specs.Types.{TextFault}
use Rattle.keymap_text.specs.Inner.Judging.{judge, verdict, Verdict}
use Rattle.keymap_text.specs.Lexical.{tokens_after}
use Rattle.keymap_text.specs.Meaning.{line, Early}
use Rattle.keymap_text.specs.Progress.{Progress}

-- what the text is, where the bytes x are all that is to come
abbrev pub rest_of : Progress → List ℕ → Verdict
rest_of p x = judge p.state (tokens_after 0 p.offset (p.pending ++ x))

-- The reader has taken the bytes b, and met no fault.
pub record StandsAfter (p : Progress) (b : List ℕ) : Type 0 where
  pub fault : p.fault ≡ None
  pub fed : p.fed ≡ length b
  pub rest : (x : List ℕ) → rest_of p x ≡ verdict (b ++ x)
  pub pending : p.offset + length p.pending ≡ length b
  pub line : p.line ≡ line b p.offset
  pub one_line : count_by (λ c. c == 10) (drop p.offset b) ≡ 0

-- what feeding answers, where b are all bytes up to the end of the piece
abbrev pub FedAfter : Result (Unit {0}) TextFault → Progress → List ℕ → Type 0
FedAfter (Ok u) p b = StandsAfter p b × ((f : TextFault) → Early b f → ⊥)
FedAfter (Err f) p b = Early b f × (p.fault ≡ Some f)
