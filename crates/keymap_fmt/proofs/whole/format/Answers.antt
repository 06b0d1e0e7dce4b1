use Rattle.keymap_fmt.proofs.Common.{rules, subst, sym, true≢false}
use Rattle.std.specs.Prelude.{IsOk}
use Rattle.keymap_fmt.proofs.whole.format.Goals.{in-Ok, in-Err-Fault, in-Err}
use Rattle.keymap_fmt.proofs.whole.format.Goals as goal

pub returns-clause-spells : goal.returns-clause-spells
returns-clause-spells c = elim c.match-read_map.branch [
  | in-Ok w ↦ λ is_ok. (_, w.in-Ok.ensures)
  | in-Err-Fault w ↦ λ is_ok. absurd (true≢false (sym (subst (λ r. IsOk r) w.result-is is_ok)))
  | in-Err w ↦ λ is_ok. absurd (true≢false (sym (subst (λ r. IsOk r) w.result-is is_ok)))
]

pub returns-clause-refused : goal.returns-clause-refused
returns-clause-refused c = elim c.match-read_map.branch [
  | in-Ok w ↦ search rules
  | in-Err-Fault w ↦
      rw (w.result-is, w.in-Err-Fault.field-0-is) (rw w.in-Err-Fault.field-0-is at w.in-Err-Fault.ensures)
  | in-Err w ↦ rw w.result-is tt
]
