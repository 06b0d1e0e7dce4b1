use Rattle.keymap_consequences.proofs.Common.{◌≡◌, Contains, List, MatchOption, None, Option, Some, ℕ}
use Rattle.keymap_check.specs.declared.finding.Finding.{Finding}
use Rattle.keymap_consequences.proofs.refused.finding_alone.Goals as goal

told : (fs gs : List Finding) (k : ℕ) (o : Option Finding)
    → MatchOption o ((f : Finding) → Contains fs f → f.key ≡ k → ⊥) (λ f. Contains fs f × (f.key ≡ k))
    → ((g : Finding) → Contains gs g → g.key ≡ k → ⊥)
    → MatchOption o
    ((f : Finding) → Contains fs f → f.key ≡ k → (g : Finding) × Contains gs g × (g.key ≡ k))
    (λ f. Contains fs f × (f.key ≡ k) × ((g : Finding) → Contains gs g → g.key ≡ k → ⊥))
told fs gs k None none nowhere = λ f has key. absurd (none f has key)
told fs gs k (Some f) here nowhere = (here.0, here.1, nowhere)

pub returns-in-None : goal.returns-in-None
returns-in-None c =
    told c.args.findings.now c.args.others.now c.args.key c.finding_of-in-None.result c.finding_of-in-None.ensures
    c.in-None.ensures
