-- none before this one is of the key
use Rattle.keymap_consequences.proofs.Common.{ℕ, ◌<◌, ◌≡◌}
use Rattle.std.proofs.Common.{get_or}
use Rattle.keymap_check.specs.declared.finding.Finding.{Finding}
use Rattle.keymap_consequences.proofs.refused.finding_of.Given as goal

abbrev pub invariant-loop-finding : goal.invariant-loop-finding
invariant-loop-finding l =
    (i : ℕ) (f : Finding) → i < l.finding-index → get_or l.findings i f ≡ f → f.key ≡ l.key → ⊥
