use Rattle.keymap_consequences.proofs.Common.{◌∙◌, subst, sym}
use Rattle.keymap_check.specs.Findings.{AreFindings}
use Rattle.keymap_consequences.proofs.consequences.consequences_of.Goals as goal

pub returns : goal.returns
returns c =
    let m = c.args.old.now in
    let n = c.args.new.now in
    let were = subst (AreFindings m) (sym (c.as_slice-were.ensures.value ∙ c.findings.ensures))
    c.check-before.ensures.findings in
    let are = subst (AreFindings n) (sym (c.as_slice-are.ensures.value ∙ c.findings-2.ensures))
    c.check-behind.ensures.findings in
    record {
      was_accepted = (
        (λ t. c.check-before.ensures.accepted.0 (c.accepted.ensures.0 t)),
        λ s. c.accepted.ensures.1 (c.check-before.ensures.accepted.1 s),
      );
      is_accepted = (
        (λ t. c.check-behind.ensures.accepted.0 (c.accepted-2.ensures.0 t)),
        λ s. c.accepted-2.ensures.1 (c.check-behind.ensures.accepted.1 s),
      );
      refused_no_longer = c.in_ok-refused_alone.ensures n are;
      refused_now = c.in_ok-refused_alone-2.ensures m were;
      bearings = c.in_ok-bearings.ensures;
      taps = c.in_ok-tap_changes.ensures;
    }
