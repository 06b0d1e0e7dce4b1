use Rattle.script_text.proofs.Common.{Sight, subst, AddsLists}
use Rattle.keymap_cover.specs.Covering.{verdict_of}
use Rattle.keymap_cover.specs.declared.parts.Verdict.{Verdict}
use Rattle.script_text.proofs.cover.cover_text.Goals as goal

pub returns : goal.returns
returns c =
    let told : Sight → Verdict = verdict_of c.args.map.now c.args.cover.now in
    record {
      told = told;
      verdicts = c.counts_are_of_verdicts.ensures.verdicts c.args.map.now c.args.cover.now;
      comments = c.push_lists.new.text.items;
      adds_lists =
          subst (λ old. AddsLists told c.args.map.now c.args.cover.now old c.push_lists.new.text.items)
          c.in_ok-text.ensures c.in_ok-push_lists.ensures;
      spelled = rw (c.as_slice.ensures.value, c.as_slice-2.ensures.value) at c.in_ok-push_script.ensures;
    }
