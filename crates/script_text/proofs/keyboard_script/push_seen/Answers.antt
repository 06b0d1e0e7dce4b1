use Rattle.script_text.proofs.Common.{◌≡◌, ◌++◌, codes, subst, ListsSlots, LeftOut, accent_lines, has_verdict}
use Rattle.script_text.proofs.Common.{slot_limit}
use Rattle.script_text.specs.Cover.{all_counts, left_out_word}
use Rattle.keyboard_cover.specs.Covering.{verdict_of}
use Rattle.script_text.proofs.keyboard_script.push_seen.Goals as goal

pub returns : goal.returns
returns c =
    let m = c.args.map.now in
    let old = c.args.text.now.items in
    let verdict = verdict_of c.args.cover.now in
    let left_out = c.in_ok-slots_left_out.slots_left_out.items in
    let told = c.verdicts-verdicts.ensures m in
    let counts =
    subst (λ f. c.push_all_counts.new.text.items ≡ old ++ all_counts (codes "else") f m) told
    c.in_ok-push_all_counts.ensures in
    let slots = rw (counts, c.as_slice.ensures.value) at c.in_ok-extend_from_slice.ensures.items in
    record {
      left_out = left_out;
      lists_left_out =
          subst (λ f. ListsSlots (has_verdict f LeftOut) left_out_word slot_limit left_out) told
          c.in_ok-slots_left_out.ensures;
      spelled =
          subst (λ f. c.push_accents.new.text.items ≡ old ++ all_counts (codes "else") verdict m ++ left_out
          ++ accent_lines (has_verdict f LeftOut) left_out_word m) told
          (rw slots at c.in_ok-push_accents.ensures);
    }
