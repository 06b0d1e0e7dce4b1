use Rattle.script_text.proofs.Common.{◌≡◌, ◌++◌, subst, ListsSlots, LeftOut, Never, accent_lines, has_verdict}
use Rattle.script_text.proofs.Common.{rest_word, slot_limit}
use Rattle.script_text.specs.Cover.{left_out_word}
use Rattle.keymap_cover.specs.Covering.{verdict_of}
use Rattle.script_text.proofs.cover.push_lists.Goals as goal

pub returns : goal.returns
returns c =
    let m = c.args.map.now in
    let word = rest_word c.args.cover.now in
    let left_out = c.in_ok-slots_left_out.slots_left_out.items in
    let rest = c.in_ok-other_slots.other_slots.items in
    let told = c.verdicts-verdicts.ensures m in
    let first = rw c.as_slice.ensures.value at c.in_ok-extend_from_slice.ensures.items in
    let both = rw (first, c.as_slice-2.ensures.value) at c.in_ok-extend_from_slice-2.ensures.items in
    let accents = rw both at c.in_ok-push_accents.ensures in
    record {
      left_out = left_out;
      rest = rest;
      lists_left_out =
          subst (λ f. ListsSlots (has_verdict f LeftOut) left_out_word slot_limit left_out) told
          c.in_ok-slots_left_out.ensures;
      lists_rest =
          subst (λ w. ListsSlots (has_verdict (verdict_of m c.args.cover.now) Never) w slot_limit rest)
          c.rest_word.ensures
          (subst (λ f. ListsSlots (has_verdict f Never) c.rest_word.result.now slot_limit rest) told
          c.in_ok-other_slots.ensures);
      spelled =
          subst (λ f. c.push_accents-2.new.text.items ≡ c.args.text.now.items ++ left_out ++ rest
          ++ accent_lines (has_verdict f LeftOut) left_out_word m ++ accent_lines (has_verdict f Never) word m) told
          (rw (accents, c.rest_word.ensures) at c.in_ok-push_accents-2.ensures);
    }
