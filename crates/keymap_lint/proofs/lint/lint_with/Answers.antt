use Rattle.keymap_lint.proofs.lint.lint_with.Goals as goal

pub returns : goal.returns
returns c = record {
  list = simp c.as_slice.ensures.value at c.in_ok-list.ensures;
  untyped = simp c.map.ensures at c.in_ok-untyped.ensures;
  slots = c.missing_slots-missing_slots.ensures;
  keys = c.nul_keys-nul_keys.ensures;
  gaps = c.gaps.ensures;
  lost = c.lost_letters.ensures;
  small = c.small_slots.ensures;
  accents = c.missing_accents.ensures;
  unused = c.unused_slots.ensures;
  sticking = simp c.map-2.ensures at c.in_ok-sticking.ensures;
}
