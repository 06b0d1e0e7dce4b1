use Rattle.script_text.proofs.Common.{◌≡◌, ◌++◌, ◌∙◌, List, ℕ, append_assoc, codes}
use Rattle.script_text.specs.Cover.{all_pairs, counts_line}
use Rattle.keymap_cover.specs.Covering.{counts_of}
use Rattle.keymap_cover.specs.SightLists.{all_cells, all_lock_settings}
use Rattle.keymap_cover.specs.Verdicts.{verdict_in}
use Rattle.script_text.proofs.cover.push_all_counts.Goals as goal

-- three texts behind a first one are one text behind it
joined : (old cells settings pairs new : List ℕ) → new ≡ ((old ++ cells) ++ settings) ++ pairs
    → new ≡ old ++ (cells ++ settings ++ pairs)
joined old cells settings pairs new e = e ∙ simp append_assoc

pub returns : goal.returns
returns c =
    let m = c.args.map.now in
    let rest = c.args.rest.now in
    let told = verdict_in m c.args.verdicts.now in
    let cells = rw (c.as_slice.ensures.value, c.in_ok-cells.ensures) at c.in_ok-push_counts.ensures in
    let settings =
    rw (cells, c.as_slice-2.ensures.value, c.in_ok-settings.ensures) at c.in_ok-push_counts-2.ensures in
    joined c.args.text.now.items (counts_line rest (codes "cells") (counts_of told all_cells))
    (counts_line rest (codes "lock settings") (counts_of told all_lock_settings))
    (counts_line rest (codes "pairs") (counts_of told (all_pairs m))) _
    (rw (settings, c.as_slice-3.ensures.value, c.in_ok-pairs.ensures) at c.in_ok-push_counts-3.ensures)
