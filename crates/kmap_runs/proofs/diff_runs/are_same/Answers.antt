use Rattle.kmap_runs.proofs.Compared.{none_found}
use Rattle.kmap_runs.proofs.diff_runs.are_same.Goals as goal

pub returns : goal.returns
returns c =
    none_found c.args.found.now _ c.is_empty.ensures
    (c.the_same_keymaps_have_no_changes.ensures _ _ _ c.every_keymap_is_within_the_bounds.ensures
    c.every_keymap_is_within_the_bounds-2.ensures c.requires)
