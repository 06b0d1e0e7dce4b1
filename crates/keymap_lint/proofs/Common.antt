-- The names of definitions and of std that more than one file of these proofs uses, passed on from one place.
pub use Rattle.arrayvec.specs.ArrayVec.{array_vec_len}
unfoldable pub use Rattle.keymap_core.specs.Below.{gathered}
pub use Rattle.keymap_core.specs.Maps.{MapValue}
pub use Rattle.keymap_lint.specs.Kinds.{accent_pairs, again, digit, has_base, is_above_in_force, is_defined, is_given}
pub use Rattle.keymap_lint.specs.Kinds.{is_missing, missing_accent, missing_slot, mixed_key, pair_again, selects}
pub use Rattle.keymap_lint.specs.Kinds.{zero_accent}
pub use Rattle.keymap_lint.specs.Spelled.{Spelled, cell_in, cells_of}
pub use Rattle.keymap_lint.specs.Types.{Diagnostic, Faulty, Placed, Slot}
unfoldable pub use Rattle.keymap_places.specs.Placed.{last_of}
pub use Rattle.std.proofs.Common.{Bool, List, None, Option, Some, [], ap, arith, cond, false, get_or, length, map, not}
pub use Rattle.std.proofs.Common.{refl, rules, subst, sym, take, tests, true, ℕ, ◌&&◌, ◌++◌, ◌+◌, ◌<◌, ◌∙◌, ◌∷◌, ◌≡◌}
pub use Rattle.std.proofs.Common.{◌≤◌}
pub use Rattle.std.proofs.lemmas.Bool.{true≢false}
pub use Rattle.std.proofs.lemmas.List.FromFn.{get_or-map-range_with_len}
pub use Rattle.std.specs.List.{find, flat_map, range_with_len}
