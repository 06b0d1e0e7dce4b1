-- The names of definitions and of std that more than one file of these proofs uses, passed on from one place.
pub use Prim.Native.Nat.{suc, zero}
pub use Rattle.keymap_core.specs.Accents.{blank}
pub use Rattle.keymap_core.specs.Actions.{IsAction, action_of, holding_action, letters_of, name_of, plain_actions}
pub use Rattle.keymap_core.specs.Actions.{same_action}
unfoldable pub use Rattle.keymap_core.specs.Below.{first_below}
pub use Rattle.keymap_core.specs.Borne.{is_cell_of_action}
unfoldable pub use Rattle.keymap_core.specs.Borne.{any_below, has_in_slot, is_borne, is_upper_live}
pub use Rattle.keymap_core.specs.Maps.{MapValue, cell_at, undefined}
pub use Rattle.keymap_core.specs.Names.{are_digits, combined_names, digits_value, meaning_of, number_behind}
pub use Rattle.keymap_core.specs.declared.action.Action.{Action}
pub use Rattle.keymap_core.specs.declared.action.Lock.{Lock}
pub use Rattle.keymap_core.specs.declared.action.Modifier.{Modifier}
pub use Rattle.keymap_core.specs.declared.entry.Cell.{Cell}
pub use Rattle.std.proofs.Common.{All, Bool, List, None, Option, Some, [], ap, append_assoc, ap₂, arith, cond, drop}
pub use Rattle.std.proofs.Common.{eqb, false, get_or, inl, inr, length, length-append, map, min, refl, replicate, rules}
pub use Rattle.std.proofs.Common.{subst, sym, take, true, vec_len, ℕ, ◌++◌, ◌+◌, ◌-◌, ◌<◌, ◌==◌, ◌||◌, ◌↔◌, ◌∙◌, ◌∷◌}
pub use Rattle.std.proofs.Common.{◌≡◌, ◌≤◌}
pub use Rattle.std.proofs.lemmas.Bool.{and_parts, cases_lt, eq-eqb, eqb-true, or_cases, true≢false}
pub use Rattle.std.proofs.lemmas.Bool.Decides.{nat_tests}
pub use Rattle.std.proofs.lemmas.Grind.{common_steps}
pub use Rattle.std.proofs.lemmas.List.Folds.{find-append}
pub use Rattle.std.proofs.lemmas.Option.{none-some, same_Some}
pub use Rattle.std.specs.Char.{is_ascii_digit, to_ascii_lowercase}
pub use Rattle.std.specs.Io.KnownBytes.{Appends}
pub use Rattle.std.specs.List.{filter_map, find, list_all, list_any, range_with_len}
pub use Rattle.std.specs.Option.{option_map, option_map_or, option_or}
pub use Rattle.std.specs.Prelude.{◌&&◌}
pub use Rattle.std.specs.Str.{bytes_eq}
pub use Rattle.std.specs.Vec.{vec_capacity}
