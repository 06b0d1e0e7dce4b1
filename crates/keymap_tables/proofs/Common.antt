-- The names of definitions and of std that more than one file of these proofs uses, passed on from one place.
pub use Rattle.arrayvec.specs.ArrayVec.{array_vec_len}
pub use Rattle.keymap_core.proofs.Shared.{StopsIn-more, passed_on}
pub use Rattle.keymap_core.specs.Accents.{AccentValue, blank, first_result}
pub use Rattle.keymap_core.specs.Bounds.{IsAccent, IsCell, IsEntry, IsMap, IsPair}
pub use Rattle.keymap_core.specs.Maps.{MapValue, accent_or_blank, entry_at, placed, undefined}
pub use Rattle.keymap_tables.specs.Faults.{FaultOf, IsFirstFault, accent_fault, base_at, cell_fault, char_fault}
pub use Rattle.keymap_tables.specs.Faults.{count_at, count_fault, is_marked_at, number_at, number_fault, rows_fault}
pub use Rattle.keymap_tables.specs.Faults.{slot_end_fault, slot_fault, table_fault, used_fault, zero_fault}
unfoldable pub use Rattle.keymap_tables.specs.Faults.{fault_at, pairs_in}
pub use Rattle.keymap_tables.specs.Fits.{AccentFits, CellFits, EntryFits, FitsIn, character_in, number_in}
pub use Rattle.keymap_tables.specs.Image.{accent_bytes, cell_bytes, count_bytes, flag_number, image, is_act, marks_of}
pub use Rattle.keymap_tables.specs.Image.{number_bytes, number_of, numbers_of, rows_bytes, slot_bytes, table_bytes}
pub use Rattle.keymap_tables.specs.Image.{zeros}
unfoldable pub use Rattle.keymap_tables.specs.Image.{image_in}
pub use Rattle.keymap_tables.specs.Inner.Firsts.{HasNoFault}
pub use Rattle.keymap_tables.specs.Inner.Taken.{AreRows, IsAccentIn, IsEntryIn, made_of}
pub use Rattle.keymap_tables.specs.Layouts.{accent_size, count_size, n_accs_place, narrow, number_limit, number_size}
pub use Rattle.keymap_tables.specs.Layouts.{number_width, pad_size, part, slot_size, slots_place, wide}
pub use Rattle.keymap_tables.specs.Types.{Act, BadPad, Cell, Char, Entry, Layout, Narrow, NotEmpty, TableFault}
pub use Rattle.keymap_tables.specs.Types.{BadAction, TableFaultKind, Wide}
pub use Rattle.std.proofs.Common.{All, List, None, Some, [], add-one, add-zero, ap, append-nil, append_assoc, arith}
pub use Rattle.std.proofs.Common.{cond, drop, false, get_or, inl, inr, length, length-append, length-drop, mul-suc}
pub use Rattle.std.proofs.Common.{mul-zero, mul_comm, refl, replicate, rules, set, subst, suc, sym, take, true, zero, ℕ}
pub use Rattle.std.proofs.Common.{◌%◌, ◌*◌, ◌++◌, ◌+◌, ◌-◌, ◌/◌, ◌<◌, ◌==◌, ◌^◌, ◌∙◌, ◌∷◌, ◌≡◌, ◌≢◌, ◌≤◌}
pub use Rattle.std.proofs.Math.Nat.{mul-le-mul_left, mul-sub}
pub use Rattle.std.proofs.Math.Seq.{drop-cons}
pub use Rattle.std.proofs.lemmas.Bool.{cases_lt, eq-eqb, le-ltb, lt-ltb}
pub use Rattle.std.proofs.lemmas.Bool.Decides.{nat_tests}
pub use Rattle.std.proofs.lemmas.Grind.{common_steps, flat_map-append}
pub use Rattle.std.proofs.lemmas.List.{drop-drop, drop_at, get_or-append_right, get_or-drop, get_or-replicate}
pub use Rattle.std.proofs.lemmas.List.{get_or-take, get_or_past, length-replicate, length_push}
pub use Rattle.std.proofs.lemmas.List.{replicate-append-replicate, same_lists, take-append-drop, take_all, take_at}
pub use Rattle.std.proofs.lemmas.List.{length-set, take_more, take_more_set}
pub use Rattle.std.proofs.lemmas.List.Elements.{All-append, All-cons, All-from_get_or, All-get_or, All-head, All-nil}
pub use Rattle.std.proofs.lemmas.List.Elements.{All-push, All-replicate, All-same, All-tail, All-weaker}
pub use Rattle.std.specs.Char.{IsScalar}
pub use Rattle.std.specs.Int.{from_le_bytes, w16, w8}
pub use Rattle.std.specs.List.{flat_map}
pub use Rattle.std.specs.Prelude.{Bool, Err, IfErr, MatchResult, Ok, Option, Result, nat_le, slice_index}
