-- The names of definitions and of std that more than one file of these proofs uses, passed on from one place.
pub use Prim.Native.Nat.{suc, zero}
pub use Rattle.keymap_check.specs.Said.{finding_words}
pub use Rattle.keymap_check.specs.declared.finding.Finding.{Finding}
pub use Rattle.keymap_core.proofs.Shared.{along}
pub use Rattle.keymap_core.specs.Accents.{AccentValue, blank}
pub use Rattle.keymap_core.specs.Actions.{accent_names, name_of}
pub use Rattle.keymap_core.specs.Below.{passed}
unfoldable pub use Rattle.keymap_core.specs.Below.{gathered, passing}
pub use Rattle.keymap_core.specs.Borne.{is_upper_live}
pub use Rattle.keymap_core.specs.Bounds.{IsCell, IsEntry, IsMap}
pub use Rattle.keymap_core.specs.CodePoints.{digit_at, upper_digits}
unfoldable pub use Rattle.keymap_core.specs.CodePoints.{code_digits}
pub use Rattle.keymap_core.specs.Maps.{MapValue, accent_at, entry_at, undefined}
pub use Rattle.keymap_core.specs.Numbers.{key_count}
pub use Rattle.keymap_core.specs.Unseen.{is_unseen}
pub use Rattle.keymap_core.specs.declared.entry.Cell.{Cell}
pub use Rattle.keymap_core.specs.declared.entry.Cell.TheVariants.{Char}
pub use Rattle.keymap_core.specs.declared.entry.Entry.{Entry}
pub use Rattle.keymap_draw.specs.Boards.{Row, keys_of}
pub use Rattle.keymap_draw.specs.Drawings.{Drawing}
pub use Rattle.keymap_draw.specs.Facts.{Fact}
unfoldable pub use Rattle.keymap_draw.specs.Facts.{numbered}
pub use Rattle.keymap_draw.specs.Halves.{is_other, other_key, run_keys, slot_of}
unfoldable pub use Rattle.keymap_draw.specs.Halves.{board_facts, other_keys}
pub use Rattle.keymap_draw.specs.Keys.{finding_of}
pub use Rattle.keymap_draw.specs.Legends.{cell_legend}
unfoldable pub use Rattle.keymap_draw.specs.Legends.{character_legend, other_legend, unfilled, unseen_name}
unfoldable pub use Rattle.keymap_draw.specs.Lists.{bears_dead_key}
pub use Rattle.keymap_draw.specs.Lists.{has_character, is_silent, listed_accent, listed_finding, part, silent_name}
unfoldable pub use Rattle.keymap_draw.specs.Lists.{accents_list, findings_list, named_accents, silent_list, table}
unfoldable pub use Rattle.keymap_draw.specs.Markup.{escaped}
unfoldable pub use Rattle.keymap_draw.specs.Pictures.{head, picture_facts}
pub use Rattle.keymap_draw.specs.Places.{is_class}
pub use Rattle.keymap_draw.specs.Sheets.{IsWithin, ReadAs, facts_in, facts_of, in_svg, is_inner, is_seen, over}
pub use Rattle.keymap_draw.specs.Sheets.{within}
unfoldable pub use Rattle.keymap_draw.specs.Sheets.{last_facts}
pub use Rattle.keymap_draw.specs.WellFormed.{Element, Place, Read, State, Tells, at, is_plain, is_shown, saying, scan}
pub use Rattle.keymap_draw.specs.WellFormed.{start, step, within_element}
pub use Rattle.keymap_draw.specs.WellFormed.Place.{Text, Value}
pub use Rattle.keyboard.specs.declared.board.Board.{Board}
pub use Rattle.keyboard.specs.declared.board.Board.TheVariants.{Ansi, Iso}
pub use Rattle.keymap_draw.specs.declared.board.Shape.{Shape}
pub use Rattle.keymap_draw.specs.declared.board.TheConstants.{RUNS}
pub use Rattle.keymap_draw.specs.declared.half.Half.{Half}
pub use Rattle.keymap_draw.specs.declared.half.Half.TheVariants.{Lower, Upper}
pub use Rattle.keymap_draw.specs.declared.sheet.Content.{Content}
pub use Rattle.keymap_draw.specs.declared.sheet.Content.TheVariants.{Bytes, Number, Plain}
pub use Rattle.keymap_text.specs.Printed.{word}
unfoldable pub use Rattle.keymap_text.specs.Printed.{accent_words, slot_words}
pub use Rattle.keymap_text.specs.Rows.{AccentDefinition, Definition}
pub use Rattle.messages.proofs.Shared.{decimal_passes}
pub use Rattle.std.proofs.Common.{All, Bool, List, None, Option, Some, [], ap, append-nil, append_assoc, arith, drop}
pub use Rattle.std.proofs.Common.{false, get_or, inl, inr, length, map, not, refl, reverse, rules, subst, sym, take}
pub use Rattle.std.proofs.Common.{true, ℕ}
pub use Rattle.std.proofs.Common.{◌%◌, ◌&&◌, ◌++◌, ◌+◌, ◌<◌, ◌==◌, ◌||◌, ◌∙◌, ◌∷◌, ◌≡◌, ◌≤◌}
pub use Rattle.std.proofs.lemmas.Bool.{agree_below, agree_below_at, and_parts, cases_order, cond_both, eqb-true}
pub use Rattle.std.proofs.lemmas.Bool.{ltb-true, not-true, or_cases}
pub use Rattle.std.proofs.lemmas.Bool.Decides.{nat_tests}
pub use Rattle.std.proofs.lemmas.List.Elements.{All-append, All-cons, All-contains, All-head, All-nil, All-replicate}
pub use Rattle.std.proofs.lemmas.List.Elements.{All-tail}
pub use Rattle.std.proofs.lemmas.List.Folds.{Any-from_list_any}
pub use Rattle.std.proofs.lemmas.List.Sums.{AllPass-from_list_all as each}
pub use Rattle.std.proofs.lemmas.Option.{none-some}
unfoldable pub use Rattle.std.specs.Fmt.{digits}
pub use Rattle.std.specs.List.{Any, Contains, cons_option, filter, filter_map, flat_map, list_all, list_any}
pub use Rattle.std.specs.Prelude.{IfOk, codes, decimal, if◌then◌else◌, nat_lt, option_map, slice_get, slice_index_or}
pub use Rattle.std.specs.Prelude.{◌/◌}
