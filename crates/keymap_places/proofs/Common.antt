-- The names of definitions and of std that more than one file of these proofs uses, passed on from one place.
pub use Rattle.keymap_core.specs.Accents.{AccentValue, blank}
pub use Rattle.keymap_core.specs.Maps.{MapValue, undefined}
pub use Rattle.keymap_places.specs.Inner.LastOf.{HasLast}
pub use Rattle.keymap_places.specs.Inner.Placed.{ComesNext, behind, is_open, tokens_from}
unfoldable pub use Rattle.keymap_places.specs.Inner.Placed.{begun}
pub use Rattle.keymap_places.specs.LineOf.{AreLines, AreStarts, IsLineStart, before_in_line, line_end}
pub use Rattle.keymap_places.specs.Placed.{AreRows, IsPlaced, IsSpelledBy, Row, StandsAmong, begins, defined, is_same}
pub use Rattle.keymap_places.specs.Placed.{no_row, one_row, places_of, span_of}
unfoldable pub use Rattle.keymap_places.specs.Placed.{last_of, places_after}
pub use Rattle.keymap_places.specs.Types.{Accent, Defined, Placed, Slot}
pub use Rattle.keymap_places.specs.Wanted.{definition_behind}
unfoldable pub use Rattle.keymap_places.specs.Wanted.{first_refused}
pub use Rattle.keymap_text.specs.Inner.Grammar.{empty_map}
pub use Rattle.keymap_text.specs.Items.{accent_index, cell, character}
pub use Rattle.keymap_text.specs.Lexical.{Ends, Found, Front, Refused, Skipped, Stops, Then, TokenValue, Tokens}
pub use Rattle.keymap_text.specs.Lexical.{Unfinished, first, leading, stays_on_line, token_before}
unfoldable pub use Rattle.keymap_text.specs.Lexical.{front_of, tokens_after}
pub use Rattle.keymap_text.specs.Meaning.{Spells, item_of, line, tokens}
unfoldable pub use Rattle.keymap_text.specs.Meaning.{list_of}
pub use Rattle.keymap_text.specs.Places.{AtDefinition, RowPlace, next}
pub use Rattle.keymap_text.specs.Rows.{AccentDefinition, AreCells, ArePairs, Defines, Definition, IsRow, KeyDefinition}
pub use Rattle.keymap_text.specs.Rows.{map_of, no_cells, no_definition, no_pairs, of_accent, of_index, of_key, of_slot}
pub use Rattle.keymap_text.specs.Rows.{one_cell, one_definition, one_pair, or_default}
unfoldable pub use Rattle.keymap_text.specs.Rows.{last}
pub use Rattle.keymap_text.specs.Tokens.{result_view, token_view}
pub use Rattle.keymap_places.specs.Types.{Act, Action, Cell, Close, EndInside, Entry, Item, Letter, Meaning, Number}
pub use Rattle.keymap_places.specs.Types.{Open, Span, TextFault, TextFaultKind, Token, TokenKind, Value, Word}
pub use Rattle.keymap_text.specs.Words.{item}
pub use Rattle.std.proofs.Common.{All, Bool, Err, IfSome, IsErr, List, None, Ok, Option, Some, [], add-one, ap}
pub use Rattle.std.proofs.Common.{append-nil, append_assoc, ap₂, arith, cond, count_by, drop, drop-cons, eqb-true}
pub use Rattle.std.proofs.Common.{false, get_or, inl, inr, length, length-append, length-drop, length-set, length-take}
pub use Rattle.std.proofs.Common.{map, ne_eqb, not, refl, replicate, rules, set, subst, suc, sym, take, take_all, true}
pub use Rattle.std.proofs.Common.{vec_len, zero, ℕ, ⊎_elim, ◌*◌, ◌++◌, ◌+◌, ◌-◌, ◌<◌, ◌==◌, ◌∙◌, ◌∷◌, ◌≡◌, ◌≢◌, ◌≤◌}
pub use Rattle.std.proofs.Common.{◌⊎◌}
pub use Rattle.std.proofs.Math.Seq.{drop-append-add, get_or-append_seam, take-append_seam}
pub use Rattle.std.proofs.lemmas.Bool.{cases_eq}
pub use Rattle.std.proofs.lemmas.List.{drop-drop, drop-take, ext_get_or, get_or-drop, get_or-replicate}
pub use Rattle.std.proofs.lemmas.List.{get_or-set_other, get_or-set_same, get_or-take, get_or_append_left, length-map}
pub use Rattle.std.proofs.lemmas.List.{length-take-le, take_more}
pub use Rattle.std.proofs.lemmas.List.FromFn.{get_or-map-range_with_len, length-map-range_with_len}
pub use Rattle.std.proofs.lemmas.List.Sums.{prefix_len_passes, prefix_len_stops, suffix_len_is}
pub use Rattle.std.proofs.lemmas.Option.{none-some, same_Some}
pub use Rattle.std.specs.List.{range_with_len, suffix_len}
pub use Rattle.std.specs.Option.{option_or}
