-- The names of definitions and of std that more than one file of these proofs uses, passed on from one place.
pub use Rattle.bstr.specs.Find.{IsFirstByte, is_byte}
pub use Rattle.bstr.specs.Utf8.{Decoded, bad, code_of_3, code_of_4, continues, decoded, decoded_by, good, second}
pub use Rattle.keymap_core.proofs.Shared.{Gathers-same, Gathers-start, StopsIn-more, along}
pub use Rattle.keymap_core.proofs.Shared.{get_or-replicate_default, passed_on}
pub use Rattle.keymap_core.specs.Accents.{AccentValue, blank}
pub use Rattle.keymap_core.specs.Actions.{IsAction, name_of}
pub use Rattle.keymap_core.specs.Maps.{MapValue, entry_at, placed, undefined, with_accent, with_entry}
pub use Rattle.keymap_core.specs.Names.{named_of}
pub use Rattle.keymap_core.specs.Streams.{Gathers, size_of}
pub use Rattle.keymap_text.specs.Inner.Fields.{progress}
pub use Rattle.keymap_text.specs.Inner.Grammar.{AccentCharacter, AfterAccent, CellAt, GrammarPlace, GrammarState}
pub use Rattle.keymap_text.specs.Inner.Grammar.{LockAt, PairBase, PairEnd, PairResult, after_base, after_cell, at}
pub use Rattle.keymap_text.specs.Inner.Grammar.{empty_map, first_of, start, step, with_cell, with_pair, ◌>>=◌}
unfoldable pub use Rattle.keymap_text.specs.Inner.Grammar.{accept, at_end}
pub use Rattle.keymap_text.specs.Inner.Judging.{Faulty, Spelled, Verdict, ended, verdict}
unfoldable pub use Rattle.keymap_text.specs.Inner.Judging.{judge}
pub use Rattle.keymap_text.specs.Inner.Keys.{ArePlaced, IsTrueName, KeyMeans, first_of_sixteen, function_name}
pub use Rattle.keymap_text.specs.Inner.Keys.{is_letter, letters, name_key, pack, screen_name, sense_meaning, unpacked}
unfoldable pub use Rattle.keymap_text.specs.Inner.Keys.{meaning_by_names}
pub use Rattle.keymap_text.specs.Inner.Resuming.{Breaks, IsFaultOfPending, IsReader, Keeps, Lined, Moves, Says, resume}
pub use Rattle.keymap_text.specs.Inner.Scanning.{Advances, Fronts, IsOpen, Refuses, Takes}
pub use Rattle.keymap_text.specs.Inner.Views.{IsPlace, grammar_view, place_of, place_view, state_view}
pub use Rattle.keymap_text.specs.Items.{accent_index, cell, character, lock}
pub use Rattle.keymap_text.specs.Lexical.{Ends, Found, Front, Refused, Skipped, Stops, Then, TokenValue, Tokens}
pub use Rattle.keymap_text.specs.Lexical.{Unfinished, closing, first, is_blank, is_empty, is_lone, is_space, is_word}
pub use Rattle.keymap_text.specs.Lexical.{leading, quoted, separates, stays_on_line, token_before, unclosed, word}
unfoldable pub use Rattle.keymap_text.specs.Lexical.{front_of, literal, tokens_after}
pub use Rattle.keymap_text.specs.Meaning.{Early, Fault, FaultInText, IsSameToken, Means, Reads, Spells, ending}
pub use Rattle.keymap_text.specs.Meaning.{fault_of, found_in, is_end_inside, is_settled, is_word_kind, item_of, items}
pub use Rattle.keymap_text.specs.Meaning.{line, tokens}
unfoldable pub use Rattle.keymap_text.specs.Meaning.{ending_of_tokens, list_of, place_after}
pub use Rattle.keymap_text.specs.Places.{AtDefinition, RowPlace, may_end, next, next_at_definition}
pub use Rattle.keymap_text.specs.Printed.{accent_lines, accent_name, cell_text, column, control_name, filled}
pub use Rattle.keymap_text.specs.Printed.{flag_letter, key_lines, printed, slot_text}
unfoldable pub use Rattle.keymap_text.specs.Printed.{accent_line, accent_words, character_text, key_line, pair_text}
unfoldable pub use Rattle.keymap_text.specs.Printed.{slot_words}
pub use Rattle.keymap_text.specs.Rows.{AccentDefinition, AreCells, ArePairs, Defines, Definition, IsRow, KeyDefinition}
pub use Rattle.keymap_text.specs.Rows.{accents_needed, map_of, no_cells, no_definition, no_pairs, of_accent, of_index}
pub use Rattle.keymap_text.specs.Rows.{of_key, of_slot, one_cell, one_definition, one_pair, or_default, slots_needed}
unfoldable pub use Rattle.keymap_text.specs.Rows.{greatest, last}
pub use Rattle.keymap_text.specs.Sources.{FailsInside, HasNoEarlyFault, ReadsMap, StopsAtOnce, TextGoesPast, limit}
pub use Rattle.keymap_text.specs.Standing.{FedAfter, StandsAfter}
pub use Rattle.keymap_text.specs.Types.{Act, Action, BadByte, BadLiteral, BadWord, Cell, Char, Close, EndInside, Entry}
pub use Rattle.keymap_text.specs.Types.{Item, Letter, Literal, LockFlag, Meaning, Name, Number, Open, ParenL, ParenR}
pub use Rattle.keymap_text.specs.Types.{TextError, TextFault, TextFaultKind, TokenKind, Value, Word}
pub use Rattle.keymap_text.specs.Words.{control_names, is_digit, item, number, number_after, of_action, same_name}
pub use Rattle.keymap_text.specs.Words.{table}
unfoldable pub use Rattle.keymap_text.specs.Words.{digits_of, meaning, named}
pub use Rattle.keymap_text.specs.declared.grammar.Grammar.{Grammar}
pub use Rattle.keymap_text.specs.declared.names.TheConstants.{LOW_BYTES, NAMES}
pub use Rattle.keymap_text.specs.declared.reading.Reading.{Reading}
pub use Rattle.keymap_text.specs.declared.scanner.Stop.{Stop}
pub use Rattle.std.proofs.Common.{All, Bool, Err, Fits, IfErr, IfSome, List, None, Ok, Option, Result, Some, []}
pub use Rattle.std.proofs.Common.{add-one, add-zero, ap, append-nil, append_assoc, ap₂, arith, bit_and, codes, cond}
pub use Rattle.std.proofs.Common.{count_by, drop, drop-cons, drop_at, eq-eqb, eq-or-lt_of_le, eqb-true, false, fold}
pub use Rattle.std.proofs.Common.{get_or, inl, inr, leb, length, length-append, length-drop, length-set, map, max}
pub use Rattle.std.proofs.Common.{mul-le-mul_left, nat_le, nat_lt, ne_eqb, not, pow-add, pow_mono, refl, replicate}
pub use Rattle.std.proofs.Common.{rules, set, slice_index, slice_index_or, subst, suc, sym, take, take_all, take_at}
pub use Rattle.std.proofs.Common.{true, true≢false, w8, zero, ℕ, ⊎_elim, ◌%◌, ◌&&◌, ◌*◌, ◌++◌, ◌+◌, ◌-◌, ◌/◌, ◌<◌}
pub use Rattle.std.proofs.Common.{◌==◌, ◌^◌, ◌∙◌, ◌∷◌, ◌≡◌, ◌≢◌, ◌≤◌, ◌⊎◌}
pub use Rattle.std.proofs.Math.Seq.{drop-append-add, get_or-append_seam, take-add}
pub use Rattle.std.proofs.lemmas.Bool.{agree_below, agree_below_at, cases_eq, cases_lt, le-ltb, leb-true, lt-ltb}
pub use Rattle.std.proofs.lemmas.Bool.{ltb-true, not-false, not-true}
pub use Rattle.std.proofs.lemmas.Bool.Decides.{nat_tests}
pub use Rattle.std.proofs.lemmas.List.{at_drop_all, drop-append-le, drop-drop, drop-map, drop_all, drop_more}
pub use Rattle.std.proofs.lemmas.List.{get_or-map, get_or-set_other, get_or-set_same, get_or-take, get_or_append_left}
pub use Rattle.std.proofs.lemmas.List.{get_or_at, length-map, length-take-le, take-append-drop, take-append-le}
pub use Rattle.std.proofs.lemmas.List.{take-map, take_more, take_more_set}
pub use Rattle.std.proofs.lemmas.List.FromFn.{get_or-map-range_with_len, length-range_with_len}
pub use Rattle.std.proofs.lemmas.List.Sums.{count_by-le-length, fold_more, prefix_len-drop_all, prefix_len-drop_no}
pub use Rattle.std.proofs.lemmas.List.Sums.{prefix_len-drop_yes, prefix_len-le-length, prefix_len_is}
pub use Rattle.std.proofs.lemmas.List.Sums.{prefix_len_passes, prefix_len_stops, sum_by-append, sum_by-cons}
pub use Rattle.std.proofs.lemmas.List.Sums.{sum_by-take-drop}
pub use Rattle.std.proofs.lemmas.Option.{none-some, same_Some}
pub use Rattle.std.proofs.lemmas.Simd.{get_or-chunk, leading_from_mask_l, length-chunk, map-map, mask_l-mod}
pub use Rattle.std.proofs.lemmas.Simd.{trailing_mask_l, zip2_splat}
pub use Rattle.std.specs.Char.{digit_char, digit_value, to_ascii_lowercase}
pub use Rattle.std.specs.Int.{from_le_bytes, w64}
pub use Rattle.std.specs.List.{flat_map, list_all, prefix_len, range_with_len}
pub use Rattle.std.specs.Option.{option_or}
pub use Rattle.std.specs.Prelude.{IsFalse}
