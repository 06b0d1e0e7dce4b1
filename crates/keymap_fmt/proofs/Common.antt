-- The names of definitions and of std that more than one file of these proofs uses, passed on from one place.
pub use Rattle.keymap_fmt.specs.Formatted.{formatted, rendered}
unfoldable pub use Rattle.keymap_fmt.specs.Formatted.{rendered_from}
pub use Rattle.keymap_fmt.specs.Layout.{advanced, begins_line, comment_lead, ending, is_open, is_over, line_begun}
pub use Rattle.keymap_fmt.specs.Layout.{line_end, lines_before, row_of, start, width}
unfoldable pub use Rattle.keymap_fmt.specs.Layout.{after, before, lead, opened}
pub use Rattle.keymap_fmt.specs.Pieces.{PieceValue, behind, comment, lower, lowered, pieces}
unfoldable pub use Rattle.keymap_fmt.specs.Pieces.{pieces_after, trimmed}
pub use Rattle.keymap_fmt.specs.Same.{part_and_bytes}
pub use Rattle.keymap_fmt.specs.Types.{Apart, AtTop, Below, Beside, Code, Comment, Part, Standing, State}
pub use Rattle.keymap_fmt.specs.Types.{TextFaultKind, TokenKind}
pub use Rattle.keymap_fmt.specs.declared.layout.Row.{Row}
pub use Rattle.keymap_fmt.specs.declared.layout.Row.TheVariants.{Accent, Slot}
pub use Rattle.keymap_text.proofs.Shared.{leading_fail, leading_pass, skipped_by, stands_alone}
pub use Rattle.keymap_text.specs.Lexical.{Found, Front, Refused, Skipped, TokenValue, Unfinished, front_of, is_blank}
pub use Rattle.keymap_text.specs.Lexical.{is_space, leading, stays_on_line}
unfoldable pub use Rattle.keymap_text.specs.Lexical.{tokens_after}
pub use Rattle.std.proofs.Common.{Bool, List, None, Ok, Option, Some, [], add-one, ap, append_assoc, arith, drop}
pub use Rattle.std.proofs.Common.{false, get_or, if◌then◌else◌, inl, inr, length, map, refl, replicate, rules}
pub use Rattle.std.proofs.Common.{slice_index, subst, suc, sym, take, true, true≢false, zero, ℕ, ⊎_elim, ◌&&◌, ◌++◌}
pub use Rattle.std.proofs.Common.{◌+◌, ◌-◌, ◌<◌, ◌==◌, ◌∙◌, ◌∷◌, ◌≡◌, ◌≤◌, ◌⊎◌}
pub use Rattle.std.proofs.lemmas.Bool.Decides.{nat_tests}
pub use Rattle.std.proofs.lemmas.Grind.{common_steps}
pub use Rattle.std.proofs.lemmas.List.{drop-drop, length-take-le}
pub use Rattle.std.proofs.lemmas.List.Sums.{suffix_len-take_no}
pub use Rattle.std.specs.List.{flat_map, list_all, suffix_len}
