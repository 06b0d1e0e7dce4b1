-- The names of definitions and of std that more than one file of these proofs uses, passed on from one place.
pub use Rattle.bstr.specs.Utf8.{lossy_chars, or_replacement, pieces}
pub use Rattle.console_core.specs.declared.event.Event.{Event}
pub use Rattle.keymap_core.proofs.Shared.{along}
pub use Rattle.keymap_core.specs.declared.action.Modifier.{Modifier}
pub use Rattle.keymap_lint.specs.declared.diagnostic.Diagnostic.{Diagnostic}
pub use Rattle.keymap_lint.specs.declared.diagnostic.Diagnostics.{Diagnostics}
pub use Rattle.keymap_lint.specs.declared.diagnostic.Severity.{Severity}
unfoldable pub use Rattle.keymap_lint.specs.KindNames.{kind_name}
pub use Rattle.keymap_lint_text.specs.Excerpt.{below, lines_of}
unfoldable pub use Rattle.keymap_lint_text.specs.Excerpt.{excerpt}
pub use Rattle.keymap_lint_text.specs.Heads.{Remark, Said, head, place_text, printed, printed_of, remark, said_text}
pub use Rattle.keymap_lint_text.specs.Names.{is_noted}
pub use Rattle.keymap_names.specs.Shown.{IsLine, IsPlainText, IsSeen, ended, is_shown_byte, lines_text}
pub use Rattle.keymap_names.specs.Shown.{shown_char}
unfoldable pub use Rattle.keymap_names.specs.Shown.{shown_chars, shown_name}
pub use Rattle.keymap_lint_text.specs.Whole.{answer, beginning, judged, of_diagnostic, of_fault}
pub use Rattle.keymap_text.specs.FaultNames.{fault_name}
pub use Rattle.keymap_places.specs.LineOf.{before_in_line}
pub use Rattle.keymap_text.specs.Meaning.{line}
pub use Rattle.keymap_text.specs.declared.fault.TextFaultKind.{TextFaultKind}
unfoldable pub use Rattle.messages.specs.Filled.{filled}
pub use Rattle.std.proofs.Common.{Bool, List, None, Option, Some, [], ap, append-nil, append_assoc, arith, codes, drop}
pub use Rattle.std.proofs.Common.{false, inl, inr, length, length-append, length-drop, map, nat_lt, refl, subst, sym}
pub use Rattle.std.proofs.Common.{take, take_all, true, ℕ, ◌++◌, ◌+◌, ◌-◌, ◌<◌, ◌∙◌, ◌∷◌, ◌≡◌, ◌≤◌, ◌⊎◌}
pub use Rattle.std.proofs.Math.Seq.{drop-append_seam, take-append_seam}
pub use Rattle.std.proofs.lemmas.Bool.{and_parts, cases_lt}
pub use Rattle.std.proofs.lemmas.Bool.Decides.{nat_tests}
pub use Rattle.std.proofs.lemmas.Grind.{flat_map-append}
pub use Rattle.std.proofs.lemmas.List.{drop-append-le, map-append}
pub use Rattle.std.proofs.lemmas.List.Elements.{All-append, All-cons, All-nil, All-take}
pub use Rattle.std.proofs.lemmas.Str.{encode_ascii}
pub use Rattle.std.specs.List.{flat_map, list_all, range_with_len}
pub use Rattle.std.specs.Prelude.{IfOk, decimal, encode_utf8, if◌then◌else◌, min, not, slice_index}
pub use Rattle.std.specs.Prelude.{slice_index_or, ◌%◌, ◌/◌, ◌==◌}
