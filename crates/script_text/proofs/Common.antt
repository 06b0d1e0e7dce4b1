-- The names of definitions and of std that more than one file of these proofs uses, passed on from one place.
pub use Prim.Native.Nat.{suc}
pub use Rattle.console_core.specs.History.{HasKey, HasKeys}
pub use Rattle.console_core.specs.declared.event.Event.{Event}
pub use Rattle.console_states.specs.declared.selection.Sight.{Sight}
pub use Rattle.console_states.specs.declared.selection.Sight.TheVariants.{Pair}
pub use Rattle.keymap_core.proofs.Shared.{All-reversed}
pub use Rattle.keymap_core.specs.Actions.{name_of}
pub use Rattle.keymap_core.specs.Maps.{MapValue}
pub use Rattle.keymap_core.specs.Numbers.{slot_limit}
pub use Rattle.keymap_cover.specs.declared.parts.Verdict.TheVariants.{LeftOut, Never}
pub use Rattle.keymap_cover.specs.declared.script_event.ScriptEvent.TheVariants.{Reset}
pub use Rattle.messages.proofs.Shared.{EachPasses, filled_all}
pub use Rattle.script_text.specs.Comments.{comment}
pub use Rattle.script_text.specs.Cover.{AddsLists, AreAlike, ListsSlots, accent_line, accent_lines, bases_at}
pub use Rattle.script_text.specs.Cover.{character_text, column_text, has_verdict, rest_word, row_line, row_text}
pub use Rattle.script_text.specs.Cover.{start_line, script_event_line, event_lines}
pub use Rattle.script_text.specs.Inner.Listed.{is_in}
pub use Rattle.play_core.proofs.Shared.{line-script, one_list, script-nil}
pub use Rattle.play_core.specs.Scripts.{IsScript}
pub use Rattle.play_core.specs.Spelling.{event_line, sends}
pub use Rattle.play_core.specs.declared.sent.Sent.{Sent}
pub use Rattle.std.proofs.Common.{All, Bool, List, None, Option, Some, [], add-one, ap, append-nil, append_assoc}
pub use Rattle.std.proofs.Common.{arith, decimal, drop, false, get_or, if◌then◌else◌, inl, inr, length, lit<, map}
pub use Rattle.std.proofs.Common.{ne_eqb, not, refl, rules, subst, sym, take, true, zero, ℕ, ◌++◌, ◌+◌, ◌-◌, ◌<◌}
pub use Rattle.std.proofs.Common.{◌==◌, ◌∙◌, ◌∷◌, ◌≡◌, ◌≤◌}
pub use Rattle.std.proofs.lemmas.Bool.{not-true}
pub use Rattle.std.proofs.lemmas.List.{get_or_default, reverse-reverse}
pub use Rattle.std.proofs.lemmas.List.Elements.{All-head, All-tail}
pub use Rattle.std.specs.List.{flat_map, range_with_len}
pub use Rattle.std.specs.Prelude.{codes, reverse}
