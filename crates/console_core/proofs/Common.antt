-- The names of definitions and of std that more than one file of these proofs uses, passed on from one place.
pub use Prim.Native.Nat.{suc}
pub use Rattle.console_core.specs.Agrees.{Kept, StandsAt}
pub use Rattle.console_core.specs.Columns.{exactly_one, look_with, slot_of}
pub use Rattle.console_core.specs.Headline.{IsSafe, is_fresh_press}
pub use Rattle.console_core.specs.History.{HasKey, HasKeys, HasNoLoads, IsNoLoad, Maps, answer_to, answers_to, between}
pub use Rattle.console_core.specs.History.{concerns, in_force, is_load, is_locked_after, is_on_after, is_press}
pub use Rattle.console_core.specs.History.{is_second_in_force, loaded, resolved_event}
unfoldable pub use Rattle.console_core.specs.History.{pressed, resolved}
pub use Rattle.console_core.specs.Inner.Kept.{after_action, after_character, after_load, after_release, after_reset}
pub use Rattle.console_core.specs.PackedWord.{bit_is_set, lock_bit, mark_bit, pending_from, word_lock, word_mark}
pub use Rattle.console_core.specs.PackedWord.{word_second}
pub use Rattle.console_core.specs.Positions.{count_since, count_where, is_odd, last_where}
pub use Rattle.console_core.specs.Reading.{NoneOf, SomeSince, lowers_at, raises_at, remembered_after, taken_of}
pub use Rattle.console_core.specs.Reading.{turns_at, unlocks_at}
pub use Rattle.console_core.specs.Resolved.{ResolvedEvent, answer_resolved, is_this_action, on, pending, resolve}
pub use Rattle.console_core.specs.Resolved.{resolve_press, run_length, taken_over, turns, unless_nop, unlocks}
unfoldable pub use Rattle.console_core.specs.Resolved.{dead_keys_taken, held, locked, look, pending_by_dead_keys}
unfoldable pub use Rattle.console_core.specs.Resolved.{remembered}
pub use Rattle.console_core.specs.Resolved.ResolvedEvent.{PressedAction, PressedCharacter, ReleasedKey, WasLoaded}
pub use Rattle.console_core.specs.Resolved.ResolvedEvent.{WasReset}
pub use Rattle.console_core.specs.Types.{Act, Action, Alt, AltShift, Caps, Cell, Char, Event, Holding, LeftAlt}
pub use Rattle.console_core.specs.Types.{LeftControl, LeftShift, Load, Lock, Meta, Modifier, Num, Press, Release, Reset}
pub use Rattle.console_core.specs.Types.{RightAlt, RightControl, RightShift, Scroll}
pub use Rattle.keymap_core.proofs.Shared.{bears-borne, get_or-replicate_default, option_or-none}
pub use Rattle.keymap_core.proofs.Shared.{same_action-refl, same_action-true}
pub use Rattle.keymap_core.specs.Actions.{holding_action, holding_index, holding_of, lock_index, modifier_index}
pub use Rattle.keymap_core.specs.Actions.{same_action}
pub use Rattle.keymap_core.specs.Bearers.{Bears, BearsThroughout, IsCellOf}
pub use Rattle.keymap_core.specs.Borne.{is_borne}
pub use Rattle.keymap_core.specs.Maps.{MapValue, cell_at}
pub use Rattle.std.proofs.Common.{Bool, List, None, Option, Some, [], ap, append_assoc, arith, eqb, false, get_or}
pub use Rattle.std.proofs.Common.{if◌then◌else◌, inl, inr, length, lit<, not, refl, reverse, set, rules, subst, sym}
pub use Rattle.std.proofs.Common.{take, true, ℕ, ◌%◌, ◌&&◌, ◌++◌, ◌+◌, ◌/◌, ◌<◌, ◌==◌, ◌^◌, ◌||◌, ◌∙◌, ◌∷◌, ◌≡◌, ◌≢◌}
pub use Rattle.std.proofs.Common.{◌≤◌, ◌⊎◌}
pub use Rattle.std.proofs.lemmas.Bool.{and_parts, both_ways, cases_Bool, eq-eqb, eqb-false, eqb-true}
pub use Rattle.std.proofs.lemmas.Bool.{false_from_ne_true, ne_eqb, not-true, or_cases, or_right, true≢false}
pub use Rattle.std.proofs.lemmas.Grind.{common_steps}
pub use Rattle.std.proofs.lemmas.List.Elements.{All-head, All-tail}
pub use Rattle.std.proofs.lemmas.Option.{none-some, same_Some}
pub use Rattle.std.specs.Option.{is_some, option_or}
pub use mathlib.Core.Path.{fun_ext}
