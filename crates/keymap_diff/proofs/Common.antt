-- The names of definitions and of std that more than one file of these proofs uses, passed on from one place.
pub use Prim.Native.Nat.{suc}
pub use Rattle.console_core.specs.Answers.{answer_action, answer_char, answer_dead_key, answer_release, char_or_error}
pub use Rattle.console_core.specs.Answers.{composed_by, is_pending, usable}
pub use Rattle.console_core.specs.History.{HasKey, HasKeys, IsNoLoad, answer_to}
pub use Rattle.console_core.specs.History.{answers_to, between, in_force, is_second_in_force}
unfoldable pub use Rattle.console_core.specs.History.{resolved}
pub use Rattle.console_core.specs.Inner.Kept.{next_pending}
pub use Rattle.console_core.specs.Resolved.{ResolvedEvent, answer_resolved, on, pending, resolve_press, taken_over}
pub use Rattle.console_core.specs.Resolved.{unless_nop}
unfoldable pub use Rattle.console_core.specs.Resolved.{held, locked, look, remembered}
pub use Rattle.console_core.specs.Resolved.ResolvedEvent.{PressedAction, PressedCharacter, ReleasedKey, WasReset}
pub use Rattle.console_states.specs.Inner.Standing.{Follows, Stands}
pub use Rattle.console_states.specs.Moves.{IsIdle, IsMove, IsPath, State, Under, alone, events_along}
pub use Rattle.console_states.specs.Moves.{events_of_move, look_in, moved, presses_along, presses_of, start}
pub use Rattle.console_states.specs.Moves.{state_after, with_accent}
pub use Rattle.console_states.specs.Looks.{HoldsNearer}
pub use Rattle.console_states.specs.Searching.{AreDone, Entries, Entry, HasEnded, IsReached, IsTrail, state_of}
pub use Rattle.console_states.specs.Sights.{IsAdmitted, look_selected}
pub use Rattle.console_states.specs.Sticking.{NeverForgets, presses}
pub use Rattle.console_core.specs.declared.event.Answer.{Answer}
pub use Rattle.console_core.specs.declared.event.Event.{Event}
pub use Rattle.console_core.specs.declared.event.Event.TheVariants.{Load, Press, Release, Reset}
pub use Rattle.console_states.specs.declared.held.Move.{Move}
pub use Rattle.console_states.specs.declared.held.Move.TheVariants.{Exchange, Hold, LetGo, Tap, Turn}
pub use Rattle.console_states.specs.declared.search.End.{End}
pub use Rattle.console_states.specs.declared.search.End.TheVariants.{TooMany, Complete}
pub use Rattle.keymap_core.specs.declared.action.Action.{Action}
pub use Rattle.keymap_core.specs.declared.action.Holding.{Holding}
pub use Rattle.keymap_core.specs.declared.action.Lock.{Lock}
pub use Rattle.keymap_core.specs.declared.action.Modifier.{Modifier}
pub use Rattle.keymap_core.specs.declared.action.Modifier.TheVariants.{Meta}
pub use Rattle.keymap_core.specs.declared.entry.Cell.{Cell}
pub use Rattle.keymap_core.specs.declared.entry.Cell.TheVariants.{Act, Char}
pub use Rattle.keymap_core.specs.Accents.{own_of}
pub use Rattle.keymap_core.specs.Actions.{same_action}
pub use Rattle.keymap_core.proofs.Shared.{same_action-refl, same_action-true}
pub use Rattle.keymap_core.specs.Maps.{MapValue, accent_at}
pub use Rattle.keymap_diff.specs.Inner.Showing.{AreCellsAlike, AreClear, Gives, IsUnnoticed, MakesSame, NoneShows, Shows}
pub use Rattle.keymap_diff.specs.Inner.Showing.{ShowsNothing, alone_minding, looked_up}
pub use Rattle.keymap_diff.specs.Inner.Searches.{NeverForgetsBelow}
pub use Rattle.keymap_diff.specs.Telling.{IsAnsweredAlike, TellsApart}
pub use Rattle.std.proofs.Common.{Bool, IfSome, List, MatchOption, None, Option, Some, [], ap}
pub use Rattle.std.proofs.Common.{append_assoc, arith, false, if◌then◌else◌, inl, inr, length, refl}
pub use Rattle.std.proofs.Common.{reverse, slice_get, subst, sym, true, ℕ, ◌++◌, ◌+◌, ◌<◌, ◌==◌, ◌∙◌, ◌∷◌}
pub use Rattle.std.proofs.Common.{◌≡◌, ◌≢◌, ◌≤◌, ◌⊎◌}
pub use Rattle.std.proofs.lemmas.Bool.{cases_Bool, cases_lt, eq-eqb, eqb-true, false≢true, true≢false}
pub use Rattle.std.proofs.lemmas.List.{append-nil}
pub use Rattle.std.proofs.lemmas.List.Elements.{All-cons, All-head, All-tail}
pub use Rattle.std.proofs.lemmas.Option.{none-some, same_Some, slice_get_within}
pub use Rattle.std.specs.Option.{is_some, option_or}
pub use mathlib.Core.Path.{fun_ext}
