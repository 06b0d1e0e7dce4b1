-- The names of definitions and of std that more than one file of these proofs uses, passed on from one place.
pub use Prim.Native.Nat.{suc, zero}
pub use Rattle.console_core.proofs.Shared.{answers_by_cases, is-nothing, modifier-at, one_map, pending-action}
pub use Rattle.console_core.proofs.Shared.{pending-character, pending-release, pending-reset, pending-start}
pub use Rattle.console_core.proofs.Shared.{pressed-press, resolved-more, resolved-start}
pub use Rattle.console_core.specs.Answers.{answer_action, composed_by, usable}
pub use Rattle.console_core.specs.Columns.{slot_of}
pub use Rattle.console_core.specs.History.{HasKey, HasKeys, HasNoLoads, IsNoLoad, IsQuiet, accent_pending_after}
pub use Rattle.console_core.specs.History.{between, in_force, is_locked_after, is_on_after, is_second_in_force}
unfoldable pub use Rattle.console_core.specs.History.{pressed, resolved}
pub use Rattle.console_core.specs.Inner.Kept.{next_pending}
pub use Rattle.console_core.specs.Reading.{look_after, remembered_after}
pub use Rattle.console_core.specs.Resolved.{ResolvedEvent, is_this_action, pending, resolve_press, taken_over}
unfoldable pub use Rattle.console_core.specs.Resolved.{held, locked, look, remembered}
pub use Rattle.console_core.specs.Resolved.ResolvedEvent.{PressedAction, PressedCharacter, ReleasedKey}
pub use Rattle.console_scripts.specs.Inner.Exploring.{AreExplorations, AreKnown, CanReturn}
pub use Rattle.console_scripts.specs.Inner.Exploring.{HasTap, HasTyped, IsExplored, IsExploredFrom, IsTapAt}
pub use Rattle.console_scripts.specs.Inner.Exploring.{Leaves, LetsGo, TypesOne, kept_if, map_of_explored}
pub use Rattle.console_scripts.specs.Inner.Exploring.{origin_in, typed_along}
pub use Rattle.console_scripts.specs.Inner.Routes.{AllLeadHome, AreSettled, HasRoute, IsAstray, LeadsHome, NoPressLeads}
pub use Rattle.console_scripts.specs.Inner.Routes.{Routes}
pub use Rattle.console_scripts.specs.Inner.Showing.{IsAim, IsAt, IsDeadFor, IsWhole, Leads, Sees}
pub use Rattle.console_scripts.specs.Inner.Showing.{TurnsScroll}
pub use Rattle.console_scripts.specs.Inner.Showing.{LeadsOn, LeadsToSee, ShowsNot}
pub use Rattle.console_scripts.specs.Inner.Symbols.{LacksSymbol}
pub use Rattle.console_scripts.specs.Typing.{CanTap, CanType, ComesHome, IsAsNew, IsTapOf, cell_of, composed_of}
pub use Rattle.console_scripts.specs.Typing.{plainly, types_something}
pub use Rattle.console_scripts.specs.Visiting.{AreStatesOf, CanReach, CanVisit, CannotScroll, IsWayHome}
pub use Rattle.console_scripts.specs.Visiting.{LeadsBy, TurnsScrollOff, resting_after}
pub use Rattle.console_scripts.specs.declared.explored.Explored.{Explored}
pub use Rattle.console_states.specs.declared.look.KeyAt.{KeyAt}
pub use Rattle.console_scripts.specs.declared.explored.Symbol.{Symbol}
pub use Rattle.console_states.proofs.Shared.{are_same, home-start, all-met}
pub use Rattle.console_states.proofs.Shared.{on_ok-then, path-first, path-split, place_last, press-turns}
pub use Rattle.console_states.proofs.Shared.{push-reversed, reached-one, same_entry, same_states, searched-back}
pub use Rattle.console_states.proofs.Shared.{stands-from, stands-reset, start-one, tells-same}
pub use Rattle.console_states.specs.Inner.Standing.{Exact, Follows, HoldsSome, Stands}
pub use Rattle.console_states.specs.Moves.{Holds, IsFree, IsIdle, IsMove, IsPath, IsPathFrom, State, Takes, Under}
pub use Rattle.console_states.specs.Moves.{alone, events_along, events_of_move, free_with, is_held, look_in, map_in}
pub use Rattle.console_states.specs.Moves.{moved, presses_along, start, state_after, state_from, with_holder}
pub use Rattle.console_states.specs.Moves.{with_lock_turned}
pub use Rattle.console_states.specs.Returning.{IsAfter, IsHome, but_scroll, freed}
pub use Rattle.console_states.specs.Searching.{Entries, Entry, HasEnded, IsReached, IsStep, IsTrail, PressesLead}
pub use Rattle.console_states.specs.Searching.{Searched, StepsTo, state_of, under_of}
pub use Rattle.console_states.specs.Sights.{AreSightsOf, IsAdmitted, IsPendingFor, IsReachable, SeesBy, look_selected}
pub use Rattle.console_states.specs.Sights.{selection_of}
pub use Rattle.console_states.specs.Sticking.{NeverForgets, ReachesMoreThan, ReachesMoreThanFrom, presses, state_limit}
pub use Rattle.console_scripts.specs.Types.{Act, Action, Alt, AltShift, Answer, Caps, Cell, Char, Event, Exchange, Hold}
pub use Rattle.console_scripts.specs.Types.{Holding, LeftAlt, LeftControl, LeftShift, LetGo, Load, Lock, Meta, Modifier}
pub use Rattle.console_scripts.specs.Types.{Move, Num, Press, Release, Reset, RightAlt, RightControl, RightShift}
pub use Rattle.console_scripts.specs.Types.{Scroll, Sight, Turn}
pub use Rattle.console_states.specs.declared.held.Held.{Held}
pub use Rattle.console_states.specs.declared.held.Step.{Step}
pub use Rattle.indexmap.specs.IndexMap.{insert_entry}
pub use Rattle.keymap_core.proofs.Shared.{none_unless, same_action-true}
pub use Rattle.keymap_core.specs.Accents.{own_of}
pub use Rattle.keymap_core.specs.Actions.{holding_action, modifier_index, same_action, same_modifier}
pub use Rattle.keymap_core.specs.Maps.{MapValue, accent_at, cell_at}
pub use Rattle.keymap_core.specs.Numbers.{key_count}
pub use Rattle.std.proofs.Common.{All, Bool, Err, IfOk, IfSome, List, MatchOption, None, Ok, Option, Result, Some, []}
pub use Rattle.std.proofs.Common.{ap, append_assoc, arith, below_more, drop, eqb, false, filter, get_or, if◌then◌else◌}
pub use Rattle.std.proofs.Common.{inl, inr, length, map, not, option_copied, refl, reverse, rules, slice_get, subst}
pub use Rattle.std.proofs.Common.{sym, take, true, ℕ, ◌&&◌, ◌++◌, ◌+◌, ◌-◌, ◌<◌, ◌==◌, ◌∙◌, ◌∷◌, ◌≡◌, ◌≢◌, ◌≤◌, ◌⊎◌}
pub use Rattle.std.proofs.lemmas.Bool.{and_parts, cases_Bool, cases_lt, eq-eqb, eqb-true, false_from_ne_true}
pub use Rattle.std.proofs.lemmas.Bool.{false≢true, true≢false}
pub use Rattle.std.proofs.lemmas.List.{append-nil, get_or_default, reverse-append, reverse-reverse, take_all, take_more}
pub use Rattle.std.proofs.lemmas.List.Elements.{All-cons, All-head, All-nil, Contains-append_left, Contains-push}
pub use Rattle.std.proofs.lemmas.List.Elements.{Contains-push_cases}
pub use Rattle.std.proofs.lemmas.Option.{none-some, same_Some, slice_get-get_or, slice_get_within}
pub use Rattle.std.specs.List.{Contains}
pub use Rattle.std.specs.Map.{keys_of, lookup}
pub use Rattle.std.specs.Option.{is_some}
pub use mathlib.Core.Path.{fun_ext}
