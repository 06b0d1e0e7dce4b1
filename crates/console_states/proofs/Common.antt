-- The names of definitions and of std that more than one file of these proofs uses, passed on from one place.
pub use Prim.Native.Nat.{suc, zero}
pub use Rattle.console_core.proofs.Shared.{held-action, held-character, held-release, is-nothing, locked-action}
pub use Rattle.console_core.proofs.Shared.{locked-character, modifier-at, one_map, pending-action, pending-release}
pub use Rattle.console_core.proofs.Shared.{pending-start, pressed-press, remembered-action, remembered-character}
pub use Rattle.console_core.proofs.Shared.{resolved-more, resolved-start}
pub use Rattle.console_core.specs.Answers.{usable}
pub use Rattle.console_core.specs.Columns.{look_with, slot_of}
pub use Rattle.console_core.specs.Headline.{IsOffOnceQuiet}
pub use Rattle.console_core.specs.History.{HasKey, HasKeys, HasNoLoads, IsNoLoad, IsQuiet, Maps, accent_pending_after}
pub use Rattle.console_core.specs.History.{between, in_force, is_locked_after, is_on_after, is_second_in_force}
unfoldable pub use Rattle.console_core.specs.History.{pressed, resolved}
pub use Rattle.console_core.specs.Inner.Kept.{next_pending}
pub use Rattle.console_core.specs.Reading.{look_after}
pub use Rattle.console_core.specs.Resolved.{ResolvedEvent, is_this_action, on, pending, resolve_press, taken_over}
pub use Rattle.console_core.specs.Resolved.{unless_nop}
unfoldable pub use Rattle.console_core.specs.Resolved.{held, locked, look, remembered}
pub use Rattle.console_core.specs.Resolved.ResolvedEvent.{PressedAction, PressedCharacter, ReleasedKey, WasLoaded}
pub use Rattle.console_states.specs.Inner.Adding.{Adds, AddsOffer, AddsOffers, AreMinded, HasSelection}
pub use Rattle.console_states.specs.Inner.Adding.{AreOffersOf, AreSelectionsOf, CanSelectEach, IsInSome}
pub use Rattle.console_states.specs.Inner.Adding.{IsOfferedUnlocked, IsWith, OffersUnlocked}
pub use Rattle.console_states.specs.Inner.KeyLists.{AreKeysOf, IsOther}
pub use Rattle.console_states.specs.Inner.Standing.{Exact, Follows, HoldsSome, Stands}
pub use Rattle.console_states.specs.Moves.{HolderForgets, Holds, IsForgetful, IsFree, IsIdle, IsMade, IsMove, IsPath}
pub use Rattle.console_states.specs.Moves.{IsPathFrom, State, Under, alone, events_along, events_of_move, exchanged}
pub use Rattle.console_states.specs.Moves.{is_held, look_in, map_in, map_of, moved, next_map, presses_along, presses_of}
pub use Rattle.console_states.specs.Moves.{release_of, releases, script_of_path, start, state_after, state_from}
pub use Rattle.console_states.specs.Moves.{minding, with_accent, with_holder, with_loads, with_lock_turned}
pub use Rattle.console_states.specs.Returning.{IsHome, but_scroll}
pub use Rattle.console_states.specs.Searching.{IsAmong, IsLedTo, AreLedTo, HasLike}
pub use Rattle.console_states.specs.Searching.{AreAdded, AreDone, AreInOrder, AreMet, AreMetOnce, AreSafe, AreWithin}
pub use Rattle.console_states.specs.Searching.{Entries, Entry, Grows, HasEnded, HasMovingKeys, IsBegun, IsFrom, IsMetBy}
pub use Rattle.console_states.specs.Searching.{IsReached, IsStep, IsStuck, IsTrail, IsUnmoving}
pub use Rattle.console_states.specs.Searching.{limit_of, PressesLead, Searched, StepsTo, state_of, under_of}
pub use Rattle.console_states.specs.Sights.{AreComposed, AreSightsOf, IsAdmitted, IsClean, IsOfferedIn, IsPendingFor}
pub use Rattle.console_states.specs.Sights.{IsReachable, Lists, Offers, SeesBy, SeesNext, can_see, is_selected}
pub use Rattle.console_states.specs.Sights.{look_selected, selection_of}
pub use Rattle.console_states.specs.Sticking.{Admits, AreAllowed, AreUnder, LoadsWhereAny, selection_behind, IsSent}
pub use Rattle.console_states.specs.Sticking.{NeverForgets, NeverSticksUnder}
pub use Rattle.console_states.specs.Sticking.{ReachesMoreThanFrom, ReleasesPressedKeys, SticksUnder, presses}
pub use Rattle.console_states.specs.Types.{Act, Action, Alt, AltShift, Caps, Cell, Char, Event, Exchange, Hold, Holding}
pub use Rattle.console_states.specs.Types.{LeftAlt, LeftControl, LeftShift, LetGo, Load, Lock, Meta, Modifier, Move}
pub use Rattle.console_states.specs.Types.{Never, Num, Offer, Press, Release, Reset, RightAlt, RightControl, RightShift}
pub use Rattle.console_states.specs.Types.{Scroll, Selection, Sight, Sights, Sticks, Tap, Turn, Undecided}
pub use Rattle.console_states.specs.declared.held.Held.{Held}
pub use Rattle.console_states.specs.declared.held.Step.{Step}
pub use Rattle.console_states.specs.declared.key_lists.CellKind.TheVariants.{DeadKey}
pub use Rattle.console_states.specs.declared.search.End.{End}
pub use Rattle.console_states.specs.declared.search.End.TheVariants.{Complete, TooMany}
pub use Rattle.console_states.specs.declared.search.Origin.{Origin}
pub use Rattle.indexmap.proofs.CallerLemmas.{insert_entry-new}
pub use Rattle.keymap_core.proofs.Shared.{none_unless, same_action-refl, same_action-true}
pub use Rattle.keymap_core.specs.Actions.{holding_action, modifier_index, modifiers, same_action, same_lock}
pub use Rattle.keymap_core.specs.Actions.{same_modifier}
pub use Rattle.keymap_core.specs.Borne.{is_borne}
pub use Rattle.keymap_core.specs.Maps.{MapValue, cell_at}
pub use Rattle.keymap_core.specs.Numbers.{key_count}
pub use Rattle.std.proofs.Common.{All, Bool, Err, IfOk, IfSome, List, MatchOption, None, Ok, Option, Result, Some, []}
pub use Rattle.std.proofs.Common.{ap, append_assoc, arith, below_more, eqb, false, filter, get_or, if◌then◌else◌, inl}
pub use Rattle.std.proofs.Common.{inr, length, map, not, refl, reverse, rules, slice_get, subst, sym, take, true, ℕ}
pub use Rattle.std.proofs.Common.{◌&&◌, ◌++◌, ◌+◌, ◌-◌, ◌<◌, ◌==◌, ◌||◌, ◌∙◌, ◌∷◌, ◌≡◌, ◌≢◌, ◌≤◌, ◌⊎◌}
pub use Rattle.std.proofs.lemmas.Bool.{and_parts, cases_Bool, cases_lt, eq-eqb, eqb-true, false_from_ne_true}
pub use Rattle.std.proofs.lemmas.Bool.{false≢true, not-true, true≢false}
pub use Rattle.std.proofs.lemmas.List.{append-nil, get_or_default, get_or_read_under, map-append, reverse-append}
pub use Rattle.std.proofs.lemmas.List.{reverse-reverse, take_all, take_more}
pub use Rattle.std.proofs.lemmas.List.Elements.{All-cons, All-head, All-nil, All-tail, Contains-append_left}
pub use Rattle.std.proofs.lemmas.List.Elements.{Contains-push, Contains-push_cases}
pub use Rattle.std.proofs.lemmas.Option.{none-some, same_Some, slice_get-get_or, slice_get_within}
pub use Rattle.std.specs.List.{Contains, IsDistinct, list_any}
pub use Rattle.std.specs.Map.{keys_of, lookup}
pub use Rattle.std.specs.Option.{is_some}
pub use mathlib.Core.Path.{fun_ext}
