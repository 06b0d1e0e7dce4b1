-- The names of definitions and of std that more than one file of these proofs uses, passed on from one place.
pub use Prim.Native.Nat.{suc, zero}
pub use Rattle.console_core.specs.Columns.{bit}
pub use Rattle.console_core.specs.History.{Maps, between}
unfoldable pub use Rattle.console_core.specs.History.{resolved}
pub use Rattle.console_states.specs.Moves.{alone}
pub use Rattle.console_scripts.specs.Visiting.{AreTaken, CanVisit, IsPair}
pub use Rattle.console_states.specs.Sights.{AreSightsOf, IsReachable, SeesAlong}
pub use Rattle.console_core.specs.declared.event.Event.{Event}
pub use Rattle.console_states.specs.declared.selection.Sight.{Sight}
pub use Rattle.keymap_core.specs.Maps.{MapValue}
pub use Rattle.keymap_cover.specs.Covering.{HoldParts, IsSeenBy, SeesKeysBy, SeesToldBy}
pub use Rattle.keymap_cover.specs.Inner.Pairs.{base_pair, pairs_at, pairs_in}
pub use Rattle.keymap_cover.specs.Inner.Scripts.{AddsPair, AreUp, ComesAfter, GoesAlong, GoesAlongToRest}
pub use Rattle.keymap_cover.specs.Inner.Scripts.{GoesOn, GoesUnderWay, IsScript, Standing}
pub use Rattle.keymap_cover.specs.SeenSights.{has_seen, is_pair}
pub use Rattle.keymap_cover.specs.SightLists.{cell_at_place, cell_place, lock_setting_at_place, lock_setting_place}
unfoldable pub use Rattle.keymap_cover.specs.SightLists.{all_cells, all_lock_settings}
pub use Rattle.keymap_cover.specs.ScriptEvents.{event_of, events_of, is_down}
pub use Rattle.keymap_cover.specs.Told.{IsTold}
pub use Rattle.keymap_cover.specs.declared.script_event.ScriptEvent.{ScriptEvent}
pub use Rattle.keymap_cover.specs.declared.script.Script.{Script}
pub use Rattle.std.proofs.Common.{Bool, Err, List, None, Ok, Option, Result, Some, [], ap, append_assoc, arith, false}
pub use Rattle.std.proofs.Common.{filter, get_or, if◌then◌else◌, inl, inr, length, map, not, refl, reverse, rules}
pub use Rattle.std.proofs.Common.{subst, sym, take, true, ℕ, ◌++◌, ◌+◌, ◌<◌, ◌∙◌, ◌∷◌, ◌≡◌, ◌≤◌, ◌⊎◌}
pub use Rattle.std.proofs.Math.Bool.{and-false}
pub use Rattle.std.proofs.lemmas.Bool.{eq-eqb, eqb-true, true≢false}
pub use Rattle.std.proofs.lemmas.List.{get_or_default, reverse-append}
pub use Rattle.std.proofs.lemmas.List.Elements.{All-cons, All-nil, Contains-append_cases, Contains-append_left}
pub use Rattle.std.proofs.lemmas.List.FromFn.{map-range_with_len_more}
pub use Rattle.std.specs.List.{Contains, flat_map, list_any, range_with_len}
pub use Rattle.std.specs.Prelude.{OnOk, replicate, slice_index_or, slice_set, ◌==◌}
