-- The names of definitions and of std that more than one file of these proofs uses, passed on from one place.
pub use Prim.Native.Nat.{suc, zero}
pub use Rattle.arrayvec.specs.ArrayVec.{array_vec_len}
pub use Rattle.console_core.proofs.Shared.{bits_of}
pub use Rattle.console_core.specs.Headline.{IsActing, IsSteady}
pub use Rattle.console_core.specs.History.{HasKey, IsQuiet, Maps, between, is_any_on_after, is_on_after, pressed}
unfoldable pub use Rattle.console_core.specs.History.{resolved}
pub use Rattle.console_core.specs.Plain.{IsPlain}
pub use Rattle.console_core.specs.Resolved.{on}
unfoldable pub use Rattle.console_core.specs.Resolved.{remembered}
pub use Rattle.console_core.specs.Resolved.ResolvedEvent.{PressedAction}
pub use Rattle.console_core.specs.Traps.{HasNoTrap, NobodyBearsCellPickingLocks}
pub use Rattle.keymap_check.specs.Cells.{cell_of, is_any_holding, is_character, is_holding, is_of_group, is_of_kind}
unfoldable pub use Rattle.keymap_check.specs.Cells.{first_place, place_count}
pub use Rattle.keymap_check.specs.Computed.{bearer_of, bearer_with, bears_holding, finding_by, finding_with}
pub use Rattle.keymap_check.specs.Computed.{findings_at, held_by, next_bearer}
unfoldable pub use Rattle.keymap_check.specs.Computed.{bearer_below}
pub use Rattle.keymap_check.specs.Findings.{AreFindings, IsUnsafeKey}
pub use Rattle.keymap_check.specs.Inner.Surveyed.{IsSurvey}
pub use Rattle.keymap_check.specs.Report.{IsBearer, ReportValue, bearer_in}
pub use Rattle.keymap_check.specs.Scripts.{bears_group, bit_keys, demonstration_of, event_at, event_if, events_of}
pub use Rattle.keymap_check.specs.Scripts.{group_at, has_bit, has_some, is_chosen, is_other, key_at, leaves_modifier_on}
pub use Rattle.keymap_check.specs.Scripts.{script, scripts_of, scripts_with, tried, tried_at}
unfoldable pub use Rattle.keymap_check.specs.Scripts.{bit_key, lacks_key}
pub use Rattle.keymap_check.specs.Shown.{HasShownTrap, bit_of_group, group_of, with_bit}
pub use Rattle.keymap_check.specs.Types.{Act, AltShift, Bearer, Cell, Char, Event, Finding, Group, Holding, Kind}
pub use Rattle.keymap_check.specs.Types.{LeftAlt, LeftControl, LeftShift, Lock, Modifier, Nobody, Press, Release}
pub use Rattle.keymap_check.specs.Types.{RightAlt, RightControl, RightShift}
pub use Rattle.keymap_core.proofs.Shared.{IsFirstBelow, below-suc, first_below-no, first_below-some}
pub use Rattle.keymap_core.proofs.Shared.{gathered-more, gathered-none, live-upper, no-modifiers}
pub use Rattle.keymap_core.proofs.Shared.{same_action-true, upper-is_live}
pub use Rattle.keymap_core.specs.Actions.{holding_action}
pub use Rattle.keymap_core.specs.Bearers.{Bears, BearsThroughout, IsCellOf, IsUpperLive}
unfoldable pub use Rattle.keymap_core.specs.Below.{first_below, gathered}
pub use Rattle.keymap_core.specs.Borne.{is_upper_live}
pub use Rattle.keymap_core.specs.Maps.{MapValue, cell_at}
pub use Rattle.keymap_core.specs.declared.action.Lock.TheVariants.{Caps}
pub use Rattle.std.proofs.Common.{Bool, List, None, Option, Some, [], add-one, ap, arith, false, if◌then◌else◌, inl}
pub use Rattle.std.proofs.Common.{inr, length, length-append, lit<, not, refl, rules, subst, sym, true, ℕ, ◌%◌, ◌&&◌}
pub use Rattle.std.proofs.Common.{◌*◌, ◌++◌, ◌+◌, ◌-◌, ◌<◌, ◌^◌, ◌||◌, ◌∙◌, ◌∷◌, ◌≡◌, ◌≢◌, ◌≤◌, ◌↔◌}
pub use Rattle.std.proofs.lemmas.Bool.{and_parts, cases_lt, eq-eqb, eqb-true, false_from_ne_true, le-ltb, lt-ltb}
pub use Rattle.std.proofs.lemmas.Bool.{not-true, or_right, true≢false}
pub use Rattle.std.proofs.lemmas.List.{append-nil}
pub use Rattle.std.proofs.lemmas.List.Elements.{All-append, All-nil}
pub use Rattle.std.specs.Option.{is_some, option_or}
pub use Rattle.std.specs.Prelude.{All, IfSome, IsNone, find, reverse, ◌==◌}
