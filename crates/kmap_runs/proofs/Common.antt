-- The names of definitions and of std that more than one file of these proofs uses, passed on from one place.
pub use Prim.Native.Nat.{suc}
pub use Rattle.arrayvec.specs.ArrayVec.{array_vec_len}
pub use Rattle.console_core.specs.History.{HasKey, HasKeys}
pub use Rattle.console_scripts.specs.Typing.{AreEnds, characters_of}
pub use Rattle.console_core.specs.declared.event.Event.{Event}
pub use Rattle.console_scripts.specs.declared.typing.Keyed.{Keyed}
pub use Rattle.console_scripts.specs.declared.typing.Typing.{Typing}
pub use Rattle.keymap_core.proofs.Shared.{All-reversed}
unfoldable pub use Rattle.keymap_core.specs.CodePoints.{code_text}
pub use Rattle.keymap_core.specs.Maps.{MapValue}
pub use Rattle.keymap_core.specs.Unseen.{is_unseen}
pub use Rattle.keymap_draw.specs.Pictures.{drawing}
pub use Rattle.keymap_text.specs.Meaning.{Spells}
pub use Rattle.kmap_runs.specs.Search.{modifier_name}
pub use Rattle.kmap_runs.specs.Typing.{comment_if, is_line_feed, line_shown, typing_script}
unfoldable pub use Rattle.kmap_runs.specs.Typing.{lines_from, shown}
pub use Rattle.play_core.proofs.Shared.{line-script, one_list}
pub use Rattle.play_core.specs.Playing.{Plays}
pub use Rattle.play_core.specs.Runs.{moves}
pub use Rattle.play_core.specs.Scripts.{IsScript}
pub use Rattle.play_core.specs.Spelling.{event_line, sends}
pub use Rattle.play_core.specs.Written.{played_text}
pub use Rattle.play_core.specs.declared.sent.Sent.{Sent}
pub use Rattle.std.proofs.Common.{All, Bool, List, None, Ok, Option, Some, [], add-one, ap, append-nil, append_assoc}
pub use Rattle.std.proofs.Common.{arith, decimal, drop, false, get_or, if◌then◌else◌, inl, inr, length, lit<, map}
pub use Rattle.std.proofs.Common.{ne_eqb, not, refl, rules, subst, sym, take, true, ℕ, ◌*◌, ◌++◌, ◌+◌, ◌-◌, ◌<◌}
pub use Rattle.std.proofs.Common.{Err, Result, ◌==◌, ◌∙◌, ◌∷◌, ◌≡◌, ◌≤◌}
pub use Rattle.std.proofs.KnownBytes.{Keeps-refl}
pub use Rattle.std.proofs.lemmas.Bool.{not-true}
pub use Rattle.std.proofs.lemmas.List.{get_or_default, reverse-reverse}
pub use Rattle.std.proofs.lemmas.List.Elements.{All-head, All-tail, All-take}
pub use Rattle.std.proofs.lemmas.Result.{err_from_is_err_and}
pub use Rattle.std.specs.List.{before_first, flat_map}
pub use Rattle.std.specs.Prelude.{codes, encode_utf8, reverse}
