-- The names of definitions and of std that more than one file of these proofs uses, passed on from one place.
pub use Prim.Native.Nat.{suc, zero}
pub use Rattle.console_core.specs.History.{Maps, answers_to, between}
pub use Rattle.keymap_core.proofs.Shared.{Gathers-more, Gathers-same, Gathers-start, StopsIn-more, passed_on}
pub use Rattle.keymap_core.specs.Streams.{Gathers}
pub use Rattle.play_core.specs.Delivery.{delivered, event_of}
pub use Rattle.play_core.specs.Inner.Readings.{BeginsWithEvent, IsReadTo}
unfoldable pub use Rattle.play_core.specs.Inner.Readings.{reading, reading_of_lost}
unfoldable pub use Rattle.play_core.specs.Inner.Tails.{tail_of}
pub use Rattle.play_core.specs.Playing.{LacksEvents, ReadsScript, ReadsText, ShowsEvents, of_writer}
pub use Rattle.play_core.specs.Runs.{ReadsBoth, Stays, moves}
pub use Rattle.play_core.specs.Scripts.{AreEvents, HasBadForm, HasBadKey, IsEvent, IsFaultOf, IsNumber, IsScript}
pub use Rattle.play_core.specs.Scripts.{IsScriptFault, Sends, Tells, is_there, key_of, mark_of, separates_words}
pub use Rattle.play_core.specs.Scripts.{words_of}
unfoldable pub use Rattle.play_core.specs.Scripts.{lines_of, parts_of, words_in}
pub use Rattle.play_core.specs.Spelling.{sent_in, text_of}
pub use Rattle.play_core.specs.Types.{Answer, Down, Event, Form, Key, LineFault, Load, Repeat, Reset, ScriptFault, Sent}
pub use Rattle.play_core.specs.Types.{Up, What}
unfoldable pub use Rattle.play_core.specs.Written.{names_of_locks, names_of_modifiers, text_after, typed_by, typed_text}
pub use Rattle.std.proofs.Common.{Bool, Err, List, None, Ok, Option, Result, Some, [], ap, append-nil, append_assoc}
pub use Rattle.std.proofs.Common.{arith, codes, cond, decimal, drop, drop-cons, eqb, false, get_or, inl, inr, length}
pub use Rattle.std.proofs.Common.{length-append, lit<, ltb, map, min, not, refl, rules, subst, sym, take}
pub use Rattle.std.proofs.Common.{take-append-drop, true, ℕ, ◌%◌, ◌*◌, ◌++◌, ◌+◌, ◌-◌, ◌/◌, ◌<◌, ◌∙◌, ◌∷◌, ◌≡◌, ◌≤◌}
pub use Rattle.std.proofs.Common.{◌⊎◌}
pub use Rattle.std.proofs.KnownBytes.{Keeps-refl}
pub use Rattle.std.proofs.Math.Seq.{take-length}
pub use Rattle.std.proofs.lemmas.Bool.{le-ltb, lt-ltb, ltb-false, ltb-true}
pub use Rattle.std.proofs.lemmas.Fmt.{decimal_digit, decimal_step}
pub use Rattle.std.proofs.lemmas.List.{length-map, length-take-le, take_more}
pub use Rattle.std.proofs.lemmas.List.Elements.{filter-append}
pub use Rattle.std.proofs.lemmas.List.Quantifiers.{position-Some}
pub use Rattle.std.proofs.lemmas.List.Sums.{count_by-le-length}
pub use Rattle.std.proofs.lemmas.Result.{err_from_is_err_and}
pub use Rattle.std.proofs.lemmas.Str.Parse.{digit_from_value}
pub use Rattle.std.specs.Char.{digit_value}
pub use Rattle.std.specs.List.{AllZip, filter, flat_map, onto_first, position, position_or_len, slice_split}
pub use Rattle.std.specs.Option.{unwrap_or}
pub use Rattle.std.specs.Prelude.{reverse, ⊤}
pub use Rattle.std.specs.Str.{encode_utf8_all}
pub use Rattle.std.specs.Str.Parse.{AllDigits, digits_value}
