-- The names of definitions and of std that more than one file of these proofs uses, passed on from one place.
pub use Prim.Native.Nat.{suc, zero}
pub use Rattle.console_core.specs.History.{Maps, answers_to, between}
pub use Rattle.console_core.specs.Packed.{KeptAt}
pub use Rattle.console_core.specs.Raw.{raw_of}
pub use Rattle.console_core.specs.declared.event.Event.{Event}
pub use Rattle.keymap_core.specs.Bounds.{IsMap}
pub use Rattle.keymap_core.specs.Maps.{MapValue, accent_or_blank, entry_at}
pub use Rattle.keymap_core.specs.declared.action.Holding.{Holding}
pub use Rattle.keymap_core.specs.declared.action.Modifier.{Modifier}
pub use Rattle.keymap_tables.specs.Image.{image}
pub use Rattle.keymap_text.proofs.Shared.{lines-next}
pub use Rattle.keymap_text.specs.Printed.{accent_line, key_line}
pub use Rattle.kmap_c.specs.Buffers.{HasPut}
pub use Rattle.kmap_c.specs.Numbers.{event_of}
pub use Rattle.kmap_c.specs.Sentences.{IsSaid}
pub use Rattle.std.proofs.Common.{Bool, List, [], ap, arith, drop, false, length, refl, rules, subst, sym, take, true}
pub use Rattle.std.proofs.Common.{ℕ, ◌*◌, ◌++◌, ◌+◌, ◌<◌, ◌==◌, ◌∙◌, ◌∷◌, ◌≡◌, ◌≢◌, ◌≤◌}
pub use Rattle.std.proofs.lemmas.List.{map-append}
pub use Rattle.std.specs.List.{flat_map, range_with_len}
pub use Rattle.std.specs.Prelude.{map, reverse}
