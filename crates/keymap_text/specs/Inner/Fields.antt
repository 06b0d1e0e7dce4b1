-- The fields of a reader, as contracts see them. Mirrors `MapReader` of src/reader.rt.
use Rattle.std.specs.Prelude.{◌≡◌, ◌+◌, ◌<◌, ◌^◌, length, None}
use Rattle.keymap_text.specs.declared.reader.MapReader.TheInside.{Inside}
use Rattle.keymap_text.specs.Progress.{Progress}
use Rattle.keymap_text.specs.Inner.Resuming.{IsReader}
use Rattle.keymap_text.specs.Inner.Views.{state_view}

abbrev pub progress : Inside → Progress
progress r = record {
  state = state_view r.reading;
  pending = r.reading.pending.items;
  offset = r.reading.offset;
  line = r.reading.line;
  fed = r.fed;
  fault = r.fault;
}

-- Without a fault it may go on.
pub record GoesOn (r : Inside) : Type 0 where
  pub reader : IsReader r.reading
  pub fed : r.reading.offset + length r.reading.pending.items ≡ r.fed
  pub room : r.fed < 2 ^ 63

abbrev pub IsSound : Inside → Type 0
IsSound r = r.fault ≡ None → GoesOn r
