-- What the reading of a text leaves in something that takes its definitions (`Definitions` of keymap_core).
use Rattle.std.specs.Prelude.{ℕ, List, [], Result, Ok, Err}
use Rattle.keymap_core.specs.Maps.{MapValue}
use Rattle.keymap_text.specs.Types.{TextFault}
use Rattle.keymap_text.specs.Meaning.{Spells, Fault}

-- the map of no keys and no accents
abbrev pub no_keys : MapValue
no_keys = record { entries = []; accents = [] }

-- what took the definitions shows the map that the text spells, or the text has the fault
abbrev pub ReadsInto : {D : Type 0} → (D → MapValue → Type 0) → D → Result (Unit {0}) TextFault → List ℕ → Type 0
ReadsInto shows d (Ok u) text = (m : MapValue) × Spells text m × shows d m
ReadsInto shows d (Err f) text = Fault text f
