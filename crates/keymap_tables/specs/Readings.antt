-- What the reading of tables answers.
use Rattle.std.specs.Prelude.{◌≡◌, ℕ, List, length, ⊤, Result, Ok, Err}
use Rattle.keymap_tables.specs.Types.{Layout, TableError, TableFault, Memory, Read, Fault}
use Rattle.keymap_core.specs.Maps.{MapValue}
use Rattle.keymap_core.specs.Bounds.{IsMap}
use Rattle.keymap_tables.specs.Faults.{IsFirstFault, fault_at}
use Rattle.keymap_tables.specs.Fits.{FitsIn}
use Rattle.keymap_tables.specs.Image.{image_in}
use Rattle.keymap_tables.specs.Layouts.{wide, narrow, file_size}

-- The map whose image the bytes are, or their fault. Memory is wanted only for bytes of the right length.
abbrev pub IsReadingIn : Layout → List ℕ → Result MapValue TableError → Type 0
IsReadingIn l bytes (Ok m) = IsMap m × (bytes ≡ image_in l m) × FitsIn l m
IsReadingIn l bytes (Err Memory) = length bytes ≡ file_size l
IsReadingIn l bytes (Err (Read f)) = ⊥
IsReadingIn l bytes (Err (Fault f)) = IsFirstFault (fault_at l bytes) f

abbrev pub IsReading : List ℕ → Result MapValue TableError → Type 0
IsReading bytes r = IsReadingIn wide bytes r

abbrev pub IsNarrowReading : List ℕ → Result MapValue TableError → Type 0
IsNarrowReading bytes r = IsReadingIn narrow bytes r

-- The map, if there is memory.
abbrev pub AnswersMap : Result MapValue TableError → MapValue → Type 0
AnswersMap (Ok n) m = n ≡ m
AnswersMap (Err Memory) m = ⊤
AnswersMap (Err (Read f)) m = ⊥
AnswersMap (Err (Fault f)) m = ⊥

-- The fault, if there is memory.
abbrev pub AnswersFault : Result MapValue TableError → TableFault → Type 0
AnswersFault (Ok n) f = ⊥
AnswersFault (Err Memory) f = ⊤
AnswersFault (Err (Read g)) f = ⊥
AnswersFault (Err (Fault g)) f = g ≡ f
