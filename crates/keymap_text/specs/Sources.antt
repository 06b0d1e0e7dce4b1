-- What reading a text from a device answers, by the bytes that the device had left before and has left after.
use Rattle.std.specs.Prelude.{◌≡◌, ℕ, ◌≤◌, List, [], ◌∷◌, ◌++◌, length, Option, Result, Ok, Err, Bool, true, false, ◌⊎◌}
use Rattle.std.specs.Prelude.{⊤}
use Rattle.std.specs.Io.KnownBytes.{Consumes, IsAtEnd, Keeps}
use Rattle.keymap_core.specs.Maps.{MapValue}
use Rattle.keymap_core.specs.declared.transfer.ReadFault.{ReadFault}
use Rattle.keymap_core.specs.declared.transfer.ReadFaultKind.{ReadFaultKind}
use Rattle.keymap_core.specs.declared.transfer.ReadFaultKind.TheVariants as kinds
use Rattle.keymap_text.specs.Types.{TextError, TextFault}
use Rattle.keymap_text.specs.declared.fault.TextError.TheVariants as errors
use Rattle.keymap_text.specs.Meaning.{Spells, Fault, Early}

-- how many bytes of a text are read at most
abbrev pub limit : ℕ
limit = 1048576

-- how many bytes one read asks for at most
abbrev pub piece : ℕ
piece = 512

-- The text was taken.
pub record TakesText (old new : Option (List ℕ)) (text : List ℕ) : Type 0 where
  pub taken : Consumes old new text
  pub few : length text ≤ limit

-- The text was taken, and the end came after it.
pub record TakesWhole (old new : Option (List ℕ)) (text : List ℕ) : Type 0 where
  pub taken : Consumes old new text
  pub few : length text ≤ limit
  pub end : IsAtEnd new

abbrev pub HasNoEarlyFault : List ℕ → Type 0
HasNoEarlyFault text = (f : TextFault) → Early text f → ⊥

-- The device failed after the bytes up to the offset, which have no early fault.
pub record FailsInside (old new : Option (List ℕ)) (f : ReadFault) : Type 0 where
  pub text : List ℕ
  pub takes : TakesText old new text
  pub offset : length text ≡ f.offset
  pub sound : HasNoEarlyFault text

-- The bytes up to the limit and one more were taken, and those up to the limit have no early fault.
pub record TextGoesPast (old new : Option (List ℕ)) (f : ReadFault) : Type 0 where
  pub text : List ℕ
  pub next : ℕ
  pub taken : Consumes old new (text ++ next ∷ [])
  pub full : length text ≡ limit
  pub offset : f.offset ≡ limit
  pub sound : HasNoEarlyFault text

abbrev pub StopsReadingText : Option (List ℕ) → Option (List ℕ) → ReadFault → ReadFaultKind → Type 0
StopsReadingText old new f kinds.Device = FailsInside old new f
StopsReadingText old new f kinds.Endless = TextGoesPast old new f

-- The map of the whole text, or its fault, or an early fault of the bytes taken, or a fault of the device. Where the
-- map got no memory nothing was read.
abbrev pub ReadsMap : Option (List ℕ) → Option (List ℕ) → Result MapValue TextError → Type 0
ReadsMap old new (Ok m) = (text : List ℕ) × TakesWhole old new text × Spells text m
ReadsMap old new (Err errors.Memory) = Keeps old new
ReadsMap old new (Err (errors.Read f)) = StopsReadingText old new f f.kind
ReadsMap old new (Err (errors.Fault f)) = (text : List ℕ) × ((TakesText old new text
    × Early text f) ⊎ (TakesWhole old new text × Fault text f))

-- Bytes were taken, the last of them by one read, and those before have no early fault.
pub record TakesOneMore (old new : Option (List ℕ)) : Type 0 where
  pub before : List ℕ
  pub last : List ℕ
  pub taken : Consumes old new (before ++ last)
  pub few : length last ≤ piece
  pub sound : HasNoEarlyFault before

-- After a read that showed a fault nothing was read.
abbrev pub StopsAtOnce : Option (List ℕ) → Option (List ℕ) → TextError → Type 0
StopsAtOnce old new errors.Memory = ⊤
StopsAtOnce old new (errors.Read f) = ⊤
StopsAtOnce old new (errors.Fault f) = TakesOneMore old new

-- whether the answer is that the device failed
abbrev pub is_device : ReadFaultKind → Bool
is_device kinds.Device = true
is_device kinds.Endless = false

abbrev pub blames_reader : Result MapValue TextError → Bool
blames_reader (Ok m) = false
blames_reader (Err errors.Memory) = false
blames_reader (Err (errors.Read f)) = is_device f.kind
blames_reader (Err (errors.Fault f)) = false
