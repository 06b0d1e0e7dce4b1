-- What a run does to the devices that it is lent: it reads, and writes what that gives. Each run tells what went wrong
-- by errors of its own, so these relations are over any type E of errors.
use Rattle.std.specs.Prelude.{◌≡◌, ◌⊎◌, ℕ, ◌+◌, ◌<◌, Bool, false, List, length, take, Option, Result, Ok, Err, ⊤}
use Rattle.std.specs.Io.KnownBytes.{Appends, Consumes, Keeps}
use Rattle.keymap_core.specs.Maps.{MapValue}
use Rattle.keymap_core.specs.Transfers.{IsDeviceFault}
use Rattle.keymap_core.specs.declared.transfer.ReadError.{ReadError}
use Rattle.keymap_core.specs.declared.transfer.ReadError.TheVariants as read
use Rattle.keymap_core.specs.declared.transfer.ReadFault.{ReadFault}
use Rattle.keymap_core.specs.declared.transfer.ReadFaultKind.{ReadFaultKind}
use Rattle.keymap_core.specs.declared.transfer.ReadFaultKind.TheVariants as kinds
use Rattle.keymap_core.specs.declared.transfer.WriteFault.{WriteFault}
use Rattle.keymap_text.specs.declared.fault.TextError.{TextError}
use Rattle.keymap_text.specs.Sources.{TakesWhole, ReadsMap, limit, is_device}

-- the bytes that a reader has left, or that a writer has taken, before a call and after it
pub record Moves : Type 0 where
  pub old : Option (List ℕ)
  pub new : Option (List ℕ)

abbrev pub moves : Option (List ℕ) → Option (List ℕ) → Moves
moves old new = record { old = old; new = new }

abbrev pub Stays : Moves → Type 0
Stays m = Keeps m.old m.new

-- ---- what is read

-- A byte more than the limit was taken.
pub record GoesPast (m : Moves) (f : ReadFault) : Type 0 where
  pub bytes : List ℕ
  pub taken : Consumes m.old m.new bytes
  pub full : length bytes ≡ limit + 1
  pub offset : f.offset ≡ limit

abbrev pub StopsReading : Moves → ReadFault → ReadFaultKind → Type 0
StopsReading m f kinds.Device = IsDeviceFault (limit + 1) m.old m.new (read.Read f)
StopsReading m f kinds.Endless = GoesPast m f

-- bytes that are read whole, up to the limit of a text
abbrev pub ReadsWhole : Moves → Result (List ℕ) ReadError → Type 0
ReadsWhole m (Ok bytes) = TakesWhole m.old m.new bytes
ReadsWhole m (Err read.Memory) = ⊤
ReadsWhole m (Err (read.Read f)) = StopsReading m f f.kind

-- whether the answer is that the reader failed
abbrev pub blames_device : {X : Type 0} → Result X ReadError → Bool
blames_device (Ok x) = false
blames_device (Err read.Memory) = false
blames_device (Err (read.Read f)) = is_device f.kind

-- the keymap of a text
abbrev pub ReadsKeymap : Moves → Result MapValue TextError → Type 0
ReadsKeymap m r = ReadsMap m.old m.new r

-- What reading answers, with its error told as one of the run.
abbrev pub ReadsAs : {A F E : Type 0} → (F → E) → (Result A F → Type 0) → Result A E → Type 0
ReadsAs told_as Reads (Ok a) = Reads (Ok a)
ReadsAs {F = F} told_as Reads (Err e) = (f : F) × (e ≡ told_as f) × Reads (Err f)

-- A first input and then a second, which stays as it is where the first one is refused.
abbrev pub ReadsBoth : {A B E : Type 0} → (Result A E → Type 0) → (Result B E → Type 0) → Type 0 → Result (A × B) E
    → Type 0
ReadsBoth First Second stays (Ok v) = First (Ok v.0) × Second (Ok v.1)
ReadsBoth {A = A} First Second stays (Err e) = (First (Err e) × stays) ⊎ ((a : A) × First (Ok a) × Second (Err e))

-- ---- the run

-- The writer failed after the first bytes of the text.
abbrev pub StopsWriting : {E : Type 0} → (WriteFault → E) → E → List ℕ → Moves → Type 0
StopsWriting told_as e text out =
    (f : WriteFault) × (e ≡ told_as f) × (f.written < length text) × Appends out.old out.new (take f.written text)

-- A run: what was read gives an answer and a text, which was written, or its first bytes. Or it could not be read, or
-- was read and lacks a text for this reason, and then nothing was written.
abbrev pub Runs : {V X E : Type 0} → (WriteFault → E) → (Result V E → Type 0) → (V → E → Type 0)
    → (V → X → List ℕ → Type 0) → Moves → Result X E → Type 0
Runs {V = V} told_as Reads Lacks Gives out (Ok x) =
    (v : V) × (text : List ℕ) × Reads (Ok v) × Gives v x text × Appends out.old out.new text
Runs {V = V} {X = X} told_as Reads Lacks Gives out (Err e) =
    ((v : V) × (x : X) × (text : List ℕ) × Reads (Ok v) × Gives v x text × StopsWriting told_as e text out)
    ⊎ ((Reads (Err e) ⊎ ((v : V) × Reads (Ok v) × Lacks v e)) × Stays out)
