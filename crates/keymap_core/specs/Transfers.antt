-- What `read_up_to` answers.
use Rattle.std.specs.Prelude.{◌≡◌, ℕ, ◌<◌, ◌≤◌, List, length, take, ⊤, Bool, true, false, IfSome, Result, Ok, Err}
use Rattle.std.specs.Prelude.{Option}
use Rattle.std.specs.Io.KnownBytes.{Consumes, IsAtEnd}
use Rattle.keymap_core.specs.declared.transfer.ReadError.{ReadError}
use Rattle.keymap_core.specs.declared.transfer.ReadError.TheVariants.{Memory, Read}
use Rattle.keymap_core.specs.declared.transfer.ReadFaultKind.TheVariants.{Device}

-- The bytes read are the first max bytes of those left, or all where there are fewer.
pub record ReadsUpTo (max : ℕ) (old new : Option (List ℕ)) (bytes : List ℕ) : Type 0 where
  pub limit : length bytes ≤ max
  pub taken : Consumes old new bytes
  pub whole : length bytes < max → IsAtEnd new
  pub first : IfSome old (λ all. bytes ≡ take max all)

-- whether the answer names the reader as what failed
abbrev pub blames_reader : {X : Type 0} → Result X ReadError → Bool
blames_reader (Ok _) = false
blames_reader (Err Memory) = false
blames_reader (Err (Read _)) = true

-- The one fault is that of the device, after so many bytes taken.
abbrev pub IsDeviceFault : ℕ → Option (List ℕ) → Option (List ℕ) → ReadError → Type 0
IsDeviceFault max old new Memory = ⊤
IsDeviceFault max old new (Read f) =
    (f.kind ≡ Device) × (f.offset < max)
    × IfSome old (λ all. (f.offset ≤ length all) × Consumes old new (take f.offset all))
