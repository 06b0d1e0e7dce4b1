-- Why a text is not formatted.
use Rattle.std.specs.Prelude.{ℕ, ◌<◌, List, length, ⊤}
use Rattle.keymap_core.specs.Maps.{MapValue}
use Rattle.keymap_text.specs.Meaning.{Spells, Fault}
use Rattle.keymap_text.specs.Sources.{limit}
use Rattle.keymap_fmt.specs.declared.whole.FormatError.{FormatError}
use Rattle.keymap_fmt.specs.declared.whole.FormatError.TheVariants as errors

-- The layout has more bytes than a text may have.
abbrev pub IsTooLong : List ℕ → Type 0
IsTooLong laid = limit < length laid

-- The text has this fault; or it spells a keymap, and its layout is too long; or memory was refused.
abbrev pub IsRefused : List ℕ → List ℕ → FormatError → Type 0
IsRefused text laid errors.Memory = ⊤
IsRefused text laid (errors.Fault f) = Fault text f
IsRefused text laid errors.TooLong = ((m : MapValue) × Spells text m) × IsTooLong laid

-- What the layout alone is refused for.
abbrev pub IsUnfinished : List ℕ → FormatError → Type 0
IsUnfinished laid errors.Memory = ⊤
IsUnfinished laid (errors.Fault f) = ⊥
IsUnfinished laid errors.TooLong = IsTooLong laid
