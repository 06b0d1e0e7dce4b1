-- What the runs that lay a text out answer, and what they do to the devices that they are lent.
use Rattle.std.specs.Prelude.{◌≡◌, ◌≢◌, ℕ, ◌<◌, List, [], length, take, Option, Some, Result, Ok, Err, ⊤}
use Rattle.std.specs.Io.KnownBytes.{Appends, Keeps}
use Rattle.keymap_core.specs.Maps.{MapValue}
use Rattle.keymap_fmt.specs.declared.quoted.Characters.{Characters}
use Rattle.keymap_fmt.specs.declared.whole.FormatError.{FormatError}
use Rattle.keymap_fmt.specs.declared.whole.FormatError.TheVariants as format
use Rattle.keymap_fmt.specs.Quoted.{laid_by}
use Rattle.keymap_text.specs.Meaning.{Spells, Fault}
use Rattle.keymap_text.specs.Sources.{TakesWhole, limit}
use Rattle.play_core.specs.Runs.{StopsReading, moves}
use Rattle.kmap_runs.specs.declared.fault_line.RunError.TheVariants as error
use Rattle.kmap_runs.specs.declared.fault_line.CommandError.{CommandError}
use Rattle.kmap_runs.specs.declared.fault_line.CommandError.TheVariants as command

abbrev pub of_format_error : FormatError → CommandError
of_format_error format.Memory = command.Run error.Memory
of_format_error (format.Fault f) = command.Run (error.Text f)
of_format_error format.TooLong = command.TooLong

-- The text was read whole, it spells a keymap, and this is it in the layout.
pub record LaysOut (how : Characters) (before after : Option (List ℕ)) (text laid : List ℕ) : Type 0 where
  pub whole : TakesWhole before after text
  pub keymap : MapValue
  pub spells : Spells text keymap
  pub value : laid ≡ laid_by how text

-- The text was read whole, and is not laid out: it has this fault, or it spells a keymap and its layout is too long.
-- Or the text was not read whole.
abbrev pub RefusesLayout : Characters → Option (List ℕ) → Option (List ℕ) → CommandError → Type 0
RefusesLayout how before after (command.Run error.Memory) = ⊤
RefusesLayout how before after (command.Run (error.Text f)) = (text : List ℕ) × TakesWhole before after text
    × Fault text f
RefusesLayout how before after command.TooLong = (text : List ℕ) × TakesWhole before after text
    × ((m : MapValue) × Spells text m) × (limit < length (laid_by how text))
RefusesLayout how before after (command.Run (error.ReadText f)) = StopsReading (moves before after) f f.kind
RefusesLayout how before after _ = ⊥

-- The text is in the layout as it is.
abbrev pub IsInLayout : Characters → Option (List ℕ) → Option (List ℕ) → Type 0
IsInLayout how before after = (text : List ℕ) × LaysOut how before after text text

-- The layout has other bytes than the text.
abbrev pub ChangesText : Characters → Option (List ℕ) → Option (List ℕ) → List ℕ → Type 0
ChangesText how before after laid = (text : List ℕ) × LaysOut how before after text laid × (laid ≢ text)

-- The layout was written, or its first `written` bytes. After any other refusal nothing was written.
abbrev pub PrintsLayout : {X : Type 0} → Characters → Option (List ℕ) → Option (List ℕ) → Option (List ℕ)
    → Option (List ℕ) → Result X CommandError → Type 0
PrintsLayout how before after old new (Ok _) =
    (text : List ℕ) × (laid : List ℕ) × LaysOut how before after text laid × Appends old new laid
PrintsLayout how before after old new (Err (command.Run (error.Write f))) =
    (text : List ℕ) × (laid : List ℕ) × LaysOut how before after text laid × (f.written < length laid)
    × Appends old new (take f.written laid)
PrintsLayout how before after old new (Err e) = RefusesLayout how before after e × Keeps old new

-- ---- laws

-- What is printed of a text in the layout spells the keymap that the text spells.
abbrev pub PrintedLayoutsSpellTheSame : Type 0
PrintedLayoutsSpellTheSame =
    (how : Characters) (text laid : List ℕ) (after : Option (List ℕ))
    → PrintsLayout {X = Unit {0}} how (Some text) after (Some []) (Some laid) (Ok (tt {0}))
    → (m : MapValue) × Spells text m × Spells laid m

-- The layout that is handed out for a text spells the keymap that the text spells.
abbrev pub ChangedTextsSpellTheSame : Type 0
ChangedTextsSpellTheSame =
    (how : Characters) (text laid : List ℕ) (after : Option (List ℕ)) → ChangesText how (Some text) after laid
    → (m : MapValue) × Spells text m × Spells laid m
