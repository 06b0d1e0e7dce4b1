-- What playing a script over texts of keymaps reads and writes, and which error it answers.
use Rattle.std.specs.Prelude.{◌≡◌, Bool, true, false, ℕ, List, Result, Err, ⊤}
use Rattle.keymap_core.specs.Maps.{MapValue}
use Rattle.keymap_core.specs.declared.transfer.ReadError.{ReadError}
use Rattle.keymap_core.specs.declared.transfer.ReadError.TheVariants as read
use Rattle.keymap_core.specs.declared.transfer.WriteFault.{WriteFault}
use Rattle.keymap_text.specs.declared.fault.TextError.{TextError}
use Rattle.keymap_text.specs.declared.fault.TextError.TheVariants as text
use Rattle.keymap_text.specs.Sources.{is_device}
use Rattle.console_core.specs.History.{Maps, between}
use Rattle.play_core.specs.declared.playing.PlayError.{PlayError}
use Rattle.play_core.specs.declared.playing.PlayError.TheVariants as error
use Rattle.play_core.specs.declared.playing.Source.{Source}
use Rattle.play_core.specs.declared.playing.Source.TheVariants as source
use Rattle.play_core.specs.declared.show.Show.{Show}
use Rattle.play_core.specs.Runs.{Moves, ReadsAs, ReadsBoth, ReadsKeymap, ReadsWhole, Runs, Stays}
use Rattle.play_core.specs.Scripts.{IsScript, IsScriptFault}
use Rattle.play_core.specs.Types.{Sent}
use Rattle.play_core.specs.Written.{played_text}

-- ---- the errors

-- the error of the text
abbrev pub of_text : TextError → PlayError
of_text text.Memory = error.Memory
of_text (text.Read f) = error.Read source.Text f
of_text (text.Fault f) = error.Text f

-- the error of the next text
abbrev pub of_next : TextError → PlayError
of_next text.Memory = error.Memory
of_next (text.Read f) = error.Read source.Next f
of_next (text.Fault f) = error.Next f

-- the error of a reader of a script
abbrev pub of_script : ReadError → PlayError
of_script read.Memory = error.Memory
of_script (read.Read f) = error.Read source.Script f

-- the error of the writer
abbrev pub of_writer : WriteFault → PlayError
of_writer f = error.Write f

-- whether the answer is that this reader failed
abbrev pub blames : {X : Type 0} → Source → Result X PlayError → Bool
blames source.Text (Err (error.Read source.Text f)) = is_device f.kind
blames source.Next (Err (error.Read source.Next f)) = is_device f.kind
blames source.Script (Err (error.Read source.Script f)) = is_device f.kind
blames _ _ = false

-- whether the answer is that the writer failed
abbrev pub blames_writer : {X : Type 0} → Result X PlayError → Bool
blames_writer (Err (error.Write f)) = true
blames_writer _ = false

-- ---- what is read

abbrev pub ReadsText : Moves → Result MapValue PlayError → Type 0
ReadsText m r = ReadsAs of_text (ReadsKeymap m) r

abbrev pub ReadsNext : Moves → Result MapValue PlayError → Type 0
ReadsNext m r = ReadsAs of_next (ReadsKeymap m) r

-- the bytes of a script
abbrev pub ReadsScript : Moves → Result (List ℕ) PlayError → Type 0
ReadsScript m r = ReadsAs of_script (ReadsWhole m) r

-- why the bytes of a script are no events
abbrev pub LacksEvents : List ℕ → PlayError → Type 0
LacksEvents bytes error.Memory = ⊤
LacksEvents bytes (error.Script f) = IsScriptFault bytes f
LacksEvents bytes _ = ⊥

-- ---- what is played

-- what is shown of the events of a script on two maps
abbrev pub ShowsEvents : Show → Maps → List ℕ → List ℕ → Type 0
ShowsEvents show ms bytes told = (sent : List Sent) × IsScript bytes sent × (told ≡ played_text show ms sent)

-- The text is read, and then the script, which is played on the keymap of the text alone.
abbrev pub Plays : Show → Moves → Moves → Moves → Result (Unit {0}) PlayError → Type 0
Plays show text script out r =
    Runs of_writer (ReadsBoth (ReadsText text) (ReadsScript script) (Stays script))
    (λ v e. LacksEvents v.1 e) (λ v _ told. ShowsEvents show (between v.0 v.0) v.1 told) out r

-- Two texts are read, and then the script, which is played between their keymaps.
abbrev pub PlaysNext : Show → Moves → Moves → Moves → Moves → Result (Unit {0}) PlayError → Type 0
PlaysNext show text next script out r =
    Runs of_writer
    (ReadsBoth (ReadsBoth (ReadsText text) (ReadsNext next) (Stays next)) (ReadsScript script) (Stays script))
    (λ v e. LacksEvents v.1 e) (λ v _ told. ShowsEvents show (between v.0.0 v.0.1) v.1 told) out r
