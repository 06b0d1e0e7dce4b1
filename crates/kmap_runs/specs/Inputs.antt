-- What the runs read: the values, and why there is none.
use Rattle.std.specs.Prelude.{◌≡◌, ℕ, Bool, false, List, Option, Some, None, Result, Ok, Err, ⊤}
use Rattle.keymap_core.specs.Maps.{MapValue}
use Rattle.keymap_core.specs.declared.transfer.ReadError.{ReadError}
use Rattle.keymap_core.specs.declared.transfer.ReadError.TheVariants as read
use Rattle.keymap_core.specs.declared.transfer.WriteFault.{WriteFault}
use Rattle.keymap_text.specs.declared.fault.TextError.{TextError}
use Rattle.keymap_text.specs.declared.fault.TextError.TheVariants as text
use Rattle.keymap_text.specs.Sources.{is_device}
use Rattle.keymap_tables.specs.declared.fault.TableError.{TableError}
use Rattle.keymap_tables.specs.declared.fault.TableError.TheVariants as tables
use Rattle.play_core.specs.declared.playing.PlayError.{PlayError}
use Rattle.play_core.specs.declared.playing.PlayError.TheVariants as play
use Rattle.play_core.specs.declared.playing.Source.TheVariants as source
use Rattle.play_core.specs.Runs.{Moves, moves, Stays, ReadsAs, ReadsBoth, ReadsKeymap, ReadsWhole}
use Rattle.kmap_runs.specs.declared.fault_line.RunError.{RunError}
use Rattle.kmap_runs.specs.declared.fault_line.RunError.TheVariants as error
use Rattle.kmap_runs.specs.declared.fault_line.CommandError.{CommandError}
use Rattle.kmap_runs.specs.declared.fault_line.CommandError.TheVariants as command

-- ---- the errors

-- the error of the text
abbrev pub of_text : TextError → RunError
of_text text.Memory = error.Memory
of_text (text.Read f) = error.ReadText f
of_text (text.Fault f) = error.Text f

-- the error of the next text
abbrev pub of_next : TextError → RunError
of_next text.Memory = error.Memory
of_next (text.Read f) = error.ReadNext f
of_next (text.Fault f) = error.Next f

-- the error of a reader of a text, whose bytes are read whole
abbrev pub of_text_bytes : ReadError → RunError
of_text_bytes read.Memory = error.Memory
of_text_bytes (read.Read f) = error.ReadText f

-- the error of a reader of a sentence
abbrev pub of_sentence : ReadError → CommandError
of_sentence read.Memory = command.Run error.Memory
of_sentence (read.Read f) = command.ReadSentence f

-- the error of a file of tables
abbrev pub of_tables : TableError → RunError
of_tables tables.Memory = error.Memory
of_tables (tables.Read f) = error.ReadTables f
of_tables (tables.Fault f) = error.Tables f

-- the error of playing a script
abbrev pub of_playing : PlayError → RunError
of_playing play.Memory = error.Memory
of_playing (play.Text f) = error.Text f
of_playing (play.Next f) = error.Next f
of_playing (play.Script f) = error.Script f
of_playing (play.Read source.Text f) = error.ReadText f
of_playing (play.Read source.Next f) = error.ReadNext f
of_playing (play.Read source.Script f) = error.ReadScript f
of_playing (play.Write f) = error.Write f

-- the error of the writer
abbrev pub of_writer : WriteFault → RunError
of_writer f = error.Write f

-- the error of the writer, as one of a command
abbrev pub of_command_writer : WriteFault → CommandError
of_command_writer f = command.Run (error.Write f)

-- what a run could have answered of what a command answers: its error, if it is one of a run
abbrev pub run_of : {X : Type 0} → Result X CommandError → Result (Unit {0}) RunError
run_of (Err (command.Run e)) = Err e
run_of _ = Ok tt

-- whether the answer is that the reader of the text failed
abbrev pub blames_text : {X : Type 0} → Result X RunError → Bool
blames_text (Err (error.ReadText f)) = is_device f.kind
blames_text _ = false

abbrev pub blames_next : {X : Type 0} → Result X RunError → Bool
blames_next (Err (error.ReadNext f)) = is_device f.kind
blames_next _ = false

abbrev pub blames_sentence : {X : Type 0} → Result X CommandError → Bool
blames_sentence (Err (command.ReadSentence f)) = is_device f.kind
blames_sentence _ = false

abbrev pub blames_tables : {X : Type 0} → Result X RunError → Bool
blames_tables (Err (error.ReadTables f)) = is_device f.kind
blames_tables _ = false

-- ---- what is read

-- the keymap of the text
abbrev pub ReadsText : Moves → Result MapValue RunError → Type 0
ReadsText m r = ReadsAs of_text (ReadsKeymap m) r

-- the keymap of a second text
abbrev pub ReadsOther : Moves → Result MapValue RunError → Type 0
ReadsOther m r = ReadsAs of_next (ReadsKeymap m) r

-- the bytes of the text
abbrev pub ReadsBytes : Moves → Result (List ℕ) RunError → Type 0
ReadsBytes m r = ReadsAs of_text_bytes (ReadsWhole m) r

-- the bytes of a sentence
abbrev pub ReadsSentence : Moves → Result (List ℕ) CommandError → Type 0
ReadsSentence m r = ReadsAs of_sentence (ReadsWhole m) r

-- what a command reads as a run does
abbrev pub ReadsForCommand : {A : Type 0} → (Result A RunError → Type 0) → Result A CommandError → Type 0
ReadsForCommand Reads r = ReadsAs command.Run Reads r

-- a file of tables, of which `Reads` says what reading it answers
abbrev pub ReadsFile : (Option (List ℕ) → Option (List ℕ) → Result MapValue TableError → Type 0) → Moves
    → Result MapValue RunError → Type 0
ReadsFile Reads m r = ReadsAs of_tables (Reads m.old m.new) r

-- ---- a second text, where there is one

abbrev pub moves_if : {N : Type 0} → (N → Option (List ℕ)) → Option N → Option N → Option Moves
moves_if remaining (Some old) (Some new) = Some (moves (remaining old) (remaining new))
moves_if remaining _ _ = None

abbrev pub StaysIf : Option Moves → Type 0
StaysIf None = ⊤
StaysIf (Some m) = Stays m

-- whether the reader of a second text, if there is one, has failed
abbrev pub has_failed_if : {N : Type 0} → (N → Bool) → Option N → Bool
has_failed_if has_failed None = false
has_failed_if has_failed (Some reader) = has_failed reader

-- the keymap of a second text, if there is one
abbrev pub ReadsNext : Option Moves → Result (Option MapValue) RunError → Type 0
ReadsNext None (Ok None) = ⊤
ReadsNext (Some m) (Ok (Some map)) = ReadsKeymap m (Ok map)
ReadsNext (Some m) (Err e) = (f : TextError) × (e ≡ of_next f) × ReadsKeymap m (Err f)
ReadsNext _ _ = ⊥

-- the text of a keymap, and then that of a second one, where there is one
abbrev pub ReadsKeymaps : Moves → Option Moves → Result (MapValue × Option MapValue) RunError → Type 0
ReadsKeymaps text next r = ReadsBoth (ReadsText text) (ReadsNext next) (StaysIf next) r
