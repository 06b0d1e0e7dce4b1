-- The line that tells why a run failed. What is told stands at the places `{}` of its words.
use Rattle.std.specs.Prelude.{ℕ, List, [], ◌∷◌, codes, decimal, drop}
use Rattle.keymap_core.specs.declared.transfer.ReadFault.{ReadFault}
use Rattle.keymap_core.specs.declared.transfer.ReadFaultKind.{ReadFaultKind}
use Rattle.keymap_core.specs.declared.transfer.ReadFaultKind.TheVariants.{Device, Endless}
use Rattle.keymap_text.specs.declared.fault.TextFault.{TextFault}
use Rattle.keymap_text.specs.FaultNames.{fault_name}
use Rattle.keymap_tables.specs.declared.fault.TableFault.{TableFault}
use Rattle.keymap_tables.specs.declared.fault.TableFaultKind.{TableFaultKind}
use Rattle.keymap_tables.specs.declared.fault.TableFaultKind.TheVariants as tables
use Rattle.keymap_tables.specs.declared.narrow.Wide.{Wide}
use Rattle.keymap_tables.specs.declared.narrow.Wide.TheVariants as wide
use Rattle.play_core.specs.declared.script.ScriptFault.{ScriptFault}
use Rattle.play_core.specs.declared.script.ScriptFault.TheVariants.{BadLine, BadKey}
use Rattle.keymap_core.specs.CodePoints.{code_text}
use Rattle.kmap_runs.specs.declared.fault_line.RunError.{RunError}
use Rattle.kmap_runs.specs.declared.fault_line.RunError.TheVariants as error
use Rattle.kmap_runs.specs.declared.fault_line.CommandError.{CommandError}
use Rattle.kmap_runs.specs.declared.fault_line.CommandError.TheVariants as command
use Rattle.keymap_names.specs.Shown.{shown_name}
use Rattle.messages.specs.Filled.{filled}

-- the name of a fault's kind
abbrev pub table_kind : TableFaultKind → List ℕ
table_kind tables.Short = codes "Short"
table_kind tables.Long = codes "Long"
table_kind tables.BadCount = codes "BadCount"
table_kind tables.BadPad = codes "BadPad"
table_kind tables.BadFlag = codes "BadFlag"
table_kind tables.BadAction = codes "BadAction"
table_kind tables.Combined = codes "Combined"
table_kind tables.BadChar = codes "BadChar"
table_kind tables.NotEmpty = codes "NotEmpty"

-- a fault of a text, at its line and offset
abbrev pub text_fault : List ℕ → TextFault → List ℕ
text_fault source f =
    filled (codes "kmap: {} line {} offset {}: {}\n")
    (source ∷ decimal f.line ∷ decimal f.offset ∷ fault_name f.kind ∷ [])

abbrev pub script_fault : ScriptFault → List ℕ
script_fault (BadLine n) = filled (codes "kmap: script line {}: {}\n") (decimal n ∷ codes "BadLine" ∷ [])
script_fault (BadKey n) = filled (codes "kmap: script line {}: {}\n") (decimal n ∷ codes "BadKey" ∷ [])

abbrev pub table_fault : TableFault → List ℕ
table_fault f = filled (codes "kmap: tables offset {}: {}\n") (decimal f.offset ∷ table_kind f.kind ∷ [])

-- a reader that failed, or that gave more than the limit
abbrev pub read_fault_by : ReadFaultKind → List ℕ → ℕ → List ℕ
read_fault_by Device source offset =
    filled (codes "kmap: {}: read fault at offset {}\n") (source ∷ decimal offset ∷ [])
read_fault_by Endless source offset = filled (codes "kmap: {}: more than 1048576 bytes\n") (source ∷ [])

abbrev pub read_fault : List ℕ → ReadFault → List ℕ
read_fault source f = read_fault_by f.kind source f.offset

-- where a character stands that doesn't fit in a narrow file
abbrev pub too_wide : Wide → List ℕ
too_wide (wide.Cell slot column) =
    filled (codes "kmap: cell too wide at slot {} column {}\n") (decimal slot ∷ decimal column ∷ [])
too_wide (wide.Accent accent number) =
    filled (codes "kmap: accent too wide at accent {} number {}\n") (decimal accent ∷ decimal number ∷ [])

-- the line on a run, with its end
abbrev pub fault_line : RunError → List ℕ
fault_line error.Memory = codes "kmap: out of memory\n"
fault_line (error.Text f) = text_fault (codes "text") f
fault_line (error.Next f) = text_fault (codes "next") f
fault_line (error.Script f) = script_fault f
fault_line (error.Tables f) = table_fault f
fault_line (error.ReadText f) = read_fault (codes "text") f
fault_line (error.ReadNext f) = read_fault (codes "next") f
fault_line (error.ReadScript f) = read_fault (codes "script") f
fault_line (error.ReadTables f) = read_fault (codes "tables") f
fault_line (error.TooWide w) = too_wide w
fault_line (error.Write f) = filled (codes "kmap: write fault after {} bytes\n") (decimal f.written ∷ [])

-- the line on a command, which fails as a run does or for a reason of its own
abbrev pub command_fault_line : CommandError → List ℕ
command_fault_line (command.Run e) = fault_line e
command_fault_line (command.ReadSentence f) = read_fault (codes "sentence") f
command_fault_line (command.NotText offset) =
    filled (codes "kmap: sentence offset {}: not UTF-8\n") (decimal offset ∷ [])
command_fault_line (command.NoWay offset c) =
    filled (codes "kmap: sentence offset {}: no keys found for {}\n") (decimal offset ∷ code_text c ∷ [])
command_fault_line command.TooLong = codes "kmap: text: more than 1048576 bytes when formatted\n"
command_fault_line command.TooManyStates = codes "kmap: more than 65536 states\n"
command_fault_line command.NoKeyTypes = codes "kmap: no key of the board types\n"

-- the line with the name of a file, as it is shown, behind `kmap: `
abbrev pub file_fault_line : List ℕ → CommandError → List ℕ
file_fault_line file e = filled (codes "kmap: {}: {}") (shown_name file ∷ drop 6 (command_fault_line e) ∷ [])
