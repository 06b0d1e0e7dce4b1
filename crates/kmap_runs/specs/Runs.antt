-- What the runs of the program do to the devices that they are lent.
use Rattle.std.specs.Global.{Vec}
use Rattle.std.specs.Prelude.{◌≡◌, ◌≢◌, ◌↔◌, ◌==◌, IsTrue, ℕ, Bool, true, false, List, [], All, Option, Some, None}
use Rattle.std.specs.Prelude.{Result, Ok, Err, ⊤, length, if◌then◌else◌}
use Rattle.std.specs.Io.KnownBytes.{Appends}
use Rattle.keymap_core.specs.Bounds.{IsMap}
use Rattle.keymap_core.specs.Maps.{MapValue}
use Rattle.keymap_text.specs.Printed.{printed}
use Rattle.keymap_tables.specs.declared.fault.TableError.{TableError}
use Rattle.keymap_tables.specs.Fits.{Fits, IsFirstWide}
use Rattle.keymap_tables.specs.Image.{image, narrow_image}
use Rattle.keyboard.specs.declared.board.Board.{Board}
use Rattle.keymap_draw.specs.declared.change.ChangeLine.{ChangeLine}
use Rattle.keymap_draw.specs.Pictures.{IsPicture, drawing, since}
use Rattle.keymap_draw.specs.WellFormed.{IsPlain, IsWellFormed}
use Rattle.console_states.specs.declared.outcome.Sticking.{Sticking}
use Rattle.console_states.specs.declared.outcome.Sticking.TheVariants.{Never}
use Rattle.console_scripts.specs.declared.typing.Typing.{Typing}
use Rattle.console_core.specs.Headline.{IsSafe}
use Rattle.keymap_check.specs.Promises.{KeepsPromise}
use Rattle.console_core.specs.History.{between}
use Rattle.console_states.specs.Moves.{Under, alone, with_loads}
use Rattle.console_states.specs.Sticking.{IsAnswerUnder, NeverSticks, NeverSticksUnder, ReachesMoreThan, state_limit}
use Rattle.keymap_cover.specs.declared.parts.Cover.{Cover}
use Rattle.keymap_cover.specs.Covering.{Covers}
use Rattle.console_states.specs.declared.allowed.Presses.{Presses}
use Rattle.keyboard_cover.specs.Allowed.{ArePresses}
use Rattle.keyboard_cover.specs.Covering as keyboard
use Rattle.keyboard_cover.specs.Covering.{CanType}
use Rattle.keyboard_cover.specs.Sights.{under}
use Rattle.keyboard_cover.specs.declared.keyboards.Keyboard.{Keyboard}
use Rattle.keyboard_cover.specs.declared.cover.KeyboardCover.{KeyboardCover}
use Rattle.keymap_diff.specs.Changes.{AreDifferences}
use Rattle.keymap_diff.specs.Telling.{IsTelling}
use Rattle.keymap_diff.specs.declared.change.Change.{Change}
use Rattle.keymap_diff.specs.declared.telling.Telling.{Telling}
use Rattle.kmap_runs.specs.declared.type_error.TypeError.TheVariants as type
use Rattle.lint_formats.specs.declared.format.Format.{Format}
use Rattle.play_core.specs.Runs.{Moves, moves, ReadsBoth, Runs, Stays}
use Rattle.kmap_runs.specs.Sentences.{IsTyped, IsTypeError}
use Rattle.console_scripts.specs.Ways.{GoWaysFrom}
use Rattle.keymap_names.specs.Shown.{shown_name}
use Rattle.keymap_text.specs.Meaning.{Spells}
use Rattle.keymap_text.specs.Sources.{TakesWhole}
use Rattle.kmap_runs.specs.declared.fault_line.RunError.{RunError}
use Rattle.kmap_runs.specs.declared.fault_line.RunError.TheVariants as error
use Rattle.kmap_runs.specs.declared.fault_line.CommandError.{CommandError}
use Rattle.kmap_runs.specs.declared.fault_line.CommandError.TheVariants as command
use Rattle.script_text.specs.Cover.{IsCoverText}
use Rattle.script_text.specs.Keyboard.{IsKeyboardText}
use Rattle.script_text.specs.Diff.{brief_text, diff_text, same_text}
use Rattle.kmap_runs.specs.Inputs.{of_command_writer, of_writer, ReadsBytes, ReadsFile, ReadsForCommand, ReadsKeymaps}
use Rattle.kmap_runs.specs.Inputs.{ReadsOther, ReadsSentence, ReadsText}
use Rattle.kmap_runs.specs.LintRuns.{IsLinted}
use Rattle.kmap_runs.specs.declared.lint_runs.Linted.{Linted}
use Rattle.kmap_runs.specs.Missing.{AreMissingIn, missing_text}
use Rattle.kmap_runs.specs.declared.missing.Missing.{Missing}
use Rattle.script_text.specs.Replayed.{ShowsCover, ShowsKeyboardCover}
use Rattle.kmap_runs.specs.Report.{brief_line, report}
use Rattle.kmap_runs.specs.Search.{found_text, is_never}
use Rattle.kmap_runs.specs.Spelling.{AreSpelledIn, IsSheet}
use Rattle.kmap_runs.specs.declared.spelling.Spelled.{Spelled}
use Rattle.kmap_runs.specs.declared.spelling.Spelling.{Spelling}
use Rattle.kmap_runs.specs.declared.type_error.TypeError.{TypeError}
use Rattle.kmap_runs.specs.Typing.{typing_script}

abbrev pub LacksNothing : {V : Type 0} → V → RunError → Type 0
LacksNothing v e = ⊥

abbrev pub LacksMemory : {V : Type 0} → V → RunError → Type 0
LacksMemory v e = e ≡ error.Memory

-- the error names the writer as what failed
abbrev pub is_write : RunError → Bool
is_write (error.Write f) = true
is_write _ = false

abbrev pub blames_writer : {X : Type 0} → Result X RunError → Bool
blames_writer (Ok x) = false
blames_writer (Err e) = is_write e

-- ---- the runs

-- whether the map is safe, and the report on it
abbrev pub Reports : Bool → MapValue → Bool → List ℕ → Type 0
Reports show m accepted told = (IsTrue accepted ↔ IsSafe m) × (told ≡ report m show)

abbrev pub ChecksText : Bool → Moves → Moves → Result Bool RunError → Type 0
ChecksText show text out r = Runs of_writer (ReadsText text) LacksNothing (Reports show) out r

-- whether the map is safe, and a line that tells it under the name of the file
abbrev pub ReportsBriefly : List ℕ → MapValue → Bool → List ℕ → Type 0
ReportsBriefly file m accepted told = (IsTrue accepted ↔ IsSafe m) × (told ≡ brief_line file accepted)

abbrev pub ChecksBriefly : List ℕ → Moves → Moves → Result Bool RunError → Type 0
ChecksBriefly file text out r = Runs of_writer (ReadsText text) LacksMemory (ReportsBriefly file) out r

-- the map of a file of tables as text; `Reads` says what reading the file answers
abbrev pub DumpsFile : (Option (List ℕ) → Option (List ℕ) → Result MapValue TableError → Type 0) → Moves → Moves
    → Result (Unit {0}) RunError → Type 0
DumpsFile Reads file out r =
    Runs of_writer (ReadsFile Reads file) LacksNothing (λ m _ told. told ≡ printed m) out r

-- the table file of a map
abbrev pub CompilesText : Moves → Moves → Result (Unit {0}) RunError → Type 0
CompilesText text out r = Runs of_writer (ReadsText text) LacksNothing (λ m _ told. IsMap m × (told ≡ image m)) out r

-- the first character that doesn't fit in a narrow file
abbrev pub LacksRoom : MapValue → RunError → Type 0
LacksRoom m (error.TooWide w) = IsFirstWide m w
LacksRoom m _ = ⊥

-- the narrow file of a map that fits
abbrev pub CompilesNarrowly : Moves → Moves → Result (Unit {0}) RunError → Type 0
CompilesNarrowly text out r =
    Runs of_writer (ReadsText text) LacksRoom (λ m _ told. IsMap m × Fits m × (told ≡ narrow_image m)) out r

-- the picture of a map on a board, under a name that is given
abbrev pub Draws : Board → List ℕ → MapValue → Unit {0} → List ℕ → Type 0
Draws board name m _ told = IsMap m × IsPicture (drawing m board name) told

-- the picture of a map with what changed of another one, told by lines: by none exactly if nothing changed
abbrev pub IsChangeDrawn : Board → List ℕ → List ℕ → MapValue × MapValue → List ℕ → Type 0
IsChangeDrawn board name old_name (m, n) told =
    IsMap n × ((lines : List ChangeLine) × ((lines ≡ []) ↔ (m ≡ n))
    × IsPicture (since m old_name lines (drawing n board name)) told)

abbrev pub DrawsText : Board → List ℕ → Moves → Moves → Result (Unit {0}) RunError → Type 0
DrawsText board name text out r = Runs of_writer (ReadsText text) LacksMemory (Draws board name) out r

abbrev pub DrawsChange : Board → List ℕ → List ℕ → Moves → Moves → Moves → Result (Unit {0}) RunError → Type 0
DrawsChange board name old_name text next out r =
    Runs of_writer (ReadsBoth (ReadsText text) (ReadsOther next) (Stays next)) LacksMemory
    (λ v _ told. IsChangeDrawn board name old_name v told) out r

-- what is found in the text, and the diagnostics in a format under the name of the file
abbrev pub LintsText : Format → List ℕ → Moves → Moves → Result Linted RunError → Type 0
LintsText format file text out r = Runs of_writer (ReadsBytes text) LacksMemory (IsLinted format file) out r

-- What is said of an answer is what the search says of it, but that maps under which no modifier sticks may have more
-- states than it goes over.
abbrev pub IsFoundUnder : Under → Sticking → Type 0
IsFoundUnder u Never = NeverSticksUnder u
IsFoundUnder u found = IsAnswerUnder u found

-- the answer to the maps of one text, or of two
abbrev pub IsFound : MapValue × Option MapValue → Sticking → Type 0
IsFound (m, None) found = IsFoundUnder (alone m) found
IsFound (m, Some n) found = IsFoundUnder (with_loads (between m n)) found

-- the map of one text is safe, or those of two are
abbrev pub AreSafe : MapValue × Option MapValue → Type 0
AreSafe (m, None) = IsSafe m
AreSafe (m, Some n) = IsSafe m × IsSafe n

-- Whether no modifier ever sticks, and what was found. Of safe maps, however many states they have, none does.
abbrev pub Finds : MapValue × Option MapValue → Bool → List ℕ → Type 0
Finds v never told =
    (found : Sticking) × IsFound v found × (AreSafe v → found ≡ Never) × (never ≡ is_never found)
    × (told ≡ found_text found)

abbrev pub SearchesTexts : Moves → Option Moves → Moves → Result Bool RunError → Type 0
SearchesTexts text next out r = Runs of_writer (ReadsKeymaps text next) LacksMemory Finds out r

-- What is told of maps that differ: whether anybody can tell them apart, what follows in lines of which the words aren't
-- spoken of, each change, and how; in brief how many slots and accents change.
abbrev pub TellsDifferences : Bool → MapValue → MapValue → List ℕ → Type 0
TellsDifferences brief m n text =
    (found : List Change) × (telling : Telling) × (told : List (Vec ℕ))
    × AreDifferences m n found × IsTelling m n telling
    × (text ≡ (if brief then brief_text telling told found else diff_text telling told found))

-- Whether the maps are the same, and what is told of them.
abbrev pub Compares : Bool → MapValue × MapValue → Bool → List ℕ → Type 0
Compares brief (m, n) true text = (m ≡ n) × (text ≡ same_text)
Compares brief (m, n) false text = (m ≢ n) × TellsDifferences brief m n text

abbrev pub DiffsTexts : Bool → Moves → Moves → Moves → Result Bool RunError → Type 0
DiffsTexts brief text next out r =
    Runs of_writer (ReadsBoth (ReadsText text) (ReadsOther next) (Stays next)) LacksMemory (Compares brief) out r

-- why no script is printed for a map
abbrev pub LacksCover : MapValue → CommandError → Type 0
LacksCover m (command.Run error.Memory) = ⊤
LacksCover m command.TooManyStates = (p : ℕ) × ReachesMoreThan (alone m) state_limit p
LacksCover m _ = ⊥

-- a script, with what it sees and doesn't see
abbrev pub IsCovered : MapValue → Unit {0} → List ℕ → Type 0
IsCovered m _ told = (c : Cover) × Covers m c × IsCoverText m c told

abbrev pub CoversText : Moves → Moves → Result (Unit {0}) CommandError → Type 0
CoversText text out r = Runs of_command_writer (ReadsForCommand (ReadsText text)) LacksCover IsCovered out r

-- the presses of the keyboard, and the cover of the keymap by these
abbrev pub IsCoverBy : Keyboard → MapValue → KeyboardCover → Type 0
IsCoverBy x m c = (p : Presses) × ArePresses x p × keyboard.Covers p m c

-- why no script by a keyboard is printed for a map: among others since no allowed press types
abbrev pub LacksKeyboardCover : Keyboard → MapValue → CommandError → Type 0
LacksKeyboardCover x m (command.Run error.Memory) = ⊤
LacksKeyboardCover x m command.TooManyStates =
    (p : Presses) × (n : ℕ) × ArePresses x p × ReachesMoreThan (under p m) state_limit n
LacksKeyboardCover x m command.NoKeyTypes = (c : KeyboardCover) × IsCoverBy x m c × (CanType m c → ⊥)
LacksKeyboardCover x m _ = ⊥

-- the script by the keyboard, with what it sees and leaves out
abbrev pub IsCoveredBy : Keyboard → Bool → MapValue → Unit {0} → List ℕ → Type 0
IsCoveredBy x sends_repeats m _ told =
    (c : KeyboardCover) × IsCoverBy x m c × CanType m c × IsKeyboardText m c sends_repeats told

abbrev pub CoversByKeyboard : Keyboard → Bool → Moves → Moves → Result (Unit {0}) CommandError → Type 0
CoversByKeyboard x sends_repeats text out r =
    Runs of_command_writer (ReadsForCommand (ReadsText text)) (LacksKeyboardCover x) (IsCoveredBy x sends_repeats) out r

-- why the bytes of a sentence aren't typed
abbrev pub LacksScript : MapValue → List ℕ → CommandError → Type 0
LacksScript m bytes (command.Run error.Memory) = ⊤
LacksScript m bytes (command.NotText offset) = IsTypeError m bytes (type.NotText offset)
LacksScript m bytes (command.NoWay offset c) = IsTypeError m bytes (type.NoWay offset c)
LacksScript m bytes command.TooManyStates = IsTypeError m bytes type.TooManyStates
LacksScript m bytes _ = ⊥

-- the script of events that type the sentence, by ways on the board
abbrev pub Types : Board → MapValue → List ℕ → List ℕ → Type 0
Types b m bytes told =
    (x : Typing) × IsTyped m bytes x × GoWaysFrom b m x.events.items 0 x.keyed.items × (told ≡ typing_script x)

abbrev pub TypesSentence : Board → Moves → Moves → Moves → Result (Unit {0}) CommandError → Type 0
TypesSentence b text sentence out r =
    Runs of_command_writer
    (ReadsBoth (ReadsForCommand (ReadsText text)) (ReadsSentence sentence) (Stays sentence))
    (λ v e. LacksScript v.0 v.1 e) (λ v _ told. Types b v.0 v.1 told) out r

-- why it isn't told which characters of a sentence keys can't type
abbrev pub LacksDecision : MapValue → List ℕ → CommandError → Type 0
LacksDecision m bytes (command.Run error.Memory) = ⊤
LacksDecision m bytes (command.NotText offset) = IsTypeError m bytes (type.NotText offset)
LacksDecision m bytes command.TooManyStates = IsTypeError m bytes type.TooManyStates
LacksDecision m bytes _ = ⊥

-- whether keys can type all characters of the sentence, and a line under its name for each that they can't
abbrev pub MissingAreTold : List ℕ → MapValue → List ℕ → Bool → List ℕ → Type 0
MissingAreTold name m bytes can_type_all told =
    (found : List Missing) × AreMissingIn m bytes found × (can_type_all ≡ (length found == 0))
    × (told ≡ missing_text (shown_name name) bytes found)

abbrev pub TellsMissing : List ℕ → Moves → Moves → Moves → Result Bool CommandError → Type 0
TellsMissing name text sentence out r =
    Runs of_command_writer
    (ReadsBoth (ReadsForCommand (ReadsText text)) (ReadsSentence sentence) (Stays sentence))
    (λ v e. LacksDecision v.0 v.1 e) (λ v all told. MissingAreTold name v.0 v.1 all told) out r

-- how characters of the sentence are typed, each by itself, and why no more of them are, if something ended them
abbrev pub AreToldInWords : Board → MapValue → List ℕ → Option TypeError → Type 0
AreToldInWords b m bytes stopped = (x : Spelling) × AreSpelledIn b m bytes x × (stopped ≡ x.stopped)

-- The lines tell that in words, which are not spoken of.
abbrev pub TellsInWords : Board → Moves → Moves → Moves → Result (Option TypeError) CommandError → Type 0
TellsInWords b text sentence out r =
    Runs of_command_writer
    (ReadsBoth (ReadsForCommand (ReadsText text)) (ReadsSentence sentence) (Stays sentence))
    (λ v e. LacksDecision v.0 v.1 e) (λ v stopped told. AreToldInWords b v.0 v.1 stopped) out r

-- why it isn't told how characters are typed
abbrev pub LacksSheet : MapValue → CommandError → Type 0
LacksSheet m (command.Run error.Memory) = ⊤
LacksSheet m command.TooManyStates = (p : ℕ) × ReachesMoreThan (alone m) state_limit p
LacksSheet m _ = ⊥

abbrev pub TellsAllInWords : Board → Moves → Moves → Result (Unit {0}) CommandError → Type 0
TellsAllInWords b text out r =
    Runs of_command_writer (ReadsForCommand (ReadsText text)) LacksSheet
    (λ m _ told. (xs : List Spelled) × IsSheet b m xs) out r

-- ---- laws

-- A text that the check accepts spells a keymap that keeps the promise.
abbrev pub AcceptedKeepTheirPromise : Type 0
AcceptedKeepTheirPromise =
    (show : Bool) (text out : Moves) → ChecksText show text out (Ok true)
    → (m : MapValue) × ReadsText text (Ok m) × IsSafe m × KeepsPromise m (IsSafe m)

-- A file is compiled of a text and then dumped as another text: both spell the same keymap.
abbrev pub AreDumped : (Moves → Moves → Result (Unit {0}) RunError → Type 0)
    → (Option (List ℕ) → Option (List ℕ) → Result MapValue TableError → Type 0) → Type 0
AreDumped Compiles Reads =
    (text file told : List ℕ) (t u : Option (List ℕ))
    → Compiles (moves (Some text) t) (moves (Some []) (Some file)) (Ok (tt {0}))
    → DumpsFile Reads (moves (Some file) u) (moves (Some []) (Some told)) (Ok (tt {0}))
    → (m : MapValue) × Spells text m × Spells told m

-- What is drawn, whatever the text and the name are: bytes that are well formed and printable ASCII.
abbrev pub DrawnAreWellFormed : Type 0
DrawnAreWellFormed =
    (board : Board) (name : List ℕ) (text out : Moves) → DrawsText board name text out (Ok (tt {0}))
    → (drawn : List ℕ) × Appends out.old out.new drawn × IsWellFormed drawn × All IsPlain drawn

-- A text that is called well spells a keymap under which no list of presses and releases leaves a modifier on.
abbrev pub WellLintedNeverStick : Type 0
WellLintedNeverStick =
    (format : Format) (file : List ℕ) (source out : Moves) (found : Linted)
    → LintsText format file source out (Ok found) → found.is_well ≡ true
    → (text : List ℕ) × (m : MapValue) × TakesWhole source.old source.new text × Spells text m × NeverSticks m

-- What is printed to test a console is a script of a cover of the keymap that the text spells.
abbrev pub PrintedCoversAreScripts : Type 0
PrintedCoversAreScripts =
    (text out : Moves) → CoversText text out (Ok (tt {0}))
    → (m : MapValue) × (script : List ℕ) × ReadsText text (Ok m) × Appends out.old out.new script
    × ShowsCover m script

-- So is what is printed to test it by its keyboard, where no repeat is left out.
abbrev pub PrintedKeyboardCoversAreScripts : Type 0
PrintedKeyboardCoversAreScripts =
    (x : Keyboard) (text out : Moves) → CoversByKeyboard x true text out (Ok (tt {0}))
    → (m : MapValue) × (script : List ℕ) × (c : KeyboardCover) × ReadsText text (Ok m) × Appends out.old out.new script
    × IsCoverBy x m c × ShowsKeyboardCover c script
