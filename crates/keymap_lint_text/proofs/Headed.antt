-- Each remark has one head, and no other line begins without blanks.
use Rattle.keymap_lint_text.proofs.Common.{◌≡◌, ℕ, Bool, false, List, [], ◌∷◌, ◌++◌, codes, refl, ap, sym, subst, ◌∙◌}
use Rattle.keymap_lint_text.proofs.Common.{append-nil, append_assoc, Option, Some, None, decimal, length, map, ◌+◌}
use Rattle.keymap_lint_text.proofs.Common.{if◌then◌else◌}
use Rattle.keymap_lint_text.proofs.Common.{flat_map, flat_map-append, All-nil, All-cons, All-append, Diagnostic}
use Rattle.keymap_lint_text.proofs.Common.{Diagnostics, before_in_line, line, TextFaultKind, excerpt}
use Rattle.keymap_lint_text.proofs.Common.{Said, Remark, remark, head, place_text, said_text, printed, is_noted}
use Rattle.keymap_lint_text.proofs.Common.{ended, shown_name, IsLine, IsPlainText, answer, judged, of_diagnostic}
use Rattle.keymap_lint_text.proofs.Common.{arith, beginning, of_fault}
use Rattle.std.specs.Prelude.{◌&&◌, nat_lt, take, IfSome}
use Rattle.std.specs.List.{All, filter}
use Rattle.std.proofs.lemmas.List.Elements.{All-head, All-tail, filter-append}
use Rattle.std.proofs.lemmas.Bool.{cond_both}
use Rattle.std.proofs.lemmas.Fmt.{decimal_digit}
use Rattle.console_states.specs.declared.outcome.Sticking.{Sticking}
use Rattle.console_states.specs.declared.outcome.Sticking.TheVariants.{Sticks, Never, Undecided}
use Rattle.keymap_lint.specs.declared.diagnostic.Lint.{Lint}
use Rattle.keymap_lint.specs.declared.diagnostic.PlacedFault.{PlacedFault}
use Rattle.keymap_lint.specs.declared.diagnostic.Lint.TheVariants.{Faulty, Spelled}
use Rattle.keymap_places.specs.LineOf.{rest_of_line}
use Rattle.keymap_places.specs.declared.wanted.DefinitionStart.{DefinitionStart}
use Rattle.keymap_lint_text.specs.Heads.{below}
use Rattle.keymap_lint_text.specs.Promises.{is_indented, is_flush, HasHeads, is_judged, diagnostics}
use Rattle.keymap_lint_text.specs.Promises.{judged_faults}
use Rattle.keymap_lint_text.specs.Told.{place_or_beginning}
use Rattle.keymap_lint_text.specs.Notes.{begins_text}
use Rattle.keymap_lint_text.specs.Whole.{IsLintText, fault_remark, first_hint, hinted, hinted_remark, more_faults}
use Rattle.keymap_lint_text.specs.Whole.{of_first, remarks, tells_beginning, told_faults}
use Rattle.keymap_names.proofs.Shared.{ascii, line_none, name_line, ◌⊳◌}
use Rattle.keymap_lint_text.proofs.Lines.{IsSaid, excerpt_lines, fault_name_line, head_line, kind_line, sticks_line}
use Rattle.keymap_lint_text.proofs.Messages.{begins_line, fault_line, hint_line, message_line}

-- what stands behind the file and a colon
abbrev pub behind : List ℕ → ℕ → List ℕ
behind text place =
    decimal (line text place) ++ codes ":" ++ decimal (length (before_in_line text place) + 1) ++ codes ": "

pub head_is : (file text : List ℕ) (e : Remark)
    → head file text e ≡ file ++ (codes ":" ++ (behind text (place_or_beginning e.place) ++ said_text e.said))
head_is file text e = ap (λ t. t ++ said_text e.said) (parts e.place) ∙ simp append_assoc
  where
    parts : (place : Option ℕ)
        → place_text file text place ≡ file ++ (codes ":" ++ behind text (place_or_beginning place))
    parts None =
        ap (λ one. file ++ (codes ":" ++ (one ++ codes ":" ++ one ++ codes ": "))) (sym (decimal_digit 1 (omega arith)))
    parts (Some place) = simp append_assoc

indented_front : (file y : List ℕ) → is_indented (file ++ codes ":" ++ y) ≡ is_indented file
indented_front [] y = refl
indented_front (a ∷ []) y = refl
indented_front (a ∷ b ∷ file) y = refl

head_indented : (file text : List ℕ) (e : Remark) → is_indented (head file text e) ≡ is_indented file
head_indented file text e =
    let rest = behind text (place_or_beginning e.place) ++ said_text e.said in
    ap is_indented (head_is file text e ∙ sym (append_assoc file (codes ":") rest)) ∙ indented_front file rest

below_indented : (text : List ℕ) (place : Option ℕ) → filter is_flush (below text place) ≡ []
unfolding excerpt
below_indented text None = refl
below_indented text (Some place) = refl

below_lines : (text : List ℕ) (place : Option ℕ) → All IsLine (below text place)
below_lines text None = All-nil IsLine
below_lines text (Some place) = excerpt_lines (before_in_line text place) (rest_of_line text place)

-- a line that isn't indented, and lines that are, before others
filtered : (h : List ℕ) (bs ls : List (List ℕ)) → is_indented h ≡ false → filter is_flush bs ≡ []
    → filter is_flush (h ∷ (bs ++ ls)) ≡ h ∷ filter is_flush ls
filtered h bs ls e f =
    rw (e, filter-append is_flush bs ls, f) refl

abbrev AreSaid : List Remark → Type 0
AreSaid es = All (λ (e : Remark). IsSaid e.said) es

all_headed : (file text : List ℕ) (es : List Remark) → IsLine file → AreSaid es
    → HasHeads file text es (printed file text es)
all_headed file text [] name each = record { lines = []; spelled = refl; plain = All-nil IsLine; heads = λ _. refl }
all_headed file text (e ∷ es) name each =
    let others = all_headed file text es name (All-tail (λ (e : Remark). IsSaid e.said) e es each) in
    let h = head file text e in
    let bs = below text e.place in record {
      lines = h ∷ (bs ++ others.lines);
      spelled = cc (others.spelled, flat_map-append ended (h ∷ bs) others.lines);
      plain =
          All-cons IsLine h (bs ++ others.lines)
          (head_line file text e name (All-head (λ (e : Remark). IsSaid e.said) e es each))
          (All-append IsLine bs others.lines (below_lines text e.place) others.plain);
      heads = λ flush.
          filtered h bs others.lines (head_indented file text e ∙ flush) (below_indented text e.place)
          ∙ ap (λ t. h ∷ t) (others.heads flush);
    }

-- ---- what is said of a text is a line

said_none : AreSaid []
said_none = All-nil (λ (e : Remark). IsSaid e.said)

said_cons : (e : Remark) (es : List Remark) → IsSaid e.said → AreSaid es → AreSaid (e ∷ es)
said_cons e es p q = All-cons (λ (e : Remark). IsSaid e.said) e es p q

said_if : (b : Bool) (es : List Remark) → AreSaid es → AreSaid (if b then es else [])
said_if b es p = cond_both b es [] AreSaid (λ _. p) (λ _. said_none)

answer_said : (s : Option Sticking) → AreSaid (answer s)
answer_said None = said_none
answer_said (Some Never) = said_none
answer_said (Some (Undecided presses)) = said_cons _ [] (ascii _ refl) said_none
answer_said (Some (Sticks events modifiers)) = said_cons _ [] (sticks_line modifiers.items events.items) said_none

each_said : (text : List ℕ) (l : Diagnostics) (ds : List Diagnostic) → AreSaid (flat_map (of_diagnostic text l) ds)
each_said text l [] = said_none
each_said text l (d ∷ ds) =
    All-append (λ (e : Remark). IsSaid e.said) (of_diagnostic text l d) (flat_map (of_diagnostic text l) ds)
    (said_cons (judged text l d) _ (kind_line d.kind, message_line text l d.kind)
    (said_if (is_noted l.list.items d.kind) (answer l.sticking) (answer_said l.sticking))) (each_said text l ds)

beginning_said : (text : List ℕ) (place : ℕ) (kind : TextFaultKind) (d : Option DefinitionStart)
    → AreSaid (beginning text place kind d)
beginning_said text place kind None = said_none
beginning_said text place kind (Some d) =
    let note = remark (Some d.offset) (Said.Noted (begins_text d.what)) in
    said_if (tells_beginning kind && nat_lt (line text d.offset) (line text place)) (note ∷ [])
    (said_cons note [] (begins_line d.what) said_none)

hinted_said : (text told : List ℕ) (f : PlacedFault) → IsLine told → AreSaid (hinted text told f)
hinted_said text told f p =
    said_cons (hinted_remark text told f) _
    (fault_name_line f.fault.kind, fault_line text f.fault.offset f.fault.kind f.place ⊳ p)
    (beginning_said text f.fault.offset f.fault.kind f.place.definition)

faults_said : (text : List ℕ) (fs : List PlacedFault) → AreSaid (flat_map (of_fault text) fs)
faults_said text [] = said_none
faults_said text (f ∷ fs) =
    All-append (λ (e : Remark). IsSaid e.said) (of_fault text f) (flat_map (of_fault text) fs)
    (hinted_said text [] f line_none) (faults_said text fs)

first_said : (text : List ℕ) (fs : List PlacedFault) (told : Option (List ℕ)) → IfSome told IsLine
    → AreSaid (of_first text fs told)
first_said text [] told p = said_none
first_said text (f ∷ fs) None p =
    All-append (λ (e : Remark). IsSaid e.said) (flat_map (of_fault text) (take told_faults (f ∷ fs)))
    (more_faults (f ∷ fs)) (faults_said text (take told_faults (f ∷ fs)))
    (said_if (nat_lt told_faults (length (f ∷ fs))) _ (said_cons _ [] (ascii _ refl) said_none))
first_said text (f ∷ fs) (Some told) p = hinted_said text told f p

hint_said : (text : List ℕ) (fs : List PlacedFault) → IfSome (first_hint text fs) IsLine
hint_said text [] = tt
hint_said text (f ∷ fs) = hint_line text f

all_said : (text : List ℕ) (l : Lint) → AreSaid (remarks text l)
all_said text (Faulty faults) =
    first_said text faults.items (first_hint text faults.items) (hint_said text faults.items)
all_said text (Spelled l) = each_said text l l.list.items

pub lint_headed : (file text : List ℕ) (l : Lint) (bytes : List ℕ) → IsLintText file text l bytes
    → HasHeads (shown_name file) text (remarks text l) bytes
lint_headed file text l bytes e =
    subst (HasHeads (shown_name file) text (remarks text l)) (sym e)
    (all_headed (shown_name file) text (remarks text l) (name_line file) (all_said text l))

pub lint_plain : (file text : List ℕ) (l : Lint) (bytes : List ℕ) → IsLintText file text l bytes → IsPlainText bytes
lint_plain file text l bytes e =
    let headed = lint_headed file text l bytes e in
    record { lines = headed.lines; spelled = headed.spelled; plain = headed.plain }

-- ---- the remarks that are no notes

answer_noted : (s : Option Sticking) → filter is_judged (answer s) ≡ []
answer_noted None = refl
answer_noted (Some Never) = refl
answer_noted (Some (Undecided presses)) = refl
answer_noted (Some (Sticks events modifiers)) = refl

noted_if : (b : Bool) (es : List Remark) → filter is_judged es ≡ [] → filter is_judged (if b then es else []) ≡ []
noted_if b es e = cond_both b es [] (λ fs. filter is_judged fs ≡ []) (λ _. e) (λ _. refl)

beginning_noted : (text : List ℕ) (place : ℕ) (kind : TextFaultKind) (d : Option DefinitionStart)
    → filter is_judged (beginning text place kind d) ≡ []
beginning_noted text place kind None = refl
beginning_noted text place kind (Some d) =
    noted_if _ (remark (Some d.offset) (Said.Noted (begins_text d.what)) ∷ []) refl

each_judged : (text : List ℕ) (l : Diagnostics) (ds : List Diagnostic)
    → filter is_judged (flat_map (of_diagnostic text l) ds) ≡ map (judged text l) ds
each_judged text l [] = refl
each_judged text l (d ∷ ds) =
    let noted = noted_if (is_noted l.list.items d.kind) (answer l.sticking) (answer_noted l.sticking) in
    cc (filter-append is_judged (of_diagnostic text l d) (flat_map (of_diagnostic text l) ds), each_judged text l ds)

faults_judged : (text : List ℕ) (fs : List PlacedFault)
    → filter is_judged (flat_map (of_fault text) fs) ≡ map (fault_remark text) fs
faults_judged text [] = refl
faults_judged text (f ∷ fs) =
    let noted = beginning_noted text f.fault.offset f.fault.kind f.place.definition in
    cc (filter-append is_judged (of_fault text f) (flat_map (of_fault text) fs), noted, faults_judged text fs)

first_judged : (text : List ℕ) (fs : List PlacedFault) (told : Option (List ℕ))
    → filter is_judged (of_first text fs told) ≡ judged_faults text fs told
first_judged text [] told = refl
first_judged text (f ∷ fs) None =
    let some = take told_faults (f ∷ fs) in
    let note = remark None (Said.Noted (codes "more faults follow")) in
    let more = noted_if (nat_lt told_faults (length (f ∷ fs))) (note ∷ []) refl in
    cc (
      filter-append is_judged (flat_map (of_fault text) some) (more_faults (f ∷ fs)),
      faults_judged text some,
      more,
      append-nil (map (fault_remark text) some),
    )
first_judged text (f ∷ fs) (Some told) =
    ap (λ t. hinted_remark text told f ∷ t) (beginning_noted text f.fault.offset f.fault.kind f.place.definition)

pub all_judged : (text : List ℕ) (l : Lint) → filter is_judged (remarks text l) ≡ diagnostics text l
all_judged text (Faulty faults) = first_judged text faults.items (first_hint text faults.items)
all_judged text (Spelled l) = each_judged text l l.list.items
