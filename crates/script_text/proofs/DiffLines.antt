-- What is told of a difference between two keymaps stays in its line.
use Rattle.script_text.proofs.Common.{◌≡◌, ℕ, ◌+◌, ◌-◌, ◌==◌, Bool, true, false, not, List, [], ◌∷◌, ◌++◌, Option, Some}
use Rattle.script_text.proofs.Common.{None, refl, subst, arith, decimal, if◌then◌else◌, ne_eqb, codes, length, take}
use Rattle.script_text.proofs.Common.{range_with_len, name_of, filled_all}
use Rattle.std.specs.Prelude.{◌≢◌, ◌/◌, ◌%◌, ◌||◌, ◌&&◌, nat_lt, slice_index, slice_index_or, encode_utf8}
use Rattle.std.specs.List.{list_all, list_any}
use Rattle.std.proofs.lemmas.Bool.{cond_both, true≢false}
use Rattle.keymap_core.specs.Actions.{two_digits}
use Rattle.keymap_core.specs.CodePoints.{code_digits}
use Rattle.keymap_core.specs.declared.action.Action.{Action}
use Rattle.keymap_core.specs.declared.action.Action.TheVariants as act
use Rattle.keymap_core.specs.declared.entry.Cell.{Cell as CellValue}
use Rattle.keymap_core.specs.declared.entry.Cell.TheVariants as cells
use Rattle.keymap_core.specs.declared.entry.LockFlag.{LockFlag}
use Rattle.keymap_core.specs.declared.entry.LockFlag.TheVariants as flags
use Rattle.keymap_text.specs.Printed.{character_text, control_name, flag_letter}
use Rattle.keymap_text.specs.Words.{control_names}
use Rattle.keymap_names.proofs.Shared.{code_line, lock_line, modifier_line, named}
use Rattle.keymap_names.specs.Characters.{is_coded, is_mark, quoted, readable}
use Rattle.keymap_names.specs.Lists.{accent_name, column_names, comma}
use Rattle.console_core.specs.declared.event.Answer.{Answer}
use Rattle.console_core.specs.declared.event.Answer.TheVariants as answer
use Rattle.keymap_diff.specs.declared.change.Change.{Change}
use Rattle.keymap_diff.specs.declared.change.Change.TheVariants.{Slots, Cell, Letter, Accents, Accent, Pair}
use Rattle.keymap_diff.specs.declared.change.Change.TheVariants.{ListedOtherwise}
use Rattle.keymap_diff.specs.declared.telling.Telling.{Telling}
use Rattle.keymap_diff.specs.declared.telling.Telling.TheVariants.{Told, Never, Undecided}
use Rattle.script_text.proofs.Comments.{IsInLine, append-line, decimal-line, encoded-line, flat-line, if-line, in-line}
use Rattle.script_text.proofs.Comments.{is_in_line, name-line}
use Rattle.script_text.specs.Diff.{answer_told, are_alike, cell_told, change_at, changed_text, columns_like}
use Rattle.script_text.specs.Diff.{columns_text}
use Rattle.script_text.specs.Diff.{is_unseen, item_at, item_text, items_text, last_accent, last_slot, listed_column}
use Rattle.script_text.specs.Diff.{line_words, verdict_words}
use Rattle.script_text.specs.Diff.{made_text, own_text, part_of, title_of, told_text, unseen_text, values_of}

either-line : (t : Bool) (a b : List ℕ) → IsInLine a → IsInLine b → IsInLine (if t then a else b)
either-line t a b h k = cond_both t a b IsInLine (λ _. h) (λ _. k)

digits-of : (n : ℕ) → IsInLine (two_digits n)
digits-of n = rw (ne_eqb (48 + n / 10) 10 (omega arith), ne_eqb (48 + n % 10) 10 (omega arith)) refl

action-line : (a : Action) → IsInLine (name_of a)
action-line (act.Mod i) = in-line (name_of (act.Mod i)) (modifier_line i)
action-line (act.Lock l) = in-line (name_of (act.Lock l)) (lock_line l)
action-line (act.Screen n) = append-line (codes "scr") (two_digits n) refl (digits-of n)
action-line (act.Function n) = append-line (codes "fkey") (two_digits n) refl (digits-of n)
action-line (act.DeadKey i) = name-line i
action-line _ = refl

control-line : (c : ℕ) → IsInLine (control_name c)
control-line c =
    either-line (c == 127) (codes "del") _ refl (in-line (slice_index_or control_names c []) (named control_names refl c))

-- a line feed is a control character
no_feed : (c : ℕ) → (nat_lt c 32 || c == 127) ≡ false → c ≢ 10
no_feed c h e = true≢false (subst (λ x. (nat_lt x 32 || x == 127) ≡ false) e h)

quoted-line : (c : ℕ) → c ≢ 10 → IsInLine (39 ∷ c ∷ 39 ∷ [])
quoted-line c other = rw (ne_eqb c 10 other) refl

character-line : (c : ℕ) → IsInLine (character_text c)
unfolding character_text
character-line c =
    let number : List ℕ = codes "0x" ++ code_digits c in
    let quoted : List ℕ = 39 ∷ c ∷ 39 ∷ [] in
    cond_both (nat_lt c 32 || c == 127) (control_name c) (if nat_lt c 127 then quoted else number) IsInLine
    (λ _. control-line c)
    (λ h. either-line (nat_lt c 127) quoted number (quoted-line c (no_feed c h))
    (append-line (codes "0x") (code_digits c) refl (in-line (code_digits c) (code_line c))))

-- a line feed is a character that a terminal doesn't show
seen-line : (c : ℕ) → (not (c == 32) && is_coded c) ≡ false → c ≢ 10
unfolding is_coded
seen-line c h e = true≢false (subst (λ x. (not (x == 32) && is_coded x) ≡ false) e h)

sign-line : (c : ℕ) → c ≢ 10 → IsInLine (quoted c)
unfolding quoted
sign-line c other =
    let circle : List ℕ = if is_mark c then encode_utf8 0x25cc else [] in
    append-line (codes "'") (circle ++ encode_utf8 c ++ codes "'") refl
    (append-line (circle ++ encode_utf8 c) (codes "'")
    (append-line circle (encode_utf8 c)
    (if-line (is_mark c) (encode_utf8 0x25cc) (encoded-line 0x25cc (λ e. omega (arith, e)))) (encoded-line c other))
    refl)

pub readable-line : (c : ℕ) → IsInLine (readable c)
unfolding readable
readable-line c =
    cond_both (not (c == 32) && is_coded c) (character_text c) (quoted c) IsInLine (λ _. character-line c)
    (λ h. sign-line c (seen-line c h))

made-line : (made : Option ℕ) → IsInLine (made_text made)
made-line None = refl
made-line (Some c) = readable-line c

cell-line : (x : CellValue) → IsInLine (cell_told x)
cell-line (cells.Char c) = readable-line c
cell-line (cells.Act a) = action-line a

own-line : (c : ℕ) → IsInLine (own_text c)
own-line c = either-line (c == 0) (codes "none") (readable c) refl (readable-line c)

slot-line : (n : ℕ) → IsInLine (last_slot n)
slot-line n = either-line (n == 0) (codes "none") (decimal (n - 1)) refl (decimal-line (n - 1))

accent-line : (n : ℕ) → IsInLine (last_accent n)
accent-line n = either-line (n == 0) (codes "none") (accent_name (n - 1)) refl (name-line (n - 1))

flag-line : (f : LockFlag) → IsInLine (flag_letter f ∷ [])
flag-line flags.O = refl
flag-line _ = refl

pub answer-line : (a : Answer) → IsInLine (answer_told a)
unfolding answer_told
answer-line answer.None = refl
answer-line answer.Error = refl
answer-line (answer.Char c false) = readable-line c
answer-line (answer.Char c true) =
    filled_all is_in_line (codes "meta {}") (readable c ∷ []) refl (readable-line c, tt)
answer-line (answer.Special a) = action-line a
answer-line answer.BackTab = refl
answer-line (answer.Released a) =
    filled_all is_in_line (codes "released {}") (name_of a ∷ []) refl (action-line a, tt)

values-line : (way : Change) → IsInLine (values_of way).0 × IsInLine (values_of way).1
values-line (Slots a b) = (slot-line a, slot-line b)
values-line (Cell s c a b u) = (cell-line a, cell-line b)
values-line (Letter s a b u) = (flag-line a, flag-line b)
values-line (Accents a b) = (accent-line a, accent-line b)
values-line (Accent i a b u) = (own-line a, own-line b)
values-line (Pair i base a b u) = (made-line a, made-line b)
values-line (ListedOtherwise i) = (refl, refl)

changed-line : (x : Change) → IsInLine (changed_text x)
changed-line x =
    let values = values-line x in
    filled_all is_in_line (codes "{} -> {}") ((values_of x).0 ∷ (values_of x).1 ∷ []) refl (values.0, (values.1, tt))

pub title-line : (x : Change) → IsInLine (title_of x)
title-line (Slots a b) =
    filled_all is_in_line (codes "last slot: {}") (changed_text (Slots a b) ∷ []) refl (changed-line (Slots a b), tt)
title-line (Accents a b) =
    filled_all is_in_line (codes "last accent: {}") (changed_text (Accents a b) ∷ []) refl
    (changed-line (Accents a b), tt)
title-line (Cell s c a b u) = filled_all is_in_line (codes "slot {}") (decimal s ∷ []) refl (decimal-line s, tt)
title-line (Letter s a b u) = filled_all is_in_line (codes "slot {}") (decimal s ∷ []) refl (decimal-line s, tt)
title-line (Accent i a b u) = name-line i
title-line (Pair i base a b u) = name-line i
title-line (ListedOtherwise i) = name-line i

pub unseen-line : (u : Bool) → IsInLine (unseen_text u)
unseen-line u = if-line u (codes " (unseen)") refl

-- ---- the items of a line

comma-line : (i : ℕ) → IsInLine (comma i)
comma-line i = either-line (i == 0) [] (codes ", ") refl refl

column-line : (columns : List ℕ) (i : ℕ) → IsInLine (listed_column columns i)
column-line columns i =
    append-line (comma i) (slice_index_or column_names (slice_index columns i) []) (comma-line i)
    (in-line (slice_index_or column_names (slice_index columns i) []) (named column_names refl (slice_index columns i)))

columns-line : (columns : List ℕ) → IsInLine (columns_text columns)
columns-line columns =
    either-line (length columns == 8) (codes "all columns") _ refl
    (flat-line (listed_column columns) (column-line columns) (range_with_len 0 (length columns)))

part-line : (line : List Change) (x : Change) → IsInLine (part_of line x)
part-line line (Cell s c a b u) = columns-line (columns_like line (Cell s c a b u))
part-line line (Letter s a b u) = refl
part-line line (Accent i a b u) = refl
part-line line (Pair i base a b u) = readable-line base
part-line line (Slots a b) = refl
part-line line (Accents a b) = refl
part-line line (ListedOtherwise i) = refl

told-line : (marked : Bool) (line : List Change) (x : Change) → IsInLine (told_text marked line x)
told-line marked line x =
    filled_all is_in_line (codes "; {}: {}{}") (part_of line x ∷ changed_text x ∷ unseen_text marked ∷ []) refl
    (part-line line x, (changed-line x, (unseen-line marked, tt)))

item-line : (all : Bool) (line : List Change) (x : Change) → IsInLine (item_text all line x)
item-line all line (Slots a b) = refl
item-line all line (Accents a b) = refl
item-line all line (ListedOtherwise i) = refl
item-line all line (Cell s c a b u) = told-line (u && not all) line (Cell s c a b u)
item-line all line (Letter s a b u) = told-line (u && not all) line (Letter s a b u)
item-line all line (Accent i a b u) = told-line (u && not all) line (Accent i a b u)
item-line all line (Pair i base a b u) = told-line (u && not all) line (Pair i base a b u)

pub items-line : (all : Bool) (line : List Change) → IsInLine (items_text all line)
items-line all line =
    flat-line (item_at all line)
    (λ i. either-line (list_any (are_alike (change_at line i)) (take i line)) [] (item_text all line (change_at line i)) refl
    (item-line all line (change_at line i)))
    (range_with_len 0 (length line))

-- the words of a line, and those of the verdict
pub words-line : (x : Change) (line : List Change) → IsInLine (line_words x line)
words-line x line =
    let all = list_all is_unseen line in
    filled_all is_in_line (codes "{}{}{}") (title_of x ∷ unseen_text all ∷ items_text all line ∷ []) refl
    (title-line x, (unseen-line all, (items-line all line, tt)))

pub verdict-line : (t : Telling) → IsInLine (verdict_words t)
unfolding verdict_words
verdict-line (Told events a b) =
    filled_all is_in_line (codes "told apart: {} -> {}") (answer_told a ∷ answer_told b ∷ []) refl
    (answer-line a, (answer-line b, tt))
verdict-line (Never false) = refl
verdict-line (Never true) = refl
verdict-line (Undecided p) =
    filled_all is_in_line (codes "undecided: no list of up to {} presses tells them apart") (decimal p ∷ []) refl
    (decimal-line p, tt)
