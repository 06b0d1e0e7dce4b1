-- Each character of a legend and of a title may stand in a text.
use Rattle.keymap_draw.proofs.Common.{zero, suc, ◌≡◌, ℕ, ◌+◌, ◌<◌, ◌≤◌, ◌==◌, Bool, true, false, List, [], ◌∷◌, ◌++◌}
use Rattle.keymap_draw.proofs.Common.{decimal_passes, refl, ap, arith, All, ◌/◌, ◌%◌, ◌||◌, not, nat_lt, codes, decimal}
use Rattle.keymap_draw.proofs.Common.{if◌then◌else◌, slice_index_or, option_map, list_all, flat_map, nat_tests, rules}
use Rattle.keymap_draw.proofs.Common.{All-head, All-tail, All-replicate, Cell, Char, Entry, AccentValue, name_of}
use Rattle.keymap_draw.proofs.Common.{accent_names, IsCell, IsEntry, code_digits, upper_digits, digit_at, undefined}
use Rattle.keymap_draw.proofs.Common.{slot_words, accent_words, word, unfilled, unseen_name, other_legend}
use Rattle.keymap_draw.proofs.Common.{character_legend, cell_legend, is_shown, is_seen, along, cond_both}
use Rattle.std.specs.Char.{IsScalar}
use Rattle.keymap_core.specs.declared.action.Action.{Action}
use Rattle.keymap_core.specs.declared.entry.Cell.TheVariants.{Act}
use Rattle.keymap_core.specs.declared.entry.LockFlag.{LockFlag}
use Rattle.keymap_core.specs.Actions.{IsAction, two_digits}
use Rattle.keymap_core.specs.CodePoints.{code_text}
use Rattle.keymap_text.specs.Printed.{control_name, character_text, cell_text, slot_text, pair_text, flag_letter}
use Rattle.keymap_text.specs.Words.{control_names}
use Rattle.keymap_draw.specs.declared.tables.UnseenName.{UnseenName}
use Rattle.keymap_draw.specs.declared.tables.TheConstants.{UNSEEN_NAMES, ACCENT_MARKS}
use Rattle.keymap_core.specs.Unseen.{is_control}
use Rattle.keymap_names.specs.Characters.{is_coded, is_numbered, is_mark}
use Rattle.keymap_draw.specs.Legends.{name_in, marked, shown_legend, named_or, accent_mark, action_legend}
use Rattle.messages.proofs.Shared.{append_all}
use Rattle.keymap_draw.proofs.Scans.{both_true, first_true, second_true, flat_all, name_all, item_all, hex_shown}
use Rattle.std.specs.Prelude.{nat_le}
use Rattle.std.proofs.lemmas.Bool.{or_parts}
use Rattle.keymap_core.specs.declared.action.Action.TheVariants as a
use Rattle.keymap_core.specs.declared.action.Modifier.TheVariants as m
use Rattle.keymap_core.specs.declared.action.Lock.TheVariants as l
use Rattle.keymap_core.specs.declared.entry.LockFlag.TheVariants as flag

-- each may stand in a text, and a terminal shows it as it is
pub record AreShown (cs : List ℕ) : Type 0 where
  pub each : list_all is_seen cs ≡ true

shown : {cs : List ℕ} → list_all is_seen cs ≡ true → AreShown cs
shown h = record { each = h }

joined : {a b : List ℕ} → AreShown a → AreShown b → AreShown (a ++ b)
joined {a} {b} h k = record { each = append_all is_seen a b h.each k.each }

chosen : (b : Bool) {x y : List ℕ} → (b ≡ true → AreShown x) → (b ≡ false → AreShown y)
    → AreShown (if b then x else y)
chosen b {x} {y} f g = cond_both b x y AreShown f g

low_shown : (c : ℕ) → 32 ≤ c → c ≤ 126 → is_seen c ≡ true
low_shown c low high = along is_seen (λ d. true) 32 95 refl c (omega arith) (omega arith)

scalar_shown : (c : ℕ) → (nat_lt c 32 || c == 127) ≡ false → IsScalar c → is_control c ≡ false
    → nat_le 0xfffe (c % 0x10000) ≡ false → is_shown c ≡ true
scalar_shown c low s control plane = grind (arith, nat_tests)

alone : {c : ℕ} → is_seen c ≡ true → AreShown (c ∷ [])
alone {c} h = record { each = both_true h refl }

before : {c : ℕ} {cs : List ℕ} → is_seen c ≡ true → AreShown cs → AreShown (c ∷ cs)
before {c} {cs} h k = record { each = both_true h k.each }

flat_shown : {A : Type 0} (P : A → Type 0) (f : A → List ℕ) → ((x : A) → P x → AreShown (f x)) → (xs : List A)
    → All P xs → AreShown (flat_map f xs)
flat_shown P f each xs h = record { each = flat_all is_seen P f (λ x k. (each x k).each) xs h }

-- ---- numbers and names

unit_shown : (c unit : ℕ) → 0 < unit → is_seen (digit_at c unit) ≡ true
unit_shown c unit h = hex_shown (c / unit % 16) (omega arith)

upper_shown : (c : ℕ) → AreShown (upper_digits c)
upper_shown c = search (rules, alone, unit_shown, chosen, shown, before)

digits_shown : (c : ℕ) → AreShown (code_digits c)
unfolding code_digits
digits_shown c =
    joined (upper_shown c) (before (unit_shown c 0x1000 (omega arith)) (before (unit_shown c 0x100 (omega arith))
    (before (unit_shown c 0x10 (omega arith)) (alone (unit_shown c 1 (omega arith))))))

code_shown : (c : ℕ) → AreShown (code_text c)
unfolding code_text
code_shown c = joined {a = codes "U+"} (shown refl) (digits_shown c)

decimal_shown : (n : ℕ) → AreShown (decimal n)
decimal_shown n = shown (decimal_passes is_seen refl n)

control_shown : (c : ℕ) → AreShown (control_name c)
control_shown c = chosen (c == 127) (λ _. shown refl) (λ _. shown (name_all is_seen control_names refl c))

two_shown : (n : ℕ) → n < 100 → AreShown (two_digits n)
two_shown n h =
    before (low_shown (48 + n / 10) (omega arith) (omega arith))
    (alone (low_shown (48 + n % 10) (omega arith) (omega arith)))

action_shown : (action : Action) → IsAction action → AreShown (name_of action)
action_shown (a.Screen n) h = joined {a = codes "scr"} (shown refl) (two_shown n (omega (arith, h.1)))
action_shown (a.Function n) h = joined {a = codes "fkey"} (shown refl) (two_shown n (omega (arith, h.1)))
action_shown (a.DeadKey i) h = shown (name_all is_seen accent_names refl i)
action_shown (a.Mod m.LeftShift) h = shown refl
action_shown (a.Lock l.Caps) h = shown refl
action_shown _ h = shown refl

-- ---- legends

unfilled_shown : (name : List ℕ) → AreShown name → AreShown (unfilled name)
unfolding unfilled
unfilled_shown [] h = shown refl
unfilled_shown (c ∷ cs) h =
    let rest = unfilled_shown cs (shown (second_true _ h.each)) in
    chosen (not (c == 32)) (λ _. before (first_true _ h.each) rest) (λ _. rest)

abbrev is_seen_row : UnseenName → Bool
is_seen_row row = list_all is_seen row.1

named_shown : (rows : List UnseenName) (c : ℕ) (legend : List ℕ) → list_all is_seen_row rows ≡ true
    → AreShown legend → AreShown (named_or (name_in rows c) legend)
named_shown [] c legend h k = k
named_shown (row ∷ rows) c legend h k =
    cond_both (row.0 == c) _ _ (λ found. AreShown (named_or (option_map (λ row. row.1) found) legend))
    (λ _. unfilled_shown row.1 (shown (first_true _ h))) (λ _. named_shown rows c legend (second_true _ h) k)

-- a character that isn't coded may stand in a text
plainly_shown : (c : ℕ) → (nat_lt c 32 || c == 127) ≡ false → IsScalar c → is_coded c ≡ false → is_seen c ≡ true
unfolding is_coded is_numbered
plainly_shown c low s e =
    let (seen, plain) = or_parts _ _ e in
    both_true (scalar_shown c low s (or_parts _ _ seen).0 (or_parts _ _ plain).1) (ap not seen)

shown_shown : (c : ℕ) → (nat_lt c 32 || c == 127) ≡ false → IsScalar c → AreShown (shown_legend c)
unfolding shown_legend
shown_shown c low s =
    chosen (is_coded c) (λ _. code_shown c)
    (λ e. chosen (is_mark c) (λ _. before refl (alone (plainly_shown c low s e)))
    (λ _. alone (plainly_shown c low s e)))

other_shown : (c : ℕ) → (nat_lt c 32 || c == 127) ≡ false → IsScalar c → AreShown (other_legend c)
unfolding other_legend unseen_name
other_shown c low s = named_shown UNSEEN_NAMES c (shown_legend c) refl (shown_shown c low s)

pub character_shown : (c : ℕ) → IsScalar c → AreShown (character_legend c)
unfolding character_legend
character_shown c s =
    chosen (c == 0) (λ _. shown refl)
    (λ _. chosen (c == 9) (λ _. shown refl)
    (λ _. chosen (c == 13) (λ _. shown refl)
    (λ _. chosen (nat_lt c 32 || c == 127) (λ _. control_shown c)
    (λ e. chosen (c == 32) (λ _. shown refl) (λ _. other_shown c e s)))))

pub mark_shown : (i : ℕ) → i < 15 → AreShown (marked (accent_mark i))
mark_shown i h = before refl (alone (item_all is_seen ACCENT_MARKS i 0 h refl))

action_legend_shown : (action : Action) → IsAction action → AreShown (action_legend action)
unfolding action_legend
action_legend_shown (a.Screen n) h = joined {a = codes "scr"} (shown refl) (decimal_shown n)
action_legend_shown (a.Function n) h = joined {a = codes "F"} (shown refl) (decimal_shown n)
action_legend_shown (a.DeadKey i) h = mark_shown i h
action_legend_shown (a.Mod m) h = action_shown (a.Mod m) h
action_legend_shown (a.Lock l) h = action_shown (a.Lock l) h
action_legend_shown _ h = shown refl

pub cell_shown : (cell : Cell) → IsCell cell → AreShown (cell_legend cell)
cell_shown (Char c) h = character_shown c h
cell_shown (Act action) h = action_legend_shown action h

-- ---- lines of the printed form

character_text_shown : (c : ℕ) → AreShown (character_text c)
unfolding character_text
character_text_shown c =
    chosen (nat_lt c 32 || c == 127) (λ _. control_shown c)
    (λ e. chosen (nat_lt c 127)
    (λ f. before refl (before (low_shown c (grind (arith, nat_tests)) (grind (arith, nat_tests))) (shown refl)))
    (λ _. joined {a = codes "0x"} (shown refl) (digits_shown c)))

cell_text_shown : (cell : Cell) → IsCell cell → AreShown (word (cell_text cell))
cell_text_shown (Char c) h = joined {a = codes " "} (shown refl) (character_text_shown c)
cell_text_shown (Act action) h = joined {a = codes " "} (shown refl) (action_shown action h)

flag_shown : (f : LockFlag) → AreShown (flag_letter f ∷ [])
flag_shown flag.O = shown refl
flag_shown flag.C = shown refl
flag_shown flag.N = shown refl
flag_shown flag.B = shown refl

slot_shown : (s : ℕ) → s < 256 → AreShown (slot_text s)
slot_shown s h =
    before (low_shown (48 + s / 100) (omega arith) (omega arith))
    (before (low_shown (48 + s / 10 % 10) (omega arith) (omega arith))
    (alone (low_shown (48 + s % 10) (omega arith) (omega arith))))

pub slot_words_shown : (s : ℕ) (e : Entry) → s < 256 → All IsCell e.cells → AreShown (slot_words s e)
unfolding slot_words
slot_words_shown s e low cells =
    joined (slot_shown s low)
    (joined (flat_shown IsCell (λ c. word (cell_text c)) cell_text_shown e.cells cells)
    (joined {a = codes " "} (shown refl) (flag_shown e.flag)))

pair_shown : (p : ℕ × ℕ) → AreShown (pair_text p)
unfolding pair_text
pair_shown p =
    joined {a = codes " ( "} (shown refl) (joined (character_text_shown p.0)
    (joined {a = codes " "} (shown refl) (joined (character_text_shown p.1) (shown refl))))

pub accent_words_shown : (i : ℕ) (accent : AccentValue) → AreShown (accent_words i accent)
unfolding accent_words
accent_words_shown i accent =
    joined (shown (name_all is_seen accent_names refl i)) (joined {a = codes " "} (shown refl)
    (joined (character_text_shown accent.own)
    (flat_shown (λ p. Unit) pair_text (λ p _. pair_shown p) accent.pairs (λ k d _. tt))))

-- each slot is one of a keymap
pub entry_bound : (es : List Entry) (s : ℕ) → All IsEntry es → IsEntry (slice_index_or es s undefined)
entry_bound [] s h = record { eight = refl; cells = All-replicate IsCell 8 (Char 0) refl }
entry_bound (e ∷ es) zero h = All-head IsEntry e es h
entry_bound (e ∷ es) (suc s) h = entry_bound es s (All-tail IsEntry e es h)
