-- What is scanned is plain.
use Rattle.keymap_draw.proofs.Common.{◌≡◌, ℕ, ◌<◌, List, [], ◌∷◌, Option, Some, None, sym, ◌∙◌, rules}
use Rattle.keymap_draw.proofs.Common.{All, get_or, not-true, All-nil, All-cons, AccentValue, IsCell}
use Rattle.keymap_draw.proofs.Common.{is_unseen, Cell, Entry, slot_words, accent_words, cell_legend, Fact, State, Tells}
use Rattle.keymap_draw.proofs.Common.{none-some, start, step, scan, is_seen, each}
use Rattle.keymap_draw.specs.WellFormed.{IsPlain, IsShown, IsSeen}
use Rattle.keymap_draw.proofs.Scans.{first_true, second_true, failed}
use Rattle.keymap_draw.proofs.Texts.{AreShown, cell_shown, slot_words_shown, accent_words_shown}

scanned_plain : (bs : List ℕ) (o : Option State) (t : State) → scan o bs ≡ Some t → All IsPlain bs
scanned_plain [] o t h = All-nil IsPlain
scanned_plain (b ∷ bs) None t h = absurd (none-some t (sym (failed bs) ∙ h))
scanned_plain (b ∷ bs) (Some s) t h =
    search (rules, All-cons, none-some, failed, scanned_plain bs (step (Some s) b) t h)

pub told_plain : (fs : List Fact) (bytes : List ℕ) → Tells fs bytes → All IsPlain bytes
told_plain fs bytes h = scanned_plain bytes (Some start) _ h.scanned

each_shown : (cs : List ℕ) → AreShown cs → All IsShown cs
each_shown cs h k d l =
    first_true _ (each is_seen cs h.each k d l)

each_seen : (cs : List ℕ) → AreShown cs → All IsSeen cs
each_seen cs h k d l =
    not-true (is_unseen (get_or cs k d))
    (second_true _ (each is_seen cs h.each k d l))

pub legend_shown : (cell : Cell) → IsCell cell → All IsShown (cell_legend cell)
legend_shown cell is = each_shown (cell_legend cell) (cell_shown cell is)

pub legend_seen : (cell : Cell) → IsCell cell → All IsSeen (cell_legend cell)
legend_seen cell is = each_seen (cell_legend cell) (cell_shown cell is)

pub key_title_seen : (slot : ℕ) (e : Entry) → slot < 256 → All IsCell e.cells → All IsSeen (slot_words slot e)
key_title_seen slot e low is = each_seen (slot_words slot e) (slot_words_shown slot e low is)

pub accent_title_seen : (i : ℕ) (accent : AccentValue) → All IsSeen (accent_words i accent)
accent_title_seen i accent = each_seen (accent_words i accent) (accent_words_shown i accent)

pub ruleset shown_laws = (legend_shown, legend_seen, key_title_seen, accent_title_seen)
