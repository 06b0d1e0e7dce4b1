-- Events behind others: what is sent for them, and whether a key is pressed after them. What the line of a change
-- tells.
use Rattle.std.proofs.Common.{rules}
use Rattle.script_text.proofs.Common.{◌≡◌, ℕ, ◌+◌, ◌<◌, Bool, true, false, List, [], ◌∷◌, ◌++◌, length, take, get_or}
use Rattle.script_text.proofs.Common.{reverse, if◌then◌else◌, refl, ◌∙◌, append_assoc, append-nil, flat_map}
use Rattle.script_text.proofs.Common.{Event, MapValue, inl}
use Rattle.std.specs.Prelude.{◌||◌, ◌&&◌, not, ◌==◌, ⊤}
use Rattle.std.proofs.lemmas.Grind.{flat_map-append}
use Rattle.std.proofs.lemmas.List.{reverse-append, take_more}
use Rattle.console_core.proofs.Shared.{pressed-load, pressed-press, pressed-release, pressed-reset}
use Rattle.console_core.proofs.Shared.{reverse-cons}
use Rattle.console_core.specs.History.{pressed}
use Rattle.console_core.specs.declared.event.Event.TheVariants as event
use Rattle.play_core.specs.Spelling.{sent_line}
use Rattle.keymap_diff.specs.Changes.{IsMark}
use Rattle.keymap_diff.specs.declared.change.Change.TheVariants as change
use Rattle.script_text.specs.Diff.{is_pressed_by, sent_along, sent_behind, LinesTellChanges}

by_press : (a b : Bool) → (if b then true else a) ≡ (a || b)
by_press true true = refl
by_press true false = refl
by_press false true = refl
by_press false false = refl

by_release : (a b : Bool) → (if b then false else a) ≡ (a && not b)
by_release true true = refl
by_release true false = refl
by_release false true = refl
by_release false false = refl

-- whether a key is pressed after a further event
pressed_on : (k : ℕ) (e : Event) (h : List Event) → pressed k (e ∷ h) ≡ is_pressed_by e k (pressed k h)
pressed_on k (event.Press j) h = pressed-press k j h ∙ by_press (pressed k h) (j == k)
pressed_on k (event.Release j) h = pressed-release k j h ∙ by_release (pressed k h) (j == k)
pressed_on k event.Reset h = pressed-reset k h
pressed_on k event.Load h = pressed-load k h

-- the first events of a list, and the next one, with the newest first
reverse_more : (es : List Event) (i : ℕ) (e : Event) → i < length es → e ≡ get_or es i e
    → reverse (take (i + 1) es) ≡ e ∷ reverse (take i es)
reverse_more es i e low at =
    let more = take_more es i e low in
    let swapped = reverse-append (take i es) (e ∷ []) in cc (more, at, swapped)

pub pressed_more : (k : ℕ) (es : List Event) (i : ℕ) (e : Event) (was : Bool) → i < length es → e ≡ get_or es i e
    → was ≡ pressed k (reverse (take i es)) → is_pressed_by e k was ≡ pressed k (reverse (take (i + 1) es))
pressed_more k es i e was low at so = search (rules, pressed_on, reverse_more)

-- what is sent for events, and for one behind them
sent_behind_all : (h es : List Event) (e : Event)
    → sent_along h (es ++ e ∷ []) ≡ sent_along h es ++ sent_behind (reverse es ++ h) e ∷ []
sent_behind_all h [] e = refl
sent_behind_all h (x ∷ es) e = search (rules, reverse-cons, sent_behind_all (x ∷ h) es e)

-- the lines of the first events, and that of the next one
lines_more : (es : List Event) (i : ℕ) (e : Event) → i < length es → e ≡ get_or es i e
    → flat_map sent_line (sent_along [] (take (i + 1) es))
    ≡ flat_map sent_line (sent_along [] (take i es)) ++ sent_line (sent_behind (reverse (take i es)) e)
lines_more es i e low at =
    let more = take_more es i e low in
    let sent = sent_behind_all [] (take i es) e in
    let whole = append-nil (reverse (take i es)) in
    let lines = flat_map-append sent_line (sent_along [] (take i es)) (sent_behind (reverse (take i es)) e ∷ []) in
    let one = append-nil (sent_line (sent_behind (reverse (take i es)) e)) in cc (more, at, sent, whole, lines, one)

pub script_more : (es before : List Event) (i : ℕ) (e : Event) (old all more : List ℕ)
    → more ≡ all ++ sent_line (sent_behind (reverse before) e)
    → all ≡ old ++ flat_map sent_line (sent_along [] (take i es)) → before ≡ take i es → i < length es
    → e ≡ get_or es i e → more ≡ old ++ flat_map sent_line (sent_along [] (take (i + 1) es))
script_more es before i e old all more line so front low at =
    search (rules, lines_more, append_assoc)

-- what a press meets in any case isn't unseen
met : (known : Bool) (m n : MapValue) → IsMark known m n (λ _. ⊤) false
met true m n = inl tt
met false m n = refl

pub lines_tell_changes : LinesTellChanges
lines_tell_changes known m n (change.Slots a b) (x, y, _) = (met known m n, rw (x, y) refl)
lines_tell_changes known m n (change.Cell s c a b u) (_, _, x, y, _, mark) = (mark, rw (x, y) refl)
lines_tell_changes known m n (change.Letter s a b u) (_, x, y, _, mark) = (mark, rw (x, y) refl)
lines_tell_changes known m n (change.Accents a b) (x, y, _) = (met known m n, rw (x, y) refl)
lines_tell_changes known m n (change.Accent i a b u) (_, x, y, _, mark) = (mark, rw (x, y) refl)
lines_tell_changes known m n (change.Pair i base a b u) (_, x, y, _, mark) = (mark, rw (x, y) refl)
lines_tell_changes known m n (change.ListedOtherwise i) is = (met known m n, refl)
