-- What is printed of two keymaps is a script of the events that tell them apart.
use Rattle.std.proofs.Common.{rules, ◌==◌}
use Rattle.script_text.proofs.Common.{◌≡◌, ℕ, ◌<◌, true, false, List, [], ◌∷◌, ◌++◌, refl, sym, ap, subst, ◌∙◌}
use Rattle.script_text.proofs.Common.{append-nil, length, lit<, range_with_len, reverse, codes, flat_map}
use Rattle.script_text.proofs.Common.{reverse-reverse, All}
use Rattle.script_text.proofs.Common.{All-head, All-tail, All-reversed, MapValue, HasKey, HasKeys, Event, Sent}
use Rattle.script_text.proofs.Common.{IsScript, sends, line-script, one_list}
use Rattle.std.specs.Prelude.{◌≢◌}
use Rattle.std.proofs.Common.{arith}
use Rattle.std.specs.Prelude.{Bool, cond, not, suc, take, ◌+◌}
use Rattle.std.specs.List.{prefix_len}
use Rattle.std.proofs.lemmas.Bool.{cond_both, true≢false}
use Rattle.std.proofs.lemmas.List.Elements.{All-nil}
use Rattle.keymap_core.specs.Numbers.{key_count}
use Rattle.console_core.proofs.Shared.{reverse-cons}
use Rattle.console_core.specs.History.{pressed}
use Rattle.console_core.specs.declared.event.Answer.{Answer}
use Rattle.console_core.specs.declared.event.Event.TheVariants as event
use Rattle.console_states.specs.Sticking.{IsOfPressedKey, IsPressOrRelease, ReleasesPressedKeys}
use Rattle.keymap_diff.proofs.Shared.{told_lists_differ_at_last}
use Rattle.keymap_diff.specs.Telling.{DifferAtLast, IsTelling, IsToldBy}
use Rattle.keymap_diff.specs.declared.change.Change.{Change}
use Rattle.keymap_diff.specs.declared.telling.Telling.{Telling}
use Rattle.keymap_diff.specs.declared.telling.Telling.TheVariants.{Told, Never, Undecided}
use Rattle.play_core.specs.Delivery.{delivered}
use Rattle.play_core.specs.Scripts.{key_of}
use Rattle.play_core.specs.Spelling.{sent_line, sent_of}
use Rattle.play_core.specs.declared.sent.What.TheVariants as what
use Rattle.script_text.proofs.Comments.{Adds, IsInLine, adds-nil, adds-script, quiet-comment, quiet-flat, quiet-if}
use Rattle.script_text.proofs.Comments.{◌⊳◌}
use Rattle.script_text.specs.Comments.{first_line, is_in_line, said_line, said_lines}
use Rattle.script_text.specs.Diff.{IsDiffText, begins_line, change_at, diff_text, line_at, line_from, line_words}
use Rattle.script_text.specs.Diff.{line_text}
use Rattle.script_text.specs.Diff.{lines_text, same_text, sent_along, sent_behind, verdict_line, verdict_words}
use Rattle.script_text.specs.Replayed.{FitsKeys, TellingReplays}
use Rattle.script_text.proofs.DiffLines.{verdict-line, words-line}
use Rattle.std.specs.Global.{Vec}

-- ---- the comments before the events

pub quiet-said : (words : List ℕ) → IsInLine words → Adds (said_line words) []
quiet-said words h = quiet-comment (codes " {}") (words ∷ []) refl (h, tt)

one-more-in-line : (n b : ℕ) (text : List ℕ) → is_in_line b ≡ true → IsInLine (take n text)
    → IsInLine (take (1 + n) (b ∷ text))
one-more-in-line n b text is rest =
    let e : suc n ≡ 1 + n = omega arith in
    let first : IsInLine (b ∷ take n text) = rw is rest in
    subst (λ k. IsInLine (take k (b ∷ text))) e first

pub first-in-line : (text : List ℕ) → IsInLine (first_line text)
first-in-line [] = refl
first-in-line (b ∷ text) = go (b == 10) refl (first-in-line text)
  where
    go : (t : Bool) → (b == 10) ≡ t → IsInLine (first_line text)
        → IsInLine (take (cond (not t) (1 + prefix_len (λ x. not (x == 10)) text) 0) (b ∷ text))
    go true is rest = refl
    go false none rest =
        one-more-in-line (prefix_len (λ x. not (x == 10)) text) b text (rw none refl) rest

pub quiet-told : (told : List (Vec ℕ)) → Adds (said_lines told) []
quiet-told told =
    quiet-flat (λ (l : Vec ℕ). said_line (first_line l.items))
    (λ l. quiet-said (first_line l.items) (first-in-line l.items)) told

quiet-line : (x : Change) (line : List Change) → Adds (line_text x line) []
quiet-line x line = quiet-said (line_words x line) (words-line x line)

quiet-lines : (found : List Change) → Adds (lines_text found) []
quiet-lines found =
    quiet-flat (line_at found)
    (λ i. quiet-if (begins_line found i) _ (quiet-line (change_at found i) (line_from found i)))
    (range_with_len 0 (length found))

quiet-verdict : (t : Telling) → Adds (verdict_line t) []
quiet-verdict t = quiet-said (verdict_words t) (verdict-line t)

-- ---- the events

-- what is sent for a press, as a repeat and not
abbrev repeated : ℕ → Sent
repeated k = record { lost = false; what = what.Repeat k }

abbrev pressed_down : ℕ → Sent
pressed_down k = sent_of (event.Press k)

-- a press or a release is of a key, whether the press is a repeat
writable : (h : List Event) (e : Event) → HasKey e → key_of (sent_behind h e).what < key_count
writable h (event.Press k) lt =
    cond_both (pressed k h) (repeated k) (pressed_down k) (λ (s : Sent). key_of s.what < key_count) (λ _. lt) (λ _. lt)
writable h (event.Release k) lt = lt
writable h event.Reset _ = lit< tt
writable h event.Load _ = lit< tt

-- the lines of events behind others send these
events-add : (h events : List Event) → HasKeys events
    → Adds (flat_map sent_line (sent_along h events)) (sent_along h events)
events-add h [] keys = adds-nil
events-add h (e ∷ events) keys =
    let s : Sent = sent_behind h e in
    let lt = writable h e (All-head HasKey e events keys) in
    let line : Adds (sent_line s) (s ∷ []) =
    record { before = λ rest sent is. line-script (sends s) rest sent lt is } in
    line ⊳ events-add (e ∷ h) events (All-tail HasKey e events keys)

-- what is sent for an event delivers it
delivers-one : (h : List Event) (e : Event) (rest : List Sent)
    → delivered (sent_behind h e ∷ rest) ≡ e ∷ delivered rest
delivers-one h (event.Press k) rest = search (rules, cond_both)
delivers-one h (event.Release k) rest = refl
delivers-one h event.Reset rest = refl
delivers-one h event.Load rest = refl

delivers-all : (h events : List Event) → delivered (sent_along h events) ≡ events
delivers-all h [] = refl
delivers-all h (e ∷ events) =
    delivers-one h e (sent_along (e ∷ h) events) ∙ ap (λ l. e ∷ l) (delivers-all (e ∷ h) events)

-- ---- what is sent fits the keys

fits-one : (h : List Event) (e : Event) → IsPressOrRelease e → IsOfPressedKey e h
    → ((sent_behind h e).lost ≡ false) × FitsKeys h (sent_behind h e).what
fits-one h (event.Press k) is down = search (rules, cond_both)
fits-one h (event.Release k) is down = (refl, down)
fits-one h event.Reset is down = absurd is
fits-one h event.Load is down = absurd (true≢false (sym is))

-- a release behind others is of a key that is pressed after them
releases-at : (later h : List Event) (e : Event) → ReleasesPressedKeys (later ++ e ∷ h) → IsOfPressedKey e h
releases-at [] h e is = is.0
releases-at (x ∷ later) h e is = releases-at later h e is.1

fits : (h events : List Event) → All IsPressOrRelease events → ReleasesPressedKeys (reverse events ++ h)
    → (before after : List Sent) (s : Sent) → sent_along h events ≡ before ++ s ∷ after
    → (s.lost ≡ false) × FitsKeys (reverse (delivered before) ++ h) s.what
fits h [] sent releases [] after s e = let f : [] ≡ s ∷ after = e in cc
fits h [] sent releases (b ∷ before) after s e = let f : [] ≡ b ∷ (before ++ s ∷ after) = e in cc
fits h (x ∷ events) sent releases [] after s e =
    search (rules, fits-one, All-head, releases-at, reverse-cons)
fits h (x ∷ events) sent releases (b ∷ before) after s e =
    search (
      rules,
      All-tail,
      reverse-cons,
      delivers-one,
      fits (x ∷ h) events (All-tail IsPressOrRelease x events sent),
    )

-- ---- the whole text

-- the two answers to the newest event differ
differ : (m n : MapValue) (h : List Event) (a b : Answer) → IsToldBy m n h a b → a ≢ b
differ m n [] a b told same = told.old_answer
differ m n (e ∷ h) a b told same = told.apart (told.old_answer ∙ same ∙ sym told.new_answer)

-- the comments and then the events
text-adds : (t : Telling) (told : List (Vec ℕ)) (found : List Change) (events : List Event) → HasKeys events
    → Adds (verdict_line t ++ said_lines told ++ lines_text found ++ flat_map sent_line (sent_along [] events))
    (sent_along [] events)
text-adds t told found events keys =
    quiet-verdict t ⊳ quiet-told told ⊳ quiet-lines found ⊳ events-add [] events keys

in-order : (P : Event → Type 0) (events : List Event) → All P (reverse events) → All P events
in-order P events all = subst (All P) (reverse-reverse events) (All-reversed P (reverse events) all)

pub telling-replays : (m n : MapValue) (found : List Change) (t : Telling) (text : List ℕ) → IsTelling m n t
    → IsDiffText t found text → TellingReplays m n text t
telling-replays m n found (Told events a b) text is (lines, e) =
    let told = is.0 in
    let es : List Event = events.items in
    let sent : List Sent = sent_along [] es in
    let all : List ℕ = diff_text (Told events a b) lines found in
    let script : IsScript text sent =
    subst (λ z. IsScript z sent) (sym e)
    (adds-script all sent (text-adds (Told events a b) lines found es (in-order HasKey es told.keys))) in
    let delivers : delivered sent ≡ es = delivers-all [] es in
    record {
      sent = sent;
      is = script;
      nothing_else = λ others is. one_list text others sent is script;
      delivers = delivers;
      fit = λ before after s e.
          let so = fits [] es (in-order IsPressOrRelease es told.sent)
          (subst ReleasesPressedKeys (sym (append-nil (reverse es))) told.releases) before after s e in
          (so.0, subst (λ z. FitsKeys z s.what) (append-nil (reverse (delivered before))) so.1);
      answers = subst (λ z. DifferAtLast m n z a b) (reverse-reverse es ∙ sym delivers)
          (told_lists_differ_at_last m n (reverse es) a b told is.1);
      differ = differ m n (reverse es) a b told;
    }
telling-replays m n found (Never forgets) text is (lines, e) =
    subst (λ z. IsScript z []) (sym e)
    (adds-script (diff_text (Never forgets) lines found) []
    (text-adds (Never forgets) lines found [] (All-nil HasKey)))
telling-replays m n found (Undecided p) text is (lines, e) =
    subst (λ z. IsScript z []) (sym e)
    (adds-script (diff_text (Undecided p) lines found) []
    (text-adds (Undecided p) lines found [] (All-nil HasKey)))

pub same-script : IsScript same_text []
same-script = adds-script same_text [] (quiet-comment (codes " same") [] refl tt)
