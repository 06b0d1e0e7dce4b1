-- A script has one reading: its lines, read one after another, are events up to the end, or one is the first that is
-- none.
use Rattle.play_core.proofs.Common.{◌≡◌, ℕ, ◌+◌, List, [], ◌∷◌, ◌++◌, length, Option, None, Some, Result, Ok, Err, refl}
use Rattle.play_core.proofs.Common.{ap, subst, ◌∙◌, arith, ◌⊎◌, inl, inr, lt-ltb, le-ltb, LineFault, Form, Key}
use Rattle.play_core.proofs.Common.{ScriptFault, Sent, reading, lines_of, key_of, AreEvents, IsEvent, HasBadKey}
use Rattle.play_core.proofs.Common.{HasBadForm, IsScript, IsScriptFault, IsFaultOf}
use Rattle.play_core.specs.declared.script.ScriptFault.TheVariants.{BadLine, BadKey}
use Rattle.play_core.proofs.ScriptLines.{event_there}
use Rattle.play_core.proofs.Sending.{event_read, reading_is, IsReading}

-- ---- a line

-- a line that is an event is read as it
event_line : (words : List (List ℕ)) (s : Sent) → IsEvent words s → reading words ≡ Ok (Some s)
event_line words s h = event_read words s h.0 ∙ rw (lt-ltb _ _ h.1) refl

-- a line with a bad key is read as that fault
bad_key_line : (words : List (List ℕ)) → HasBadKey words → reading words ≡ Err Key
bad_key_line words (s, sends, large) =
    event_read words s sends ∙ rw (le-ltb (key_of s.what) 128 (omega (arith, large))) refl

-- the reading of a line of the wrong form is that fault
bad_form_at : (words : List (List ℕ)) (r : Result (Option Sent) LineFault) → IsReading words r → HasBadForm words
    → r ≡ Err Form
bad_form_at words (Ok None) h bad = absurd (bad.0 h)
bad_form_at words (Ok (Some s)) h bad = absurd (bad.1 s h.0)
bad_form_at words (Err Key) h bad = absurd (bad.1 h.0 h.1)
bad_form_at words (Err Form) h bad = refl

-- a line of the wrong form is read as that fault
bad_form_line : (words : List (List ℕ)) → HasBadForm words → reading words ≡ Err Form
bad_form_line words bad = bad_form_at words (reading words) (reading_is words (reading words) refl) bad

-- ---- the lines from one with a number on

-- the verdict once a line was read: its fault, or its event in front of those of the rest
abbrev after : Result (Option Sent) LineFault → ℕ → Result (List Sent) ScriptFault → Result (List Sent) ScriptFault
after (Ok None) n rest = rest
after (Ok (Some s)) n (Ok sent) = Ok (s ∷ sent)
after (Ok (Some s)) n (Err f) = Err f
after (Err Form) n rest = Err (BadLine n)
after (Err Key) n rest = Err (BadKey n)

-- what the lines from number n on are read as: all events, or the first fault
unfoldable verdict : ℕ → List (List (List ℕ)) → Result (List Sent) ScriptFault
verdict n [] = Ok []
verdict n (words ∷ lines) = after (reading words) (n + 1) (verdict (n + 1) lines)

-- lines that are events are read as these
events_verdict : (lines : List (List (List ℕ))) (n : ℕ) (sent : List Sent) → AreEvents lines sent
    → verdict n lines ≡ Ok sent
unfolding verdict reading
events_verdict [] n [] h = refl
events_verdict [] n (s ∷ sent) h = absurd h
events_verdict ([] ∷ lines) n sent h = events_verdict lines (n + 1) sent h
events_verdict ((word ∷ words) ∷ lines) n [] h = absurd h
events_verdict ((word ∷ words) ∷ lines) n (s ∷ sent) h =
    rw (event_line (word ∷ words) s h.0, events_verdict lines (n + 1) sent h.1) refl

-- a line with a fault ends the reading
fault_line : (line : List (List ℕ)) (n : ℕ) (f : ScriptFault) (rest : Result (List Sent) ScriptFault)
    → IsFaultOf line n f
    → after (reading line) n rest ≡ Err f
fault_line line n (BadLine m) rest h = rw (bad_form_line line h.1, h.0) refl
fault_line line n (BadKey m) rest h = rw (bad_key_line line h.1, h.0) refl

-- the first line with a fault, behind lines that are events, is the fault
fault_verdict : (before : List (List (List ℕ))) (n : ℕ) (sent : List Sent) (line : List (List ℕ))
    (behind : List (List (List ℕ))) (f : ScriptFault)
    → AreEvents before sent → IsFaultOf line (n + length before + 1) f → verdict n (before ++ line ∷ behind) ≡ Err f
unfolding verdict reading
fault_verdict [] n sent line behind f events first =
    fault_line line (n + 1) f (verdict (n + 1) behind) (subst (λ k. IsFaultOf line k f) (omega arith) first)
fault_verdict ([] ∷ before) n sent line behind f events first =
    fault_verdict before (n + 1) sent line behind f events (subst (λ k. IsFaultOf line k f) (omega arith) first)
fault_verdict ((word ∷ words) ∷ before) n [] line behind f events first = absurd events
fault_verdict ((word ∷ words) ∷ before) n (s ∷ sent) line behind f events first =
    rw (
      event_line (word ∷ words) s events.0,
      fault_verdict before (n + 1) sent line behind f events.1 (subst (λ k. IsFaultOf line k f) (omega arith) first),
    ) refl

-- ---- a script

-- a script is read as its events
script_verdict : (script : List ℕ) (sent : List Sent) → IsScript script sent → verdict 0 (lines_of script) ≡ Ok sent
script_verdict script sent h = events_verdict (lines_of script) 0 sent h

-- a text with a fault is read as that fault
fault_of_script : (script : List ℕ) (f : ScriptFault) → IsScriptFault script f → verdict 0 (lines_of script) ≡ Err f
fault_of_script script f h =
    rw h.split
    (fault_verdict h.before 0 h.sent h.line h.after f h.events
    (subst (λ k. IsFaultOf h.line k f) (omega arith) h.first))

-- a script has one list of events
pub one_list : (script : List ℕ) (xs ys : List Sent) → IsScript script xs → IsScript script ys → xs ≡ ys
one_list script xs ys h k = cc (script_verdict script xs h, script_verdict script ys k)

-- a text has one fault as a script
pub one_fault : (script : List ℕ) (f g : ScriptFault) → IsScriptFault script f → IsScriptFault script g → f ≡ g
one_fault script f g h k = cc (fault_of_script script f h, fault_of_script script g k)

-- no script has a fault
pub not_both : (script : List ℕ) (sent : List Sent) (f : ScriptFault) → IsScript script sent → IsScriptFault script f
    → ⊥
not_both script sent f h k = cc (script_verdict script sent h, fault_of_script script f k)

-- ---- each script has one

-- the first line that is no event, which has a fault whatever its number is
record HasFault (lines : List (List (List ℕ))) : Type 0 where
  before : List (List (List ℕ))
  line : List (List ℕ)
  behind : List (List (List ℕ))
  split : lines ≡ before ++ line ∷ behind
  sent : List Sent
  events : AreEvents before sent
  first : (n : ℕ) → (f : ScriptFault) × IsFaultOf line n f

-- lines are events, or one is the first with a fault
abbrev Judged : List (List (List ℕ)) → Type 0
Judged lines = ((sent : List Sent) × AreEvents lines sent) ⊎ HasFault lines

-- the event of a line in front of the others, if it has one
abbrev in_front : Option Sent → List Sent → List Sent
in_front None sent = sent
in_front (Some s) sent = s ∷ sent

-- a line without a word, or an event, before events
front-events : (words : List (List ℕ)) (o : Option Sent) (lines : List (List (List ℕ))) (sent : List Sent)
    → IsReading words (Ok o) → AreEvents lines sent → AreEvents (words ∷ lines) (in_front o sent)
front-events words None lines sent none h = rw none h
front-events words (Some s) lines sent is h = rw (event_there words s is.0) (is, h)

-- a line without a word, or an event, before others
front-judged : (words : List (List ℕ)) (o : Option Sent) (lines : List (List (List ℕ))) → IsReading words (Ok o)
    → Judged lines → Judged (words ∷ lines)
front-judged words o lines is (inl (sent, h)) = inl (in_front o sent, front-events words o lines sent is h)
front-judged words o lines is (inr h) = inr (record {
  before = words ∷ h.before;
  line = h.line;
  behind = h.behind;
  split = ap (λ l. words ∷ l) h.split;
  sent = in_front o h.sent;
  events = front-events words o h.before h.sent is h.events;
  first = h.first;
})

-- a line that is none
here : (words : List (List ℕ)) (lines : List (List (List ℕ))) → ((n : ℕ) → (f : ScriptFault) × IsFaultOf words n f)
    → Judged (words ∷ lines)
here words lines first = inr (record {
  before = [];
  line = words;
  behind = lines;
  split = refl;
  sent = [];
  events = tt;
  first = first;
})

-- a further line, by its reading
judged_by : (words : List (List ℕ)) (lines : List (List (List ℕ))) (r : Result (Option Sent) LineFault)
    → IsReading words r → Judged lines → Judged (words ∷ lines)
judged_by words lines (Ok o) h rest = front-judged words o lines h rest
judged_by words lines (Err Key) h rest = here words lines (λ n. (BadKey n, (refl, h)))
judged_by words lines (Err Form) h rest = here words lines (λ n. (BadLine n, (refl, h)))

-- any lines are events, or one is the first with a fault
judged : (lines : List (List (List ℕ))) → Judged lines
judged [] = inl ([], tt)
judged (words ∷ lines) = judged_by words lines (reading words) (reading_is words (reading words) refl) (judged lines)

-- what the lines are, a script is
found : (script : List ℕ) → Judged (lines_of script)
    → ((sent : List Sent) × IsScript script sent) ⊎ ((f : ScriptFault) × IsScriptFault script f)
found script (inl h) = inl h
found script (inr h) =
    let first : (f : ScriptFault) × IsFaultOf h.line (length h.before + 1) f = h.first (length h.before + 1) in
    inr (
      first.0,
      record {
        before = h.before;
        line = h.line;
        after = h.behind;
        split = h.split;
        sent = h.sent;
        events = h.events;
        first = first.1;
      },
    )

-- each text is a script or has a fault
pub one_of_them : (script : List ℕ)
    → ((sent : List Sent) × IsScript script sent) ⊎ ((f : ScriptFault) × IsScriptFault script f)
one_of_them script = found script (judged (lines_of script))
