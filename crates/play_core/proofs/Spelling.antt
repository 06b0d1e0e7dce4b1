-- The lines that are written are a script of what they send.
use Rattle.play_core.proofs.Common.{◌≡◌, ℕ, ◌<◌, Bool, true, false, eqb, List, [], ◌∷◌, ◌++◌, length, map, refl, sym}
use Rattle.play_core.proofs.Common.{ap, subst, ◌∙◌, arith, decimal, append_assoc, lit<, codes, AllZip, rules}
use Rattle.play_core.proofs.Common.{slice_split, flat_map, digits_value, filter-append, Event, What, Down, Repeat, Up}
use Rattle.play_core.proofs.Common.{Reset, Load, Sent, delivered, is_there, parts_of, words_in, words_of, lines_of}
use Rattle.play_core.proofs.Common.{IsNumber, Tells, mark_of, key_of, IsEvent, IsScript, text_of, sent_in}
use Rattle.std.specs.Str.Parse.{IsNumeral}
use Rattle.std.proofs.lemmas.Fmt.{decimal_is_IsNumeral}
use Rattle.std.proofs.lemmas.List.{map-append}
use Rattle.std.proofs.lemmas.List.Elements.{All-head, All-tail}
use Rattle.console_core.specs.History.{HasKey, HasKeys}
use Rattle.play_core.specs.Spelling.{command_text, mark_text, sent_text, Line, sends, says, line_text, sent_by}
use Rattle.play_core.specs.Spelling.{has_line_feed, IsWritable, AreWritable, what_of, sent_of, event_line}
use Rattle.play_core.proofs.PlainLines.{one_part, split-joined, HasWords, line_words, one_word, words-joined}
use Rattle.play_core.proofs.PlainLines.{number_words, NamesKey, down_names, repeat_names, up_names}
use Rattle.play_core.proofs.ScriptLines.{event_there}
use Rattle.console_core.specs.declared.event.Event.TheVariants as event

-- ---- scripts that are joined

-- the lines of two scripts with a line feed between
lines-joined : (a b : List ℕ) → lines_of (a ++ 10 ∷ b) ≡ lines_of a ++ lines_of b
unfolding lines_of parts_of
lines-joined a b =
    ap (λ l. map words_of l) (split-joined (λ x. eqb x 10) a b 10 refl)
    ∙ map-append words_of (slice_split (λ x. eqb x 10) a) (slice_split (λ x. eqb x 10) b)

-- related lists, one behind the other
zip-append : {A B : Type 0} (R : A → B → Type 0) (xs xs' : List A) (ys ys' : List B) → AllZip R xs ys → AllZip R xs' ys'
    → AllZip R (xs ++ xs') (ys ++ ys')
zip-append R [] xs' [] ys' h k = k
zip-append R [] xs' (y ∷ ys) ys' h k = absurd h
zip-append R (x ∷ xs) xs' [] ys' h k = absurd h
zip-append R (x ∷ xs) xs' (y ∷ ys) ys' h k = (h.0, zip-append R xs xs' ys ys' h.1 k)

-- two scripts with a line feed between are a script of what the first sends and then the second
pub script-joined : (a b : List ℕ) (xs ys : List Sent) → IsScript a xs → IsScript b ys
    → IsScript (a ++ 10 ∷ b) (xs ++ ys)
script-joined a b xs ys h k = search (rules, lines-joined, filter-append, zip-append)

-- no bytes are a script of nothing
pub script-nil : IsScript [] []
unfolding lines_of parts_of words_in
script-nil = tt

-- ---- one line

-- a text without a line feed is one line
one_line : (text : List ℕ) → has_line_feed text ≡ false → lines_of text ≡ words_of text ∷ []
unfolding lines_of parts_of
one_line text e = ap (λ l. map words_of l) (one_part (λ b. eqb b 10) text e)

-- a line that is an event is a script of it
event-script : (line : List ℕ) (s : Sent) → has_line_feed line ≡ false → IsEvent (words_of line) s
    → IsScript line (s ∷ [])
event-script line s e h = rw (one_line line e, event_there (words_of line) s h.0) (h, tt)

-- a comment is a script of nothing
comment-script : (text : List ℕ) → has_line_feed text ≡ false → IsScript (35 ∷ text) []
unfolding words_in
comment-script text e = rw (one_line (35 ∷ text) e) tt

-- ---- the line of what is sent

-- the text is a command that tells of this
abbrev IsCommand : List ℕ → What → Type 0
IsCommand text w = (words : List (List ℕ)) × HasWords text words × Tells words w

-- a number below 128 is written in digits, and is told by them
number_is : (k : ℕ) → k < 128 → IsNumber (decimal k) k × (is_there (decimal k) ≡ true)
number_is k lt =
    let n : IsNumeral 10 (decimal k) × (digits_value 10 (decimal k) ≡ k) = decimal_is_IsNumeral k (omega (arith, lt)) in
    ((n.0.1, sym n.1), there (decimal k) n.0.0)
  where
    there : (ds : List ℕ) → 0 < length ds → is_there ds ≡ true
    there [] lt = absurd (omega (arith, lt))
    there (d ∷ ds) lt = refl

-- a word, a blank and the number of a key
number_command : (word : List ℕ) (what : ℕ → What) (k : ℕ) → NamesKey word what → k < 128
    → IsCommand ((word ++ 32 ∷ []) ++ decimal k) (what k)
number_command word what k names lt =
    let n = number_is k lt in (
      word ∷ decimal k ∷ [],
      words-joined word (decimal k) (word ∷ []) (decimal k ∷ []) names.words (number_words (decimal k) n.0.0 n.1),
      names.tells (decimal k) k n.0,
    )

-- the text of a command tells it
command-is : (w : What) → key_of w < 128 → IsCommand (command_text w) w
command-is (Down k) lt = number_command (codes "down") (λ k. Down k) k down_names lt
command-is (Repeat k) lt = number_command (codes "repeat") (λ k. Repeat k) k repeat_names lt
command-is (Up k) lt = number_command (codes "up") (λ k. Up k) k up_names lt
command-is Reset lt = (codes "reset" ∷ [], one_word (codes "reset") refl refl refl refl, refl)
command-is Load lt = (codes "load" ∷ [], one_word (codes "load") refl refl refl refl, refl)

-- a command with its mark
marked : (lost : Bool) (text : List ℕ) (words : List (List ℕ)) → HasWords text words
    → HasWords (mark_text lost ++ text) (mark_of lost ++ words)
marked true text words h =
    words-joined (codes "lost") text (codes "lost" ∷ []) words (one_word (codes "lost") refl refl refl refl) h
marked false text words h = h

-- a line with its mark is the event
marked-script : (s : Sent) → key_of s.what < 128 → IsScript (sent_text s) (s ∷ [])
marked-script s lt =
    let c : IsCommand (command_text s.what) s.what = command-is s.what lt in
    let line : HasWords (sent_text s) (mark_of s.lost ++ c.0) = marked s.lost (command_text s.what) c.0 c.1 in
    event-script (sent_text s) s line.feed ((c.0, line_words (sent_text s) _ line, c.2), lt)

-- ---- lines

-- a line before a script
pub line-script : (line : Line) (rest : List ℕ) (sent : List Sent) → IsWritable line → IsScript rest sent
    → IsScript (line_text line ++ rest) (sent_by line ++ sent)
line-script (sends s) rest sent lt h =
    subst (λ t. IsScript t (s ∷ sent)) (sym (append_assoc (sent_text s) (10 ∷ []) rest))
    (script-joined (sent_text s) rest (s ∷ []) sent (marked-script s lt) h)
line-script (says text) rest sent feed h =
    subst (λ t. IsScript t sent) (sym (append_assoc (35 ∷ text) (10 ∷ []) rest))
    (script-joined (35 ∷ text) rest [] sent (comment-script text feed) h)

-- the lines are a script of what they send
pub lines-script : (lines : List Line) → AreWritable lines → IsScript (text_of lines) (sent_in lines)
lines-script [] w = script-nil
lines-script (line ∷ lines) w =
    line-script line (text_of lines) (sent_in lines) (All-head IsWritable line lines w)
    (lines-script lines (All-tail IsWritable line lines w))

-- ---- lines of events

-- a press or a release has the number of a key
key_of-sent : (e : Event) → HasKey e → key_of (what_of e) < 128
key_of-sent (event.Press k) lt = lt
key_of-sent (event.Release k) lt = lt
key_of-sent _ _ = lit< tt

-- the lines of events on keys are a script of them
pub events-script : (events : List Event) → HasKeys events → IsScript (flat_map event_line events) (map sent_of events)
events-script [] keys = script-nil
events-script (e ∷ events) keys =
    line-script (sends (sent_of e)) (flat_map event_line events) (map sent_of events)
    (key_of-sent e (All-head HasKey e events keys)) (events-script events (All-tail HasKey e events keys))

-- what is sent of events delivers them
pub delivers : (events : List Event) → delivered (map sent_of events) ≡ events
delivers [] = refl
delivers (event.Press k ∷ events) = ap (λ l. event.Press k ∷ l) (delivers events)
delivers (event.Release k ∷ events) = ap (λ l. event.Release k ∷ l) (delivers events)
delivers (event.Reset ∷ events) = ap (λ l. event.Reset ∷ l) (delivers events)
delivers (event.Load ∷ events) = ap (λ l. event.Load ∷ l) (delivers events)
