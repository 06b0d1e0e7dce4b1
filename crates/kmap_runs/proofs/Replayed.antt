-- The printed scripts are scripts, and what they do when they are played.
use Rattle.kmap_runs.proofs.Common.{take, drop, ◌-◌, ◌≡◌, ℕ, Bool, true, false, List, [], ◌∷◌, ◌++◌}
use Rattle.kmap_runs.proofs.Common.{map, Option, Some, None, refl, sym, ap, subst, ◌∙◌, append_assoc}
use Rattle.kmap_runs.proofs.Common.{append-nil, lit<, if◌then◌else◌, decimal, Ok, reverse, encode_utf8, rules}
use Rattle.kmap_runs.proofs.Common.{flat_map, reverse-reverse, All-head, All-tail, All-take, MapValue}
use Rattle.kmap_runs.proofs.Common.{Spells, Event, HasKey, HasKeys, Keyed, Typing, Sent, Plays, moves}
use Rattle.kmap_runs.proofs.Common.{IsScript, sends, event_line, played_text, line-script, one_list, code_text}
use Rattle.kmap_runs.proofs.Common.{modifier_name, is_unseen, shown, is_line_feed, comment_if, lines_from}
use Rattle.kmap_runs.proofs.Common.{typing_script, All-reversed, codes}
use Rattle.std.specs.Prelude.{◌≢◌}
use Rattle.std.proofs.lemmas.Bool.{true≢false}
use Rattle.std.proofs.lemmas.List.{map-append, take-append-drop}
use Rattle.std.proofs.lemmas.List.Elements.{All-drop}
use Rattle.keymap_core.specs.declared.action.Modifier.{Modifier}
use Rattle.keymap_core.specs.declared.action.Modifier.TheVariants.{LeftShift}
use Rattle.keymap_text.specs.Sources.{TakesWhole, ReadsMap}
use Rattle.keymap_text.proofs.Shared.{one_map}
use Rattle.console_core.specs.History.{Maps, answers_to}
use Rattle.console_states.specs.declared.outcome.Sticking.{Sticking}
use Rattle.console_scripts.specs.Typing.{AreTyped}
use Rattle.console_states.specs.declared.outcome.Sticking.TheVariants.{Sticks, Never, Undecided}
use Rattle.console_states.specs.Moves.{alone as alone-moves, with_loads}
use Rattle.keymap_check.specs.Report.{report_of}
use Rattle.keymap_check.specs.Scripts.{demonstration_of}
use Rattle.keymap_check.proofs.Shared.{demonstrations_leave_modifiers_on}
use Rattle.play_core.specs.Spelling.{IsWritable, sent_of}
use Rattle.kmap_runs.specs.Sentences.{alone, IsTyped}
use Rattle.play_core.specs.Written.{typed_text, text_after}
use Rattle.play_core.proofs.Shared.{delivers, events-script}
use Rattle.kmap_runs.specs.Report.{check_text, demonstration_text, report}
use Rattle.kmap_runs.specs.Search.{script_text, found_text}
use Rattle.kmap_runs.specs.Runs.{IsFoundUnder, TypesSentence}
use Rattle.keyboard.specs.declared.board.Board.{Board}
use Rattle.kmap_runs.specs.Replayed.{ScriptTypes, Delivers, AnswerReplays, AnswerReplaysBetween, ShowsDemonstration}
use Rattle.kmap_runs.specs.Replayed.{ShowsScript}
use Rattle.keymap_names.proofs.Shared.{code_text_line}
use Rattle.script_text.proofs.Shared.{IsInLine, comment-alone, comment-before, decimal-line, encoded-line, flat-line}
use Rattle.script_text.proofs.Shared.{in-line}
use Rattle.console_core.specs.declared.event.Event.TheVariants as event
use Rattle.play_core.specs.declared.show.Show.TheVariants as show

-- ---- what comments show

-- a line feed is hidden
not_feed : (c : ℕ) → is_unseen c ≡ false → c ≢ 10
not_feed c h e = true≢false (subst (λ x. is_unseen x ≡ false) e h)

-- what is shown of a character, whether it is hidden
shown_by : (t : Bool) (c : ℕ) → is_unseen c ≡ t → IsInLine (if t then code_text c else encode_utf8 c)
shown_by true c h = in-line (code_text c) (code_text_line c)
shown_by false c h = encoded-line c (not_feed c h)

shown-line : (c : ℕ) → IsInLine (shown c)
unfolding shown
shown-line c = shown_by (is_unseen c) c refl

modifier-line : (i : Modifier) → IsInLine (modifier_name i)
modifier-line LeftShift = refl
modifier-line _ = refl

-- ---- lines before a script

-- a press or a release is of a key
writable : (e : Event) → HasKey e → IsWritable (sends (sent_of e))
writable (event.Press k) lt = lt
writable (event.Release k) lt = lt
writable event.Reset _ = lit< tt
writable event.Load _ = lit< tt

-- lines of events before a script
events-before : (events : List Event) (rest : List ℕ) (sent : List Sent) → HasKeys events → IsScript rest sent
    → IsScript (flat_map event_line events ++ rest) (map sent_of events ++ sent)
events-before [] rest sent keys h = h
events-before (e ∷ events) rest sent keys h =
    rw (append_assoc (event_line e) (flat_map event_line events) rest)
    (line-script (sends (sent_of e)) (flat_map event_line events ++ rest) (map sent_of events ++ sent)
    (writable e (All-head HasKey e events keys))
    (events-before events rest sent (All-tail HasKey e events keys) h))

-- a comment before a script, if there is one
sentence-before : (starts : Bool) (ks : List Keyed) (rest : List ℕ) (sent : List Sent) → IsScript rest sent
    → IsScript (comment_if starts ks ++ rest) sent
sentence-before true ks rest sent h = search (rules, comment-before, flat-line, shown-line)
sentence-before false ks rest sent h = h

-- ---- the script that types a sentence

-- the lines of characters are a script of the events, the last ones among them
lines-typing : (starts : Bool) (from : ℕ) (es : List Event) (ks : List Keyed) → HasKeys es
    → IsScript (lines_from starts from es ks) (map sent_of es)
unfolding lines_from
lines-typing starts from es [] keys = events-script es keys
lines-typing starts from es (k ∷ ks) keys =
    let n : ℕ = k.end - from in
    let comment : List ℕ = comment_if starts (k ∷ ks) in
    let lines : List ℕ = flat_map event_line (take n es) in
    let later : List ℕ = lines_from (is_line_feed k.character) k.end (drop n es) ks in
    let sent : List Sent = map sent_of (take n es) ++ map sent_of (drop n es) in
    let whole : IsScript (comment ++ (lines ++ later)) sent =
    sentence-before starts (k ∷ ks) (lines ++ later) sent
    (events-before (take n es) later (map sent_of (drop n es)) (All-take HasKey n es keys)
    (lines-typing (is_line_feed k.character) k.end (drop n es) ks (All-drop HasKey n es keys))) in
    let both : map sent_of es ≡ sent = cc (take-append-drop n es, map-append sent_of (take n es) (drop n es)) in
    rw (both, append_assoc comment lines later) whole

typing-sends : (x : Typing) → HasKeys x.events.items → IsScript (typing_script x) (map sent_of x.events.items)
typing-sends x keys = lines-typing true 0 x.events.items x.keyed.items keys

-- events that type a text do so from a script that sends them
typed-back : (m : MapValue) (events : List Event) (bytes : List ℕ)
    → typed_text (answers_to (alone m) [] events) ≡ bytes
    → played_text show.Typed (alone m) (map sent_of events) ≡ bytes
unfolding text_after
typed-back m events bytes e = ap (λ l. typed_text (answers_to (alone m) [] l)) (delivers events) ∙ e

pub typing-types : (m : MapValue) (bytes : List ℕ) (x : Typing) → IsTyped m bytes x
    → ScriptTypes m (typing_script x) bytes
typing-types m bytes x t = search (rules, typing-sends, typed-back)

-- ---- scripts of what was found

-- a script that sends events sends nothing else, and delivers them
delivers-these : (script : List ℕ) (events : List Event) → IsScript script (map sent_of events)
    → Delivers script (reverse events)
delivers-these script events is = search (rules, reverse-reverse, one_list, delivers)

-- what is printed to type characters delivers their events, and nothing else
pub typing-delivers : (m : MapValue) (cs : List ℕ) (x : Typing) → AreTyped m cs x
    → Delivers (typing_script x) (reverse x.events.items)
typing-delivers m cs x t = delivers-these (typing_script x) x.events.items (typing-sends x t.keys)

-- events that are of keys, the newest first, are so in their order
keys-of : (events : List Event) → HasKeys (reverse events) → HasKeys events
keys-of events keys = subst HasKeys (reverse-reverse events) (All-reversed HasKey (reverse events) keys)

-- the lines of events of keys deliver these
lines-deliver : (events : List Event) → HasKeys (reverse events)
    → Delivers (flat_map event_line events) (reverse events)
lines-deliver events keys = delivers-these _ events (events-script events (keys-of events keys))

-- the lines of events of keys, behind a comment with the names of modifiers, deliver these
script-delivers : (on : List Modifier) (events : List Event) → HasKeys (reverse events)
    → Delivers (script_text on events) (reverse events)
script-delivers on events keys =
    search (rules, delivers-these, comment-before, flat-line, modifier-line, events-script, keys-of)

said-never : IsScript (found_text Never) []
said-never = comment-alone (codes " never sticks") [] refl tt

said-undecided : (p : ℕ) → IsScript (found_text (Undecided p)) []
said-undecided p =
    comment-alone (codes " undecided: no list of up to {} presses sticks") (decimal p ∷ []) refl (decimal-line p, tt)

pub answer-replays : (m : MapValue) (found : Sticking) → IsFoundUnder (alone-moves m) found
    → AnswerReplays m found
answer-replays m (Sticks events on) answer =
    (script-delivers on.items events.items answer.0.0, (answer.0, answer.1))
answer-replays m Never answer = said-never
answer-replays m (Undecided p) answer = said-undecided p

pub answer-replays-between : (ms : Maps) (found : Sticking) → IsFoundUnder (with_loads ms) found
    → AnswerReplaysBetween ms found
answer-replays-between ms (Sticks events on) answer =
    (script-delivers on.items events.items answer.0.0, (answer.0, answer.1))
answer-replays-between ms Never answer = said-never
answer-replays-between ms (Undecided p) answer = said-undecided p

-- ---- a sentence that was typed and played

-- bytes that were taken up to the end are all that there were
pub taken-whole : (all text : List ℕ) (new : Option (List ℕ)) → TakesWhole (Some all) new text → all ≡ text
taken-whole all text None h = absurd h.taken
taken-whole all text (Some rest) h = h.taken ∙ ap (λ r. text ++ r) h.end ∙ append-nil text

-- the maps of two readings of one text are the same
pub same-map : (text : List ℕ) (s t : Option (List ℕ)) (m n : MapValue) → ReadsMap (Some text) s (Ok m)
    → ReadsMap (Some text) t (Ok n) → m ≡ n
same-map text s t m n h k =
    one_map text m n (subst (λ x. Spells x m) (sym (taken-whole text h.0 s h.1)) h.2)
    (subst (λ x. Spells x n) (sym (taken-whole text k.0 t k.1)) k.2)

-- what is typed by a script that has one reading
typed-once : (m : MapValue) (x : Typing) (bytes : List ℕ) (sent : List Sent) → IsTyped m bytes x
    → IsScript (typing_script x) sent → played_text show.Typed (alone m) sent ≡ bytes
typed-once m x bytes sent t h =
    let same = one_list (typing_script x) sent (map sent_of x.events.items) h (typing-sends x t.are.keys) in
    cc (typed-back m x.events.items bytes t.typed)

pub comes-back : (b : Board) (text sentence script typed : List ℕ) (t s u v : Option (List ℕ))
    → TypesSentence b (moves (Some text) t) (moves (Some sentence) s) (moves (Some []) (Some script)) (Ok tt)
    → Plays show.Typed (moves (Some text) u) (moves (Some script) v) (moves (Some []) (Some typed)) (Ok tt)
    → typed ≡ sentence
comes-back b text sentence script typed t s u v
    ((m, bytes), told, (read, whole), (x, is_typed, ways, same_told), appends)
    ((n, events), played, (read_again, taken), (sent, is_script, same_shown), appended) =
    let script_is : script ≡ typing_script x = appends ∙ same_told in
    let events_are : events ≡ typing_script x = sym (taken-whole script events v taken) ∙ script_is in
    let same : m ≡ n = same-map text t u m n read read_again in
    appended ∙ same_shown ∙ ap (λ n. played_text show.Typed (alone n) sent) (sym same)
    ∙ typed-once m x bytes sent is_typed (subst (λ z. IsScript z sent) events_are is_script)
    ∙ sym (taken-whole sentence bytes s whole)

-- the report with its demonstration, whether there is one
shows-by : (m : MapValue) (o : Option (List Event)) → demonstration_of m ≡ o
    → ShowsDemonstration m o (check_text (report_of m) ++ demonstration_text o)
shows-by m None e = refl
shows-by m (Some events) e =
    let on = demonstrations_leave_modifiers_on m events e in
    (flat_map event_line events, refl, lines-deliver events on.0, on)

pub shows-script : (m : MapValue) → ShowsScript m (report m true)
shows-script m = shows-by m (demonstration_of m) refl
