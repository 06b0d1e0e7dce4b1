-- What is written of events, one after another.
use Rattle.play_core.proofs.Common.{◌≡◌, ℕ, ◌+◌, ◌<◌, List, [], ◌∷◌, ◌++◌, length, take, drop, get_or, refl, sym, ap}
use Rattle.play_core.proofs.Common.{◌∙◌, append_assoc, append-nil, take-append-drop, reverse, take_more, Event, Answer}
use Rattle.play_core.proofs.Common.{Sent, Maps, answers_to, event_of, delivered, typed_by, typed_text, text_after}
use Rattle.play_core.proofs.Common.{rules}
use Rattle.std.specs.List.{filter_map}
use Rattle.std.proofs.lemmas.List.Elements.{filter_map-append}
use Rattle.std.proofs.lemmas.Grind.{flat_map-append}
use Rattle.console_core.specs.History.{answer_to}
use Rattle.play_core.specs.declared.show.Show.{Show}
use Rattle.play_core.specs.Written.{lines_after, line_after}
use Rattle.console_core.proofs.Shared.{reverse-cons}
use Rattle.play_core.specs.declared.show.Show.TheVariants as show

-- the lines of events, and then of the events behind them
lines-append : (ms : Maps) (h xs ys : List Event)
    → lines_after ms h (xs ++ ys) ≡ lines_after ms h xs ++ lines_after ms (reverse xs ++ h) ys
unfolding lines_after
lines-append ms h [] ys = refl
lines-append ms h (e ∷ xs) ys =
    ap (λ l. line_after ms h e ++ l) (lines-append ms (e ∷ h) xs ys)
    ∙ sym (append_assoc (line_after ms h e) (lines_after ms (e ∷ h) xs) _)
    ∙ ap (λ g. (line_after ms h e ++ lines_after ms (e ∷ h) xs) ++ lines_after ms g ys) (sym (reverse-cons e xs h))

-- the answers to events, and then to the events behind them
pub answers-append : (ms : Maps) (h xs ys : List Event)
    → answers_to ms h (xs ++ ys) ≡ answers_to ms h xs ++ answers_to ms (reverse xs ++ h) ys
answers-append ms h [] ys = refl
answers-append ms h (e ∷ xs) ys = search (rules, reverse-cons, answers-append ms (e ∷ h) xs ys)

-- what answers type, and then the answers behind them
pub typed-append : (xs ys : List Answer) → typed_text (xs ++ ys) ≡ typed_text xs ++ typed_text ys
unfolding typed_text
typed-append xs ys = flat_map-append typed_by xs ys

-- no answers type nothing
pub typed-nil : typed_text [] ≡ []
unfolding typed_text
typed-nil = refl

-- a single answer types its own text
pub typed-one : (a : Answer) → typed_text (a ∷ []) ≡ typed_by a
unfolding typed_text
typed-one a = append-nil (typed_by a)

-- the text of events, and then of the events behind them
pub text-append : (shown : Show) (ms : Maps) (h xs ys : List Event)
    → text_after shown ms h (xs ++ ys) ≡ text_after shown ms h xs ++ text_after shown ms (reverse xs ++ h) ys
unfolding text_after
text-append show.Lines ms h xs ys = lines-append ms h xs ys
text-append show.Typed ms h xs ys =
    ap typed_text (answers-append ms h xs ys) ∙ typed-append (answers_to ms h xs) (answers_to ms (reverse xs ++ h) ys)

-- no events have no text
pub text-nil : (shown : Show) (ms : Maps) (h : List Event) → text_after shown ms h [] ≡ []
unfolding text_after lines_after
text-nil show.Lines ms h = refl
text-nil show.Typed ms h = typed-nil

-- a single event has its own line, or types what its answer types
pub line_of_one : (ms : Maps) (h : List Event) (e : Event) → text_after show.Lines ms h (e ∷ []) ≡ line_after ms h e
unfolding text_after lines_after
line_of_one ms h e = append-nil (line_after ms h e)

pub bytes_of_one : (ms : Maps) (h : List Event) (e : Event)
    → text_after show.Typed ms h (e ∷ []) ≡ typed_by (answer_to ms h e)
unfolding text_after
bytes_of_one ms h e = typed-one (answer_to ms h e)

-- the events of a further line that is sent
pub delivered-more : (sent : List Sent) (i : ℕ) (one : Sent) → i < length sent → one ≡ get_or sent i one
    → delivered (take (i + 1) sent) ≡ delivered (take i sent) ++ delivered (one ∷ [])
delivered-more sent i one h e =
    ap (filter_map event_of) (take_more sent i one h ∙ ap (λ s. take i sent ++ s ∷ []) (sym e))
    ∙ filter_map-append event_of (take i sent) (one ∷ [])

-- the events delivered so far, and those that are left
pub delivered-rest : (sent : List Sent) (i : ℕ) → delivered (take i sent) ++ delivered (drop i sent) ≡ delivered sent
delivered-rest sent i =
    sym (filter_map-append event_of (take i sent) (drop i sent)) ∙ ap delivered (take-append-drop i sent)

-- the text so far, with that of one more line
pub text-more : (shown : Show) (ms : Maps) (h : List Event) (sent : List Sent) (i : ℕ) (one : Sent) → i < length sent
    → one ≡ get_or sent i one
    → text_after shown ms h (delivered (take (i + 1) sent))
    ≡ text_after shown ms h (delivered (take i sent))
    ++ text_after shown ms (reverse (delivered (take i sent)) ++ h) (delivered (one ∷ []))
text-more shown ms h sent i one within e =
    ap (text_after shown ms h) (delivered-more sent i one within e)
    ∙ text-append shown ms h (delivered (take i sent)) (delivered (one ∷ []))

-- the text so far, and that of the lines that are left
pub text-rest : (shown : Show) (ms : Maps) (h : List Event) (sent : List Sent) (i : ℕ)
    → text_after shown ms h (delivered (take i sent))
    ++ text_after shown ms (reverse (delivered (take i sent)) ++ h) (delivered (drop i sent))
    ≡ text_after shown ms h (delivered sent)
text-rest shown ms h sent i =
    sym (text-append shown ms h (delivered (take i sent)) (delivered (drop i sent)))
    ∙ ap (text_after shown ms h) (delivered-rest sent i)

-- what is typed so far, with one more answer
pub typed-more : (answers : List Answer) (i : ℕ) (one : Answer) → i < length answers → one ≡ get_or answers i one
    → typed_text (take (i + 1) answers) ≡ typed_text (take i answers) ++ typed_by one
typed-more answers i one h e =
    ap typed_text (take_more answers i one h ∙ ap (λ a. take i answers ++ a ∷ []) (sym e))
    ∙ typed-append (take i answers) (one ∷ [])
    ∙ ap (λ l. typed_text (take i answers) ++ l) (typed-one one)

-- what is typed so far, and what is left to type
pub typed-rest : (answers : List Answer) (i : ℕ)
    → typed_text (take i answers) ++ typed_text (drop i answers) ≡ typed_text answers
typed-rest answers i = sym (typed-append (take i answers) (drop i answers)) ∙ ap typed_text (take-append-drop i answers)
