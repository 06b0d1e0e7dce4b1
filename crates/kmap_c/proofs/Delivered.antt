-- A list of events, by their numbers, with one more at its end.
use Rattle.kmap_c.proofs.Common.{◌≡◌, ℕ, ◌<◌, ◌+◌, List, [], ◌∷◌, ◌++◌, length, take, ap, sym, ◌∙◌, map, reverse, rules}
use Rattle.kmap_c.proofs.Common.{map-append, Event, Maps, answers_to, raw_of, event_of}
use Rattle.std.proofs.Common.{get_or}
use Rattle.std.proofs.lemmas.List.{take_more}
use Rattle.console_core.specs.History.{answer_to}
use Rattle.console_core.proofs.Shared.{answers_to-push}

-- the events delivered so far, with one more
pub events-push : (numbers : List ℕ) (i : ℕ) (e : Event) → e ≡ event_of (get_or numbers i 0) → i < length numbers
    → map event_of (take (i + 1) numbers) ≡ map event_of (take i numbers) ++ e ∷ []
events-push numbers i e is below =
    ap (λ (v : List ℕ). map event_of v) (take_more numbers i 0 below)
    ∙ map-append event_of (take i numbers) (get_or numbers i 0 ∷ [])
    ∙ ap (λ (x : Event). map event_of (take i numbers) ++ x ∷ []) (sym is)

-- the answers so far, with that to one more event
pub answers-push : (ms : Maps) (h es : List Event) (e : Event) (n : ℕ) → n ≡ raw_of (answer_to ms (reverse es ++ h) e)
    → map raw_of (answers_to ms h es) ++ n ∷ [] ≡ map raw_of (answers_to ms h (es ++ e ∷ []))
answers-push ms h es e n is = search (rules, answers_to-push, map-append)
