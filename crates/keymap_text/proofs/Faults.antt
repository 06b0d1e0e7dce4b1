-- The faults of the reader's machine are those of the places.
use Rattle.keymap_text.proofs.Common.{◌≡◌, ℕ, List, [], ◌∷◌, refl, sym, ◌∙◌, ap, Result, Ok, Err, Option, Some, None}
use Rattle.keymap_text.proofs.Common.{length-append, TextFaultKind, Item, TokenValue, Tokens, Ends, Stops, Then, rules}
use Rattle.keymap_text.proofs.Common.{tokens_after, MapValue, GrammarState, accept, at, at_end, first_of, RowPlace}
use Rattle.keymap_text.proofs.Common.{next, next_at_definition, judge, verdict, Verdict, Spelled, Faulty, ended}
use Rattle.keymap_text.proofs.Common.{list_of, ending_of_tokens, item_of, place_after, FaultInText, found_in, fault_of}
use Rattle.keymap_text.proofs.Common.{place_of, arith}
use Rattle.keymap_text.proofs.Steps.{judge_then, judge_refused, judge_stops, judge_ends}
use Rattle.keymap_text.specs.Inner.Grammar as full

abbrev pub led : Result GrammarState TextFaultKind → Result RowPlace TextFaultKind
led (Ok s) = Ok (place_of s.place)
led (Err f) = Err f

-- the first token of a definition
first_led : (m : MapValue) (t : Item) → next_at_definition t ≡ led (full.◌>>=◌ (first_of t) (λ p. Ok (at m p)))
first_led m t = grind arith

-- a step of the machine leads to the place that the definitions name, or to their fault
pub step_led : (m : MapValue) (p : full.GrammarPlace) (t : Item) → next (place_of p) t ≡ led (full.step m p t)
step_led m p t = grind (arith, first_led, length-append)

-- accepting a token leads to the place that the definitions name, or to their fault
pub accept_led : (s : GrammarState) (t : Item) → next (place_of s.place) t ≡ led (accept s t)
unfolding accept
accept_led s t = step_led s.map s.place t

-- an accepted token leads on
pub leads_on : (p q : RowPlace) (t : TokenValue) (ts : List TokenValue) → next p (item_of t) ≡ Ok q
    → place_after p (t ∷ ts) ≡ place_after q ts
unfolding place_after
leads_on p q t ts h = rw (h, place_after) refl

-- a refused token ends the way
pub leads_not : (p : RowPlace) (f : TextFaultKind) (t : TokenValue) (ts : List TokenValue) → next p (item_of t) ≡ Err f
    → place_after p (t ∷ ts) ≡ Err (f, t)
unfolding place_after
leads_not p f t ts h = rw (h, place_after) refl

-- no token leads nowhere else
pub leads_none : (p : RowPlace) → place_after p [] ≡ Ok p
unfolding place_after
leads_none p = refl

abbrev pub found_of : Verdict → Option FaultInText
found_of (Spelled m) = None
found_of (Faulty f q e) = Some (record { kind = f; offset = q; early = e })

-- the end of the text
ends : (m : MapValue) (p : full.GrammarPlace) (q : ℕ)
    → found_of (ended (at_end (at m p)) q) ≡ found_in (Ok (place_of p)) (Ok q)
unfolding at_end
ends m p q = grind arith

-- no token at the end
pub list_ends : (q : ℕ) → list_of (Ends q) ≡ []
unfolding list_of
list_ends q = refl

-- no token at a fault
pub list_stops : (f : TextFaultKind) (q : ℕ) → list_of (Stops f q) ≡ []
unfolding list_of
list_stops f q = refl

-- the list of tokens begins with the first
pub list_then : (t : TokenValue) (ts : Tokens) → list_of (Then t ts) ≡ t ∷ list_of ts
unfolding list_of
list_then t ts = refl

-- the end stands behind all tokens
behind_ends : (q : ℕ) → ending_of_tokens (Ends q) ≡ Ok q
unfolding ending_of_tokens
behind_ends q = refl

-- a fault stands behind all tokens
behind_stops : (f : TextFaultKind) (q : ℕ) → ending_of_tokens (Stops f q) ≡ Err (f, q)
unfolding ending_of_tokens
behind_stops f q = refl

-- a token changes nothing of what stands behind all
pub behind_then : (t : TokenValue) (ts : Tokens) → ending_of_tokens (Then t ts) ≡ ending_of_tokens ts
unfolding ending_of_tokens
behind_then t ts = refl

-- the machine's verdict on tokens and the way over the places have one fault
pub same_fault : (s : GrammarState) (ts : Tokens)
    → found_of (judge s ts) ≡ found_in (place_after (place_of s.place) (list_of ts)) (ending_of_tokens ts)
same_fault s (Ends q) =
    ap found_of (judge_ends s q) ∙ ends s.map s.place q ∙ sym (rw (list_ends, leads_none, behind_ends) refl)
same_fault s (Stops f q) = ap found_of (judge_stops s f q) ∙ sym (rw (list_stops, leads_none, behind_stops) refl)
same_fault s (Then t ts) = go (accept s (item_of t)) refl (λ s'. same_fault s' ts)
  where
    go : (r : Result GrammarState TextFaultKind) → accept s (item_of t) ≡ r
        → ((s' : GrammarState) → found_of (judge s' ts)
        ≡ found_in (place_after (place_of s'.place) (list_of ts)) (ending_of_tokens ts))
        → found_of (judge s (Then t ts)) ≡ found_in (place_after (place_of s.place) (list_of (Then t ts)))
        (ending_of_tokens (Then t ts))
    go (Ok s') e ih = search (rules, judge_then, list_then, behind_then, leads_on, accept_led)
    go (Err f) e ih =
        ap found_of (judge_refused s f t ts e) ∙ sym (rw (list_then, behind_then)
        (ap (λ r. found_in r (ending_of_tokens ts)) (leads_not (place_of s.place) f t (list_of ts)
        (accept_led s (item_of t) ∙ ap led e))))

-- the machine and the definitions find one fault in a text
pub fault_is : (text : List ℕ) → found_of (verdict text) ≡ fault_of text
fault_is text = same_fault full.start (tokens_after 0 0 text)
