-- How tokens are judged, and what stands at a byte.
use Rattle.keymap_text.proofs.Common.{arith, ◌≡◌, ℕ, ◌<◌, true, false, not, List, [], ◌++◌, refl, sym, ◌∙◌, ap, length}
use Rattle.keymap_text.proofs.Common.{Result, Ok, Err, Option, TextFaultKind, Word, leading, is_word, Found, front_of}
use Rattle.keymap_text.proofs.Common.{tokens_after, TokenValue, Tokens, Ends, Stops, Then, item, MapValue, GrammarState}
use Rattle.keymap_text.proofs.Common.{accept, at_end, is_settled, is_end_inside, judge, Faulty, ended}
use Rattle.keymap_text.proofs.Leading.{leading_append}
use Rattle.keymap_text.proofs.InFront.{front_word}
use Rattle.keymap_text.proofs.Splitting.{split_none}

-- how tokens are judged
pub judge_then : (s s' : GrammarState) (t : TokenValue) (ts : Tokens) → accept s (item t.kind t.bytes) ≡ Ok s'
    → judge s (Then t ts) ≡ judge s' ts
unfolding judge
judge_then s s' t ts h = rw (h, judge) refl

-- a token that is refused
pub judge_refused : (s : GrammarState) (f : TextFaultKind) (t : TokenValue) (ts : Tokens)
    → accept s (item t.kind t.bytes) ≡ Err f
    → judge s (Then t ts) ≡ Faulty f t.start (is_settled t)
unfolding judge
judge_refused s f t ts h = rw (h, judge) refl

-- a place where no token stands
pub judge_stops : (s : GrammarState) (f : TextFaultKind) (q : ℕ)
    → judge s (Stops f q) ≡ Faulty f q (not (is_end_inside f))
unfolding judge
judge_stops s f q = refl

-- where the text ends
pub judge_ends : (s : GrammarState) (q : ℕ) → judge s (Ends q) ≡ ended (at_end s) q
unfolding judge
judge_ends s q = refl

-- what is pending leads to no early fault
pub late : (o : Option MapValue) (q : ℕ) (f : TextFaultKind) (p : ℕ) → ended o q ≡ Faulty f p true → ⊥
late o q f p h = grind arith

-- a fault that may change is no early one
pub late_fault : (g f : TextFaultKind) (q p : ℕ) → Faulty g q false ≡ Faulty f p true → ⊥
late_fault g f q p h = cc

-- the fault of a word at the end is no early one
pub late_word : (s : GrammarState) (t : TokenValue) (q : ℕ) (f : TextFaultKind) (p : ℕ) → is_settled t ≡ false
    → judge s (Then t (tokens_after 0 q [])) ≡ Faulty f p true → ⊥
late_word s t q f p e h = go (accept s (item t.kind t.bytes)) refl
  where
    go : (r : Result GrammarState TextFaultKind) → accept s (item t.kind t.bytes) ≡ r → ⊥
    go (Ok s') a =
        late (at_end s') q f p (sym (judge_then s s' t (tokens_after 0 q []) a ∙ ap (judge s') (split_none q)
        ∙ judge_ends s' q) ∙ h)
    go (Err g) a = late_fault g f t.start p
        (sym (judge_refused s g t (tokens_after 0 q []) a ∙ ap (Faulty g t.start) e) ∙ h)

-- a word that another byte ends
pub word_ended : (a : ℕ) (p y : List ℕ) → is_word a ≡ true → leading is_word p ≡ length p → leading is_word y ≡ 0
    → length p < 32 → front_of a (p ++ y) ≡ Found Word (length p)
word_ended a p y h w e l = grind (arith, front_word, leading_append)
