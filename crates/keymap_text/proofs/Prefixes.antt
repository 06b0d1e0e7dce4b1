-- The tokens of a text are those of a longer one that begins with it, but for what stands at its end. So an early fault
-- stays.
use Rattle.keymap_text.proofs.Common.{◌≡◌, ℕ, zero, suc, ◌+◌, ◌<◌, ◌≤◌, inl, inr, ⊎_elim, ◌&&◌, Bool, true, false, not}
use Rattle.keymap_text.proofs.Common.{List, [], ◌∷◌, ◌++◌, length, refl, sym, ◌∙◌, ap, ap₂, arith, Result, Ok, Err}
use Rattle.keymap_text.proofs.Common.{slice_index_or, true≢false, take-append-le, drop-append-le, TextFaultKind, rules}
use Rattle.keymap_text.proofs.Common.{EndInside, Front, Skipped, Found, Refused, Unfinished, front_of, tokens_after}
use Rattle.keymap_text.proofs.Common.{TokenValue, Tokens, Ends, Stops, Then, is_empty, list_of, ending_of_tokens}
use Rattle.keymap_text.proofs.Common.{tokens, ending, IsSameToken, is_settled, is_end_inside, is_word_kind, item}
use Rattle.keymap_text.proofs.Common.{GrammarState, accept, start, judge, verdict, Faulty, IsOpen}
use Rattle.keymap_text.specs.Inner.Grammar.{at_end as map_at_end}
use Rattle.keymap_text.proofs.Fronts.{Stays, stays_or_open, is_whole}
use Rattle.keymap_text.proofs.InFront.{front_fits}
use Rattle.keymap_text.proofs.Splitting.{split_one, split_skipped, split_found, split_refused, split_none}
use Rattle.keymap_text.proofs.Splitting.{split_unfinished, split_nil}
use Rattle.keymap_text.proofs.Steps.{judge_then, judge_refused, judge_stops, judge_ends, late, late_fault, late_word}
use Rattle.keymap_text.proofs.Tails.{comment_tokens, word_tokens}

-- the tokens of a text, and those of a longer one
data Continues : Tokens → Tokens → Type 0 where
  at_end : {q : ℕ} {us : Tokens} → Continues (Ends q) us
  unfinished : {q : ℕ} {us : Tokens} → Continues (Stops EndInside q) us
  stopped : {f : TextFaultKind} {q : ℕ} → Continues (Stops f q) (Stops f q)
  open_word : {t : TokenValue} {q : ℕ} {us : Tokens} → is_settled t ≡ false → Continues (Then t (Ends q)) us
  same : {t u : TokenValue} {ts us : Tokens} → IsSameToken t u → is_settled u ≡ true → Continues ts us
      → Continues (Then t ts) (Then u us)

-- by equal tokens
move : {ts ts' us us' : Tokens} → ts ≡ ts' → us ≡ us' → Continues ts' us' → Continues ts us
move e f h = grind arith

-- the tokens of b go on as those of b and x
Keeps : List ℕ → List ℕ → Type 0
Keeps b x = (k q : ℕ) → Continues (tokens_after k q b) (tokens_after k q (b ++ x))

-- the tokens of open bytes go on as any
open_continues : (b : List ℕ) (q : ℕ) (us : Tokens) → IsOpen b → Continues (tokens_after 0 q b) us
open_continues [] q us o = move (split_none q) refl at_end
open_continues (c ∷ b) q us (inl o) = move (comment_tokens q c b o.0 o.1) refl at_end
open_continues (c ∷ b) q us (inr (inl o)) = move (word_tokens q c b o) refl (open_word refl)
open_continues (c ∷ b) q us (inr (inr o)) = move (split_unfinished q c b o) refl unfinished

-- by what stands in front
keeps : (b x : List ℕ) → Keeps b x
unfolding Keeps
keeps [] x = λ k q. move (split_nil k q) refl at_end
keeps (c ∷ b) x = go (keeps b x)
  where
    first : Keeps b x → (q : ℕ) (f : Front) → front_of c b ≡ f → Stays c b
        → Continues (tokens_after 0 q (c ∷ b)) (tokens_after 0 q (c ∷ (b ++ x)))
    first k q (Skipped n) e s = move (split_skipped q c n b e) (split_skipped q c n (b ++ x) (s.on x ∙ e)) (k n (q + 1))
    first k q (Found kind n) e s =
        let fits : n ≤ length b = (front_fits c b kind n e).within in
        move (split_found q c n kind b e) (split_found q c n kind (b ++ x) (s.on x ∙ e))
        (same (refl, ap (λ t. c ∷ t) (sym (take-append-le n b x fits)), refl)
        (ap (λ t. not (is_word_kind kind && is_empty t)) (drop-append-le n b x fits)
        ∙ is_whole kind n b x (λ w. s.ended n (e ∙ ap (λ k. Found k n) w))) (k n (q + 1)))
    first k q (Refused g) e s = move (split_refused q c g b e) (split_refused q c g (b ++ x) (s.on x ∙ e)) stopped
    first k q Unfinished e s = move (split_unfinished q c b e) refl unfinished

    go : Keeps b x → (k q : ℕ) → Continues (tokens_after k q (c ∷ b)) (tokens_after k q (c ∷ (b ++ x)))
    go i zero q = ⊎_elim (first i q (front_of c b) refl) (open_continues (c ∷ b) q _) (stays_or_open c b)
    go i (suc k) q = move (split_one k q c b) (split_one k q c (b ++ x)) (i k (q + 1))

-- the two laws
tokens_on : {ts us : Tokens} → Continues ts us → (i : ℕ) (d : TokenValue) → i < length (list_of ts)
    → is_settled (slice_index_or (list_of ts) i d) ≡ true
    → (i < length (list_of us)) × IsSameToken (slice_index_or (list_of ts) i d) (slice_index_or (list_of us) i d)
unfolding list_of
tokens_on (open_word e) zero d l h = absurd (true≢false (sym h ∙ e))
tokens_on (open_word e) (suc i) d l h = absurd (omega (arith, l))
tokens_on (same s w k) zero d l h = (omega arith, s)
tokens_on (same s w k) (suc i) d l h = let r = tokens_on k i d (omega (arith, l)) h in (omega (arith, r.0), r.1)
tokens_on _ i d l h = absurd (omega (arith, l))

-- a settled token of a text is that of every text that begins so
pub tokens_stay : (text more : List ℕ) (i : ℕ) (d : TokenValue) → i < length (tokens text)
    → is_settled (slice_index_or (tokens text) i d) ≡ true
    → (i < length (tokens (text ++ more))) × IsSameToken (slice_index_or (tokens text) i d)
    (slice_index_or (tokens (text ++ more)) i d)
unfolding Keeps
tokens_stay text more i d l h = tokens_on (keeps text more 0 0) i d l h

-- what stands behind all tokens
endings_on : {ts us : Tokens} → Continues ts us → (f : TextFaultKind) (q : ℕ) → ending_of_tokens ts ≡ Err (f, q)
    → is_end_inside f ≡ false → ending_of_tokens us ≡ Err (f, q)
unfolding ending_of_tokens
endings_on (at_end {q = p}) f q h e = grind arith
endings_on (unfinished {q = p}) f q h e = grind arith
endings_on stopped f q h e = h
endings_on (open_word {q = p} s) f q h e = grind arith
endings_on (same s w k) f q h e = endings_on k f q h e

-- a fault where no token stands stays whatever follows, unless bytes are missing
pub endings_stay : (text more : List ℕ) (f : TextFaultKind) (q : ℕ) → ending text ≡ Err (f, q) → is_end_inside f ≡ false
    → ending (text ++ more) ≡ Err (f, q)
unfolding Keeps
endings_stay text more f q h e = endings_on (keeps text more 0 0) f q h e

-- a fault that stays
same_fault : (g f : TextFaultKind) (q o : ℕ) (a b : Bool) → a ≡ true → Faulty g q b ≡ Faulty f o true
    → Faulty g q a ≡ Faulty f o true
same_fault g f q o a b w h = cc

-- an early fault is that of all tokens that go on so
faults_on : {ts us : Tokens} → Continues ts us → (s : GrammarState) (f : TextFaultKind) (o : ℕ)
    → judge s ts ≡ Faulty f o true → judge s us ≡ Faulty f o true
faults_on (at_end {q = p}) s f o h = absurd (late (map_at_end s) p f o (sym (judge_ends s p) ∙ h))
faults_on (unfinished {q = p}) s f o h = absurd (late_fault EndInside f p o (sym (judge_stops s EndInside p) ∙ h))
faults_on stopped s f o h = h
faults_on (open_word {t = t} {q = p} e) s f o h =
    absurd (late_word s t p f o e (ap (λ x. judge s (Then t x)) (split_none p) ∙ h))
faults_on (same {t = t} {u = u} {ts = ts} {us = us} e w k) s f o h =
    go (accept s (item t.kind t.bytes)) (λ s'. faults_on k s' f o) refl
  where
    is : item u.kind u.bytes ≡ item t.kind t.bytes
    is = ap₂ item (sym e.0) (sym e.1)

    go : (r : Result GrammarState TextFaultKind)
        → ((s' : GrammarState) → judge s' ts ≡ Faulty f o true → judge s' us ≡ Faulty f o true)
        → accept s (item t.kind t.bytes) ≡ r → judge s (Then u us) ≡ Faulty f o true
    go (Ok s') on a =
        judge_then s s' u us (ap (accept s) is ∙ a) ∙ on s' (sym (judge_then s s' t ts a) ∙ h)
    go (Err g) on a = search (rules, judge_refused, is, same_fault)

-- an early fault is that of every text that begins so
pub early_from : (b x : List ℕ) (f : TextFaultKind) (o : ℕ) → verdict b ≡ Faulty f o true
    → verdict (b ++ x) ≡ Faulty f o true
unfolding Keeps
early_from b x f o h = faults_on (keeps b x 0 0) start f o h

-- open bytes have no early fault
pub not_early : (s : GrammarState) (tail : List ℕ) (q : ℕ) (f : TextFaultKind) (o : ℕ) → IsOpen tail
    → judge s (tokens_after 0 q tail) ≡ Faulty f o true → ⊥
not_early s tail q f o h e =
    late (map_at_end s) 0 f o (sym (judge_ends s 0) ∙ faults_on (open_continues tail q (Ends 0) h) s f o e)
