-- What bytes begin that show no whole token.
use Rattle.keymap_text.proofs.Common.{◌≡◌, ◌≢◌, inl, inr, ℕ, suc, ◌+◌, ◌<◌, ◌≤◌, List, [], ◌∷◌, ◌++◌, length, take}
use Rattle.keymap_text.proofs.Common.{drop, get_or, refl, sym, ◌∙◌, ap, ap₂, subst, arith, Ok, Err, take_all, false}
use Rattle.keymap_text.proofs.Common.{IsFalse, drop_all, TextFaultKind, EndInside, TokenKind, Word, Item, leading}
use Rattle.keymap_text.proofs.Common.{stays_on_line, separates, Found, Refused, Unfinished, front_of, tokens_after}
use Rattle.keymap_text.proofs.Common.{Ends, Then, token_before, item, GrammarState, accept, at_end, judge, ended}
use Rattle.keymap_text.proofs.Common.{Faulty, Refuses, Fronts, IsOpen}
use Rattle.keymap_text.proofs.Fronts.{found_fronts, refused_on, open_found, open_refused}
use Rattle.keymap_text.proofs.InFront.{front_comment, front_quote, word_found, is_quote, refused_early}
use Rattle.keymap_text.proofs.Leading.{leading_pass, leading_le}
use Rattle.keymap_text.proofs.Literals.{unfinished_short}
use Rattle.keymap_text.proofs.Splitting.{split_none, split_all, split_token, split_refused, split_unfinished}
use Rattle.keymap_text.proofs.Splitting.{split_comment}
use Rattle.keymap_text.proofs.Steps.{judge_then, judge_refused, judge_stops, judge_ends}

-- a word at the end of the bytes is open
pub open_word : (rest : List ℕ) (n : ℕ) → 0 < length rest → Found Word n ≡ front_of (get_or rest 0 0) (drop 1 rest)
    → n + 1 ≡ length rest → IsOpen rest
open_word [] n l h e = absurd (omega (arith, l))
open_word (c ∷ b) n l h e = inr (inl (sym h ∙ ap (Found Word) (omega (arith, e))))

-- an unfinished quoted character is open
pub open_quote : (rest : List ℕ) → 0 < length rest → Unfinished ≡ front_of (get_or rest 0 0) (drop 1 rest) → IsOpen rest
open_quote [] l h = absurd (omega (arith, l))
open_quote (c ∷ b) l h = inr (inr (sym h))

-- a comment that the bytes end in is open
pub open_comment : (rest : List ℕ) → 0 < length rest → get_or rest 0 0 ≡ 35
    → length rest ≤ leading stays_on_line rest → IsOpen rest
open_comment [] l e h = absurd (omega (arith, l))
open_comment (c ∷ b) l e h = grind (arith, leading_le, leading_pass)

-- a comment has its first byte
pub comment_some : (rest : List ℕ) → 0 < length rest → get_or rest 0 0 ≡ 35 → 0 < leading stays_on_line rest
comment_some [] l e = absurd (omega (arith, l))
comment_some (c ∷ b) l e = omega (arith, leading_pass stays_on_line c b (ap stays_on_line e))

-- a whole token that is found
pub found_here : (rest : List ℕ) (k : TokenKind) (n : ℕ) (i : Item) → 0 < length rest
    → Found k n ≡ front_of (get_or rest 0 0) (drop 1 rest) → n ≤ length (drop 1 rest)
    → (k ≡ Word → n + 1 < length rest) → i ≡ item k (take (n + 1) rest) → Fronts rest i (n + 1)
found_here [] k n i l h f w e = absurd (omega (arith, l))
found_here (c ∷ b) k n i l h f w e = grind (arith, found_fronts)

-- a fault in front
pub refused_here : (s : GrammarState) (rest : List ℕ) (f : TextFaultKind) → 0 < length rest
    → Refused f ≡ front_of (get_or rest 0 0) (drop 1 rest) → Refuses s rest f 0
refused_here s [] f l h = absurd (omega (arith, l))
refused_here s (c ∷ b) f l h = record {
  takes = λ q x.
      ap (judge s) (split_refused q c f (b ++ x) (refused_on c f b x (sym h))) ∙ judge_stops s f q
      ∙ ap₂ (λ p e. Faulty f p e) (omega arith) (refused_early c f b (sym h));
  inside = omega arith;
}

-- the tokens of a comment that the bytes end in: none
pub comment_tokens : (q c : ℕ) (b : List ℕ) → c ≡ 35 → leading stays_on_line b ≡ length b
    → tokens_after 0 q (c ∷ b) ≡ Ends (q + suc (length b))
comment_tokens q c b h all = split_comment q c b h ∙ split_all _ (q + 1) b all ∙ ap Ends (omega (arith, all))

-- the tokens of a word that the bytes end in: the word
pub word_tokens : (q c : ℕ) (b : List ℕ) → front_of c b ≡ Found Word (length b)
    → tokens_after 0 q (c ∷ b) ≡ Then (token_before Word (c ∷ b) q []) (Ends (q + suc (length b)))
word_tokens q c b h = grind (arith, drop_all, split_none, split_token, take_all)

-- where the text ends behind nothing
pub end_none : (s : GrammarState) (tail : List ℕ) (q : ℕ) → length tail ≡ 0
    → judge s (tokens_after 0 q tail) ≡ ended (at_end s) (q + length tail)
end_none s [] q h = ap (judge s) (split_none q) ∙ judge_ends s q ∙ ap (ended (at_end s)) (omega arith)
end_none s (c ∷ b) q h = absurd (omega (arith, h))

-- all bytes of a comment that is open stay on its line
pub open_line : (c : ℕ) (b : List ℕ) → c ≡ 35 → IsOpen (c ∷ b) → leading stays_on_line b ≡ length b
open_line c b e o = grind (arith, front_comment)

-- where the text ends in a comment
pub end_comment : (s : GrammarState) (tail : List ℕ) (q : ℕ) → 0 < length tail → get_or tail 0 0 ≡ 35 → IsOpen tail
    → judge s (tokens_after 0 q tail) ≡ ended (at_end s) (q + length tail)
end_comment s [] q l e h = absurd (omega (arith, l))
end_comment s (c ∷ b) q l e h = ap (judge s) (comment_tokens q c b e (open_line c b e h)) ∙ judge_ends s _

-- a word that is found in open bytes is the last token
last_token : (q c n : ℕ) (k : TokenKind) (b : List ℕ) → IsOpen (c ∷ b) → front_of c b ≡ Found k n
    → tokens_after 0 q (c ∷ b) ≡ Then (token_before k (c ∷ b) q []) (Ends (q + suc (length b)))
last_token q c n k b o h = grind (arith, open_found, word_tokens)

-- if the last word is accepted, the text ends behind it
pub end_word : (s s' : GrammarState) (tail : List ℕ) (n q : ℕ) (k : TokenKind) → 0 < length tail
    → Found k n ≡ front_of (get_or tail 0 0) (drop 1 tail) → IsOpen tail → accept s (item k tail) ≡ Ok s'
    → judge s (tokens_after 0 q tail) ≡ ended (at_end s') (q + length tail)
end_word s s' [] n q k l h o a = absurd (omega (arith, l))
end_word s s' (c ∷ b) n q k l h o a =
    ap (judge s) (last_token q c n k b o (sym h)) ∙ judge_then s s' _ _ a ∙ judge_ends s' _

-- a last word that is refused
pub end_refused : (s : GrammarState) (tail : List ℕ) (n q : ℕ) (k : TokenKind) (f : TextFaultKind) → 0 < length tail
    → Found k n ≡ front_of (get_or tail 0 0) (drop 1 tail) → IsOpen tail → accept s (item k tail) ≡ Err f
    → judge s (tokens_after 0 q tail) ≡ Faulty f (q + 0) false
end_refused s [] n q k f l h o a = absurd (omega (arith, l))
end_refused s (c ∷ b) n q k f l h o a = grind (arith, judge_refused, last_token, open_found)

-- a quoted character that is broken off
pub end_quote : (s : GrammarState) (tail : List ℕ) (q : ℕ) → 0 < length tail
    → Unfinished ≡ front_of (get_or tail 0 0) (drop 1 tail)
    → judge s (tokens_after 0 q tail) ≡ Faulty EndInside (q + length tail) false
end_quote s [] q l h = absurd (omega (arith, l))
end_quote s (c ∷ b) q l h = grind (arith, judge_stops, split_unfinished)

-- no fault stands in open bytes
pub open_not_refused : (tail : List ℕ) (f : TextFaultKind) → 0 < length tail
    → Refused f ≡ front_of (get_or tail 0 0) (drop 1 tail) → IsOpen tail → ⊥
open_not_refused [] f l h o = omega (arith, l)
open_not_refused (c ∷ b) f l h o = open_refused c f b o (sym h)

-- open bytes begin a token, but in a comment
pub open_stands : (tail : List ℕ) → 0 < length tail → IsOpen tail → get_or tail 0 0 ≢ 35
    → IsFalse (separates (get_or tail 0 0))
open_stands [] l h outside = absurd (omega (arith, l))
open_stands (c ∷ b) l (inl h) outside = absurd (outside h.0)
open_stands (c ∷ b) l (inr (inl h)) outside = grind (arith, word_found)
open_stands (c ∷ b) l (inr (inr h)) outside = subst (λ c. IsFalse (separates c)) (sym (is_quote c b h)) refl

-- open bytes are few, but in a comment
pub open_few : (tail : List ℕ) → IsOpen tail → get_or tail 0 0 ≢ 35 → length tail ≤ 32
open_few [] h outside = omega arith
open_few (c ∷ b) (inl h) outside = absurd (outside h.0)
open_few (c ∷ b) (inr (inl h)) outside = omega (arith, (word_found c (length b) b h).2)
open_few (c ∷ b) (inr (inr h)) outside = grind (arith, front_quote, is_quote, unfinished_short)
