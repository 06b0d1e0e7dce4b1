-- The words of a line, one after another.
use Rattle.play_core.proofs.Common.{zero, suc, ◌≡◌, ℕ, ◌+◌, ◌<◌, Bool, true, false, not, List, [], ◌∷◌, length, take}
use Rattle.play_core.proofs.Common.{drop, get_or, None, Some, refl, sym, ap, ◌∙◌, arith, drop-cons, unwrap_or, rules}
use Rattle.play_core.proofs.Common.{position_or_len, position, filter, slice_split, onto_first, digit_value, AllDigits}
use Rattle.play_core.proofs.Common.{position-Some, ltb-false, separates_words, is_there, words_in}
use Rattle.std.proofs.lemmas.List.Sums.{prefix_len-le-length}
use Rattle.std.proofs.Math.Seq.{drop-length}
use Rattle.std.proofs.lemmas.Bool.{cond_both, not-true}

-- a position, or else the length, is where the front ends
pub unwrap_position : {A : Type 0} (p : A → Bool) (xs : List A)
    → unwrap_or (position p xs) (length xs) ≡ position_or_len p xs
unwrap_position p xs = search (rules, cond_both, prefix_len-le-length, ltb-false)

pub one_more : (n : ℕ) → 1 + n ≡ suc n
one_more n = omega arith

-- a blank in front is passed over
blank_first : (b : ℕ) (bs : List ℕ) → separates_words b ≡ true → words_in (b ∷ bs) ≡ words_in bs
unfolding words_in
blank_first b bs e = rw e refl

-- the step of passing over blanks, by the class of the first byte
skipped : (t : Bool) (b : ℕ) (bs : List ℕ) → separates_words b ≡ t
    → words_in (drop (position_or_len (λ b. not (separates_words b)) bs) bs) ≡ words_in bs
    → words_in (drop (position_or_len (λ b. not (separates_words b)) (b ∷ bs)) (b ∷ bs)) ≡ words_in (b ∷ bs)
skipped true b bs e rest = rw (e, one_more) (rest ∙ sym (blank_first b bs e))
skipped false b bs e rest = rw e refl

-- the words begin behind the blanks
pub words_behind_blanks : (bs : List ℕ)
    → words_in (drop (position_or_len (λ b. not (separates_words b)) bs) bs) ≡ words_in bs
words_behind_blanks [] = refl
words_behind_blanks (b ∷ bs) = skipped (separates_words b) b bs refl (words_behind_blanks bs)

-- an empty line has no words
pub no_words : words_in [] ≡ []
unfolding words_in
no_words = refl

-- the parts of a list begin with the part up to the first blank
abbrev HasFront : List ℕ → ℕ → Type 0
HasFront bs n =
    (rest : List (List ℕ)) × (slice_split separates_words bs ≡ take n bs ∷ rest)
    × (filter is_there rest ≡ words_in (drop n bs))

-- a further byte of the front of a line, by its class
front_more : (t : Bool) (b : ℕ) (bs : List ℕ) → separates_words b ≡ t → HasFront bs (position_or_len separates_words bs)
    → HasFront (b ∷ bs) (position_or_len separates_words (b ∷ bs))
unfolding words_in
front_more true b bs e rest = rw e (slice_split separates_words bs, refl, sym (blank_first b bs e))
front_more false b bs e rest = rw (e, one_more) (rest.0, ap (onto_first b) rest.1, rest.2)

-- each line has a front that ends at its first blank
front : (bs : List ℕ) → HasFront bs (position_or_len separates_words bs)
unfolding words_in
front [] = ([], refl, refl)
front (b ∷ bs) = front_more (separates_words b) b bs refl (front bs)

-- the first word ends at the first blank
pub words_from_first : (b : ℕ) (bs : List ℕ) → separates_words b ≡ false
    → words_in (b ∷ bs)
    ≡ take (position_or_len separates_words (b ∷ bs)) (b ∷ bs)
    ∷ words_in (drop (position_or_len separates_words (b ∷ bs)) (b ∷ bs))
unfolding words_in
words_from_first b bs e =
    let parts = front bs in
    rw (e, one_more)
    (ap (λ l. filter is_there (onto_first b l)) parts.1
    ∙ ap (λ l. (b ∷ take (position_or_len separates_words bs) bs) ∷ l) parts.2)

-- a line of blanks alone
pub no_word : (bs : List ℕ) → None ≡ position (λ b. not (separates_words b)) bs → words_in bs ≡ []
no_word bs e =
    sym (words_behind_blanks bs)
    ∙ ap (λ n. words_in (drop n bs))
    (sym (unwrap_position (λ b. not (separates_words b)) bs) ∙ ap (λ o. unwrap_or o (length bs)) (sym e))
    ∙ ap words_in (drop-length bs)
    ∙ no_words

-- the words of a line begin where its first byte that is no blank stands
word_at : (bs : List ℕ) (start : ℕ) → position (λ b. not (separates_words b)) bs ≡ Some start
    → words_in bs ≡ words_in (get_or bs start 0 ∷ drop (suc start) bs)
word_at bs start e = search (rules, position-Some, unwrap_position, words_behind_blanks, drop-cons)

-- the first word, and the words behind it
pub next_words : (bs : List ℕ) (start end : ℕ) → position (λ b. not (separates_words b)) bs ≡ Some start
    → end ≡ unwrap_or (position separates_words (drop start bs)) (length (drop start bs))
    → words_in bs ≡ take end (drop start bs) ∷ words_in (drop end (drop start bs))
next_words bs start end e f =
    let found = position-Some (λ b. not (separates_words b)) bs start 0 e in
    let rest = drop-cons bs start 0 found.0 in
    let last = f ∙ unwrap_position separates_words (drop start bs) in
    word_at bs start e ∙ words_from_first _ _ (not-true _ found.1)
    ∙ ap (λ l. take (position_or_len separates_words l) l ∷ words_in (drop (position_or_len separates_words l) l))
    (sym rest)
    ∙ ap (λ n. take n (drop start bs) ∷ words_in (drop n (drop start bs))) (sym last)

-- each of the digits is one
pub digit_at : (bs : List ℕ) (i : ℕ) → i < length bs → AllDigits 10 bs → digit_value (get_or bs i 0) < 10
digit_at [] i h digits = absurd (omega arith)
digit_at (b ∷ bs) zero h digits = digits.0
digit_at (b ∷ bs) (suc i) h digits = digit_at bs i (omega arith) digits.1
