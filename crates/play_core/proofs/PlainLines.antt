-- The words of a line, by the bytes that it lacks, and lines in their plainest spelling.
use Rattle.play_core.proofs.Common.{◌≡◌, ℕ, ◌<◌, ◌≤◌, Bool, true, false, cond, eqb, List, [], ◌∷◌, ◌++◌, length, take}
use Rattle.play_core.proofs.Common.{drop, get_or, ◌-◌, refl, sym, ap, ◌∙◌, arith, append_assoc, codes, slice_split}
use Rattle.play_core.proofs.Common.{onto_first, digit_value, AllDigits, digit_from_value, filter-append, What, Down}
use Rattle.play_core.proofs.Common.{Repeat, Up, separates_words, is_there, parts_of, words_in, words_of, IsNumber}
use Rattle.play_core.proofs.Common.{Tells, key_of, BeginsWithEvent, rules}
use Rattle.std.specs.List.{list_any}
use Rattle.std.proofs.lemmas.Bool.{ne_eqb, or_parts, or_from}
use Rattle.std.proofs.lemmas.List.Folds.{list_any-append}
use Rattle.play_core.specs.Scripts.{without_comment}
use Rattle.play_core.specs.Spelling.{has_line_feed}
use Rattle.play_core.specs.Inner.Readings.{BeginsWithKey}
use Rattle.play_core.proofs.LineWords.{one_more}
use Rattle.play_core.proofs.ScriptLines.{parts_there}
use Rattle.keymap_text.proofs.Shared.{to_end}

-- ---- the parts of a text

-- a text without a separator is one part
pub one_part : {X : Type 0} (p : X → Bool) (xs : List X) → list_any p xs ≡ false → slice_split p xs ≡ xs ∷ []
one_part p [] e = refl
one_part p (x ∷ xs) e = let no = or_parts (p x) (list_any p xs) e in rw no.0 (ap (onto_first x) (one_part p xs no.1))

-- an element in front of parts stands in front of the first of them
onto-append : {X : Type 0} (x : X) (parts more : List (List X)) → is_there parts ≡ true
    → onto_first x (parts ++ more) ≡ onto_first x parts ++ more
onto-append x [] more e = cc
onto-append x (part ∷ parts) more e = refl

-- the step of the next lemma, by whether the first element separates
split_by : {X : Type 0} (t : Bool) (x : X) (all parts more : List (List X)) → is_there parts ≡ true
    → all ≡ parts ++ more
    → cond t ([] ∷ all) (onto_first x all) ≡ cond t ([] ∷ parts) (onto_first x parts) ++ more
split_by true x all parts more there e = ap (λ l. [] ∷ l) e
split_by false x all parts more there e = ap (λ l. onto_first x l) e ∙ onto-append x parts more there

-- the parts of two lists with a separator between are those of the first and those of the second
pub split-joined : {X : Type 0} (p : X → Bool) (xs ys : List X) (y : X) → p y ≡ true
    → slice_split p (xs ++ y ∷ ys) ≡ slice_split p xs ++ slice_split p ys
split-joined p [] ys y e = rw e refl
split-joined p (x ∷ xs) ys y e = search (rules, split_by, parts_there, split-joined p xs ys y e)

-- ---- the words of a text

-- a line without a number sign has no comment
no_comment : (line : List ℕ) → list_any (λ b. eqb b 35) line ≡ false → without_comment line ≡ line
no_comment [] e = refl
no_comment (b ∷ bs) e =
    let no = or_parts (eqb b 35) (list_any (λ b. eqb b 35) bs) e in
    rw (no.0, one_more) (ap (λ l. b ∷ l) (no_comment bs no.1))

-- texts without such a byte, one behind the other
lack-append : (p : ℕ → Bool) (xs ys : List ℕ) → list_any p xs ≡ false → list_any p ys ≡ false
    → list_any p (xs ++ ys) ≡ false
lack-append p xs ys e f = list_any-append p xs ys ∙ or_from (list_any p xs) (list_any p ys) e f

-- the text stands in one line, with no comment, and has these words
pub record HasWords (text : List ℕ) (parts : List (List ℕ)) : Type 0 where
  pub feed : has_line_feed text ≡ false
  pub plain : list_any (λ b. eqb b 35) text ≡ false
  pub words : words_in text ≡ parts

-- as a line it has these words
pub line_words : (text : List ℕ) (words : List (List ℕ)) → HasWords text words → words_of text ≡ words
line_words text words h = ap words_in (no_comment text h.plain) ∙ h.words

-- a text without a byte that separates is one word
pub one_word : (word : List ℕ) → has_line_feed word ≡ false → list_any (λ b. eqb b 35) word ≡ false
    → list_any separates_words word ≡ false → is_there word ≡ true → HasWords word (word ∷ [])
unfolding words_in
one_word word feed plain whole there = record {
  feed = feed;
  plain = plain;
  words = rw (one_part separates_words word whole, there) refl;
}

-- two texts with a blank between have the words of both
pub words-joined : (a b : List ℕ) (xs ys : List (List ℕ)) → HasWords a xs → HasWords b ys
    → HasWords ((a ++ 32 ∷ []) ++ b) (xs ++ ys)
unfolding words_in
words-joined a b xs ys h k = record {
  feed = lack-append _ (a ++ 32 ∷ []) b (lack-append _ a (32 ∷ []) h.feed refl) k.feed;
  plain = lack-append _ (a ++ 32 ∷ []) b (lack-append _ a (32 ∷ []) h.plain refl) k.plain;
  words = rw (append_assoc a (32 ∷ []) b, split-joined separates_words a b 32 refl, filter-append)
      (cc (h.words, k.words));
}

-- a digit is none of the bytes below the digits
not_at : (b c : ℕ) → digit_value b < 10 → c < 48 → eqb b c ≡ false
not_at b c d low = let range = digit_from_value b d in ne_eqb b c (λ e. omega arith)

-- digits lack what no digit is
digits_lack : (p : ℕ → Bool) → ((b : ℕ) → digit_value b < 10 → p b ≡ false) → (number : List ℕ)
    → AllDigits 10 number → list_any p number ≡ false
digits_lack p none [] d = refl
digits_lack p none (b ∷ bs) d = or_from (p b) (list_any p bs) (none b d.0) (digits_lack p none bs d.1)

-- a number is one word
pub number_words : (number : List ℕ) → AllDigits 10 number → is_there number ≡ true → HasWords number (number ∷ [])
number_words number digits there = search (rules, one_word, digits_lack, not_at)

-- ---- commands that name a key

-- the word, in front of the number of a key, tells of this
pub record NamesKey (word : List ℕ) (what : ℕ → What) : Type 0 where
  pub words : HasWords word (word ∷ [])
  pub tells : (number : List ℕ) (k : ℕ) → IsNumber number k → Tells (word ∷ number ∷ []) (what k)
  pub key : (k : ℕ) → key_of (what k) ≡ k

pub down_names : NamesKey (codes "down") (λ k. Down k)
down_names =
    record { words = one_word _ refl refl refl refl; tells = λ number k is. (number, refl, is); key = λ k. refl }

pub repeat_names : NamesKey (codes "repeat") (λ k. Repeat k)
repeat_names =
    record { words = one_word _ refl refl refl refl; tells = λ number k is. (number, refl, is); key = λ k. refl }

pub up_names : NamesKey (codes "up") (λ k. Up k)
up_names =
    record { words = one_word _ refl refl refl refl; tells = λ number k is. (number, refl, is); key = λ k. refl }

-- ---- the line at the front of a text

-- the bytes at the front of a text
pub bytes : (text : List ℕ) → 4 ≤ length text
    → (text ≡ get_or text 0 0 ∷ drop 1 text) × (drop 1 text ≡ get_or text 1 0 ∷ drop 2 text)
    × (drop 2 text ≡ get_or text 2 0 ∷ drop 3 text) × (drop 3 text ≡ get_or text 3 0 ∷ drop 4 text)
bytes (a ∷ b ∷ c ∷ d ∷ rest) long = (refl, refl, refl, refl)
bytes _ long = absurd (omega arith)

-- a number before a line feed is that of a key
pub key_at : (text number : List ℕ) (n key : ℕ) → text ≡ number ++ 10 ∷ drop n text → is_there number ≡ true
    → IsNumber number key → key < 128 → BeginsWithKey text key (take (length text - n) (drop n text))
key_at text number n key front there is low =
    (number, front ∙ ap (λ l. number ++ 10 ∷ l) (sym (to_end text n)), is, there, low)

-- a line of a command and the number of a key
pub key_line : (word : List ℕ) (what : ℕ → What) (text rest after : List ℕ) (key : ℕ) → NamesKey word what
    → text ≡ (word ++ 32 ∷ []) ++ rest → BeginsWithKey rest key after → BeginsWithEvent text (what key) after
unfolding parts_of
key_line word what text rest after key names begins (number, whole, digits, there, low) =
    let line : HasWords ((word ++ 32 ∷ []) ++ number) (word ∷ number ∷ []) =
    words-joined word number (word ∷ []) (number ∷ []) names.words (number_words number digits.0 there) in (
      (word ++ 32 ∷ []) ++ number,
      rw (
        begins,
        whole,
        ← append_assoc (word ++ 32 ∷ []) number (10 ∷ after),
        split-joined (λ b. eqb b 10) ((word ++ 32 ∷ []) ++ number) after 10 refl,
        one_part (λ b. eqb b 10) ((word ++ 32 ∷ []) ++ number) line.feed,
      ) refl,
      ((word ∷ number ∷ [], line_words _ _ line, names.tells number key digits), rw names.key low),
    )

-- a text is its front and what is left
pub rest_of : (text : List ℕ) (n : ℕ) (front : List ℕ) → text ≡ front ++ drop n text
    → text ≡ front ++ take (length text - n) (drop n text)
rest_of text n front e = e ∙ ap (λ l. front ++ l) (sym (to_end text n))
