-- How many bytes at the front pass a test.
use Rattle.keymap_text.proofs.Common.{◌≡◌, ◌==◌, ℕ, zero, suc, ◌+◌, ◌<◌, ◌≤◌, Bool, true, false, cond, List, [], ◌∷◌}
use Rattle.keymap_text.proofs.Common.{◌++◌, length, take, drop, get_or, sym, ◌∙◌, ap, arith, ⊎_elim, eq-or-lt_of_le}
use Rattle.keymap_text.proofs.Common.{drop-cons, append-nil, length-take-le, get_or-take, drop_all, prefix_len_is}
use Rattle.keymap_text.proofs.Common.{prefix_len-drop_yes, prefix_len-drop_no, prefix_len-drop_all}
use Rattle.keymap_text.proofs.Common.{prefix_len-le-length, prefix_len_passes, prefix_len_stops, Some, None}
use Rattle.keymap_text.proofs.Common.{IsFirstByte, is_byte, leading, stays_on_line, is_space}
use Rattle.std.proofs.lemmas.List.Folds.{prefix_len-append}

-- the number, where the first byte passes and where it does not
pub leading_pass : (p : ℕ → Bool) (c : ℕ) (cs : List ℕ) → p c ≡ true → leading p (c ∷ cs) ≡ leading p cs + 1
leading_pass p c cs h = ap (λ b. cond b (1 + leading p cs) 0) h ∙ omega arith

-- a byte that fails the test has nothing in front
pub leading_fail : (p : ℕ → Bool) (c : ℕ) (cs : List ℕ) → p c ≡ false → leading p (c ∷ cs) ≡ 0
leading_fail p c cs h = ap (λ b. cond b (1 + leading p cs) 0) h

-- a front is no longer than the bytes
pub leading_le : (p : ℕ → Bool) (xs : List ℕ) → leading p xs ≤ length xs
leading_le p xs = prefix_len-le-length p xs

-- bytes that all pass, and others behind them
pub leading_append : (p : ℕ → Bool) (w y : List ℕ) → leading p w ≡ length w
    → leading p (w ++ y) ≡ length w + leading p y
leading_append p w y h = grind (arith, prefix_len-append)

-- a run that ends before the bytes do
pub leading_short : (p : ℕ → Bool) (b x : List ℕ) → leading p b < length b → leading p (b ++ x) ≡ leading p b
leading_short p b x h = grind (arith, prefix_len-append)

-- more bytes behind make no front shorter
pub leading_grows : (p : ℕ → Bool) (b x : List ℕ) → leading p b ≤ leading p (b ++ x)
leading_grows p b x = grind (arith, eq-or-lt_of_le, leading_append, leading_le, leading_short)

-- all bytes of a front pass
pub leading_part : (p : ℕ → Bool) (n : ℕ) (s : List ℕ) → n ≤ leading p s → leading p (take n s) ≡ length (take n s)
leading_part p n s h =
    let size = length-take-le n s (omega (arith, h, leading_le p s)) in
    prefix_len_is p (take n s) (length (take n s)) 0 (omega arith)
    (λ k l. ap p (get_or-take n s k 0 (omega (arith, l, size))) ∙ prefix_len_passes p s k 0 (omega (arith, l, size, h)))
    (λ l. absurd (omega (arith, l)))

pub leading_front : (p : ℕ → Bool) (s : List ℕ) → leading p (take (leading p s) s) ≡ length (take (leading p s) s)
leading_front p s = leading_part p (leading p s) s (omega arith)

-- the byte behind the leading ones fails the test
pub leading_behind : (p : ℕ → Bool) (s x : List ℕ) → leading p s < length s
    → leading p (drop (leading p s) s ++ x) ≡ 0
leading_behind p s x h =
    ap (λ t. leading p (t ++ x)) (drop-cons s (leading p s) 0 h)
    ∙ leading_fail p (get_or s (leading p s) 0) (drop (suc (leading p s)) s ++ x) (prefix_len_stops p s 0 h)

pub leading_rest : (p : ℕ → Bool) (s : List ℕ) → leading p (drop (leading p s) s) ≡ 0
leading_rest p s = ⊎_elim
    (λ e. ap (leading p) (drop_all (leading p s) s (omega (arith, e))))
    (λ l. ap (leading p) (sym (append-nil (drop (leading p s) s))) ∙ leading_behind p s [] l)
    (eq-or-lt_of_le (leading_le p s))

-- where all bytes pass, the first does, and the others do
pub leading_tail : (p : ℕ → Bool) (c : ℕ) (w : List ℕ) → leading p (c ∷ w) ≡ suc (length w)
    → (p c ≡ true) × (leading p w ≡ length w)
leading_tail p c w h = grind (arith, leading_fail, leading_pass)

-- two lists that are the same in front
pub same_head : {A : Type 0} (a c : A) (v w : List A) → a ∷ v ≡ c ∷ w → a ≡ c
same_head a c v w h = cc

-- lists that are equal have equal tails
pub same_tail : {A : Type 0} (a c : A) (v w : List A) → a ∷ v ≡ c ∷ w → v ≡ w
same_tail a c v w h = cc

-- no bytes are not some
not_none : (c : ℕ) (w : List ℕ) → [] ≡ c ∷ w → ⊥
not_none c w h = cc

-- a front counts its own bytes alone
pub leading_same : (p : ℕ → Bool) (n : ℕ) (v w : List ℕ) → take n v ≡ take n w → n ≤ leading p w → n ≤ leading p v
leading_same p zero v w e h = omega arith
leading_same p (suc n) v [] e h = absurd (omega (arith, h))
leading_same p (suc n) [] (c ∷ w) e h = absurd (not_none c (take n w) e)
leading_same p (suc n) (a ∷ v) (c ∷ w) e h =
    let rest = same_tail a c (take n v) (take n w) e in
    grind (arith, leading_fail, leading_pass, (leading_same p n v w rest))

-- a byte that isn't the end of the line stays on it
no_line_end : (c : ℕ) → ((c == 10) ≡ true → ⊥) → stays_on_line c ≡ true
no_line_end c h = grind arith

-- a line goes up to the first line feed
pub line_found : (bytes : List ℕ) (n : ℕ) → IsFirstByte (is_byte 10) bytes (Some n)
    → (n ≤ length bytes) × (n ≡ leading stays_on_line bytes)
line_found bytes n h = grind (arith, prefix_len_is)

-- a line without a line feed goes up to the end
pub line_whole : (bytes : List ℕ) → IsFirstByte (is_byte 10) bytes None
    → length bytes ≡ leading stays_on_line bytes
line_whole bytes h =
    sym (prefix_len_is stays_on_line bytes (length bytes) 0 (omega arith) (λ k l. no_line_end _ (h k (omega arith) l))
    (λ l. absurd (omega (arith, l))))

-- no more blanks stand in front than bytes of white space
pub plain_spaces : (xs : List ℕ) → leading (λ c. c == 32) xs ≤ leading is_space xs
plain_spaces [] = omega arith
plain_spaces (x ∷ xs) = grind (arith, leading_fail, leading_pass, (plain_spaces xs))

-- a space is a blank
space_is : (c : ℕ) → (c == 32) ≡ true → is_space c ≡ true
space_is c h = grind arith

-- spaces up to a byte that is no blank are all blanks in front
pub spaces_end : (xs : List ℕ) (n : ℕ) → n ≡ leading (λ c. c == 32) xs → is_space (get_or xs n 0) ≡ false
    → n ≡ leading is_space xs
spaces_end xs n h s =
    sym (prefix_len_is is_space xs n 0 (omega (arith, h, leading_le (λ c. c == 32) xs))
    (λ k l. space_is _ (prefix_len_passes (λ c. c == 32) xs k 0 (omega (arith, l, h)))) (λ l. s))

pub ruleset front_rules = (plain_spaces, leading_le)

pub ruleset leading_rules = (prefix_len-drop_yes, prefix_len-drop_no, prefix_len-drop_all, prefix_len-le-length)
