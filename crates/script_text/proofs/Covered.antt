-- Texts of pieces, one for each number, and slots of which the same is listed.
use Rattle.script_text.proofs.Common.{◌≡◌, ℕ, ◌+◌, ◌<◌, Bool, List, [], ◌∷◌, ◌++◌, ap, rules}
use Rattle.script_text.proofs.Common.{append_assoc, append-nil, arith, length, take, get_or, flat_map}
use Rattle.script_text.proofs.Common.{range_with_len, Sight, AreAlike, row_text}
use Rattle.std.proofs.lemmas.Bool.{cases_lt}
use Rattle.std.proofs.lemmas.Grind.{flat_map-append}
use Rattle.std.proofs.lemmas.List.{take_more}
use Rattle.keymap_names.proofs.Shared.{pieces_on}

-- what stands before, the pieces below a number, and the piece of that number behind these
pub piece_behind : {X : Type 0} (f : ℕ → List X) (i : ℕ) (old all more : List X)
    → all ≡ old ++ flat_map f (range_with_len 0 i) → more ≡ all ++ f i
    → more ≡ old ++ flat_map f (range_with_len 0 (i + 1))
piece_behind f i old all more e piece =
    cc (append_assoc old (flat_map f (range_with_len 0 i)) (f i), pieces_on f i)

-- what stands before, the pieces of the first elements, and that of the next one behind these
pub taken_behind : {X A : Type 0} (f : X → List A) (xs : List X) (i : ℕ) (x : X) (old all more : List A)
    → x ≡ get_or xs i x → i < length xs → all ≡ old ++ flat_map f (take i xs) → more ≡ all ++ f x
    → more ≡ old ++ flat_map f (take (i + 1) xs)
taken_behind f xs i x old all more is low e piece =
    let these = flat_map-append f (take i xs) (x ∷ []) in
    cc (append_assoc old (flat_map f (take i xs)) (f x), append-nil (f x), take_more xs i x low)

-- a slot is like itself
pub alike_one : (is_listed : Sight → Bool) (first : ℕ) → AreAlike is_listed first (first + 1)
alike_one is_listed first = λ slot from below.
    let same : slot ≡ first = omega (arith, from, below) in ap (row_text is_listed) same

-- a further slot that is like the first
pub alike_more : (is_listed : Sight → Bool) (first end : ℕ) → AreAlike is_listed first end
    → row_text is_listed end ≡ row_text is_listed first → AreAlike is_listed first (end + 1)
alike_more is_listed first end alike same = search (rules, cases_lt)
