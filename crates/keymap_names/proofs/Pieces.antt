-- Lists of pieces, one for each number.
use Rattle.std.proofs.Common.{◌≡◌, ℕ, zero, suc, ◌+◌, List, ◌++◌, ap, arith, rules, add-one, append_assoc, append-nil}
use Rattle.std.proofs.Common.{sym, ◌∙◌}
use Rattle.std.specs.List.{flat_map, range_with_len}

-- the pieces of the numbers from a on
pieces_more : {X : Type 0} (f : ℕ → List X) (a n : ℕ)
    → flat_map f (range_with_len a (suc n)) ≡ flat_map f (range_with_len a n) ++ f (a + n)
pieces_more f a zero = append-nil (f a) ∙ ap f (omega arith)
pieces_more f a (suc n) = search (rules, append_assoc, pieces_more f (a + 1) n)

-- the pieces of the numbers up to one end with its piece
pub pieces_on : {X : Type 0} (f : ℕ → List X) (n : ℕ)
    → flat_map f (range_with_len 0 (n + 1)) ≡ flat_map f (range_with_len 0 n) ++ f n
pieces_on f n =
    let same : 0 + n ≡ n = omega arith in cc (add-one n, pieces_more f 0 n)

-- the pieces below a number, and the piece of that number behind these
pub piece_more : {X : Type 0} (f : ℕ → List X) (i : ℕ) (all more : List X)
    → all ≡ flat_map f (range_with_len 0 i) → more ≡ all ++ f i → more ≡ flat_map f (range_with_len 0 (i + 1))
piece_more f i all more e piece = piece ∙ ap (λ t. t ++ f i) e ∙ sym (pieces_on f i)
