-- A text of lines, and its front up to one of them.
use Rattle.keymap_text.proofs.Common.{◌≡◌, ℕ, zero, suc, ◌+◌, ◌-◌, ◌<◌, List, [], ◌++◌, sym, ◌∙◌, ap, arith}
use Rattle.keymap_text.proofs.Common.{append_assoc, append-nil, flat_map, range_with_len}

-- the pieces of the numbers from a on
pieces_more : (f : ℕ → List ℕ) (a n : ℕ)
    → flat_map f (range_with_len a (suc n)) ≡ flat_map f (range_with_len a n) ++ f (a + n)
pieces_more f a zero = append-nil (f a) ∙ ap f (omega arith)
pieces_more f a (suc n) = grind (arith, append_assoc, (pieces_more f (a + 1) n))

-- the text of one number more ends with its piece
pub pieces_on : (f : ℕ → List ℕ) (n : ℕ)
    → flat_map f (range_with_len 0 (n + 1)) ≡ flat_map f (range_with_len 0 n) ++ f n
pieces_on f n = grind (arith, pieces_more)

-- the text of more numbers begins with that of fewer
pieces_after : (f : ℕ → List ℕ) (n k : ℕ)
    → (rest : List ℕ) × (flat_map f (range_with_len 0 (n + k)) ≡ flat_map f (range_with_len 0 n) ++ rest)
pieces_after f n zero = ([], ap (λ k. flat_map f (range_with_len 0 k)) (omega arith) ∙ sym (append-nil _))
pieces_after f n (suc k) =
    let one = pieces_after f n k in (
      one.0 ++ f (n + k),
      ap (λ k. flat_map f (range_with_len 0 k)) (next n k) ∙ pieces_on f (n + k)
          ∙ ap (λ t. t ++ f (n + k)) one.1 ∙ append_assoc (flat_map f (range_with_len 0 n)) one.0 (f (n + k)),
    )
  where
    next : (n k : ℕ) → n + suc k ≡ n + k + 1
    next n k = omega arith

-- the text of all numbers begins with those below one, and its piece
pub pieces_at : (f : ℕ → List ℕ) (i n : ℕ) → i < n
    → (rest : List ℕ) × (flat_map f (range_with_len 0 n) ≡ flat_map f (range_with_len 0 i) ++ (f i ++ rest))
pieces_at f i n h =
    let r = pieces_after f (i + 1) (n - (i + 1)) in (
      r.0,
      ap (λ k. flat_map f (range_with_len 0 k)) (omega (arith, h)) ∙ r.1 ∙ ap (λ t. t ++ r.0) (pieces_on f i)
          ∙ append_assoc _ (f i) r.0,
    )

-- a text with the line of the number i, after those of the numbers below
pub lines-next : (line : ℕ → List ℕ) (i : ℕ) (text piece : List ℕ) → piece ≡ line i
    → (text ++ flat_map line (range_with_len 0 i)) ++ piece ≡ text ++ flat_map line (range_with_len 0 (i + 1))
lines-next line i text piece e = grind (arith, append_assoc, pieces_on)

-- the text with the lines up to the number i is the front of the text with all lines
pub lines-cut : (line : ℕ → List ℕ) (i n : ℕ) (text piece : List ℕ) → i < n → piece ≡ line i
    → (rest : List ℕ) × (text ++ flat_map line (range_with_len 0 n)
    ≡ ((text ++ flat_map line (range_with_len 0 i)) ++ piece) ++ rest)
lines-cut line i n text piece h e =
    let at = pieces_at line i n h in
    (at.0, ap (λ t. text ++ t) at.1 ∙ rw e (simp append_assoc))
