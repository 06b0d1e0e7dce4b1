-- The marks of cells.
use Rattle.keymap_tables.proofs.Common.{rules, ◌≡◌, ℕ, ◌+◌, ◌-◌, ◌*◌, ◌/◌, ◌%◌, ◌^◌, ◌<◌, ◌==◌, suc, zero, List, []}
use Rattle.keymap_tables.proofs.Common.{◌∷◌, length, take, get_or, set, cond, add-one, refl, sym, ap, ◌∙◌, arith}
use Rattle.keymap_tables.proofs.Common.{nat_tests, take_more, take_more_set, Cell, Char, Act, is_act, marks_of}
use Rattle.std.specs.List.{fold}
use Rattle.std.proofs.lemmas.List.Sums.{fold-append}
use Rattle.std.proofs.Math.Nat.{pow-suc, div-div-eq-div-mul}

-- a mark
abbrev bit : Cell → ℕ
bit cell = cond (is_act cell) 1 0

-- a mark is a bit
bit-small : (cell : Cell) → bit cell < 2
bit-small (Char c) = omega arith
bit-small (Act action) = omega arith

-- a mark is set exactly for an action
bit-test : (cell : Cell) → (bit cell == 1) ≡ is_act cell
bit-test (Char c) = refl
bit-test (Act action) = refl

-- the marks of cells behind those of a number
abbrev marks_from : ℕ → List Cell → ℕ
marks_from n cells = fold (λ k cell. 2 * k + bit cell) n cells

-- above the marks of the cells stands the number
marks-high : (n : ℕ) (cells : List Cell) → marks_from n cells / 2 ^ length cells ≡ n
marks-high n [] = omega arith
marks-high n (c ∷ cells) =
    rw (pow-suc, ← div-div-eq-div-mul, marks-high (2 * n + bit c) cells) (omega (arith, bit-small c))

-- the mark of a cell, by how many follow it
mark-at : (cells : List Cell) (n : ℕ) (d : Cell) (i k : ℕ) → k + i + 1 ≡ length cells
    → marks_from n cells / 2 ^ k % 2 ≡ bit (get_or cells i d)
mark-at [] n d i k end = absurd (omega arith)
mark-at (c ∷ cells) n d zero k end = grind (arith, marks-high (2 * n + bit c) cells, bit-small c)
mark-at (c ∷ cells) n d (suc i) k end = mark-at cells (2 * n + bit c) d i k (omega arith)

-- the mark of a column, cut out of the marks of eight cells
pub mark-bit : (cells : List Cell) → length cells ≡ 8 → (d : Cell) (i : ℕ) → i < 8
    → (marks_of cells / 2 ^ (7 - i) % 2 == 1) ≡ is_act (get_or cells i d)
mark-bit cells eight d i below =
    ap (λ (n : ℕ). n == 1) (mark-at cells 0 d i (7 - i) (omega (arith, eight))) ∙ bit-test (get_or cells i d)

-- a number, by its half and its last bit
pub halves : (y : ℕ) → 2 * (y / 2) + cond (y % 2 == 1) 1 0 ≡ y
halves y = grind (arith, nat_tests)

-- the first i marks are the first i + 1 without the last
pub half-of : (marks i : ℕ) → i < 8 → marks / 2 ^ (8 - i) ≡ marks / 2 ^ (7 - i) / 2
half-of marks i small =
    let more : 8 - i ≡ suc (7 - i) = omega arith in
    rw (more, pow-suc 2 (7 - i)) (sym (div-div-eq-div-mul marks (2 ^ (7 - i)) 2))

-- a further cell is read: the cells so far have the marks so far
pub marks-more : (marks : ℕ) (cells : List Cell) (i : ℕ) (cell : Cell) → i < 8 → i < length cells
    → marks_of (take i cells) ≡ marks / 2 ^ (8 - i) → is_act cell ≡ ((marks / 2 ^ (7 - i)) % 2 == 1)
    → marks_of (take (i + 1) (set cells i cell)) ≡ marks / 2 ^ (8 - (i + 1))
marks-more marks cells i cell small below so_far mark = search (rules, take_more_set, fold-append, half-of, halves)

-- the bit behind the marks so far is the mark of the next cell
pub marks-next : (cells : List Cell) (i : ℕ) (cell : Cell) (old bit : ℕ) → i < length cells → cell ≡ get_or cells i cell
    → old ≡ marks_of (take i cells) → bit ≡ cond (is_act cell) 1 0 → 2 * old + bit ≡ marks_of (take (i + 1) cells)
marks-next cells i cell old bit below here so_far mark =
    rw (take_more cells i cell below, ← here, fold-append, mark, so_far) refl

-- a bit behind a number of i bits gives one of i + 1
pub small-next : (i old bit : ℕ) → old < 2 ^ i → bit < 2 → 2 * old + bit < 2 ^ (i + 1)
small-next i old bit small two = rw (add-one, pow-suc 2 i) (omega arith)
