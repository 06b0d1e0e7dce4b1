use Rattle.keymap_draw.proofs.Common.{◌≡◌, ◌==◌, ◌++◌, [], ◌∷◌, ℕ, List, false, append_assoc, arith, codes, decimal}
use Rattle.keymap_draw.proofs.Common.{nat_tests, subst, IfOk}
use Rattle.keymap_draw.specs.Facts.{text}
use Rattle.keymap_draw.proofs.half.push_verdict.Goals as goal

pub returns-then-count-eq0 : goal.returns-then-count-eq0
returns-then-count-eq0 c = rw c.if-count-eq0.true c.tell.ensures

pub returns-then-count-eq1 : goal.returns-then-count-eq1
returns-then-count-eq1 c = rw c.if-count-eq1.true c.tell-then-count-eq1.ensures

-- the letters behind a number, as they are read
letters : (n : List ℕ)
    → n ++ codes " " ++ codes "f" ++ codes "i" ++ codes "n" ++ codes "d" ++ codes "i" ++ codes "n" ++ codes "g"
    ++ codes "s"
    ≡ n ++ codes " findings"
letters n = simp append_assoc

pub returns-else-count-eq1 : goal.returns-else-count-eq1
returns-else-count-eq1 c =
    let some : c.args.count == 0 ≡ false = grind (arith, nat_tests, c.if-count-eq0.false) in
    let more : c.args.count == 1 ≡ false = grind (arith, nat_tests, c.if-count-eq1.false) in
    rw (some, more) (subst (λ said. IfOk c.tell-else-count-eq1.result
    (λ s. s ≡ c.args.sheet ++ text (codes "1464") (decimal c.args.y) (codes "h r no") (codes "refused: " ++ said) ∷ []))
    (letters (decimal c.args.count)) c.tell-else-count-eq1.ensures)
