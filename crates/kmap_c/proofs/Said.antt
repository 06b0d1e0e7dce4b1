-- A sentence that was put in front, and a 0 behind it.
use Rattle.kmap_c.proofs.Common.{◌≡◌, ◌∙◌, ap, sym, arith, ℕ, ◌+◌, ◌<◌, List, [], ◌∷◌, ◌++◌, length, drop, refl, HasPut}
use Rattle.std.proofs.Common.{set, append_assoc}
use Rattle.std.proofs.lemmas.List.{drop_more}

-- a 0 in place of the byte behind it
pub set-behind : (sentence old new : List ℕ) (n : ℕ) → HasPut sentence old n new → length sentence < length old
    → set new n 0 ≡ (sentence ++ 0 ∷ []) ++ drop (length sentence + 1) old
set-behind sentence old new n put room =
    let text : new ≡ sentence ++ drop (length sentence) old = put.text (omega (arith, room)) in
    ap (λ (v : List ℕ). set v n 0) text ∙ ap (λ (k : ℕ). set (sentence ++ drop (length sentence) old) k 0) put.count
    ∙ set_at sentence (drop (length sentence) old)
    ∙ ap (λ (v : List ℕ). sentence ++ set v 0 0) (drop_more old (length sentence) 0 room)
    ∙ sym (append_assoc sentence (0 ∷ []) (drop (length sentence + 1) old))
  where
    set_at : (front rest : List ℕ) → set (front ++ rest) (length front) 0 ≡ front ++ set rest 0 0
    set_at [] rest = refl
    set_at (x ∷ front) rest = ap (λ (v : List ℕ). x ∷ v) (set_at front rest)
