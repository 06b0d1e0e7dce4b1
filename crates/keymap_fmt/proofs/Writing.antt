-- What is written of a text, piece by piece.
use Rattle.keymap_fmt.proofs.Common.{◌≡◌, ℕ, List, [], ◌∷◌, ◌++◌, sym, ◌∙◌, ap, append_assoc, ◌<◌, length, arith, State}
use Rattle.keymap_fmt.proofs.Common.{PieceValue, before, after, ending, line_end, rendered_from}
use Rattle.std.proofs.Common.{length-append, refl}
use Rattle.keymap_fmt.specs.Quoted.{change_by, changed, left_by, written_from}
use Rattle.keymap_fmt.specs.declared.quoted.Quoting.{Quoting}
use Rattle.keymap_fmt.specs.declared.quoted.Quoting.TheVariants.{Off}

-- a further piece is written
pub piece_written : (laid new all : List ℕ) (s next : State) (p : PieceValue) (qs ps : List PieceValue)
    → qs ≡ p ∷ ps → new ≡ laid ++ (before s p.part p.bytes p.standing ++ (p.bytes ++ ending p.part))
    → next ≡ after s p.part p.bytes → laid ++ rendered_from s qs ≡ all → new ++ rendered_from next ps ≡ all
unfolding rendered_from
piece_written laid new all s next p qs ps e f g h =
    let r = rendered_from (after s p.part p.bytes) ps in
    ap (λ (x : List ℕ). x ++ rendered_from next ps) f
    ∙ ap (λ t. (laid ++ (before s p.part p.bytes p.standing ++ (p.bytes ++ ending p.part))) ++ rendered_from t ps) g
    ∙ regroup laid (before s p.part p.bytes p.standing) p.bytes (ending p.part) r
    ∙ sym (ap (λ ps. laid ++ rendered_from s ps) e) ∙ h
  where
    regroup : (a b c d e : List ℕ) → (a ++ (b ++ (c ++ d))) ++ e ≡ a ++ (b ++ (c ++ (d ++ e)))
    regroup a b c d e = simp append_assoc

-- all pieces are written
pub end_written : (laid new all : List ℕ) (s : State) (qs : List PieceValue) → qs ≡ []
    → new ≡ laid ++ line_end s.column → laid ++ rendered_from s qs ≡ all → new ≡ all
unfolding rendered_from
end_written laid new all s qs e f h = f ∙ sym (ap (λ ps. laid ++ rendered_from s ps) e) ∙ h

-- what is written so far is no longer than all
pub longer : (n : ℕ) (laid rest all : List ℕ) → laid ++ rest ≡ all → n < length laid → n < length all
longer n laid rest all e h = omega (arith, h, ap length e, length-append laid rest)

-- what stands for the next piece, and for those behind it
pub next_written : (q : Quoting) (left n : ℕ) (p : PieceValue) (us ps : List PieceValue) → us ≡ p ∷ ps
    → n ≡ left_by q left p.part p.bytes
    → written_from q left us ≡ changed (change_by q left p.part p.bytes) p ∷ written_from q n ps
unfolding written_from
next_written q left n p us ps e f = rw (e, f) refl

pub none_written : (q : Quoting) (left : ℕ) (us : List PieceValue) → us ≡ [] → written_from q left us ≡ []
unfolding written_from
none_written q left us e = rw e refl

-- where no character is put between apostrophes, pieces stay
pub off_stays : (left : ℕ) (ps : List PieceValue) → written_from Off left ps ≡ ps
unfolding written_from
off_stays left [] = refl
off_stays left (p ∷ ps) = ap (λ (qs : List PieceValue). p ∷ qs) (off_stays left ps)
