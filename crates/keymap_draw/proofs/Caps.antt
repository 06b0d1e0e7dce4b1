-- How the begin of the group of a key is read, up to its cap.
use Rattle.keymap_draw.proofs.Common.{◌≡◌, ℕ, List, [], ◌∷◌, ◌++◌, ◌∙◌, Some, ap, sym, append-nil, refl, reverse, true}
use Rattle.keymap_draw.proofs.Common.{Shape, Content, Fact, within, in_svg, over, facts_of}
use Rattle.std.proofs.Common.{Bor}
use Rattle.std.proofs.lemmas.List.{reverse-reverse}
use Rattle.keymap_draw.specs.declared.board.Shape.TheVariants.{A}
use Rattle.keymap_draw.specs.Boards.{letter}
use Rattle.keymap_draw.specs.Sheets.{in_key, facts_over, ids}
use Rattle.keymap_draw.specs.WellFormed.{is_among}

abbrev pub Words : Type 0
Words = Bor (List ℕ)

-- words behind which a title and a cap have been told
pub record Reads (w : List ℕ) (ts : List Content) (new : List Fact) : Type 0 where
  pub all : (fs : List Fact) → over (Some (within in_svg fs)) w ts ≡ Some (within in_key (reverse new ++ fs))

-- the letter of a shape is an id
pub letter_known : (s : Shape) → is_among ids (letter s ∷ []) ≡ true
letter_known A = refl
letter_known _ = refl

-- what words tell, by what they are read as
pub told : {w : List ℕ} {ts : List Content} {new : List Fact} → Reads w ts new → facts_over in_svg w ts ≡ new
told {new = new} h =
    ap (λ s. reverse (facts_of s)) (h.all []) ∙ ap reverse (append-nil (reverse new)) ∙ reverse-reverse new

pub read : {w : List ℕ} {ts : List Content} {new : List Fact} → Reads w ts new → (fs : List Fact)
    → over (Some (within in_svg fs)) w ts ≡ Some (within in_key (reverse (facts_over in_svg w ts) ++ fs))
read h fs = h.all fs ∙ ap (λ gs. Some (within in_key (reverse gs ++ fs))) (sym (told h))
