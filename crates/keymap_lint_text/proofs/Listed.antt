-- Remarks as the values that are handed out: lists of them, and what is printed and counted of these.
use Rattle.keymap_lint_text.proofs.Common.{◌≡◌, Bool, List, [], ◌∷◌, ◌++◌, ◌+◌, ◌∙◌, refl, ap, sym, flat_map, map}
use Rattle.std.proofs.lemmas.List.Sums.{sum_by-cons}
use Rattle.std.specs.List.{count_by}
use Rattle.std.specs.Prelude.{cond}

pub flat_map_of : {X Y A : Type 0} (f : Y → List A) (g : X → Y) (xs : List X)
    → flat_map f (map g xs) ≡ flat_map (λ x. f (g x)) xs
flat_map_of f g [] = refl
flat_map_of f g (x ∷ xs) = ap (λ t. f (g x) ++ t) (flat_map_of f g xs)

pub count_of : {X Y : Type 0} (p : Y → Bool) (g : X → Y) (xs : List X)
    → count_by p (map g xs) ≡ count_by (λ x. p (g x)) xs
count_of p g [] = refl
count_of p g (x ∷ xs) =
    sum_by-cons (λ y. cond (p y) 1 0) (g x) (map g xs) ∙ ap (λ n. cond (p (g x)) 1 0 + n) (count_of p g xs)
    ∙ sym (sum_by-cons (λ y. cond (p (g y)) 1 0) x xs)
