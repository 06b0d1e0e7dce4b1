-- Lines that a terminal shows, one behind the other.
use Rattle.std.proofs.Common.{ℕ, List, [], ◌∷◌, ◌++◌, refl, sym, append-nil}
use Rattle.std.specs.List.{flat_map}
use Rattle.std.proofs.lemmas.Grind.{flat_map-append}
use Rattle.std.proofs.lemmas.List.Elements.{All-nil, All-cons, All-append}
use Rattle.keymap_names.specs.Shown.{ended, IsLine, IsPlainText}

pub plain_none : IsPlainText []
plain_none = record { lines = []; spelled = refl; plain = All-nil IsLine }

pub plain_line : (line : List ℕ) → IsLine line → IsPlainText (ended line)
plain_line line p = record {
  lines = line ∷ [];
  spelled = sym (append-nil (ended line));
  plain = All-cons IsLine line [] p (All-nil IsLine);
}

pub plain_append : (a b : List ℕ) → IsPlainText a → IsPlainText b → IsPlainText (a ++ b)
plain_append a b p q = record {
  lines = p.lines ++ q.lines;
  spelled = cc (p.spelled, q.spelled, flat_map-append ended p.lines q.lines);
  plain = All-append IsLine p.lines q.lines p.plain q.plain;
}

pub plain_flat : {A : Type 0} (f : A → List ℕ) → ((x : A) → IsPlainText (f x)) → (xs : List A)
    → IsPlainText (flat_map f xs)
plain_flat f each [] = plain_none
plain_flat f each (x ∷ xs) = plain_append (f x) (flat_map f xs) (each x) (plain_flat f each xs)
