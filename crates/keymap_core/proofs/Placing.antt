-- Lists in which one element was placed, after as many blanks as were missing.
use Rattle.keymap_core.proofs.Common.{◌≡◌, ℕ, ◌+◌, ◌-◌, ◌≤◌, List, ◌++◌, length, replicate, get_or, sym, ◌∙◌, ap, refl}
use Rattle.keymap_core.proofs.Common.{inl, inr, arith, length-append, cases_lt}
use Rattle.std.proofs.Common.{◌≢◌, max, length-set}
use Rattle.std.proofs.lemmas.List.{get_or-set_same, get_or-set_other, get_or_append_left, get_or-append_right}
use Rattle.std.proofs.lemmas.List.{get_or-replicate, length-replicate, get_or_past}
use Rattle.keymap_core.specs.Maps.{placed}

module _ {X : Type 0} (blank : X) where
  -- the list, and then n blanks
  abbrev filled : List X → ℕ → List X
  filled xs n = xs ++ replicate n blank

  length-filled : (xs : List X) (n : ℕ) → length (filled xs n) ≡ length xs + n
  length-filled xs n = length-append xs (replicate n blank) ∙ ap (λ k. length xs + k) (length-replicate n blank)

  -- each element of n blanks is blank, and so is what lies past them
  blank-at : (n i : ℕ) → get_or (replicate n blank) i blank ≡ blank
  blank-at n i = elim (cases_lt i n) [
    | inl below ↦ get_or-replicate n i blank blank below
    | inr above ↦ get_or_past (replicate n blank) i blank (omega (arith, length-replicate n blank, above))
  ]

  -- blanks behind a list change no element
  get_or-filled : (xs : List X) (n i : ℕ) → get_or (filled xs n) i blank ≡ get_or xs i blank
  get_or-filled xs n i = elim (cases_lt i (length xs)) [
    | inl below ↦ get_or_append_left xs (replicate n blank) blank i below
    | inr above ↦
        get_or-append_right xs (replicate n blank) (length xs) i blank refl above ∙ blank-at n (i - length xs)
        ∙ sym (get_or_past xs i blank above)
  ]

  -- the element that was placed stands at its index
  pub placed-here : (xs : List X) (i : ℕ) (x : X) → get_or (placed blank xs i x) i blank ≡ x
  placed-here xs i x =
      get_or-set_same (filled xs (i + 1 - length xs)) i x blank (omega (arith, length-filled xs (i + 1 - length xs)))

  -- the element at each other index is as before
  pub placed-other : (xs : List X) (i j : ℕ) (x : X) → j ≢ i → get_or (placed blank xs i x) j blank ≡ get_or xs j blank
  placed-other xs i j x differ =
      get_or-set_other (filled xs (i + 1 - length xs)) i j x blank differ ∙ get_or-filled xs (i + 1 - length xs) j

  -- the list reaches at least to the element that was placed
  pub placed-length : (xs : List X) (i : ℕ) (x : X) → length (placed blank xs i x) ≡ max (length xs) (i + 1)
  placed-length xs i x =
      length-set (filled xs (i + 1 - length xs)) i x ∙ length-filled xs (i + 1 - length xs) ∙ grown (length xs) i
    where
      grown : (n i : ℕ) → n + (i + 1 - n) ≡ max n (i + 1)
      grown n i = omega arith

  -- past its end a list is blank
  pub past-blank : (xs : List X) (i : ℕ) → length xs ≤ i → get_or xs i blank ≡ blank
  past-blank xs i h = get_or_past xs i blank h
