-- Where no cell is a dead key of an accent that isn't defined, no accent is missing.
use Rattle.keymap_lint.proofs.Common.{◌≡◌, ℕ, Bool, true, false, List, [], ◌∷◌, None, Some, Option, cond, refl, ap, sym}
use Rattle.keymap_lint.proofs.Common.{◌∙◌, arith, not, find, gathered, Spelled, is_missing, is_given, is_defined, rules}
use Rattle.keymap_lint.proofs.Common.{missing_accent}
use Rattle.std.proofs.Common.{zero, suc}
use Rattle.std.specs.Option.{is_some}
use Rattle.std.proofs.Math.Bool.{and-false}
use Rattle.std.proofs.lemmas.Bool.Decides.{nat_tests}
use Rattle.keymap_lint.specs.declared.cells.CellInForce.{CellInForce}
use Rattle.keymap_lint.specs.Kinds.{is_the, is_missing_of, live_accent}

defined_there : (b : Bool) → not b ≡ false → b ≡ true
defined_there true h = refl
defined_there false h = sym h

-- an accent that a cell gives, and that isn't missing there, is defined
given_defined : (t : Spelled) (i : ℕ) (o : Option ℕ) → is_the i o ≡ true → is_missing_of t o ≡ false
    → is_defined t i ≡ true
given_defined t i (Some j) same found =
    let e : i ≡ j = grind (arith, nat_tests) in ap (is_defined t) e ∙ defined_there (is_defined t j) found
given_defined t i None same found = cc

not_given : (t : Spelled) (i : ℕ) (o : Option ℕ) → is_missing_of t o ≡ false → is_defined t i ≡ false
    → is_the i o ≡ false
not_given t i o found undefined = search (rules, given_defined)

-- where no accent of a cell is missing, no cell gives an accent that isn't defined
none_given : (t : Spelled) (cells : List CellInForce) (i : ℕ) → find (is_missing t) cells ≡ None
    → is_defined t i ≡ false → is_given t cells i ≡ false
none_given t [] i none undefined = refl
none_given t (c ∷ cells) i none undefined =
    go (is_missing t c) refl none (λ n. none_given t cells i n undefined)
  where
    go : (b : Bool) → is_missing t c ≡ b → cond b (Some c) (find (is_missing t) cells) ≡ None
        → (find (is_missing t) cells ≡ None → is_given t cells i ≡ false) → is_given t (c ∷ cells) i ≡ false
    go true e none later = absurd (cc)
    go false e none later = simp (not_given t i (live_accent t c) e undefined) (later none)

missing_not : (t : Spelled) (cells : List CellInForce) (i : ℕ) → find (is_missing t) cells ≡ None
    → missing_accent t cells i ≡ []
missing_not t cells i none = search (rules, and-false, none_given)

-- none of the accents is missing
pub missing_none : (t : Spelled) (cells : List CellInForce) (n : ℕ) → find (is_missing t) cells ≡ None
    → gathered (missing_accent t cells) n ≡ []
unfolding gathered
missing_none t cells zero none = refl
missing_none t cells (suc n) none =
    simp (missing_none t cells n none, missing_not t cells n none)

-- what isn't there is none
pub no_some : {X : Type 0} (o : Option X) → is_some o ≡ false → o ≡ None
no_some (Some x) h = cc
no_some None h = refl
