-- What is seen, by the marks in a table and by a list of pairs.
use Rattle.keymap_cover.proofs.Common.{zero, suc, ◌≡◌, ℕ, ◌<◌, ◌≤◌, arith, Bool, true, false, List, [], refl, ap, subst}
use Rattle.keymap_cover.proofs.Common.{sym, ◌∙◌, length, if◌then◌else◌, ◌==◌, slice_set, slice_index_or, replicate}
use Rattle.keymap_cover.proofs.Common.{Contains, list_any, and-false, eqb-true, eq-eqb, true≢false, bit, Sight}
use Rattle.keymap_cover.proofs.Common.{cell_place, lock_setting_place, is_pair, ◌∷◌, ◌++◌, ◌⊎◌, inl, inr}
use Rattle.std.proofs.lemmas.List.Elements.{Contains-append_left, Contains-push, Contains-push_cases}
use Rattle.keymap_cover.specs.Inner.Scripts.{IsWith}
use Rattle.std.proofs.Common.{◌&&◌}
use Rattle.std.specs.Prelude.{nat_lt}
use Rattle.std.proofs.lemmas.Bool.{and_from, and_parts, false_from_ne_true}
use Rattle.std.proofs.lemmas.List.{get_or-set_same, get_or-set_other}
use Rattle.console_states.proofs.Shared.{any-member, same-truth, some-member}
use Rattle.keymap_cover.specs.SeenSights.{seen_in}
use Rattle.console_states.specs.declared.selection.Sight.TheVariants as sight

-- an element after a write
pub set-cases : (xs : List Bool) (i j : ℕ) (v : Bool) → i < length xs → (t : Bool) → (i == j) ≡ t
    → slice_index_or (slice_set xs i v) j false ≡ (if t then v else slice_index_or xs j false)
set-cases xs i j v lt true e = grind (arith, eqb-true, get_or-set_same)
set-cases xs i j v lt false e =
    get_or-set_other xs i j v false (λ f. true≢false (sym (eq-eqb i j (sym f)) ∙ e))

-- a bit is 0 or 1
pub bit-small : (b : Bool) → bit b ≤ 1
bit-small true = omega arith
bit-small false = omega arith

-- the test of a pair
pub is-this : (i c : ℕ) → is_pair i c (sight.Pair i c) ≡ true
is-this i c = and_from (i == i) (c == c) (eq-eqb i i refl) (eq-eqb c c refl)

this-is : (i c : ℕ) (x : Sight) → is_pair i c x ≡ true → x ≡ sight.Pair i c
this-is i c (sight.Pair j d) e = grind (arith, and_parts, eqb-true)
this-is i c (sight.Cell s d) e = absurd (true≢false (sym e))
this-is i c (sight.Locks s a b) e = absurd (true≢false (sym e))

-- a pair is in a list, by what a loop over it found
pub pair-value : (pairs : List Sight) (i c : ℕ) (r : Bool) → (r ≡ true → Contains pairs (sight.Pair i c))
    → (r ≡ false → Contains pairs (sight.Pair i c) → ⊥) → r ≡ list_any (is_pair i c) pairs
pair-value pairs i c r then-so then-not =
    same-truth r (list_any (is_pair i c) pairs)
    (λ e. any-member (is_pair i c) pairs (sight.Pair i c) (then-so e) (is-this i c))
    (λ e. false_from_ne_true (list_any (is_pair i c) pairs) (λ passes.
    let (x, has, is) = some-member (is_pair i c) pairs passes in
    then-not e (subst (λ z. Contains pairs z) (this-is i c x is) has)))

-- what is seen once a pair is added
pub pair-marked : (cells settings : List Bool) (pairs more : List Sight) (i c : ℕ) → more ≡ pairs ++ sight.Pair i c ∷ []
    → IsWith (sight.Pair i c) (seen_in cells settings pairs) (seen_in cells settings more)
pair-marked cells settings pairs more i c e =
    let has = subst (λ z. Contains z (sight.Pair i c)) (sym e) (Contains-push pairs (sight.Pair i c)) in
    (any-member (is_pair i c) more (sight.Pair i c) has (is-this i c), at)
  where
    at : (y : Sight) → (seen_in cells settings pairs y ≡ true → seen_in cells settings more y ≡ true)
        × (seen_in cells settings more y ≡ true → (seen_in cells settings pairs y ≡ true) ⊎ (sight.Pair i c ≡ y))
    at (sight.Cell s d) = ((λ was. was), (λ now. inl now))
    at (sight.Locks s a b) = ((λ was. was), (λ now. inl now))
    at (sight.Pair j d) = (
      (λ was.
          let (x, has, is) = some-member (is_pair j d) pairs was in
          any-member (is_pair j d) more x
          (subst (λ z. Contains z x) (sym e) (Contains-append_left pairs (sight.Pair i c ∷ []) x has)) is),
      (λ now.
          let (x, has, is) = some-member (is_pair j d) more now in
          elim (Contains-push_cases pairs (sight.Pair i c) x (subst (λ z. Contains z x) e has)) [
            | inl old ↦ inl (any-member (is_pair j d) pairs x old is)
            | inr new ↦ inr (new ∙ this-is j d x is)
          ]),
    )

-- nothing is marked in an array of false
off : (n i : ℕ) → slice_index_or (replicate n false) i false ≡ false
off zero i = refl
off (suc n) zero = refl
off (suc n) (suc i) = off n i

pub none-seen : (n k : ℕ) (x : Sight) → seen_in (replicate n false) (replicate k false) [] x ≡ false
none-seen n k (sight.Cell slot column) =
    ap (λ b. nat_lt column 8 && b) (off n (cell_place slot column)) ∙ and-false (nat_lt column 8)
none-seen n k (sight.Locks slot caps num) = off k (lock_setting_place slot caps num)
none-seen n k (sight.Pair i c) = refl

pub none-seen-by : (cells settings : List Bool) (pairs : List Sight) (n k : ℕ) (x : Sight) → cells ≡ replicate n false
    → settings ≡ replicate k false → pairs ≡ [] → seen_in cells settings pairs x ≡ false
none-seen-by cells settings pairs n k x e f g = grind (arith, none-seen)
