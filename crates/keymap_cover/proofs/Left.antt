-- What is left of a list of sights: those that pass a test. None of the cells and lock settings is a pair.
use Rattle.std.proofs.Common.{rules}
use Rattle.keymap_cover.proofs.Common.{zero, suc, ◌≡◌, ℕ, ◌+◌, ◌≤◌, Bool, true, false, List, [], ◌∷◌, ◌++◌, refl}
use Rattle.keymap_cover.proofs.Common.{subst, sym, arith, filter, inl, inr, length, map, Contains}
use Rattle.keymap_cover.proofs.Common.{range_with_len}
use Rattle.keymap_cover.proofs.Common.{Contains-append_cases, Sight, all_cells, all_lock_settings, cell_at_place}
use Rattle.keymap_cover.proofs.Common.{lock_setting_at_place, IsPair}
use Rattle.keymap_cover.specs.Inner.OneWay.{AreKeys}
use Rattle.keymap_cover.proofs.Telling.{later-has, map-of}

-- an element that passes is among those that do
filter-later : (p : Sight → Bool) (y : Sight) (xs : List Sight) (x : Sight) → Contains (filter p xs) x → (t : Bool)
    → p y ≡ t → Contains (filter p (y ∷ xs)) x
filter-later p y xs x rest true e = rw e (later-has y (filter p xs) x rest)
filter-later p y xs x rest false e = rw e rest

pub filter-has : (p : Sight → Bool) (xs : List Sight) (x : Sight) → Contains xs x → p x ≡ true
    → Contains (filter p xs) x
filter-has p [] x (n, lt, at) passes = absurd (omega (arith, lt))
filter-has p (y ∷ xs) x (zero, lt, at) passes = search rules
filter-has p (y ∷ xs) x (suc n, lt, at) passes =
    filter-later p y xs x (filter-has p xs x (n, omega (arith, lt), at) passes) (p y) refl

filter-cases : (p : Sight → Bool) (y : Sight) (xs : List Sight) (x : Sight)
    → (Contains (filter p xs) x → Contains xs x) → Contains (filter p (y ∷ xs)) x → (t : Bool) → p y ≡ t
    → Contains (y ∷ xs) x
filter-cases p y xs x rest has false e = later-has y xs x (rest (rw e at has))
filter-cases p y xs x rest has true e = search (rules, later-has)

pub filter-of : (p : Sight → Bool) (xs : List Sight) (x : Sight) → Contains (filter p xs) x → Contains xs x
filter-of p [] x has = has
filter-of p (y ∷ xs) x has = filter-cases p y xs x (λ there. filter-of p xs x there) has (p y) refl

filter-true : (p : Sight → Bool) (y : Sight) (xs : List Sight) (x : Sight) → (Contains (filter p xs) x → p x ≡ true)
    → Contains (filter p (y ∷ xs)) x → (t : Bool) → p y ≡ t → p x ≡ true
filter-true p y xs x rest has false e = rest (rw e at has)
filter-true p y xs x rest has true e = search rules

pub filter-passes : (p : Sight → Bool) (xs : List Sight) (x : Sight) → Contains (filter p xs) x → p x ≡ true
filter-passes p [] x (n, lt, at) = absurd (omega (arith, lt))
filter-passes p (y ∷ xs) x has = filter-true p y xs x (filter-passes p xs x) has (p y) refl

-- what doesn't pass makes the list shorter
filter-shorter : (p : Sight → Bool) (y : Sight) (xs : List Sight) (n : ℕ) → length (filter p xs) + n ≤ length xs
    → (t : Bool) → p y ≡ t → length (filter p (y ∷ xs)) + n ≤ length (y ∷ xs)
filter-shorter p y xs n le true e = rw e (omega (arith, le))
filter-shorter p y xs n le false e = rw e (omega (arith, le))

filter-short : (p : Sight → Bool) (xs : List Sight) → length (filter p xs) + 0 ≤ length xs
filter-short p [] = omega arith
filter-short p (y ∷ xs) = filter-shorter p y xs 0 (filter-short p xs) (p y) refl

pub filter-fewer : (p : Sight → Bool) (xs : List Sight) (x : Sight) → Contains xs x → p x ≡ false
    → length (filter p xs) + 1 ≤ length xs
filter-fewer p [] x (n, lt, at) fails = absurd (omega (arith, lt))
filter-fewer p (y ∷ xs) x (zero, lt, at) fails = search (rules, filter-short)
filter-fewer p (y ∷ xs) x (suc n, lt, at) fails =
    filter-shorter p y xs 1 (filter-fewer p xs x (n, omega (arith, lt), at) fails) (p y) refl

-- cells and lock settings are no pairs
pub no-pairs : AreKeys (all_cells ++ all_lock_settings)
unfolding all_cells all_lock_settings
no-pairs x has pair =
    elim (Contains-append_cases (map cell_at_place (range_with_len 0 2048))
    (map lock_setting_at_place (range_with_len 0 1024)) x has) [
      | inl cell ↦
          let (n, among, is) = map-of cell_at_place (range_with_len 0 2048) x cell in
          subst IsPair (sym is) pair
      | inr setting ↦
          let (n, among, is) = map-of lock_setting_at_place (range_with_len 0 1024) x setting in
          subst IsPair (sym is) pair
    ]
