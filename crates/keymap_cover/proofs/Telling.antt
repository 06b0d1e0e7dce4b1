-- The list of what is told of has all of it, and nothing else.
use Rattle.keymap_cover.proofs.Common.{◌≡◌, ℕ, ◌+◌, ◌<◌, ◌⊎◌, inl, inr, Bool, true, false, List, [], ◌∷◌, ◌++◌, refl}
use Rattle.keymap_cover.proofs.Common.{ap, subst, sym, ◌∙◌, arith, append_assoc, length, map, Option, None, Some, not}
use Rattle.keymap_cover.proofs.Common.{if◌then◌else◌, ◌==◌, Contains, flat_map, range_with_len, eq-eqb, true≢false}
use Rattle.keymap_cover.proofs.Common.{Contains-append_left, Contains-append_cases, MapValue, bit, Sight, cell_at_place}
use Rattle.keymap_cover.proofs.Common.{cell_place, all_cells, all_lock_settings, lock_setting_at_place, rules}
use Rattle.keymap_cover.proofs.Common.{lock_setting_place, IsPair, IsTold, base_pair, pairs_at, pairs_in}
use Rattle.std.proofs.Common.{zero, suc, add-one, append-nil}
use Rattle.std.specs.Prelude.{◌/◌, ◌%◌}
use Rattle.std.proofs.lemmas.List.{get_or-map, length-map}
use Rattle.std.proofs.lemmas.List.Elements.{Contains-append_right}
use Rattle.std.proofs.lemmas.List.FromFn.{length-range_with_len, get_or-range_with_len}
use Rattle.std.proofs.lemmas.Option.{slice_get_within}
use Rattle.keymap_core.specs.Accents.{AccentValue}
use Rattle.keymap_core.specs.Maps.{accent_at}
use Rattle.console_core.specs.Answers.{has_own}
use Rattle.keymap_cover.proofs.Marking.{bit-small}
use Rattle.keymap_cover.specs.Told.{IsBaseOf, AreTold}
use Rattle.keymap_cover.specs.Inner.Pairs.{pairs_of}
use Rattle.console_states.specs.declared.selection.Sight.TheVariants as sight

-- ---- what is in a list

first-has : {X : Type 0} (x : X) (xs : List X) → Contains (x ∷ xs) x
first-has x xs = (0, omega arith, refl)

pub later-has : {X : Type 0} (x : X) (xs : List X) (y : X) → Contains xs y → Contains (x ∷ xs) y
later-has x xs y (k, lt, at) = (suc k, omega (arith, lt), at)

pub range-has : (n k : ℕ) → k < n → Contains (range_with_len 0 n) k
range-has n k lt = (k, omega (arith, lt, length-range_with_len 0 n), omega (arith, get_or-range_with_len 0 n k k lt))

pub range-of : (n k : ℕ) → Contains (range_with_len 0 n) k → k < n
range-of n k (i, lt, at) = grind (arith, length-range_with_len, get_or-range_with_len)

pub map-has : {X Y : Type 0} (f : X → Y) (xs : List X) (x : X) → Contains xs x → Contains (map f xs) (f x)
map-has f xs x (k, lt, at) =
    (k, omega (arith, lt, length-map xs f), get_or-map f xs k x (f x) lt ∙ ap f at)

pub map-of : {X Y : Type 0} (f : X → Y) (xs : List X) (y : Y) → Contains (map f xs) y
    → (x : X) × Contains xs x × (f x ≡ y)
map-of f [] y (k, lt, at) = absurd (omega (arith, lt))
map-of f (x ∷ xs) y (zero, lt, at) = (x, first-has x xs, at)
map-of f (x ∷ xs) y (suc k, lt, at) =
    grind (arith, later-has, map-of f xs y (k, omega (arith, lt), at))

pub flat-has : {X Y : Type 0} (f : X → List Y) (xs : List X) (x : X) (y : Y) → Contains xs x → Contains (f x) y
    → Contains (flat_map f xs) y
flat-has f [] x y (k, lt, at) has = absurd (omega (arith, lt))
flat-has f (z ∷ xs) x y (zero, lt, at) has =
    Contains-append_left (f z) (flat_map f xs) y (subst (λ w. Contains (f w) y) (sym at) has)
flat-has f (z ∷ xs) x y (suc k, lt, at) has =
    Contains-append_right (f z) (flat_map f xs) y (flat-has f xs x y (k, omega (arith, lt), at) has)

pub flat-of : {X Y : Type 0} (f : X → List Y) (xs : List X) (y : Y) → Contains (flat_map f xs) y
    → (x : X) × Contains xs x × Contains (f x) y
flat-of f [] y (k, lt, at) = absurd (omega (arith, lt))
flat-of f (z ∷ xs) y has =
    elim (Contains-append_cases (f z) (flat_map f xs) y has) [
      | inl here ↦ (z, first-has z xs, here)
      | inr there ↦
          let (x, among, is) = flat-of f xs y there in
          (x, later-has z xs x among, is)
    ]

-- the pieces of the numbers from a on
pieces-more : {X : Type 0} (f : ℕ → List X) (a n : ℕ)
    → flat_map f (range_with_len a (suc n)) ≡ flat_map f (range_with_len a n) ++ f (a + n)
pieces-more f a zero = append-nil (f a) ∙ ap f (omega arith)
pieces-more f a (suc n) = grind (arith, append_assoc, pieces-more f (a + 1) n)

-- what stands before, the pieces below a number, and the piece of that number behind these
pub piece-behind : {X : Type 0} (f : ℕ → List X) (i : ℕ) (old all more : List X)
    → all ≡ old ++ flat_map f (range_with_len 0 i) → more ≡ all ++ f i
    → more ≡ old ++ flat_map f (range_with_len 0 (i + 1))
piece-behind f i old all more e piece = grind (arith, append_assoc, add-one, pieces-more)

-- ---- cells and lock settings

cell-has : (s c : ℕ) → s < 256 → c < 8 → Contains all_cells (sight.Cell s c)
unfolding all_cells
cell-has s c slot column =
    let n : ℕ = cell_place s c in
    let lt : n < 2048 = omega (arith, slot, column) in
    let e : n / 8 ≡ s = omega (arith, column) in
    let f : n % 8 ≡ c = omega (arith, column) in
    subst (λ x. Contains (map cell_at_place (range_with_len 0 2048)) x)
    (ap (λ k. sight.Cell k (n % 8)) e ∙ ap (λ k. sight.Cell s k) f)
    (map-has cell_at_place (range_with_len 0 2048) n (range-has 2048 n lt))

cell-of : (m : MapValue) (x : Sight) → Contains all_cells x → IsTold m x
unfolding all_cells
cell-of m x has =
    let (n, among, is) = map-of cell_at_place (range_with_len 0 2048) x has in
    let lt : n < 2048 = range-of 2048 n among in
    subst (λ z. IsTold m z) is (omega (arith, lt), omega arith)

half : (n : ℕ) (b : Bool) → n ≡ bit b → (n == 1) ≡ b
half n true e = eq-eqb n 1 e
half n false e = ap (λ k. k == 1) e

setting-has : (s : ℕ) (caps num : Bool) → s < 256 → Contains all_lock_settings (sight.Locks s caps num)
unfolding all_lock_settings
setting-has s caps num slot =
    let n : ℕ = lock_setting_place s caps num in
    let a = bit-small caps in
    let b = bit-small num in
    let lt : n < 1024 = omega (arith, slot, a, b) in
    let e : n / 4 ≡ s = omega (arith, a, b) in
    let f : n / 2 % 2 ≡ bit caps = omega (arith, a, b) in
    let g : n % 2 ≡ bit num = omega (arith, a, b) in
    subst (λ x. Contains (map lock_setting_at_place (range_with_len 0 1024)) x)
    (ap (λ k. sight.Locks k (n / 2 % 2 == 1) (n % 2 == 1)) e
    ∙ ap (λ t. sight.Locks s t (n % 2 == 1)) (half (n / 2 % 2) caps f)
    ∙ ap (λ t. sight.Locks s caps t) (half (n % 2) num g))
    (map-has lock_setting_at_place (range_with_len 0 1024) n (range-has 1024 n lt))

setting-of : (m : MapValue) (x : Sight) → Contains all_lock_settings x → IsTold m x
unfolding all_lock_settings
setting-of m x has =
    let (n, among, is) = map-of lock_setting_at_place (range_with_len 0 1024) x has in
    let lt : n < 1024 = range-of 1024 n among in
    let slot : n / 4 < 256 = omega (arith, lt) in
    subst (λ z. IsTold m z) is slot

-- ---- pairs

pair-has : (i c : ℕ) (o : Option AccentValue) → has_own o ≡ true → (c ≡ 32) ⊎ IsBaseOf o c
    → Contains (pairs_of i o) (sight.Pair i c)
pair-has i c None own is = absurd (true≢false (sym own))
pair-has i c (Some a) own is = by-own (a.own == 0) own
  where
    listed : List Sight
    listed = map (base_pair i) a.pairs

    there : (c ≡ 32) ⊎ IsBaseOf (Some a) c → Contains (sight.Pair i 32 ∷ listed) (sight.Pair i c)
    there (inl e) = subst (λ n. Contains (sight.Pair i 32 ∷ listed) (sight.Pair i n)) (sym e)
        (first-has (sight.Pair i 32) listed)
    there (inr (p, has, e)) =
        subst (λ n. Contains (sight.Pair i 32 ∷ listed) (sight.Pair i n)) e
        (later-has (sight.Pair i 32) listed (sight.Pair i p.0) (map-has (base_pair i) a.pairs p has))

    by-own : (t : Bool) → not t ≡ true → Contains (if t then [] else sight.Pair i 32 ∷ listed) (sight.Pair i c)
    by-own true e = absurd (true≢false (sym e))
    by-own false e = there is

-- what is listed of an accent
abbrev IsPairOf : ℕ → Option AccentValue → Sight → Type 0
IsPairOf i o x = (c : ℕ) × (sight.Pair i c ≡ x) × (has_own o ≡ true) × ((c ≡ 32) ⊎ IsBaseOf o c)

pair-of : (i : ℕ) (o : Option AccentValue) (x : Sight) → Contains (pairs_of i o) x → IsPairOf i o x
pair-of i None x (k, lt, at) = absurd (omega (arith, lt))
pair-of i (Some a) x has = by-own (a.own == 0) refl has
  where
    listed : List Sight
    listed = map (base_pair i) a.pairs

    by-own : (t : Bool) → (a.own == 0) ≡ t → Contains (if t then [] else sight.Pair i 32 ∷ listed) x
        → IsPairOf i (Some a) x
    by-own true e (k, lt, at) = absurd (omega (arith, lt))
    by-own false e (zero, lt, at) = (32, at, ap not e, inl refl)
    by-own false e (suc k, lt, at) =
        let (p, among, is) = map-of (base_pair i) a.pairs x (k, omega (arith, lt), at) in
        (p.0, is, ap not e, inr (p, among, refl))

-- the pairs are pairs
pub are-pairs : (m : MapValue) (x : Sight) → Contains (pairs_in m) x → IsPair x
are-pairs m x has =
    let (i, among, there) = flat-of (pairs_at m) (range_with_len 0 (length m.accents)) x has in
    let (c, is, own, base) = pair-of i (accent_at m i) x there in
    subst IsPair is tt

pub usable-some : (o : Option AccentValue) → has_own o ≡ true → (a : AccentValue) × (o ≡ Some a)
usable-some None e = absurd (true≢false (sym e))
usable-some (Some a) e = (a, refl)

-- ---- all of them

-- a cell or a lock setting is among the keys
pub key-told : (m : MapValue) (x : Sight) → IsTold m x → (IsPair x → ⊥) → Contains (all_cells ++ all_lock_settings) x
key-told m (sight.Cell s c) (slot, column) key =
    Contains-append_left all_cells all_lock_settings (sight.Cell s c) (cell-has s c slot column)
key-told m (sight.Locks s caps num) slot key =
    Contains-append_right all_cells all_lock_settings (sight.Locks s caps num) (setting-has s caps num slot)
key-told m (sight.Pair i c) told key = absurd (key tt)

pub all-told : (m : MapValue) (xs : List Sight) → xs ≡ (all_cells ++ all_lock_settings) ++ pairs_in m → AreTold m xs
all-told m xs e x = (
  (λ told. subst (λ z. Contains z x) (sym e) (has x told)),
  (λ among. only (subst (λ z. Contains z x) e among)),
)
  where
    has : (x : Sight) → IsTold m x → Contains ((all_cells ++ all_lock_settings) ++ pairs_in m) x
    has (sight.Cell s c) (slot, column) =
        search (rules, Contains-append_left, all_cells, all_lock_settings, pairs_in, cell-has)
    has (sight.Locks s caps num) slot =
        search (rules, Contains-append_left, Contains-append_right, setting-has)
    has (sight.Pair i c) (own, is) =
        let (a, some) = usable-some (accent_at m i) own in
        Contains-append_right (all_cells ++ all_lock_settings) (pairs_in m) (sight.Pair i c)
        (flat-has (pairs_at m) (range_with_len 0 (length m.accents)) i (sight.Pair i c)
        (range-has (length m.accents) i (slice_get_within m.accents i a some)) (pair-has i c (accent_at m i) own is))

    only : Contains ((all_cells ++ all_lock_settings) ++ pairs_in m) x → IsTold m x
    only among =
        elim (Contains-append_cases (all_cells ++ all_lock_settings) (pairs_in m) x among) [
          | inl first ↦ elim (Contains-append_cases all_cells all_lock_settings x first) [
            | inl cell ↦ cell-of m x cell
            | inr setting ↦ setting-of m x setting
          ]
          | inr pair ↦
              let (i, below, there) = flat-of (pairs_at m) (range_with_len 0 (length m.accents)) x pair in
              let (c, e, own, is) = pair-of i (accent_at m i) x there in
              subst (λ z. IsTold m z) e (own, is)
        ]
