-- The pairs that are counted are those that are told of, each once.
use Rattle.std.proofs.Common.{rules}
use Rattle.script_text.proofs.Common.{◌≡◌, ℕ, ◌<◌, ◌==◌, Bool, true, false, List, [], ◌∷◌, ◌++◌, Option, Some, None}
use Rattle.script_text.proofs.Common.{refl, ap, subst, sym, ◌∙◌, arith, inl, inr, length, map, not, suc, zero, get_or}
use Rattle.script_text.proofs.Common.{flat_map, range_with_len, if◌then◌else◌, MapValue, Sight, Pair, bases_at}
use Rattle.script_text.proofs.Common.{add-one, get_or_default}
use Rattle.std.proofs.Common.{◌⊎◌, ◌≢◌}
use Rattle.std.proofs.lemmas.Bool.{true≢false, eqb-true, eq-eqb}
use Rattle.std.proofs.lemmas.List.{get_or-map, length-map}
use Rattle.std.proofs.lemmas.List.Elements.{All-append, Contains-append_cases, Contains-append_left}
use Rattle.std.proofs.lemmas.List.Elements.{Contains-append_right}
use Rattle.std.proofs.lemmas.List.Kept.{AllPairs-cons}
use Rattle.std.proofs.lemmas.Option.{get_or_from_slice_get, slice_get_within, unwrap_or-slice_get}
use Rattle.std.specs.Option.{unwrap_or}
use Rattle.std.specs.List.{Contains, list_any}
use Rattle.keymap_core.specs.Accents.{AccentValue, blank}
use Rattle.keymap_core.specs.Numbers.{accent_limit}
use Rattle.keymap_names.proofs.Shared.{pieces_on}
use Rattle.keymap_core.specs.Bounds.{IsMap}
use Rattle.keymap_core.specs.Maps.{accent_at, accent_or_blank}
use Rattle.console_core.specs.Answers.{has_own}
use Rattle.console_states.specs.Sights.{Enumerates, HasNoDoubles}
use Rattle.console_scripts.specs.Visiting.{IsPair}
use Rattle.console_states.specs.Inner.Adding.{Adds, IsWith}
use Rattle.console_states.proofs.Shared.{adds-both, adds-none, adds-one, any-member, some-member}
use Rattle.keymap_cover.proofs.Shared.{all-told, flat-has, flat-of, key-told, map-has, map-of, range-has}
use Rattle.keymap_cover.proofs.Shared.{range-of, usable-some}
use Rattle.keymap_cover.specs.Inner.Pairs.{pairs_in}
use Rattle.keymap_cover.specs.SightLists.{all_cells, all_lock_settings}
use Rattle.keymap_cover.specs.Told.{IsBaseOf, IsTold}
use Rattle.script_text.specs.Cover.{CountedAreTold, LeftOutCannotBeVisited, all_pairs, bases_of, counted, with_bases}
use Rattle.script_text.specs.Cover.{with_number}
use Rattle.console_states.specs.declared.selection.Sight.TheVariants as sight

-- ---- the accent of an index

accent-none : (m : MapValue) (i : ℕ) → accent_at m i ≡ None → accent_or_blank m i ≡ blank
accent-none m i e = sym (unwrap_or-slice_get m.accents i blank) ∙ ap (λ o. unwrap_or o blank) e

accent-some : (m : MapValue) (i : ℕ) (a : AccentValue) → accent_at m i ≡ Some a → accent_or_blank m i ≡ a
accent-some m i a e = get_or_from_slice_get m.accents i a blank e

-- ---- numbers, each once

-- a number behind others
pub with-number : (ns : List ℕ) (n : ℕ) → IsWith n ns (with_number ns n)
with-number ns n = by (list_any (λ m. m == n) ns) refl
  where
    by : (t : Bool) → list_any (λ m. m == n) ns ≡ t → IsWith n ns (if t then ns else ns ++ n ∷ [])
    by true e = search (rules, some-member, eqb-true)
    by false e = inr refl

-- the base of one of the pairs
abbrev IsBaseIn : List (ℕ × ℕ) → ℕ → Type 0
IsBaseIn pairs c = (p : ℕ × ℕ) × Contains pairs p × (p.0 ≡ c)

bases-behind : (ns : List ℕ) (pairs : List (ℕ × ℕ)) → Adds (IsBaseIn pairs) ns (with_bases ns pairs)
bases-behind ns [] = adds-none (IsBaseIn []) ns ns refl (λ c (p, (k, lt, at), e). omega (arith, lt))
bases-behind ns (p ∷ pairs) =
    adds-both (λ c. p.0 ≡ c) (IsBaseIn pairs) (IsBaseIn (p ∷ pairs)) ns (with_number ns p.0)
    (with_bases ns (p ∷ pairs)) parts (λ c e. (p, (0, omega arith, refl), e))
    (λ c (q, (k, lt, at), e). (q, (suc k, omega (arith, lt), at), e))
    (adds-one p.0 ns (with_number ns p.0) (with-number ns p.0)) (bases-behind (with_number ns p.0) pairs)
  where
    parts : (c : ℕ) → IsBaseIn (p ∷ pairs) c → (p.0 ≡ c) ⊎ IsBaseIn pairs c
    parts c (q, (zero, lt, at), e) = inl (ap (λ z. z.0) at ∙ e)
    parts c (q, (suc k, lt, at), e) = inr (q, (k, omega (arith, lt), at), e)

-- what stands in a list without doubles
tail-once : {X : Type 0} (x : X) (xs : List X) → HasNoDoubles (x ∷ xs) → HasNoDoubles xs
tail-once x xs once i j d lt len = once (suc i) (suc j) d (omega (arith, lt)) (omega (arith, len))

no-doubles : {X : Type 0} → HasNoDoubles {X = X} []
no-doubles i j d lt len = absurd (omega (arith, len))

append-once : {X : Type 0} (xs ys : List X) → HasNoDoubles xs → HasNoDoubles ys
    → ((x : X) → Contains xs x → Contains ys x → ⊥) → HasNoDoubles (xs ++ ys)
append-once [] ys first second apart = second
append-once (x ∷ xs) ys first second apart =
    AllPairs-cons (λ a b. a ≢ b) x (xs ++ ys)
    (All-append (λ b. x ≢ b) xs ys (λ k d lt. first 0 (suc k) d (omega arith) (omega (arith, lt)))
    (λ k d lt e. apart x (0, omega arith, refl) (k, lt, get_or_default ys k x d lt ∙ sym e)))
    (append-once xs ys (tail-once x xs first) second
    (λ z (k, lt, at) there. apart z (suc k, omega (arith, lt), at) there))

-- what stands in a list of one
one-only : (n c : ℕ) → Contains (n ∷ []) c → c ≡ n
one-only n c (zero, lt, at) = sym at
one-only n c (suc k, lt, at) = absurd (omega (arith, lt))

one-once : (n : ℕ) → HasNoDoubles (n ∷ [])
one-once n = AllPairs-cons (λ x y. x ≢ y) n [] (λ k d lt. absurd (omega (arith, lt))) no-doubles

number-once : (ns : List ℕ) (n : ℕ) → HasNoDoubles ns → HasNoDoubles (with_number ns n)
number-once ns n once = by (list_any (λ m. m == n) ns) refl
  where
    by : (t : Bool) → list_any (λ m. m == n) ns ≡ t → HasNoDoubles (if t then ns else ns ++ n ∷ [])
    by true e = once
    by false e =
        append-once ns (n ∷ []) once (one-once n)
        (λ c has last. true≢false (sym (any-member (λ m. m == n) ns c has (eq-eqb c n (one-only n c last))) ∙ e))

bases-once : (ns : List ℕ) (pairs : List (ℕ × ℕ)) → HasNoDoubles ns → HasNoDoubles (with_bases ns pairs)
bases-once ns [] once = once
bases-once ns (p ∷ pairs) once = bases-once (with_number ns p.0) pairs (number-once ns p.0 once)

-- the blank and the bases of an accent, if it has a character
bases-of : (o : Option AccentValue) (a : AccentValue) → has_own o ≡ not (a.own == 0)
    → ((c : ℕ) → IsBaseOf o c → IsBaseIn a.pairs c)
    → ((c : ℕ) → has_own o ≡ true → IsBaseIn a.pairs c → IsBaseOf o c)
    → Enumerates (λ c. (has_own o ≡ true) × ((c ≡ 32) ⊎ IsBaseOf o c)) (bases_of a)
bases-of o a own out back = by (a.own == 0) refl
  where
    by : (t : Bool) → (a.own == 0) ≡ t
        → Enumerates (λ c. (has_own o ≡ true) × ((c ≡ 32) ⊎ IsBaseOf o c))
        (if t then [] else with_bases (32 ∷ []) a.pairs)
    by true e = search (rules, no-doubles)
    by false e =
        let more = bases-behind (32 ∷ []) a.pairs in
        let has : has_own o ≡ true = own ∙ ap not e in
        record {
          all = λ c (is, some). elim some [
            | inl blank ↦ more.kept c (0, omega arith, sym blank)
            | inr base ↦ more.all c (out c base)
          ];
          only = λ c there. elim (more.only c there) [
            | inl first ↦ (has, inl (one-only 32 c first))
            | inr base ↦ (has, inr (back c has base))
          ];
          once = bases-once (32 ∷ []) a.pairs (one-once 32);
        }

bases-told : (m : MapValue) (i : ℕ) → Enumerates (λ c. IsTold m (sight.Pair i c)) (bases_at m i)
bases-told m i = by (accent_at m i) refl
  where
    by : (o : Option AccentValue) → accent_at m i ≡ o → Enumerates (λ c. IsTold m (sight.Pair i c)) (bases_at m i)
    by None e = search (rules, accent-none, bases-of)
    by (Some a) e = rw (accent-some m i a e, e) (bases-of (Some a) a refl (λ c base. base) (λ c has base. base))

-- ---- and pairs

-- those of an accent
abbrev IsPairAt : MapValue → ℕ → Sight → Type 0
IsPairAt m i x = (c : ℕ) × IsTold m (sight.Pair i c) × (sight.Pair i c ≡ x)

pairs-told : (m : MapValue) (i : ℕ) → Enumerates (IsPairAt m i) (map (Pair i) (bases_at m i))
pairs-told m i =
    let bases = bases-told m i in
    record {
      all = λ x (c, told, e). subst (λ z. Contains (map (Pair i) (bases_at m i)) z) e
          (map-has (Pair i) (bases_at m i) c (bases.all c told));
      only = λ x there.
          let (c, has, e) = map-of (Pair i) (bases_at m i) x there in (c, bases.only c has, e);
      once = λ j k d lt len e.
          let within : k < length (bases_at m i) = omega (arith, len, length-map (bases_at m i) (Pair i)) in
          bases.once j k 0 lt within (same (get_or (bases_at m i) j 0) (get_or (bases_at m i) k 0)
          (sym (get_or-map (Pair i) (bases_at m i) j 0 d (omega (arith, lt, within))) ∙ e
          ∙ get_or-map (Pair i) (bases_at m i) k 0 d within));
    }
  where
    same : (a b : ℕ) → sight.Pair i a ≡ sight.Pair i b → a ≡ b
    same a b e = cc

-- those of the accents below a number, each once
pairs-once : (m : MapValue) (n : ℕ)
    → HasNoDoubles (flat_map (λ i. map (Pair i) (bases_at m i)) (range_with_len 0 n))
pairs-once m zero = no-doubles
pairs-once m (suc n) =
    let f : ℕ → List Sight = λ i. map (Pair i) (bases_at m i) in
    subst (λ z. HasNoDoubles z) (sym (ap (λ k. flat_map f (range_with_len 0 k)) (sym (add-one n)) ∙ pieces_on f n))
    (append-once (flat_map f (range_with_len 0 n)) (f n) (pairs-once m n) (pairs-told m n).once (λ x before here.
    let (i, among, at) = flat-of f (range_with_len 0 n) x before in
    let (c, has, e) = (pairs-told m i).only x at in
    let (d, is, g) = (pairs-told m n).only x here in
    let lt = range-of n i among in
    let same : i ≡ n = accents-same i n c d (e ∙ sym g) in
    omega (arith, lt, same)))
  where
    accents-same : (i j c d : ℕ) → sight.Pair i c ≡ sight.Pair j d → i ≡ j
    accents-same i j c d e = cc

all-pairs-told : (m : MapValue) → IsMap m → Enumerates (λ x. IsPair x × IsTold m x) (all_pairs m)
all-pairs-told m is = record {
  all = λ x (pair, told). has x pair told;
  only = λ x there.
      let (i, among, at) = flat-of (λ i. map (Pair i) (bases_at m i)) (range_with_len 0 accent_limit) x there in
      let (c, told, e) = (pairs-told m i).only x at in
      subst (λ z. IsPair z × IsTold m z) e (tt, told);
  once = pairs-once m accent_limit;
}
  where
    has : (x : Sight) → IsPair x → IsTold m x → Contains (all_pairs m) x
    has (sight.Pair i c) pair told =
        let (a, some) = usable-some (accent_at m i) told.0 in
        let within = slice_get_within m.accents i a some in
        let few = is.few_accents in
        flat-has (λ j. map (Pair j) (bases_at m j)) (range_with_len 0 accent_limit) i (sight.Pair i c)
        (range-has accent_limit i (omega (arith, within, few)))
        ((pairs-told m i).all (sight.Pair i c) (c, told, refl))
    has (sight.Cell s c) pair told = absurd pair
    has (sight.Locks s a b) pair told = absurd pair

pub counted_are_told : CountedAreTold
counted_are_told m is = ((λ x. ((λ told. has x told), (λ there. only x there))), pairs)
  where
    pairs : Enumerates (λ x. IsPair x × IsTold m x) (all_pairs m)
    pairs = all-pairs-told m is

    keys : List Sight
    keys = all_cells ++ all_lock_settings

    has : (x : Sight) → IsTold m x → Contains (counted m) x
    has (sight.Cell s c) told =
        Contains-append_left keys (all_pairs m) (sight.Cell s c) (key-told m (sight.Cell s c) told (λ none. none))
    has (sight.Locks s a b) told =
        Contains-append_left keys (all_pairs m) (sight.Locks s a b) (key-told m (sight.Locks s a b) told (λ none. none))
    has (sight.Pair i c) told =
        Contains-append_right keys (all_pairs m) (sight.Pair i c) (pairs.all (sight.Pair i c) (tt, told))

    only : (x : Sight) → Contains (counted m) x → IsTold m x
    only x there = elim (Contains-append_cases keys (all_pairs m) x there) [
      | inl key ↦ (all-told m (keys ++ pairs_in m) refl x).1 (Contains-append_left keys (pairs_in m) x key)
      | inr pair ↦ (pairs.only x pair).1
    ]

pub left_out_cannot_be_visited : LeftOutCannotBeVisited
left_out_cannot_be_visited m c x is has (unseen, can, none) = (can, none (((counted_are_told m is).0 x).1 has))
