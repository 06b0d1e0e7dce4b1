-- What is added of the states that a search met is what moves lead to.
use Rattle.console_states.proofs.Common.{◌≡◌, ◌++◌, ℕ, ◌+◌, ◌<◌, ◌⊎◌, true, false, inl, inr, List, [], ◌∷◌, length}
use Rattle.console_states.proofs.Common.{ap, subst, sym, ◌∙◌, arith, slice_get, Some, Contains, true≢false}
use Rattle.console_states.proofs.Common.{get_or_default, Contains-push, Contains-push_cases, Contains-append_left, Cell}
use Rattle.console_states.proofs.Common.{Act, usable, Under, State, look_in, Offers, state_of, Entry, Entries, IsWith}
use Rattle.console_states.proofs.Common.{Adds, IsInSome, AddsOffers, get_or, rules, AddsOffer, AreKeysOf, IsOther}
use Rattle.console_states.proofs.Common.{DeadKey, Lists}
use Rattle.console_states.proofs.KeyLists.{read-below}
use Rattle.console_states.proofs.Searching.{place_last, same_entry}
use Rattle.keymap_core.specs.declared.action.Action.TheVariants as act

-- ---- what is added

-- nothing is
pub adds-none : {X : Type 0} (P : X → Type 0) (old now : List X) → now ≡ old → ((x : X) → P x → ⊥) → Adds P old now
adds-none P old now e none = search rules

-- an element, if it wasn't there
pub adds-one : {X : Type 0} (x : X) (old now : List X) → IsWith x old now → Adds (λ y. x ≡ y) old now
adds-one x old now (inl (e, has)) = search rules
adds-one x old now (inr e) = rw e (record {
  kept = λ y there. Contains-append_left old (x ∷ []) y there;
  all = λ y is. subst (λ z. Contains (old ++ x ∷ []) z) is (Contains-push old x);
  only = λ y there. Contains-push_cases old x y there;
})

-- what P adds is what Q adds, where both say the same
pub adds-as : {X : Type 0} (P Q : X → Type 0) (old now : List X) → ((x : X) → P x → Q x) → ((x : X) → Q x → P x)
    → Adds P old now → Adds Q old now
adds-as P Q old now f g a = search rules

-- what P adds and then Q is what R adds, where R says P or Q
pub adds-both : {X : Type 0} (P Q R : X → Type 0) (old mid now : List X) → ((x : X) → R x → P x ⊎ Q x)
    → ((x : X) → P x → R x) → ((x : X) → Q x → R x) → Adds P old mid → Adds Q mid now → Adds R old now
adds-both P Q R old mid now parts left right a b = search rules

pub empty-none : {X : Type 0} (xs : List X) (y : X) → xs ≡ [] → Contains xs y → ⊥
empty-none xs y e (k, lt, at) = let z : length xs ≡ 0 = ap (λ q. length q) e in omega (arith, lt, z)

-- what is added to nothing is all
pub enumerates : {X : Type 0} (P : X → Type 0) (xs : List X) → Adds P [] xs → Lists P xs
enumerates P xs a = search (rules, empty-none)

-- what is so in one more state
pub adds-place : {X : Type 0} (Q : X → State → Type 0) (es : Entries) (n : ℕ) (x : Entry) (old now : List X)
    → slice_get es n ≡ Some x → Adds (λ y. IsInSome es n (Q y)) [] old → Adds (λ y. Q y (state_of x.0)) old now
    → Adds (λ y. IsInSome es (n + 1) (Q y)) [] now
adds-place {X = X} Q es n x old now at before added =
    adds-both (λ y. IsInSome es n (Q y)) (λ y. Q y (state_of x.0)) (λ y. IsInSome es (n + 1) (Q y)) [] old now parts
    (λ y (j, z, here, lt, is). (j, z, here, omega (arith, lt), is)) (λ y is. (n, x, at, omega arith, is)) before added
  where
    parts : (y : X) → IsInSome es (n + 1) (Q y) → IsInSome es n (Q y) ⊎ Q y (state_of x.0)
    parts y (j, z, here, lt, is) = elim (place_last j n lt) [
      | inl below ↦ inl (j, z, here, below, is)
      | inr e ↦ inr (subst (λ w. Q y (state_of w.0)) (sym (same_entry es j n z x e here at)) is)
    ]

-- ---- accents

-- a key looks up one dead key at most
pub one_accent : (a b : ℕ) (x : Cell) → x ≡ Act (act.DeadKey a) → x ≡ Act (act.DeadKey b) → a ≡ b
one_accent a b x e f = let g : Act (act.DeadKey a) ≡ Act (act.DeadKey b) = sym e ∙ f in cc

-- the accent of a key was added
pub offer-added : (u : Under) (s : State) (k a : ℕ) (old now : List ℕ) → usable u.maps.first a ≡ true
    → Offers u s k a → IsWith a old now → AddsOffer u s k old now
offer-added u s k a old now can is w =
    adds-as (λ b. a ≡ b) (λ b. (usable u.maps.first b ≡ true) × Offers u s k b) old now
    (λ b e. subst (λ z. (usable u.maps.first z ≡ true) × Offers u s k z) e (can, is))
    (λ b (other, offers). one_accent a b (look_in u s k) is.1.0 offers.1.0) (adds-one a old now w)

-- the accent that the key offers isn't usable
pub unusable-none : (u : Under) (s : State) (k a : ℕ) → Offers u s k a → usable u.maps.first a ≡ false
    → (b : ℕ) → usable u.maps.first b ≡ true → Offers u s k b → ⊥
unusable-none u s k a is not_usable b can offers = search (rules, true≢false, one_accent)

-- the usable accents of the keys below the place were added
abbrev pub AddsOffersOf : Under → State → List ℕ → ℕ → List ℕ → List ℕ → Type 0
AddsOffersOf u s keys n old now =
    Adds (λ a. (usable u.maps.first a ≡ true) × ((j : ℕ) × (j < n) × Offers u s (get_or keys j 0) a)) old now

-- the offer of a further key
pub offers-more : (u : Under) (s : State) (keys : List ℕ) (n : ℕ) (old mid now : List ℕ)
    → AddsOffersOf u s keys n old mid → AddsOffer u s (get_or keys n 0) mid now
    → AddsOffersOf u s keys (n + 1) old now
offers-more u s keys n old mid now before next =
    adds-both (λ a. (usable u.maps.first a ≡ true) × ((j : ℕ) × (j < n) × Offers u s (get_or keys j 0) a))
    (λ a. (usable u.maps.first a ≡ true) × Offers u s (get_or keys n 0) a)
    (λ a. (usable u.maps.first a ≡ true) × ((j : ℕ) × (j < n + 1) × Offers u s (get_or keys j 0) a)) old mid now
    (λ a (can, (k, lt, is)). elim (place_last k n lt) [
      | inl below ↦ inl (can, (k, below, is))
      | inr e ↦ inr (can, subst (λ j. Offers u s (get_or keys j 0) a) e is)
    ])
    (λ a (can, (k, lt, is)). (can, (k, omega (arith, lt), is))) (λ a (can, is). (can, (n, omega arith, is))) before next

-- those of all keys that have a dead key are those of all keys
pub offers-all : (u : Under) (s : State) (keys : List ℕ) (n : ℕ) (old now : List ℕ) → AreKeysOf DeadKey u keys n
    → AddsOffersOf u s keys (length keys) old now → AddsOffers u s n old now
offers-all u s keys n old now (has, below) added =
    adds-as (λ a. (usable u.maps.first a ≡ true) × ((j : ℕ) × (j < length keys) × Offers u s (get_or keys j 0) a))
    (λ a. (usable u.maps.first a ≡ true) × ((k : ℕ) × (k < n) × Offers u s k a)) old now
    (λ a (can, (j, lt, is)). (
      can,
      (get_or keys j 0, read-below (λ k. (t : State) → IsOther DeadKey (look_in u t k)) keys n j (has, below) lt, is),
    ))
    (λ a (can, (k, lt, is)). elim (has k lt) [
      | inl (j, there, e) ↦
          (can, (j, there, subst (λ q. Offers u s q a) (sym (get_or_default keys j 0 k there ∙ e)) is))
      | inr other ↦ absurd (other s a is.1.0)
    ])
    added
