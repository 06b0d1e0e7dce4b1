-- The characters that the second of two presses types are those behind a press that changes something.
use Rattle.keymap_consequences.proofs.Common.{◌≡◌, ◌<◌, ◌⊎◌, ◌∙◌, ◌∷◌, [], ℕ, inl, inr, sym}
use Rattle.std.specs.Prelude.{◌↔◌}
use Rattle.std.specs.BTreeSet.{BTreeSet}
use Rattle.keymap_core.specs.Maps.{MapValue, cell_at}
use Rattle.console_scripts.proofs.Shared.{gains-more, gains-none, gains-same}
use Rattle.keymap_consequences.proofs.Common.{◌+◌}
use Rattle.keymap_consequences.proofs.Calm.{changes-or-not, second-is-first}
use Rattle.keymap_consequences.specs.Consequences.{IsTypedByOne, IsTypedByTwo}
use Rattle.keymap_consequences.specs.Inner.Near.{AreTypedSecond, Changes, Gains, HasCharacter, IsTypedBehind}

pub near-two : (m : MapValue) (one second : BTreeSet ℕ) → ((c : ℕ) → HasCharacter one c ↔ IsTypedByOne m c)
    → AreTypedSecond m second → (c : ℕ) → (HasCharacter one c ⊎ HasCharacter second c) ↔ IsTypedByTwo m c
near-two m one second ones seconds c = (
  (λ s. elim s [
    | inl has ↦ inl ((ones c).0 has)
    | inr has ↦
        let (j, below, (changes, (k, lt, typed))) = (seconds c).0 has in
        inr (j, k, below, lt, typed)
  ]),
  λ t. elim t [
    | inl typed ↦ inl ((ones c).1 typed)
    | inr two ↦
        let (j, k, below, lt, typed) = two in
        elim (changes-or-not m (cell_at m j 0)) [
          | inl changes ↦ inr ((seconds c).1 (j, below, (changes, (k, lt, typed))))
          | inr still ↦ inl ((ones c).1 (k, lt, sym (second-is-first m j k still) ∙ typed))
        ]
  ],
)

-- a key whose press changes something
pub gains-second : (m : MapValue) (A B C : ℕ → Type 0) (n : ℕ)
    → Gains A B (λ c. (j : ℕ) × (j < n) × (Changes m j × IsTypedBehind m j c)) → Changes m n
    → Gains B C (IsTypedBehind m n)
    → Gains A C (λ c. (j : ℕ) × (j < n + 1) × (Changes m j × IsTypedBehind m j c))
gains-second m A B C n first changes next =
    gains-more A B C (λ j c. Changes m j × IsTypedBehind m j c) n first
    (gains-same B C (IsTypedBehind m n) (λ c. Changes m n × IsTypedBehind m n c)
    (λ c. ((λ typed. (changes, typed)), λ x. x.1)) next)

-- a key whose press changes nothing
pub gains-still : (m : MapValue) (A B : ℕ → Type 0) (n : ℕ)
    → Gains A B (λ c. (j : ℕ) × (j < n) × (Changes m j × IsTypedBehind m j c)) → (Changes m n → ⊥)
    → Gains A B (λ c. (j : ℕ) × (j < n + 1) × (Changes m j × IsTypedBehind m j c))
gains-still m A B n first still =
    gains-more A B B (λ j c. Changes m j × IsTypedBehind m j c) n first
    (gains-none B (λ c. Changes m n × IsTypedBehind m n c) (λ c x. still x.0))
