-- The keys that have a cell of a kind. A search that presses those with cells that can be moves presses all.
use Rattle.std.proofs.Common.{rules}
use Rattle.console_states.proofs.Common.{◌≡◌, ℕ, ◌+◌, ◌<◌, Bool, true, false, inl, inr, List, [], ◌∷◌, ◌++◌, subst, sym}
use Rattle.console_states.proofs.Common.{below_more, get_or, length, ◌∙◌, ◌⊎◌, get_or_default, Contains, Contains-push}
use Rattle.console_states.proofs.Common.{Contains-append_left, Contains-push_cases, MapValue, cell_at, slot_of, arith}
use Rattle.console_states.proofs.Common.{look_with, Under, State, look_in, map_of, is_held, PressesLead, IsUnmoving}
use Rattle.console_states.proofs.Common.{HasMovingKeys, IsOther}
use Rattle.console_core.proofs.Shared.{column_of-lt}
use Rattle.console_states.specs.declared.key_lists.CellKind.{CellKind}

-- the cells of a key in its two slots are those that it may look up
pub either-half : (kind : CellKind) (m : MapValue) (k a b : ℕ) → a ≡ k → b ≡ k
    → ((column : ℕ) → column < 8 → IsOther kind (cell_at m a column))
    → ((column : ℕ) → column < 8 → IsOther kind (cell_at m (b + 128) column))
    → (upper : Bool) (column : ℕ) → column < 8 → IsOther kind (cell_at m (slot_of k upper) column)
either-half kind m k a b e f low high false column lt =
    subst (λ slot. IsOther kind (cell_at m slot column)) e (low column lt)
either-half kind m k a b e f low high true column lt =
    subst (λ slot. IsOther kind (cell_at m (slot + 128) column)) f (high column lt)

other_in : (kind : CellKind) (u : Under) (s : State) (k : ℕ) (is_second : Bool)
    → ((upper : Bool) (column : ℕ) → column < 8 → IsOther kind (cell_at u.maps.first (slot_of k upper) column))
    → ((upper : Bool) (column : ℕ) → column < 8 → IsOther kind (cell_at u.maps.second (slot_of k upper) column))
    → IsOther kind (look_with (map_of u is_second) (λ i. is_held s i) (λ l. s.is_locked l) k)
other_in kind u s k false first second = first _ _ (column_of-lt _ _ _)
other_in kind u s k true first second = second _ _ (column_of-lt _ _ _)

-- a key without a cell of the kind looks up none in any state
pub other-key : (kind : CellKind) (u : Under) (k : ℕ)
    → ((upper : Bool) (column : ℕ) → column < 8 → IsOther kind (cell_at u.maps.first (slot_of k upper) column))
    → ((upper : Bool) (column : ℕ) → column < 8 → IsOther kind (cell_at u.maps.second (slot_of k upper) column))
    → (s : State) → IsOther kind (look_in u s k)
other-key kind u k first second s = other_in kind u s k s.is_second first second

-- each number below n is among the keys or has P, and the keys are below n
abbrev pub HasAllBut : (ℕ → Type 0) → List ℕ → ℕ → Type 0
HasAllBut P keys n = ((k : ℕ) → k < n → Contains keys k ⊎ P k) × ((k : ℕ) → Contains keys k → k < n)

-- the next key is added
pub keys-with : (P : ℕ → Type 0) (keys now : List ℕ) (n : ℕ) → now ≡ keys ++ n ∷ [] → HasAllBut P keys n
    → HasAllBut P now (n + 1)
keys-with P keys now n e (has, below) = (
  below_more _ _
      (λ k lt. elim (has k lt) [
        | inl is ↦ inl (subst (λ xs. Contains xs k) (sym e) (Contains-append_left keys (n ∷ []) k is))
        | inr other ↦ inr other
      ])
      (inl (subst (λ xs. Contains xs n) (sym e) (Contains-push keys n))),
  (λ k is. elim (Contains-push_cases keys n k (subst (λ xs. Contains xs k) e is)) [
    | inl was ↦ let lt = below k was in omega (arith, lt)
    | inr same ↦ omega (arith, same)
  ]),
)

-- the next key has P
pub keys-without : (P : ℕ → Type 0) (keys now : List ℕ) (n : ℕ) → now ≡ keys → P n → HasAllBut P keys n
    → HasAllBut P now (n + 1)
keys-without P keys now n e other (has, below) = (
  below_more _ _ (subst (λ xs. (k : ℕ) → k < n → Contains xs k ⊎ P k) (sym e) has) (inr other),
  (λ k is. let lt = below k (subst (λ xs. Contains xs k) e is) in omega (arith, lt)),
)

-- a key that is read of the list
pub read-below : (P : ℕ → Type 0) (keys : List ℕ) (n j : ℕ) → HasAllBut P keys n → j < length keys
    → get_or keys j 0 < n
read-below P keys n j (has, below) lt =
    below (get_or keys j 0) (j, lt, sym (get_or_default keys j 0 (get_or keys j 0) lt))

-- a press of a key that looks up what is no move leads nowhere
pressed-unmoving : (P : State → Type 0) (u : Under) (s : State) (k : ℕ) → IsUnmoving u.minded (look_in u s k)
    → PressesLead u s k P
pressed-unmoving P u s k (no_mod, no_lock, no_accent) idle = search rules

-- where the presses of these keys lead it is so, so where those of all keys lead it is
pub all-pressed : (P : State → Type 0) (u : Under) (s : State) (keys : List ℕ) (n : ℕ) → HasMovingKeys u keys n
    → ((j : ℕ) → j < length keys → PressesLead u s (get_or keys j 0) P)
    → (k : ℕ) → k < n → PressesLead u s k P
all-pressed P u s keys n moving lead k lt =
    elim (moving k lt) [
      | inl (j, below, e) ↦ subst (λ q. PressesLead u s q P) (get_or_default keys j 0 k below ∙ e) (lead j below)
      | inr still ↦ pressed-unmoving P u s k (still s)
    ]
