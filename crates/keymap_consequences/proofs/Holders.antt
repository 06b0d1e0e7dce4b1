-- The keys that bear a modifier or lock, by the tests of their slots.
use Rattle.keymap_consequences.proofs.Common.{◌≡◌, ◌<◌, ◌+◌, ◌∙◌, ℕ, Bool, List, true, false, inl, inr, sym, true≢false}
use Rattle.keymap_consequences.proofs.Common.{arith, length, place_last, subst}
use Rattle.std.proofs.Common.{get_or}
use Rattle.std.proofs.lemmas.List.{get_or-set_other, get_or-set_same}
use Rattle.std.specs.Prelude.{◌↔◌, set}
use Rattle.keymap_core.proofs.Shared.{live-upper, slot-stands, stands-slot, upper-is_live}
use Rattle.keymap_consequences.proofs.Common.{◌==◌, ap, if◌then◌else◌, refl}
use Rattle.keymap_core.specs.Actions.{holding_action, holding_index}
use Rattle.keymap_core.specs.declared.action.Holding.TheVariants as holding
use Rattle.keymap_core.specs.declared.action.Modifier.TheVariants as i
use Rattle.keymap_core.specs.declared.action.Lock.TheVariants as l
use Rattle.keymap_core.specs.Bearers.{Bears}
use Rattle.keymap_core.specs.Borne.{has_in_slot, is_upper_live}
use Rattle.keymap_core.specs.Maps.{MapValue}
use Rattle.keymap_core.specs.Numbers.{key_count}
use Rattle.keymap_core.specs.declared.action.Holding.{Holding}
use Rattle.keymap_consequences.specs.Inner.Keys.{BearsNothing}

-- a key that bears it
abbrev pub IsHolder : MapValue → Holding → ℕ → Type 0
IsHolder m a k = (k < key_count) × Bears m k a

pub bears-quiet : (m : MapValue) (k : ℕ) (a : Holding) → BearsNothing m k → Bears m k a → ⊥
bears-quiet m k a quiet (inl lower) = quiet.0 a lower
bears-quiet m k a quiet (inr (live, upper)) = quiet.1 a upper

pub bears-lower : (m : MapValue) (k : ℕ) (a : Holding) → has_in_slot m (holding_action a) k ≡ true → Bears m k a
bears-lower m k a has = inl (slot-stands m (holding_action a) k has)

pub bears-upper : (m : MapValue) (k : ℕ) (a : Holding) → is_upper_live m ≡ true
    → has_in_slot m (holding_action a) (k + 128) ≡ true
    → Bears m k a
bears-upper m k a live has = inr (live-upper m live, slot-stands m (holding_action a) (k + 128) has)

-- nor where the upper half isn't live
pub bears-dead : (m : MapValue) (k : ℕ) (a : Holding) → has_in_slot m (holding_action a) k ≡ false
    → is_upper_live m ≡ false → Bears m k a → ⊥
bears-dead m k a none dead (inl lower) = true≢false (sym (stands-slot m (holding_action a) k lower) ∙ none)
bears-dead m k a none dead (inr (live, upper)) = true≢false (sym (upper-is_live m live) ∙ dead)

pub bears-none : (m : MapValue) (k : ℕ) (a : Holding) → has_in_slot m (holding_action a) k ≡ false
    → has_in_slot m (holding_action a) (k + 128) ≡ false → Bears m k a → ⊥
bears-none m k a none nowhere (inl lower) = true≢false (sym (stands-slot m (holding_action a) k lower) ∙ none)
bears-none m k a none nowhere (inr (live, upper)) =
    true≢false (sym (stands-slot m (holding_action a) (k + 128) upper) ∙ nowhere)

-- one key more in the table of those that bear nothing
pub quiet-set : (P : ℕ → Type 0) (xs : List Bool) (n i : ℕ) (b : Bool) → i ≡ n → n < length xs
    → ((k : ℕ) → k < n → get_or xs k false ≡ false → P k) → (b ≡ false → P n) → (k : ℕ) → k < n + 1
    → get_or (set xs i b) k false ≡ false → P k
quiet-set P xs n i b e within before here k lt none = elim (place_last k n lt) [
  | inl below ↦
      before k below
      (sym (get_or-set_other xs i k b false (λ same. omega (arith, below, same, e))) ∙ none)
  | inr same ↦
      subst P (sym same)
      (here (sym (get_or-set_same xs i b false (subst (λ z. z < length xs) (sym e) within))
      ∙ subst (λ z. get_or (set xs i b) z false ≡ false) (same ∙ sym e) none))
]

-- ---- modifiers and locks by their places

abbrev at_index : ℕ → Holding
at_index n =
    if n == 0 then holding.Mod i.LeftShift else if n == 1 then holding.Mod i.RightShift
    else if n == 2 then holding.Mod i.LeftControl else if n == 3 then holding.Mod i.RightControl
    else if n == 4 then holding.Mod i.LeftAlt else if n == 5 then holding.Mod i.RightAlt
    else if n == 6 then holding.Mod i.AltShift else if n == 7 then holding.Mod i.Meta
    else if n == 8 then holding.Lock l.Caps else if n == 9 then holding.Lock l.Num
    else if n == 10 then holding.Lock l.Scroll else holding.Lock l.Alt

at-index : (a : Holding) → at_index (holding_index a) ≡ a
at-index (holding.Mod i.LeftShift) = refl
at-index (holding.Mod j) = refl
at-index (holding.Lock l.Caps) = refl
at-index (holding.Lock k) = refl

pub index-same : (a b : Holding) → holding_index a ≡ holding_index b → a ≡ b
index-same a b e = sym (at-index a) ∙ ap at_index e ∙ at-index b

pub index-small : (a : Holding) → holding_index a < 12
index-small (holding.Mod i.LeftShift) = omega arith
index-small (holding.Mod j) = omega arith
index-small (holding.Lock l.Caps) = omega arith
index-small (holding.Lock k) = omega arith
