-- The keys that the tried scripts press.
use Rattle.keymap_check.proofs.Common.{◌≡◌, ◌≢◌, ℕ, true, false, not, Option, Some, None, refl, subst, sym, ◌∙◌, ◌==◌}
use Rattle.keymap_check.proofs.Common.{true≢false, eq-eqb, eqb-true, and_parts, not-true, false_from_ne_true, is_some}
use Rattle.keymap_check.proofs.Common.{is_other, Modifier, LeftShift, Group, MapValue, first_below, rules}
use Rattle.keymap_check.proofs.Common.{first_below-some, first_below-no, first_place, is_of_group, group_at}
use Rattle.keymap_check.proofs.Common.{bears_group, bit_key, group_of, bit_of_group, ◌↔◌}
use Rattle.keymap_check.specs.Tried.{BearsGroup, IsBitKey, BitKeysAreLeast, TriedKeysAreUnsafe}
use Rattle.keymap_check.proofs.Places.{has-cell}
use Rattle.keymap_check.proofs.Findings.{unsafe-key}
use Rattle.keymap_check.proofs.Shown.{group-cell, group-bit}
use Rattle.keymap_check.specs.declared.kind.Group.TheVariants as group
use Rattle.keymap_check.specs.declared.kind.Kind.TheVariants as kind

-- a modifier of the group passes its test
group-of : (g : Group) (y : Modifier) → group_of y ≡ Some g → is_of_group g y ≡ true
group-of group.Shift LeftShift e = cc
group-of group.Control LeftShift e = cc
group-of group.Alt LeftShift e = cc
group-of group.AltShift LeftShift e = cc
group-of _ _ e = cc

-- a key bears the group exactly if a place of it is found
bears-group : (m : MapValue) (g : Group) (j : ℕ) → (is_some (first_place m (kind.Of g) j) ≡ true) ↔ BearsGroup m j g
bears-group m g j = search (rules, has-cell, group-cell, group-of)

-- a key that bears the group, and isn't the one tried, passes the test of its bit
bit_key-true : (m : MapValue) (k : ℕ) (g : Group) (i : ℕ) → i ≢ k → BearsGroup m i g
    → is_other (bears_group m (bit_of_group g)) k i ≡ true
bit_key-true m k g i ne b = search (rules, group-bit, bears-group, false_from_ne_true, eqb-true)

-- a key that fails the test of a bit doesn't bear the group
no_bit_key : (m : MapValue) (k : ℕ) (g : Group) (i : ℕ) → is_other (bears_group m (bit_of_group g)) k i ≡ false → i ≢ k
    → BearsGroup m i g
    → ⊥
no_bit_key m k g i e ne b = true≢false (sym (bit_key-true m k g i ne b) ∙ e)

-- the key of a bit is the least that passes its test
least_by : (m : MapValue) (k : ℕ) (g : Group) (o : Option ℕ)
    → first_below (is_other (bears_group m (bit_of_group g)) k) 128 ≡ o → IsBitKey m k g o
least_by m k g None e =
    λ j lt. no_bit_key m k g j (first_below-no (is_other (bears_group m (bit_of_group g)) k) 128 e j lt)
least_by m k g (Some j) e =
    let s = first_below-some (is_other (bears_group m (bit_of_group g)) k) 128 j e in
    let t : (not (j == k) ≡ true) × (is_some (first_place m (kind.Of (group_at (bit_of_group g))) j) ≡ true) =
    and_parts _ _ s.1 in
    let there : is_some (first_place m (kind.Of g) j) ≡ true =
    subst (λ x. is_some (first_place m (kind.Of x) j) ≡ true) (group-bit g) t.1 in (
      s.0,
      (λ q. true≢false (sym (eq-eqb j k q) ∙ not-true (j == k) t.0)),
      (bears-group m g j).0 there,
      (λ i lt. no_bit_key m k g i (s.2 i lt)),
    )

-- the key of a bit is the least other key that bears the group
pub bit_keys_are_least : BitKeysAreLeast
unfolding bit_key
bit_keys_are_least m k g = least_by m k g (first_below (is_other (bears_group m (bit_of_group g)) k) 128) refl

-- the keys that scripts are tried for are the unsafe ones
pub tried_keys_are_unsafe : TriedKeysAreUnsafe
tried_keys_are_unsafe m k = unsafe-key m k
