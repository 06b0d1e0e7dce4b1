-- When states are the same: exactly if their tables test equal.
use Rattle.console_states.proofs.Common.{suc, zero, ◌≡◌, ℕ, ◌<◌, true, false, List, length, get_or}
use Rattle.console_states.proofs.Common.{none-some, same_Some, refl, ap, sym, ◌∙◌, arith, rules}
use Rattle.console_states.proofs.Common.{get_or_default, modifiers, modifier_index, LeftShift, Caps, Held, state_of}
use Rattle.console_states.proofs.Common.{◌≢◌, ◌⊎◌, inl, inr, Lock, Modifier, Num, Scroll, Alt, State, IsHome, start}
use Rattle.console_states.proofs.Common.{fun_ext}
use Rattle.std.specs.Cmp.{booleans_Decides, unsigned_Decides}
use Rattle.std.specs.Cmp.Derive.{both_true}
use Rattle.std.specs.Cmp.Lexicographic.{pointwise_decides}
use Rattle.std.proofs.lemmas.List.{same_lists}
use Rattle.keymap_core.specs.Actions.{locks, lock_index}
pub use Rattle.console_states.specs.Inner.HeldBytes.{are_same}
use Rattle.console_states.specs.Inner.HeldBytes.{AreSame, held-equal}
use Rattle.console_states.specs.Moves.{key_of}

-- what holds of each lock
pub each-lock : (P : Lock → Type 0) → P Caps → P Num → P Scroll → P Alt → (l : Lock) → P l
each-lock P caps num scroll alt Caps = caps
each-lock P caps num scroll alt Num = num
each-lock P caps num scroll alt Scroll = scroll
each-lock P caps num scroll alt Alt = alt

-- a lock is the scroll lock, or another
pub scroll_or_other : (l : Lock) → (l ≡ Scroll) ⊎ (l ≢ Scroll)
scroll_or_other =
    each-lock (λ j. (j ≡ Scroll) ⊎ (j ≢ Scroll)) (inr (λ e. cc)) (inr (λ e. cc)) (inl refl) (inr (λ e. cc))

-- states with the same holders and locks, the same map in force, and the same pending, are the same
pub same_states : (s t : State) → ((i : Modifier) → s.holder i ≡ t.holder i)
    → ((l : Lock) → s.is_locked l ≡ t.is_locked l) → s.is_second ≡ t.is_second → s.is_pending ≡ t.is_pending → s ≡ t
same_states s t holders locks second pending = search (rules, fun_ext)

-- home is the start
pub home-start : (s : State) → IsHome s → s.is_second ≡ false → s.is_pending ≡ false → s ≡ start
home-start s (free, off) first none = same_states s start free off first none

same-state : (x y : Held) → AreSame x y → state_of x ≡ state_of y
same-state x y e = search rules

pub tells-same : (x y : Held) → are_same x y ≡ true → state_of x ≡ state_of y
tells-same x y e = same-state x y (held-equal x y e)

-- the tables of equal states
modifier_place : (n : ℕ) → n < 8 → modifier_index (get_or modifiers n LeftShift) ≡ n
modifier_place (suc (suc (suc (suc (suc (suc (suc (suc n)))))))) lt = absurd (omega (arith, lt))
modifier_place _ lt = refl

-- the index of each lock in their list
lock_place : (n : ℕ) → n < 4 → lock_index (get_or locks n Caps) ≡ n
lock_place (suc (suc (suc (suc n)))) lt = absurd (omega (arith, lt))
lock_place _ lt = refl

-- lists of one length are equal where all their elements are
same_at : {A : Type 0} (xs ys : List A) (n : ℕ) (d : A) → length xs ≡ n → length ys ≡ n
    → ((k : ℕ) → k < n → get_or xs k d ≡ get_or ys k d) → xs ≡ ys
same_at xs ys n d e f at =
    same_lists xs ys (e ∙ sym f) (λ k c lt.
    let below : k < n = omega (arith, lt, e) in
    let other : k < length ys = omega (arith, below, f) in
    get_or_default xs k c d lt ∙ at k below ∙ sym (get_or_default ys k c d other))

-- a key has one number
same_number : (a b : ℕ) → key_of a ≡ key_of b → a ≡ b
same_number zero zero e = refl
same_number (suc a) (suc b) e = ap suc (same_Some a b e)
same_number zero (suc b) e = absurd (none-some b e)
same_number (suc a) zero e = absurd (none-some a (sym e))

pub same-tells : (x y : Held) → state_of x ≡ state_of y → are_same x y ≡ true
same-tells x y e =
    let holders = same_at x.holders y.holders 8 0 x.holders_len y.holders_len
    (λ k lt. same_number _ _ (rw (← (modifier_place k lt)) (ap (λ s. s.holder (get_or modifiers k LeftShift)) e))) in
    let locks = same_at x.locks y.locks 4 false x.locks_len y.locks_len
    (λ k lt. rw (← (lock_place k lt)) (ap (λ s. s.is_locked (get_or locks k Caps)) e)) in
    both_true ((pointwise_decides unsigned_Decides x.holders y.holders).1 holders)
    (both_true ((pointwise_decides booleans_Decides x.locks y.locks).1 locks)
    (both_true ((booleans_Decides x.is_second y.is_second).1 (ap (λ s. s.is_second) e))
    ((booleans_Decides x.is_pending y.is_pending).1 (ap (λ s. s.is_pending) e))))
