-- What stands where one key looks while another one is held can be typed.
use Rattle.std.proofs.Common.{rules}
use Rattle.keymap_lint.proofs.Common.{◌≡◌, ◌∙◌, ℕ, ◌<◌, Bool, true, false, cond, [], ◌∷◌, Option, Some, None, ap}
use Rattle.keymap_lint.proofs.Common.{MapValue, refl, subst}
use Rattle.std.specs.Prelude.{IfSome}
use Rattle.std.proofs.Common.{inl, inr, ◌==◌, eq-eqb}
use Rattle.keymap_core.specs.declared.action.Action.TheVariants as act
use Rattle.keymap_core.specs.declared.action.Modifier.{Modifier}
use Rattle.keymap_core.specs.declared.action.Modifier.TheVariants.{LeftShift, RightShift, LeftAlt, RightAlt}
use Rattle.keymap_core.specs.declared.entry.LockFlag.{LockFlag}
use Rattle.keymap_core.specs.declared.entry.LockFlag.TheVariants as flag
use Rattle.keymap_core.specs.Actions.{same_modifier}
use Rattle.keymap_core.specs.Accents.{own_of}
use Rattle.keymap_core.specs.Maps.{accent_at, cell_at, entry_at}
use Rattle.console_core.specs.Columns.{column_of, exactly_one, flips_shift}
use Rattle.console_states.specs.Moves.{IsIdle, start}
use Rattle.console_states.specs.declared.held.Move.TheVariants.{Hold, LetGo}
use Rattle.console_scripts.specs.declared.explored.Symbol.TheVariants as symbol
use Rattle.console_scripts.specs.Typing.{CanType}
use Rattle.keymap_lint.specs.Types.{Cell, Act}
use Rattle.keymap_lint.specs.Ways.{IsTypedBy, IsWay, Selects, held_by}

-- no lock is on, so no lock letter flips shift
no_flip : (f : LockFlag) → flips_shift f false false ≡ false
no_flip flag.O = refl
no_flip flag.C = refl
no_flip flag.N = refl
no_flip flag.B = refl

looks_flipped : (m : MapValue) (k : ℕ) (shift alt : Bool)
    → cell_at m k (column_of (exactly_one shift (flips_shift (entry_at m k).flag false false)) false alt)
    ≡ cell_at m k (column_of (exactly_one shift false) false alt)
looks_flipped m k shift alt =
    ap (λ b. cell_at m k (column_of (exactly_one shift b) false alt)) (no_flip (entry_at m k).flag)

pub left_shift : Selects LeftShift 1
left_shift = record { looks = λ m h k. looks_flipped m k true false; holds = λ h. refl; plain = λ h. refl }

pub right_shift : Selects RightShift 1
right_shift = record { looks = λ m h k. looks_flipped m k true false; holds = λ h. refl; plain = λ h. refl }

pub left_alt : Selects LeftAlt 4
left_alt = record { looks = λ m h k. looks_flipped m k false true; holds = λ h. refl; plain = λ h. refl }

pub right_alt : Selects RightAlt 4
right_alt = record { looks = λ m h k. looks_flipped m k false true; holds = λ h. refl; plain = λ h. refl }

nothing_held : (k : ℕ) → IsIdle start k
nothing_held k i e = absurd (cc)

-- each key can be tapped for what stands in its column 0
pub base_way : (m : MapValue) → IsWay m (record { holder = None; column = 0 })
base_way m k x plain low ne is = search (rules, nothing_held, looks_flipped)

-- and beside one that is held for what stands in the column of its modifier
pub held_way : (m : MapValue) (i : Modifier) (column h : ℕ) → Selects i column → h < 128
    → cell_at m h 0 ≡ Act (act.Mod i) → IsWay m (record { holder = Some h; column = column })
held_way m i column h s few lies k x plain low ne is = (
  Hold h i ∷ [],
  (((few, nothing_held h, (looks_flipped m h false false ∙ lies, refl)), refl), tt),
  (LetGo h i ∷ [], (s.holds h, tt), (free, λ l. refl)),
  (k, (low, idle, s.looks m h k ∙ is, λ e. s.plain h)),
)
  where
    freed : (b : Bool) → cond b None (cond b (Some h) None) ≡ None
    freed true = refl
    freed false = refl

    free : (j : Modifier) → cond (same_modifier i j) None (cond (same_modifier i j) (Some h) None) ≡ None
    free j = freed (same_modifier i j)

    other : (b : Bool) → cond b (Some h) None ≡ Some k → ⊥
    other true e = ne e
    other false e = absurd (cc)

    idle : IsIdle (held_by i h) k
    idle j e = other (same_modifier i j) e

-- a key types what stands in the column, and a dead key twice its accent's own character
pub typed_sure : (m : MapValue) (holder : Option ℕ) (column k c : ℕ)
    → IsWay m (record { holder = holder; column = column }) → k < 128 → (holder ≡ Some k → ⊥)
    → IsTypedBy m (cell_at m k column) c → CanType m c
typed_sure m holder column k c way low ne (inl is) = inl (way k (symbol.Character c) true low ne is)
typed_sure m holder column k c way low ne (inr (i, is, can_use, own)) = inr (
  i,
  symbol.DeadKey i,
  can_use,
  same ∙ own,
  way k (symbol.DeadKey i) false low ne is,
  way k (symbol.DeadKey i) true low ne is,
)
  where
    same : cond (i == i) (own_of (accent_at m i)) None ≡ own_of (accent_at m i)
    same = ap (λ b. cond b (own_of (accent_at m i)) None) (eq-eqb i i refl)

-- the same of what is found in the cell, if something is
pub all_typed_beside : (m : MapValue) (holder : Option ℕ) (column k : ℕ) (x : Cell) (o : Option ℕ)
    → IsWay m (record { holder = holder; column = column }) → k < 128 → (holder ≡ Some k → ⊥)
    → x ≡ cell_at m k column → IfSome o (λ c. IsTypedBy m x c) → IfSome o (λ c. CanType m c)
all_typed_beside m holder column k x None way low ne is h = h
all_typed_beside m holder column k x (Some c) way low ne is h =
    typed_sure m holder column k c way low ne (subst (λ (y : Cell). IsTypedBy m y c) is h)
