-- Maps in which each modifier and lock that picks a cell is borne throughout by one key alone, or by nobody: there a
-- look follows from which keys are pressed, and from the fresh presses of the locks' keys.
use Rattle.std.specs.Prelude.{◌≡◌, ℕ, ◌+◌, ◌<◌, ◌⊎◌, ◌↔◌, true, Bool, ◌&&◌, ◌||◌, List}
use Rattle.console_core.specs.Types.{Modifier, Lock, Holding, Cell, Event}
use Rattle.keymap_core.specs.declared.action.Modifier.TheVariants as modifier
use Rattle.keymap_core.specs.declared.action.Lock.TheVariants as lock
use Rattle.keymap_core.specs.declared.action.Holding.TheVariants as holding
use Rattle.keymap_core.specs.Actions.{holding_action}
use Rattle.keymap_core.specs.Maps.{MapValue}
use Rattle.keymap_core.specs.Bearers.{Bears, BearsThroughout, NobodyBears}
use Rattle.keymap_core.specs.Borne.{any_below, has_in_slot, is_upper_live}
use Rattle.keymap_core.specs.Numbers.{key_count}
use Rattle.console_core.specs.Positions.{count_where, is_odd}
use Rattle.console_core.specs.Columns.{look_with}
use Rattle.console_core.specs.History.{Maps, pressed, HasKeys, HasNoLoads}
use Rattle.console_core.specs.Headline.{is_fresh_press}
use Rattle.console_core.specs.Reading.{look_after}

-- nobody bears it, or one key alone does, in all its cells
abbrev pub IsPlainFor : MapValue → Holding → Type 0
IsPlainFor m a = NobodyBears m a ⊎ ((k : ℕ) × BearsThroughout m k a)

pub record IsPlain (m : MapValue) : Type 0 where
  pub left_shift : IsPlainFor m (holding.Mod modifier.LeftShift)
  pub right_shift : IsPlainFor m (holding.Mod modifier.RightShift)
  pub left_control : IsPlainFor m (holding.Mod modifier.LeftControl)
  pub right_control : IsPlainFor m (holding.Mod modifier.RightControl)
  pub left_alt : IsPlainFor m (holding.Mod modifier.LeftAlt)
  pub right_alt : IsPlainFor m (holding.Mod modifier.RightAlt)
  pub alt_shift : IsPlainFor m (holding.Mod modifier.AltShift)
  pub caps : IsPlainFor m (holding.Lock lock.Caps)
  pub num : IsPlainFor m (holding.Lock lock.Num)
  pub alt_lock : IsPlainFor m (holding.Lock lock.Alt)

-- the key bears the holding action, as a test
abbrev pub bears_holding : MapValue → Holding → ℕ → Bool
bears_holding m a k =
    has_in_slot m (holding_action a) k || (is_upper_live m && has_in_slot m (holding_action a) (k + key_count))

-- a key that bears the modifier is pressed: false where nobody bears it
unfoldable pub plain_on : MapValue → List Event → Modifier → Bool
plain_on m h i = any_below (λ k. bears_holding m (holding.Mod i) k && pressed k h) key_count

-- a key that bears the lock has an odd number of fresh presses: false where nobody bears it
unfoldable pub plain_locked : MapValue → List Event → Lock → Bool
plain_locked m h l = any_below (λ k. bears_holding m (holding.Lock l) k
    && is_odd (count_where (is_fresh_press k) h)) key_count

-- plain_on and plain_locked, in words
abbrev pub PlainOnByKeys : Type 0
PlainOnByKeys =
    (m : MapValue) (h : List Event) (i : Modifier)
    → (plain_on m h i ≡ true) ↔ ((k : ℕ) × (k < key_count) × Bears m k (holding.Mod i) × (pressed k h ≡ true))

abbrev pub PlainLockedByKeys : Type 0
PlainLockedByKeys =
    (m : MapValue) (h : List Event) (l : Lock)
    → (plain_locked m h l ≡ true)
    ↔ ((k : ℕ) × (k < key_count) × Bears m k (holding.Lock l) × (is_odd (count_where (is_fresh_press k) h) ≡ true))

abbrev pub plain_look : MapValue → ℕ → List Event → Cell
plain_look m k h = look_with m (plain_on m h) (plain_locked m h) k

abbrev pub LooksPlainly : Type 0
LooksPlainly =
    (ms : Maps) (h : List Event) → IsPlain ms.first → HasNoLoads h → HasKeys h
    → (k : ℕ) → look_after ms k h ≡ plain_look ms.first k h

-- the look by the modifiers and locks that a console shows after h is the plain one
abbrev pub IsPlainAfter : Maps → List Event → (Modifier → Bool) → (Lock → Bool) → Type 0
IsPlainAfter ms h is_on is_locked =
    IsPlain ms.first → HasNoLoads h → (k : ℕ) → look_with ms.first is_on is_locked k ≡ plain_look ms.first k h
