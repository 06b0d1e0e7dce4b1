-- Looks in plain maps.
use Rattle.console_core.proofs.Common.{◌≡◌, ℕ, ◌<◌, Bool, true, false, ◌&&◌, List, refl, subst, sym, ◌∙◌, inl, rules}
use Rattle.console_core.proofs.Common.{inr, lit<, or_cases, and_parts, false_from_ne_true, or_right, Lock, Modifier}
use Rattle.console_core.proofs.Common.{Holding, Act, Event, holding_action, MapValue, cell_at, Bears, IsCellOf}
use Rattle.console_core.proofs.Common.{BearsThroughout, count_where, is_odd, look_with, ResolvedEvent, held, locked}
use Rattle.console_core.proofs.Common.{look, Maps, in_force, resolved, pressed, is_on_after, is_locked_after, HasKeys}
use Rattle.console_core.proofs.Common.{HasNoLoads, is_fresh_press, fun_ext}
use Rattle.std.proofs.lemmas.Bool.{or_left}
use Rattle.keymap_core.specs.Bearers.{NobodyBears}
use Rattle.keymap_core.specs.Borne.{any_below}
use Rattle.console_core.specs.Plain.{IsPlainFor, IsPlain, bears_holding, plain_on, plain_locked, plain_look}
use Rattle.console_core.specs.Plain.{LooksPlainly, PlainOnByKeys, PlainLockedByKeys}
use Rattle.keymap_core.proofs.Shared.{any-some, borne-bears, live-upper, slot-stands, some-any, stands-slot}
use Rattle.keymap_core.proofs.Shared.{upper-is_live}
use Rattle.console_core.proofs.Borne.{AllLooked, locked-borne, resolved-looked}
use Rattle.console_core.proofs.Bearing.{RememberedBySome, held-remembered, remembered-cell}
use Rattle.console_core.proofs.Headline.{throughout_held, same_by}
use Rattle.console_core.proofs.FreshPresses.{locked_by_fresh_presses}
use Rattle.console_core.proofs.OneMap.{first_in_force}
use Rattle.keymap_core.specs.declared.action.Lock.TheVariants as lock
use Rattle.keymap_core.specs.declared.action.Modifier.TheVariants as modifier
use Rattle.keymap_core.specs.declared.action.Holding.TheVariants as holding

-- the test whether a key bears a holding action
pub bears-is : (m : MapValue) (a : Holding) (k : ℕ) → bears_holding m a k ≡ true → Bears m k a
bears-is m a k e = search (rules, or_cases, slot-stands, and_parts, live-upper)

-- a key that bears a holding action passes the test
pub is-bears : (m : MapValue) (a : Holding) (k : ℕ) → Bears m k a → bears_holding m a k ≡ true
is-bears m a k (inl s) = or_left _ _ (stands-slot m (holding_action a) k s)
is-bears m a k (inr s) = search (rules, or_right, upper-is_live, stands-slot)

-- a key that bears the action throughout bears it
pub throughout-bears : (m : MapValue) (k : ℕ) (a : Holding) → BearsThroughout m k a → Bears m k a
throughout-bears m k a s =
    subst (λ x. IsCellOf m k x) (s.2 (cell_at m k 0) (inl (0, lit< tt, refl))) (inl (0, lit< tt, refl))

-- a fact about the one key that bears the action
one_bearer : (m : MapValue) (a : Holding) (k : ℕ) (fact : ℕ → Bool) → BearsThroughout m k a
    → any_below (λ j. bears_holding m a j && fact j) 128 ≡ fact k
one_bearer m a k fact s =
    same_by _ (fact k)
    (λ e.
    let t : (j : ℕ) × (j < 128) × ((bears_holding m a j && fact j) ≡ true) = some-any
    (λ j. bears_holding m a j && fact j) 128 e in
    let p : (bears_holding m a t.0 ≡ true) × (fact t.0 ≡ true) = and_parts _ _ t.2 in
    subst (λ j. fact j ≡ true) (s.1 t.0 t.1 (bears-is m a t.0 p.0)) p.1)
    (λ e. any-some (λ j. bears_holding m a j && fact j) k 128 s.0
    (rw (is-bears m a k (throughout-bears m k a s), e) refl))

-- some key that bears the action has a fact
bearer-some : (m : MapValue) (a : Holding) (fact : ℕ → Bool) → any_below (λ j. bears_holding m a j && fact j) 128 ≡ true
    → (k : ℕ) × (k < 128) × Bears m k a × (fact k ≡ true)
bearer-some m a fact e = search (rules, some-any, and_parts, bears-is)

-- a bearer for which a fact holds is found
some-bearer : (m : MapValue) (a : Holding) (fact : ℕ → Bool) (k : ℕ) → k < 128 → Bears m k a → fact k ≡ true
    → any_below (λ j. bears_holding m a j && fact j) 128 ≡ true
some-bearer m a fact k lt b e = any-some (λ j. bears_holding m a j && fact j) k 128 lt (rw (is-bears m a k b, e) refl)

-- a modifier is on by the test exactly if a key that bears it is pressed
pub plain_on_by_keys : PlainOnByKeys
unfolding plain_on
plain_on_by_keys m h i = (
  bearer-some m (holding.Mod i) (λ k. pressed k h),
  λ s. some-bearer m (holding.Mod i) (λ k. pressed k h) s.0 s.1 s.2 s.3,
)

-- a lock is on by the test exactly if a key that bears it had an odd number of fresh presses
pub plain_locked_by_keys : PlainLockedByKeys
unfolding plain_locked
plain_locked_by_keys m h l = (
  bearer-some m (holding.Lock l) (λ k. is_odd (count_where (is_fresh_press k) h)),
  λ s. some-bearer m (holding.Lock l) (λ k. is_odd (count_where (is_fresh_press k) h)) s.0 s.1 s.2 s.3,
)

-- where nobody bears a holding action, no bearer is found
no_bearer : (m : MapValue) (a : Holding) (fact : ℕ → Bool) → NobodyBears m a
    → any_below (λ j. bears_holding m a j && fact j) 128 ≡ false
no_bearer m a fact nobody =
    false_from_ne_true _ (λ e.
    let t : (j : ℕ) × (j < 128) × ((bears_holding m a j && fact j) ≡ true) = some-any
    (λ j. bears_holding m a j && fact j) 128 e in
    nobody t.0 t.1 (bears-is m a t.0 (and_parts _ _ t.2).0))

-- what nobody bears is never held
pub never-held : (m : MapValue) (a : Holding) → NobodyBears m a → (r : List ResolvedEvent) → AllLooked m r
    → held a r ≡ false
never-held m a nobody r all =
    false_from_ne_true _ (λ e.
    let s : RememberedBySome a r = held-remembered m a (λ k lt b c x. nobody k lt b) r all e in
    let b : (s.0 < 128) × IsCellOf m s.0 (Act (holding_action a)) =
    remembered-cell m r s.0 (holding_action a) all s.1 in
    nobody s.0 b.0 b.1)

-- a lock that nobody bears is never on
pub never-locked : (m : MapValue) (l : Lock) → NobodyBears m (holding.Lock l) → (r : List ResolvedEvent) → AllLooked m r
    → locked l r ≡ false
never-locked m l nobody r all =
    false_from_ne_true _ (λ e.
    let s : (k : ℕ) × (k < 128) × Bears m k (holding.Lock l) =
    borne-bears m (holding.Lock l) (locked-borne m l r all e) in
    nobody s.0 s.1 s.2)

-- without loads, under the first map
module _ (ms : Maps) (h : List Event) (none : HasNoLoads h) (keys : HasKeys h) where
  -- all presses look up cells of their keys in the first map
  looked : AllLooked ms.first (resolved ms h)
  looked = subst (λ m. AllLooked m (resolved ms h)) (first_in_force ms h none) (resolved-looked ms h keys)

  -- a modifier that is plain is on by the test
  on-plain : (i : Modifier) → IsPlainFor ms.first (holding.Mod i) → is_on_after ms i h ≡ plain_on ms.first h i
  unfolding plain_on
  on-plain i (inl nobody) =
      never-held ms.first (holding.Mod i) nobody (resolved ms h) looked
      ∙ sym (no_bearer ms.first (holding.Mod i) (λ k. pressed k h) nobody)
  on-plain i (inr s) =
      throughout_held ms h keys (holding.Mod i) s.0
      (subst (λ m. BearsThroughout m s.0 (holding.Mod i)) (sym (first_in_force ms h none)) s.1)
      ∙ sym (one_bearer ms.first (holding.Mod i) s.0 (λ k. pressed k h) s.1)

  -- a lock that is plain is on by the test
  locked-plain : (l : Lock) → IsPlainFor ms.first (holding.Lock l) → is_locked_after ms l h ≡ plain_locked ms.first h l
  unfolding plain_locked
  locked-plain l (inl nobody) =
      never-locked ms.first l nobody (resolved ms h) looked
      ∙ sym (no_bearer ms.first (holding.Lock l) (λ k. is_odd (count_where (is_fresh_press k) h)) nobody)
  locked-plain l (inr s) =
      locked_by_fresh_presses ms h keys l s.0 s.1 (inl none)
      ∙ sym (one_bearer ms.first (holding.Lock l) s.0 (λ k. is_odd (count_where (is_fresh_press k) h)) s.1)

  -- a look in the map in force is one in the first map
  pub looks-first : (k : ℕ)
      → look (in_force ms h) (resolved ms h) k
      ≡ look_with ms.first (λ i. is_on_after ms i h) (λ l. is_locked_after ms l h) k
  unfolding look
  looks-first k = cc (first_in_force ms h none)

  -- in a plain map a look follows from the keys
  pub look-plain : IsPlain ms.first → (k : ℕ)
      → look_with ms.first (λ i. is_on_after ms i h) (λ l. is_locked_after ms l h) k ≡ plain_look ms.first k h
  look-plain plain k =
      rw (
        on-plain modifier.LeftShift plain.left_shift,
        on-plain modifier.RightShift plain.right_shift,
        on-plain modifier.LeftControl plain.left_control,
        on-plain modifier.RightControl plain.right_control,
        on-plain modifier.LeftAlt plain.left_alt,
        on-plain modifier.RightAlt plain.right_alt,
        on-plain modifier.AltShift plain.alt_shift,
        locked-plain lock.Caps plain.caps,
        locked-plain lock.Num plain.num,
        locked-plain lock.Alt plain.alt_lock,
      ) refl

-- in a plain map each look follows from which keys are pressed and the fresh presses of the locks' keys
pub looks_plainly : LooksPlainly
looks_plainly ms h plain none keys k = looks-first ms h none keys k ∙ look-plain ms h none keys plain k

-- in a plain map each look by modifiers and locks that are shown is the plain one
pub shown-plain : (ms : Maps) (h : List Event) → HasNoLoads h → HasKeys h → IsPlain ms.first
    → (k : ℕ) (is_on : Modifier → Bool) (is_locked : Lock → Bool) → ((i : Modifier) → is_on i ≡ is_on_after ms i h)
    → ((l : Lock) → is_locked l ≡ is_locked_after ms l h)
    → look_with ms.first is_on is_locked k ≡ plain_look ms.first k h
shown-plain ms h none keys plain k is_on is_locked on_is locked_is =
    let e : is_on ≡ (λ i. is_on_after ms i h) = fun_ext on_is in
    let f : is_locked ≡ (λ l. is_locked_after ms l h) = fun_ext locked_is in
    cc (e, f, look-plain ms h none keys plain k)
