-- A script goes onward while it sees more of what is left, and then no moves lead to a press that sees any of it.
use Rattle.keymap_cover.proofs.Common.{◌≡◌, ℕ, ◌+◌, ◌≤◌, ◌⊎◌, inl, inr, Bool, true, false, List, []}
use Rattle.keymap_cover.proofs.Common.{◌∷◌, ◌++◌, refl, ap, subst, sym, ◌∙◌, arith}
use Rattle.keymap_cover.proofs.Common.{filter, length, not, true≢false}
use Rattle.keymap_cover.proofs.Common.{Contains, MapValue, Event, Sight, Script, Standing, between, has_seen}
use Rattle.keymap_cover.proofs.Common.{all_cells, all_lock_settings}
use Rattle.keymap_cover.proofs.Common.{◌<◌, ComesAfter, Contains-append_left, pairs_in}
use Rattle.keymap_cover.proofs.Common.{AreSightsOf, IsPair, IsReachable, IsTold, AreUp, GoesAlongToRest}
use Rattle.console_core.specs.History.{HasNoLoads}
use Rattle.console_states.specs.declared.sights.Sights.{Sights}
use Rattle.console_states.proofs.Shared.{all-seen, sees-all}
use Rattle.std.proofs.lemmas.Bool.{and_parts, false_from_ne_true}
use Rattle.console_states.specs.Sights.{can_see}
use Rattle.console_scripts.specs.Visiting.{CannotSee, IsOnward}
use Rattle.keymap_cover.specs.Covering.{IsScrollOff}
use Rattle.keymap_cover.specs.Inner.OneWay.{is_left, AreKeys, AreLeft, GoesToNext, SeesRest}
use Rattle.keymap_cover.specs.Inner.Scripts.{GoesScrollOff, GoesToEnd, IsResting, TurnsNone}
use Rattle.keymap_cover.proofs.Showing.{script-loads, seen-still, sees-ending, sees-longer}
use Rattle.keymap_cover.proofs.Left.{filter-fewer, filter-has, filter-of, filter-passes, no-pairs}
use Rattle.keymap_cover.proofs.Telling.{all-told, key-told}
use Rattle.keymap_cover.proofs.Walking.{after-more}

-- ---- a press onward

-- where there is such a press
pub goes-next : {T : Type 0} (s : Standing T) (m : MapValue) (xs : List Sight) (later : List Event) (a b d : Script T)
    → ((h : List Event) → s a.console (between m m) h → HasNoLoads h → IsOnward m h xs later) → AreKeys xs
    → GoesAlongToRest m later s a b → AreUp b.pressed → GoesScrollOff m s b d → GoesToNext m s xs a d true
goes-next s m xs later a b d finds single walk up last h at off =
    let (g, run, rest, after, exact) = walk h at.0 in
    let (x, has, sees) = finds h at.0.0 (script-loads m h a at.0.1) in
    let (taken, ends) = sees (single x has) in
    let turns : TurnsNone m (later ++ h) g = exact taken in
    let (f, resting, behind, scrolled) = last g (run, up, rest) in (
      f,
      resting,
      after-more h g f after behind,
      scrolled,
      (
        x,
        has,
        resting.0.1.all_seen x
            (sees-longer m (later ++ h) f x (after-more (later ++ h) g f turns.0 behind)
            (sees-ending m h later x ends)),
      ),
    )

-- where no moves lead to such a press
pub goes-none : {T : Type 0} (s : Standing T) (m : MapValue) (xs : List Sight) (a : Script T)
    → ((h : List Event) → s a.console (between m m) h → HasNoLoads h → (x : Sight) → Contains xs x → CannotSee m h x)
    → GoesToNext m s xs a a false
goes-none s m xs a none h at off = (h, at, ([], refl), off, none h at.0.0 (script-loads m h a at.0.1))

-- ---- what is left, round by round

-- what was seen since is no longer left
left-fewer : {T : Type 0} (xs ys zs : List Sight) (b d : Script T)
    → ((x : Sight) → has_seen b.seen x ≡ true → has_seen d.seen x ≡ true)
    → zs ≡ filter (λ x. not (has_seen d.seen x)) ys → AreLeft xs b ys → AreLeft xs d zs
left-fewer xs ys zs b d still is (each, of) = (
  (λ x has. elim (each x has) [
    | inl was ↦ inl (still x was)
    | inr among ↦ by x among (has_seen d.seen x) refl
  ]),
  (λ x has. of x (filter-of fails ys x (subst (λ z. Contains z x) is has))),
)
  where
    fails : Sight → Bool
    fails x = not (has_seen d.seen x)

    by : (x : Sight) → Contains ys x → (t : Bool) → has_seen d.seen x ≡ t
        → (has_seen d.seen x ≡ true) ⊎ Contains zs x
    by x among true e = inl e
    by x among false e = inr (subst (λ z. Contains z x) (sym is) (filter-has fails ys x among (ap not e)))

-- The console went on with the scroll lock off, and saw one more of the sights in each of n rounds at least.
abbrev pub GoesRounds : {T : Type 0} → MapValue → Standing T → List Sight → Script T → Script T → List Sight → ℕ
    → Type 0
GoesRounds m s xs a b ys n =
    (h : List Event) → IsResting m s h a → IsScrollOff m h
    → (g : List Event) × IsResting m s g b × ComesAfter h g × IsScrollOff m g × AreLeft xs b ys
    × (length ys + n ≤ length xs)

-- what a round answers, of the same sights
pub next-same : {T : Type 0} (s : Standing T) (m : MapValue) (xs ys : List Sight) (a b : Script T) (found more : Bool)
    → xs ≡ ys → found ≡ more → (AreKeys xs → GoesToNext m s xs a b found) → AreKeys ys → GoesToNext m s ys a b more
next-same s m xs ys a b found more e f next =
    subst (λ v. AreKeys ys → GoesToNext m s ys a b v) f (subst (λ z. AreKeys z → GoesToNext m s z a b found) e next)

pub rounds-none : {T : Type 0} (s : Standing T) (m : MapValue) (xs : List Sight) (a : Script T)
    → GoesRounds m s xs a a xs 0
rounds-none s m xs a h at off = (h, at, ([], refl), off, ((λ x has. inr has), (λ x has. has)), omega arith)

-- what is left of cells and lock settings is no pair
rounds-keys : {T : Type 0} (xs ys : List Sight) (t : Script T) → AreKeys xs → AreLeft xs t ys → AreKeys ys
rounds-keys xs ys t single left x has pair = single x (left.1 x has) pair

pub rounds-more : {T : Type 0} (s : Standing T) (m : MapValue) (xs ys zs : List Sight) (a b d : Script T) (n : ℕ)
    → AreKeys xs → GoesRounds m s xs a b ys n → (AreKeys ys → GoesToNext m s ys b d true)
    → zs ≡ filter (λ x. not (has_seen d.seen x)) ys → GoesRounds m s xs a d zs (n + 1)
rounds-more s m xs ys zs a b d n single first next is h at off =
    let (g, v, after, here, left, le) = first h at off in
    let (f, u, more, there, (x, has, saw)) = next (rounds-keys xs ys b single left) g v here in
    let fewer = filter-fewer (λ y. not (has_seen d.seen y)) ys x has (ap not saw) in
    let same = ap (λ z. length z) is in (
      f,
      u,
      after-more h g f after more,
      there,
      left-fewer xs ys zs b d (λ y. seen-still m g f b d y v.0.1 u.0.1 more) is left,
      omega (arith, le, fewer, same),
    )

-- no moves lead to what is left
pub rounds-end : {T : Type 0} (s : Standing T) (m : MapValue) (xs ys : List Sight) (a b d : Script T) (n : ℕ)
    → AreKeys xs → GoesRounds m s xs a b ys n → (AreKeys ys → GoesToNext m s ys b d false) → SeesRest m s xs a d
rounds-end s m xs ys a b d n single first next h at off =
    let (g, v, after, here, (each, of), le) = first h at off in
    let (f, u, more, there, none) = next (rounds-keys xs ys b single (each, of)) g v here in (
      f,
      u,
      after-more h g f after more,
      there,
      (λ x has. elim (each x has) [
        | inl was ↦ inl (seen-still m g f b d x v.0.1 u.0.1 more was)
        | inr among ↦ inr (none x among)
      ]),
    )

-- behind as many rounds as there were sights nothing is left
pub rounds-all : {T : Type 0} (s : Standing T) (m : MapValue) (xs ys : List Sight) (a b : Script T) (n : ℕ)
    → GoesRounds m s xs a b ys n → length xs ≤ n → SeesRest m s xs a b
rounds-all s m xs ys a b n first all h at off =
    let (g, v, after, here, (each, of), le) = first h at off in (
      g,
      v,
      after,
      here,
      (λ x has. elim (each x has) [
        | inl was ↦ inl was
        | inr (k, lt, is) ↦ absurd (omega (arith, le, lt, all))
      ]),
    )

-- what can be seen of the cells and lock settings was seen, or is left
left-or : {T : Type 0} (m : MapValue) (sights : Sights) (left : List Sight) (a : Script T) → AreSightsOf m sights
    → left ≡ filter (is_left m a.seen sights) (all_cells ++ all_lock_settings) → (x : Sight) → IsTold m x
    → (IsPair x → ⊥) → IsReachable m x
    → (has_seen a.seen x ≡ true) ⊎ Contains left x
left-or m sights left a are is x told key can = by (has_seen a.seen x) refl
  where
    by : (t : Bool) → has_seen a.seen x ≡ t → (has_seen a.seen x ≡ true) ⊎ Contains left x
    by true e = inl e
    by false e =
        inr (subst (λ z. Contains z x) (sym is)
        (filter-has (is_left m a.seen sights) (all_cells ++ all_lock_settings) x (key-told m x told key)
        (rw e (all-seen m sights are x can))))

-- nothing is left
pub ends-there : {T : Type 0} (s : Standing T) (m : MapValue) (sights : Sights) (left : List Sight) (a : Script T)
    → AreSightsOf m sights → left ≡ filter (is_left m a.seen sights) (all_cells ++ all_lock_settings)
    → length left ≡ 0 → GoesToEnd m s a a
ends-there s m sights left a are is none h at off = (
  h,
  at,
  ([], refl),
  off,
  (λ x told key can. elim (left-or m sights left a are is x told key can) [
    | inl was ↦ inl was
    | inr (n, lt, here) ↦ absurd (omega (arith, lt, none))
  ]),
  inl refl,
)

some-left : (xs : List Sight) → 0 < length xs → (x : Sight) × Contains xs x
some-left [] lt = absurd (omega (arith, lt))
some-left (x ∷ xs) lt = (x, (0, omega arith, refl))

-- Of what can be seen nothing is left, or no moves lead to it.
pub goes-to_end : {T : Type 0} (s : Standing T) (m : MapValue) (sights : Sights) (left : List Sight) (a e : Script T)
    → AreSightsOf m sights → left ≡ filter (is_left m a.seen sights) (all_cells ++ all_lock_settings)
    → 0 < length left → (AreKeys left → SeesRest m s left a e) → GoesToEnd m s a e
goes-to_end s m sights left a e are is some further h at off =
    let (k, w, after, there, all) = further (λ x has pair. no-pairs x (listed x has) pair) h at off in
    let (x, has) = some-left left some in
    let p =
    and_parts (not (has_seen a.seen x)) (can_see m sights x)
    (filter-passes (is_left m a.seen sights) keys x (subst (λ z. Contains z x) is has)) in (
      k,
      w,
      after,
      there,
      (λ x told key can. elim (left-or m sights left a are is x told key can) [
        | inl was ↦ inl (seen-still m h k a e x at.0.1 w.0.1 after was)
        | inr has ↦ all x has
      ]),
      inr (
        x,
        (all-told m (keys ++ pairs_in m) refl x).1 (Contains-append_left keys (pairs_in m) x (listed x has)),
        no-pairs x (listed x has),
        sees-all m sights are x p.1,
        false_from_ne_true (has_seen a.seen x) (λ was. true≢false (sym p.0 ∙ ap not was)),
      ),
    )
  where
    keys : List Sight
    keys = all_cells ++ all_lock_settings

    listed : (x : Sight) → Contains left x → Contains keys x
    listed x has = filter-of (is_left m a.seen sights) keys x (subst (λ z. Contains z x) is has)
