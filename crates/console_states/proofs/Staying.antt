-- In sets of states that the moves keep a console stays whatever one event comes.
use Rattle.console_states.proofs.Common.{◌≡◌, ◌≢◌, Scroll, ℕ, ◌<◌, Bool, true, false, not, List, none-some, [], ◌∷◌}
use Rattle.console_states.proofs.Common.{Option, Some}
use Rattle.console_states.proofs.Common.{None, refl, ap, subst, sym, ◌∙◌, inl, inr, cases_Bool, holding_action}
use Rattle.console_states.proofs.Common.{MapValue}
use Rattle.console_states.proofs.Common.{ResolvedEvent, held, locked, remembered, taken_over, is_this_action}
use Rattle.console_states.proofs.Common.{resolve_press, PressedAction, ReleasedKey, WasLoaded, Under, State, start}
use Rattle.console_states.proofs.Common.{IsMade, Holds, with_holder, with_lock_turned, exchanged, next_map, IsFree}
use Rattle.console_states.proofs.Common.{IsMove, HolderForgets, Follows, is_some, Action, Lock, Modifier, LeftShift}
use Rattle.console_states.proofs.Common.{RightShift, LeftControl, RightControl, LeftAlt, RightAlt, AltShift, Meta}
use Rattle.console_states.proofs.Common.{Holding, Cell, Char, Act, Hold, Turn, Exchange, rules}
use Rattle.console_core.specs.Resolved.ResolvedEvent.{WasReset}
use Rattle.console_core.proofs.Shared.{held-load, held-reset, held-start, locked-load, locked-reset, locked-start}
use Rattle.console_states.proofs.SameStates.{same_states, scroll_or_other}
use Rattle.console_states.proofs.Following.{is_down, same_locks, same_mods, some_mod_lock, kind_of, follows-character}
use Rattle.console_states.proofs.Following.{follows-nothing}
use Rattle.console_states.proofs.Following.{taken-over, holder-takes, follows-hold, follows-again, follows-turn}
use Rattle.console_states.proofs.Following.{follows-down, follows-let_go, follows-release}
use Rattle.keymap_core.specs.declared.action.Action.TheVariants as act
use Rattle.keymap_core.specs.declared.action.Holding.TheVariants as holding

-- the steps, where the moves keep the sets: `b` says whether the second map is in force
abbrev pub Stays : (State → Type 0) → Bool → List ResolvedEvent → Type 0
Stays S b r = (s : State) × S s × Follows r s × (s.is_second ≡ b)

-- letting go doesn't leave the set
abbrev pub KeepsLetGo : (State → Type 0) → Type 0
KeepsLetGo S = (s : State) (k : ℕ) (i : Modifier) → S s → Holds s k i → S (with_holder s i None)

-- a press leads from the one set to the other
pub record LeadsOn (u : Under) (S T : State → Type 0) : Type 0 where
  pub stay : (s : State) → S s → T s
  pub hold : (s : State) (k : ℕ) (i : Modifier) → S s → IsMove u s (Hold k i) → T (with_holder s i (Some k))
  pub turn : (s : State) (k : ℕ) (l : Lock) → S s → IsMove u s (Turn k l) → T (with_lock_turned s l)

-- a press of the key doesn't forget that it holds a modifier
abbrev pub KeepsHeld : Under → State → ℕ → Type 0
KeepsHeld u s k = (i : Modifier) → HolderForgets u s i k → ⊥

-- a modifier is let go, whether it has a holder or not
pub without : (S : State → Type 0) → KeepsLetGo S → (s : State) (i : Modifier) (o : Option ℕ) → s.holder i ≡ o → S s
    → S (with_holder s i None)
without S keeps s i None e there = search (rules, same_states, cases_Bool, same_mods)
without S keeps s i (Some k) e there = keeps s k i there e

-- a press that takes a modifier leads from a set to the next
stays-mod : (u : Under) (S T : State → Type 0) → LeadsOn u S T → (r : List ResolvedEvent) (s : State) → S s
    → Follows r s → (k : ℕ) → k < 128 → (b : Action) → IsMade u s k (Act b) → (i : Modifier)
    → taken_over (remembered k r) b ≡ act.Mod i → b ≡ act.Mod i → (o : Option ℕ) → s.holder i ≡ o
    → Stays T s.is_second (PressedAction k b ∷ r)
stays-mod u S T leads r s there f k lt b made i e is None free = (
  with_holder s i (Some k),
  leads.hold s k i there (
    (
      lt,
      (λ j h. none-some k (cc (free, h, holder-takes r s k b (holding.Mod i) j f h e))),
      subst (λ x. IsMade u s k (Act x)) is made,
    ),
    free,
  ),
  follows-hold r s k b i f e,
  refl,
)
stays-mod u S T leads r s there f k lt b made i e is (Some n) free = search (rules, follows-again)

-- a press that takes a lock leads from a set to the next
stays-lock : (u : Under) (S T : State → Type 0) → LeadsOn u S T → (r : List ResolvedEvent) (s : State) → S s
    → Follows r s → (k : ℕ) → k < 128 → (b : Action) → IsMade u s k (Act b) → (l : Lock)
    → taken_over (remembered k r) b ≡ act.Lock l → b ≡ act.Lock l → (d : Bool) → held (holding.Lock l) r ≡ d
    → Stays T s.is_second (PressedAction k b ∷ r)
stays-lock u S T leads r s there f k lt b made l e is true d =
    (s, leads.stay s there, follows-down r s k b l f e (λ j other t. is_down l j r true d t), refl)
stays-lock u S T leads r s there f k lt b made l e is false d =
    elim (scroll_or_other l) [
      | inl scroll ↦ (
        s,
        leads.stay s there,
        follows-down r s k b l f e (λ j other t. absurd (other (sym (same_locks l j t) ∙ scroll))),
        refl,
      )
      | inr other ↦ (
        with_lock_turned s l,
        leads.turn s k l there (
          (
            lt,
            (λ j h. some_mod_lock j l (holder-takes r s k b (holding.Lock l) j f h e)),
            subst (λ x. IsMade u s k (Act x)) is made,
          ),
          other,
        ),
        follows-turn r s k b l f e d,
        refl,
      )
    ]

-- a press that takes a holding action looked it up
looked_up : (r : List ResolvedEvent) (k : ℕ) (b : Action) (a : Holding)
    → taken_over (remembered k r) b ≡ holding_action a → b ≡ holding_action a
looked_up r k b a e = (taken-over (remembered k r) b a e).0

-- a press that is allowed leads from a set to the next
pub stays-press : (u : Under) (S T : State → Type 0) → LeadsOn u S T → (r : List ResolvedEvent) (s : State) → S s
    → Follows r s → (k : ℕ) → k < 128 → KeepsHeld u s k → (x : Cell) → IsMade u s k x
    → Stays T s.is_second (resolve_press k x ∷ r)
stays-press u S T leads r s there f k lt keeps (Char c) made =
    (s, leads.stay s there, follows-character r s k c f (λ i h. keeps i (h, (c, made))), refl)
stays-press u S T leads r s there f k lt keeps (Act b) made =
    elim (kind_of (taken_over (remembered k r) b)) [
      | inl p ↦
          stays-mod u S T leads r s there f k lt b made p.0 p.1 (looked_up r k b (holding.Mod p.0) p.1) (s.holder p.0)
          refl
      | inr (inl p) ↦
          stays-lock u S T leads r s there f k lt b made p.0 p.1 (looked_up r k b (holding.Lock p.0) p.1)
          (held (holding.Lock p.0) r) refl
      | inr (inr none) ↦ (s, leads.stay s there, follows-nothing r s k b f none, refl)
    ]

-- a release stays in a set that letting go keeps
pub stays-release : (S : State → Type 0) → KeepsLetGo S → (r : List ResolvedEvent) (s : State) → S s → Follows r s
    → (k : ℕ) (o : Option Action) → remembered k r ≡ o → Stays S s.is_second (ReleasedKey k ∷ r)
stays-release S keeps r s there f k None e = search (rules, follows-release)
stays-release S keeps r s there f k (Some a) e =
    elim (kind_of a) [
      | inl p ↦ (
        with_holder s p.0 None,
        without S keeps s p.0 (s.holder p.0) refl there,
        follows-let_go r s k p.0 f (e ∙ ap (λ x. Some x) p.1),
        refl,
      )
      | inr (inl p) ↦ (
        s,
        there,
        follows-release r s k f (λ i. ap (λ o. is_this_action o (act.Mod i)) (e ∙ ap (λ x. Some x) p.1)),
        refl,
      )
      | inr (inr none) ↦ (
        s,
        there,
        follows-release r s k f (λ i. ap (λ o. is_this_action o (act.Mod i)) e ∙ none (holding.Mod i)),
        refl,
      )
    ]

-- a reset: all holders let go, one after another
abbrev pub emptied : State → State
emptied s =
    with_holder (with_holder (with_holder (with_holder (with_holder (with_holder (with_holder (with_holder s LeftShift
    None)
    RightShift None)
    LeftControl None)
    RightControl None)
    LeftAlt None)
    RightAlt None)
    AltShift None)
    Meta None

-- an emptied state has no holders
pub emptied-none : (s : State) (i : Modifier) → (emptied s).holder i ≡ None
emptied-none s LeftShift = refl
emptied-none s _ = refl

-- a set that letting go keeps has the emptied state
pub emptied-kept : (S : State → Type 0) → KeepsLetGo S → (s : State) → S s → S (emptied s)
emptied-kept S keeps s there =
    let any : (t : State) (i : Modifier) → S t → S (with_holder t i None) =
    λ t i here. without S keeps t i (t.holder i) refl here in
    any _ Meta
    (any _ AltShift
    (any _ RightAlt
    (any _ LeftAlt (any _ RightControl (any _ LeftControl (any _ RightShift (any s LeftShift there)))))))

-- a reset stays in a set that letting go keeps
pub stays-reset : (S : State → Type 0) → KeepsLetGo S → (r : List ResolvedEvent) (s : State) → S s → Follows r s
    → Stays S s.is_second (WasReset ∷ r)
stays-reset S keeps r s there f = (
  emptied s,
  emptied-kept S keeps s there,
  record {
    on = λ i. held-reset (holding.Mod i) r ∙ ap (λ o. is_some o) (sym (emptied-none s i));
    locked = λ l other. locked-reset l r ∙ f.locked l other;
    holds = λ i k h. absurd (none-some k (sym (emptied-none s i) ∙ h));
  },
  refl,
)

-- a load, where nothing is held
pub follows-load : (m : MapValue) (r : List ResolvedEvent) (s : State)
    → ((l : Lock) → l ≢ Scroll → locked l r ≡ s.is_locked l) → IsFree s → Follows (WasLoaded m ∷ r) (exchanged m s)
follows-load m r s locks free = search (rules, held-load, locked-load, none-some)

-- exchanging the maps, where nothing is held, doesn't leave the set
abbrev pub KeepsExchange : Under → (State → Type 0) → Type 0
KeepsExchange u S = (s : State) → S s → IsMove u s Exchange → S (exchanged (next_map u s) s)

-- A load stays in a set that letting go and exchanging the maps keep: it leads where it does once all have let go.
pub stays-load : (u : Under) (S : State → Type 0) → KeepsLetGo S → KeepsExchange u S → u.has_loads ≡ true
    → (r : List ResolvedEvent) (s : State) → S s → Follows r s
    → Stays S (not s.is_second) (WasLoaded (next_map u s) ∷ r)
stays-load u S keeps exchanges loads r s there f = (
  exchanged (next_map u s) (emptied s),
  exchanges (emptied s) (emptied-kept S keeps s there) (emptied-none s, loads),
  follows-load (next_map u s) r (emptied s) f.locked (emptied-none s),
  refl,
)

-- no events lead to the start
pub follows-start : Follows [] start
follows-start = search (rules, held-start, locked-start, none-some)
