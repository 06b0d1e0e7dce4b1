-- What the resolved events of a map's looks say of its keys: a remembered action is borne by its key, and a holding
-- action that is held is remembered.
use Rattle.console_core.proofs.Common.{◌≡◌, ℕ, ◌<◌, ◌⊎◌, Bool, true, false, not, List, [], ◌∷◌, Option, Some, None}
use Rattle.console_core.proofs.Common.{refl, subst, sym, ◌∙◌, inl, inr, if◌then◌else◌, lit<, and_parts, or_cases}
use Rattle.console_core.proofs.Common.{true≢false, All-head, All-tail, option_or, Action, Lock, Holding, Cell, Char}
use Rattle.console_core.proofs.Common.{Act, Event, Press, Release, Reset, Load, same_action, holding_action, MapValue}
use Rattle.console_core.proofs.Common.{cell_at, slot_of, exactly_one, ResolvedEvent, held, locked, remembered}
use Rattle.console_core.proofs.Common.{taken_over, unless_nop, look, resolve_press, Maps, in_force, loaded, resolved}
use Rattle.console_core.proofs.Common.{HasKey, HasKeys, PressedCharacter, PressedAction, ReleasedKey, WasReset}
use Rattle.console_core.proofs.Common.{WasLoaded, IsCellOf, is_borne, bears-borne, same_action-true, ap}
use Rattle.console_core.specs.Columns.{column_of}
use Rattle.keymap_core.specs.Bearers.{StandsIn, IsUpperLive}
use Rattle.console_core.proofs.OneMore.{resolved-start, resolved-more, held-start, held-character, held-action}
use Rattle.console_core.proofs.OneMore.{held-release, held-reset, locked-start, locked-character, locked-action}
use Rattle.console_core.proofs.OneMore.{locked-release, locked-reset, held-load, locked-load}
use Rattle.keymap_core.proofs.Shared.{borne-upper}
use Rattle.keymap_core.specs.declared.action.Action.TheVariants as act
use Rattle.keymap_core.specs.declared.action.Modifier.TheVariants as modifier
use Rattle.keymap_core.specs.declared.action.Lock.TheVariants as lock
use Rattle.keymap_core.specs.declared.action.Holding.TheVariants as holding

-- the resolved event's key is a key, and its look is a cell of the key
abbrev pub Looked : MapValue → ResolvedEvent → Type 0
Looked m (PressedCharacter k c) = (k < 128) × IsCellOf m k (Char c)
Looked m (PressedAction k a) = (k < 128) × IsCellOf m k (Act a)
Looked m (ReleasedKey k) = k < 128
Looked m WasReset = Unit {0}
Looked m (WasLoaded n) = Unit {0}

-- the presses since the last load looked in the map m, which that load put in force
abbrev pub AllLooked : MapValue → List ResolvedEvent → Type 0
AllLooked m [] = Unit {0}
AllLooked m (WasLoaded n ∷ r) = n ≡ m
AllLooked m (x ∷ r) = Looked m x × AllLooked m r

-- a holding action isn't nop
holding-not_nop : (a : Holding) → same_action (holding_action a) act.Nop ≡ false
holding-not_nop (holding.Mod i) = refl
holding-not_nop (holding.Lock l) = refl

-- nop is no holding action
nop-not_holding : (a : Holding) → same_action act.Nop (holding_action a) ≡ false
nop-not_holding (holding.Mod i) = refl
nop-not_holding (holding.Lock l) = refl

-- a holding action that is looked up is offered
pub offers-holding : (a : Holding) → unless_nop (holding_action a) ≡ Some (holding_action a)
offers-holding a = rw (holding-not_nop a) refl

-- a press that takes a holding action looked it up, and it is remembered afterwards
taken_over-same : (held b : Action) (a : Holding) (t : Bool) → same_action held b ≡ t
    → same_action (if t then b else act.Nop) (holding_action a) ≡ true
    → (b ≡ holding_action a) × (Some held ≡ Some (holding_action a))
taken_over-same held b a true e h =
    let f = same_action-true b (holding_action a) h in (f, ap Some (same_action-true held b e ∙ f))
taken_over-same held b a false e h = absurd (true≢false (sym h ∙ nop-not_holding a))

-- a holding action that is taken was looked up, and is then remembered
pub taken-holding : (o : Option Action) (b : Action) (a : Holding)
    → same_action (taken_over o b) (holding_action a) ≡ true
    → (b ≡ holding_action a) × (option_or o (unless_nop b) ≡ Some (holding_action a))
taken-holding None b a h =
    let f = same_action-true b (holding_action a) h in (f, ap unless_nop f ∙ offers-holding a)
taken-holding (Some held) b a h = taken_over-same held b a (same_action held b) refl h

-- what is held makes the upper half live, where each of its cells does
pub held-upper : (m : MapValue) (a : Holding)
    → ((k : ℕ) → k < 128 → StandsIn m k (Act (holding_action a)) → IsUpperLive m) → (r : List ResolvedEvent)
    → AllLooked m r → held a r ≡ true → IsUpperLive m
held-upper m a f [] all h = absurd (true≢false (sym h ∙ held-start a))
held-upper m a f (PressedCharacter k c ∷ r) all h = held-upper m a f r all.1 (sym (held-character a k c r) ∙ h)
held-upper m a f (PressedAction k b ∷ r) all h =
    elim (or_cases (same_action (taken_over (remembered k r) b) (holding_action a)) (held a r)
    (sym (held-action a k b r) ∙ h)) [
      | inl t ↦
          let e : b ≡ holding_action a = (taken-holding (remembered k r) b a t).0 in
          let s : IsCellOf m k (Act (holding_action a)) = subst (λ x. IsCellOf m k (Act x)) e all.0.1 in
          elim s [ inl low ↦ f k all.0.0 low | inr up ↦ up.0 ]
      | inr t ↦ held-upper m a f r all.1 t
    ]
held-upper m a f (ReleasedKey k ∷ r) all h = held-upper m a f r all.1 (and_parts _ _ (sym (held-release a k r) ∙ h)).0
held-upper m a f (WasReset ∷ r) all h = absurd (true≢false (sym h ∙ held-reset a r))
held-upper m a f (WasLoaded n ∷ r) all h = absurd (true≢false (sym h ∙ held-load a n r))

-- a lock that is on was turned, or was on before
locked_turned : (t x : Bool) → (if t then not x else x) ≡ true → (t ≡ true) ⊎ (x ≡ true)
locked_turned true x h = inl refl
locked_turned false x h = inr h

-- a lock that is on is borne by some key
pub locked-borne : (m : MapValue) (l : Lock) (r : List ResolvedEvent) → AllLooked m r → locked l r ≡ true
    → is_borne m (holding.Lock l) ≡ true
locked-borne m l [] all h = absurd (true≢false (sym h ∙ locked-start l))
locked-borne m l (PressedCharacter k c ∷ r) all h = locked-borne m l r all.1 (sym (locked-character l k c r) ∙ h)
locked-borne m l (PressedAction k b ∷ r) all h =
    elim (locked_turned _ (locked l r) (sym (locked-action l k b r) ∙ h)) [
      | inl t ↦
          let e : b ≡ act.Lock l = (taken-holding (remembered k r) b (holding.Lock l) (and_parts _ _ t).0).0 in
          bears-borne m (holding.Lock l) k all.0.0 (subst (λ x. IsCellOf m k (Act x)) e all.0.1)
      | inr t ↦ locked-borne m l r all.1 t
    ]
locked-borne m l (ReleasedKey k ∷ r) all h = locked-borne m l r all.1 (sym (locked-release l k r) ∙ h)
locked-borne m l (WasReset ∷ r) all h = locked-borne m l r all.1 (sym (locked-reset l r) ∙ h)
locked-borne m l (WasLoaded n ∷ r) all h =
    subst (λ x. is_borne x (holding.Lock l) ≡ true) all (and_parts _ _ (sym (locked-load l n r) ∙ h)).0

-- an alt lock that is on makes the upper half live
pub locked-upper : (m : MapValue) (r : List ResolvedEvent) → AllLooked m r → locked lock.Alt r ≡ true → IsUpperLive m
locked-upper m r all h = borne-upper m (locked-borne m lock.Alt r all h)

-- a column is one of eight
pub column_of-lt : (a b c : Bool) → column_of a b c < 8
column_of-lt false false false = lit< tt
column_of-lt false false true = lit< tt
column_of-lt false true false = lit< tt
column_of-lt false true true = lit< tt
column_of-lt true false false = lit< tt
column_of-lt true false true = lit< tt
column_of-lt true true false = lit< tt
column_of-lt true true true = lit< tt

-- a cell of the looked-up slot is one of the key's, where the upper half is live if it is looked at
slot_stands : (m : MapValue) (k : ℕ) (p q : Bool) (column : ℕ) → column < 8 → ((p ≡ true) ⊎ (q ≡ true) → IsUpperLive m)
    → IsCellOf m k (cell_at m (slot_of k (exactly_one p q)) column)
slot_stands m k false false column lt f = inl (column, lt, refl)
slot_stands m k true true column lt f = inl (column, lt, refl)
slot_stands m k true false column lt f = inr (f (inl refl), (column, lt, refl))
slot_stands m k false true column lt f = inr (f (inr refl), (column, lt, refl))

-- a look is a cell of the key
pub look-cell : (m : MapValue) (r : List ResolvedEvent) (k : ℕ) → AllLooked m r → IsCellOf m k (look m r k)
unfolding look
look-cell m r k all =
    slot_stands m k (held (holding.Mod modifier.AltShift) r) (locked lock.Alt r) _ (column_of-lt _ _ _)
    (λ s. elim s [
      | inl h ↦ held-upper m (holding.Mod modifier.AltShift) (λ j lt low. (j, lt, inl low)) r all h
      | inr h ↦ locked-upper m r all h
    ])

-- a further press looks up a cell of its key
more-looked : (m : MapValue) (k : ℕ) (x : Cell) (r : List ResolvedEvent) → k < 128 → IsCellOf m k x → AllLooked m r
    → AllLooked m (resolve_press k x ∷ r)
more-looked m k (Char c) r lt s all = ((lt, s), all)
more-looked m k (Act a) r lt s all = ((lt, s), all)

-- all presses look up cells of their keys in the map in force
pub resolved-looked : (ms : Maps) (h : List Event) → HasKeys h → AllLooked (in_force ms h) (resolved ms h)
resolved-looked ms [] keys = subst (λ r. AllLooked ms.first r) (sym (resolved-start ms)) tt
resolved-looked ms (Press k ∷ h) keys =
    let all : AllLooked (in_force ms h) (resolved ms h) = resolved-looked ms h (All-tail HasKey (Press k) h keys) in
    subst (λ r. AllLooked (in_force ms h) r) (sym (resolved-more ms h (Press k)))
    (more-looked (in_force ms h) k (look (in_force ms h) (resolved ms h) k) (resolved ms h)
    (All-head HasKey (Press k) h keys) (look-cell (in_force ms h) (resolved ms h) k all) all)
resolved-looked ms (Release k ∷ h) keys =
    subst (λ r. AllLooked (in_force ms h) r) (sym (resolved-more ms h (Release k)))
    (All-head HasKey (Release k) h keys, resolved-looked ms h (All-tail HasKey (Release k) h keys))
resolved-looked ms (Reset ∷ h) keys =
    rw (resolved-more ms h Reset) (tt, resolved-looked ms h (All-tail HasKey Reset h keys))
resolved-looked ms (Load ∷ h) keys = subst (λ r. AllLooked (loaded ms h) r) (sym (resolved-more ms h Load)) refl
