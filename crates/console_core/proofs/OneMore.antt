-- What each notion of a history is after one more event, by what it was before.
use Rattle.console_core.proofs.Common.{suc, ◌≡◌, ℕ, Bool, true, false, ◌&&◌, ◌||◌, not, eqb, List, [], ◌∷◌, Option}
use Rattle.console_core.proofs.Common.{Some, None, refl, ap, if◌then◌else◌, ◌==◌, Action, Lock}
use Rattle.console_core.proofs.Common.{Holding, Cell, Char, Act, Event, Press, Release, Reset, Load, same_action}
use Rattle.console_core.proofs.Common.{holding_action, MapValue, is_borne, is_odd, last_where, unlocks, resolve_press}
use Rattle.console_core.proofs.Common.{ResolvedEvent, remembered, held, locked, turns, taken_over, unless_nop}
use Rattle.console_core.proofs.Common.{is_this_action, pending, pending_by_dead_keys, dead_keys_taken, run_length, Maps}
use Rattle.console_core.proofs.Common.{resolved_event, pressed, resolved, is_press, concerns}
use Rattle.console_core.proofs.Common.{eqb-true, eq-eqb, option_or, PressedCharacter, PressedAction}
use Rattle.console_core.proofs.Common.{ReleasedKey, WasReset, WasLoaded, option_or-none, is_some, true≢false, rules}
use Rattle.console_core.specs.Inner.Kept.{pending_after_dead_key, next_pending}
use Rattle.std.proofs.Math.Bool.{and-true, and-false}
use Rattle.keymap_core.specs.declared.action.Holding.TheVariants as holding

-- what isn't something is nothing
pub is-nothing : {X : Type 0} (o : Option X) → is_some o ≡ false → o ≡ None
is-nothing None e = refl
is-nothing (Some x) e = absurd (true≢false e)

-- of a map beside itself the map is in force, whichever is
pub one_map : (m : MapValue) (b : Bool) → (if b then m else m) ≡ m
one_map m true = refl
one_map m false = refl

-- resolved events
pub resolved-start : (ms : Maps) → resolved ms [] ≡ []
unfolding resolved
resolved-start ms = refl

-- a further event is resolved by those before
pub resolved-more : (ms : Maps) (h : List Event) (e : Event)
    → resolved ms (e ∷ h) ≡ resolved_event ms h e ∷ resolved ms h
unfolding resolved
resolved-more ms h e = refl

-- held: a modifier that is on, a lock that is down
pub held-start : (a : Holding) → held a [] ≡ false
unfolding held
held-start a = refl

pub held-character : (a : Holding) (k c : ℕ) (h : List ResolvedEvent) → held a (PressedCharacter k c ∷ h) ≡ held a h
unfolding held
held-character a k c h = and-true (held a h)

pub held-action : (a : Holding) (k : ℕ) (b : Action) (h : List ResolvedEvent)
    → held a (PressedAction k b ∷ h) ≡ (same_action (taken_over (remembered k h) b) (holding_action a) || held a h)
unfolding held
held-action a k b h = cc (and-true (held a h))

pub held-release : (a : Holding) (k : ℕ) (h : List ResolvedEvent)
    → held a (ReleasedKey k ∷ h) ≡ (held a h && not (is_this_action (remembered k h) (holding_action a)))
unfolding held
held-release a k h = refl

pub held-reset : (a : Holding) (h : List ResolvedEvent) → held a (WasReset ∷ h) ≡ false
unfolding held
held-reset a h = and-false (held a h)

pub held-load : (a : Holding) (m : MapValue) (h : List ResolvedEvent) → held a (WasLoaded m ∷ h) ≡ false
unfolding held
held-load a m h = and-false (held a h)

-- locked
pub locked-start : (l : Lock) → locked l [] ≡ false
unfolding locked
locked-start l = refl

-- a further turn makes an odd number even and an even one odd
locked_step : (b : Bool) (n : ℕ) → is_odd (if b then suc n else n) ≡ (if b then not (is_odd n) else is_odd n)
locked_step true n = refl
locked_step false n = refl

pub locked-character : (l : Lock) (k c : ℕ) (h : List ResolvedEvent) → locked l (PressedCharacter k c ∷ h) ≡ locked l h
unfolding locked
locked-character l k c h = refl

pub locked-action : (l : Lock) (k : ℕ) (b : Action) (h : List ResolvedEvent)
    → locked l (PressedAction k b ∷ h)
    ≡ (if same_action (taken_over (remembered k h) b) (holding_action (holding.Lock l))
    && not (held (holding.Lock l) h)
    then not (locked l h) else locked l h)
unfolding locked
locked-action l k b h = locked_step (turns l (PressedAction k b) h) _

pub locked-release : (l : Lock) (k : ℕ) (h : List ResolvedEvent) → locked l (ReleasedKey k ∷ h) ≡ locked l h
unfolding locked
locked-release l k h = refl

pub locked-reset : (l : Lock) (h : List ResolvedEvent) → locked l (WasReset ∷ h) ≡ locked l h
unfolding locked
locked-reset l h = refl

-- a load counts turns anew where nobody bears the lock
locked_load : (b : Bool) (n : ℕ) → is_odd (if not b then 0 else n) ≡ (b && is_odd n)
locked_load true n = refl
locked_load false n = refl

pub locked-load : (l : Lock) (m : MapValue) (h : List ResolvedEvent)
    → locked l (WasLoaded m ∷ h) ≡ (is_borne m (holding.Lock l) && locked l h)
unfolding locked
locked-load l m h = locked_load (is_borne m (holding.Lock l)) _

-- remembered
pub remembered-start : (k : ℕ) → remembered k [] ≡ None
unfolding remembered
remembered-start k = refl

pub remembered-character : (k j c : ℕ) (h : List ResolvedEvent)
    → remembered k (PressedCharacter j c ∷ h) ≡ (if j == k then None else remembered k h)
unfolding remembered
remembered-character k j c h = ap (λ x. if j == k then None else x) (option_or-none (remembered k h))

pub remembered-action : (k j : ℕ) (b : Action) (h : List ResolvedEvent)
    → remembered k (PressedAction j b ∷ h) ≡ option_or (remembered k h) (if j == k then unless_nop b else None)
unfolding remembered
remembered-action k j b h = refl

pub remembered-release : (k j : ℕ) (h : List ResolvedEvent)
    → remembered k (ReleasedKey j ∷ h) ≡ (if j == k then None else remembered k h)
unfolding remembered
remembered-release k j h = ap (λ x. if j == k then None else x) (option_or-none (remembered k h))

pub remembered-reset : (k : ℕ) (h : List ResolvedEvent) → remembered k (WasReset ∷ h) ≡ None
unfolding remembered
remembered-reset k h = refl

pub remembered-load : (k : ℕ) (m : MapValue) (h : List ResolvedEvent) → remembered k (WasLoaded m ∷ h) ≡ None
unfolding remembered
remembered-load k m h = refl

-- pending
pub pending-start : (m : MapValue) → pending m [] ≡ None
unfolding dead_keys_taken pending_by_dead_keys
pending-start m = refl

pub pending-character : (m : MapValue) (k c : ℕ) (h : List ResolvedEvent) → pending m (PressedCharacter k c ∷ h) ≡ None
unfolding dead_keys_taken pending_by_dead_keys
pending-character m k c h = refl

pub pending-release : (m : MapValue) (k : ℕ) (h : List ResolvedEvent) → pending m (ReleasedKey k ∷ h) ≡ pending m h
unfolding dead_keys_taken
pending-release m k h = refl

pub pending-reset : (m : MapValue) (h : List ResolvedEvent) → pending m (WasReset ∷ h) ≡ None
unfolding dead_keys_taken pending_by_dead_keys
pending-reset m h = refl

pub pending-load : (m n : MapValue) (h : List ResolvedEvent) → pending m (WasLoaded n ∷ h) ≡ None
unfolding dead_keys_taken pending_by_dead_keys
pending-load m n h = refl

-- a further press of the same dead key makes the run longer
run_length-same : (i : ℕ) (rest : List (Option ℕ)) → run_length i (Some i ∷ rest) ≡ suc (run_length i rest)
run_length-same i rest = rw (eq-eqb i i refl) refl

-- a dead key that is pressed again is no longer pending, or pending again
toggle_again : (i n : ℕ) (b : Bool) → is_odd n ≡ b
    → (if is_odd (suc (suc n)) then Some i else None)
    ≡ pending_after_dead_key (Some i) (if is_odd (suc n) then Some i else None)
toggle_again i n true e = rw e refl
toggle_again i n false e = rw (e, eq-eqb i i refl) refl

-- another dead key is pending in its place
toggle_other : (i j : ℕ) (b : Bool) → eqb j i ≡ false
    → Some i ≡ pending_after_dead_key (Some i) (if b then Some j else None)
toggle_other i j true e = rw e refl
toggle_other i j false e = refl

-- the step of the next lemma, where the dead key before is the same
toggle_same : (i : ℕ) (r : List (Option ℕ))
    → pending_by_dead_keys (Some i ∷ (Some i ∷ r)) ≡ pending_after_dead_key (Some i) (pending_by_dead_keys (Some i ∷ r))
unfolding pending_by_dead_keys
toggle_same i r = search (rules, run_length-same, toggle_again)

-- the step of the next lemma, by whether the dead key before is the same
toggle_cases : (i j : ℕ) (r : List (Option ℕ)) (b : Bool) → eqb j i ≡ b
    → pending_by_dead_keys (Some i ∷ (Some j ∷ r)) ≡ pending_after_dead_key (Some i) (pending_by_dead_keys (Some j ∷ r))
unfolding pending_by_dead_keys
toggle_cases i j r true e = search (rules, eqb-true, toggle_same)
toggle_cases i j r false e = search (rules, run_length-same, toggle_other)

-- a further press of a dead key toggles it
pub pending_after-toggles : (i : ℕ) (rest : List (Option ℕ))
    → pending_by_dead_keys (Some i ∷ rest) ≡ pending_after_dead_key (Some i) (pending_by_dead_keys rest)
unfolding pending_by_dead_keys
pending_after-toggles i [] = rw (run_length-same i []) refl
pending_after-toggles i (None ∷ rest) = rw (run_length-same i (None ∷ rest)) refl
pending_after-toggles i (Some j ∷ rest) = toggle_cases i j rest (eqb j i) refl

-- a further event that keeps nothing pending, or toggles a dead key
toggles : (o : Option ℕ) (rest : List (Option ℕ))
    → pending_by_dead_keys (o ∷ rest) ≡ pending_after_dead_key o (pending_by_dead_keys rest)
unfolding pending_by_dead_keys
toggles None rest = refl
toggles (Some i) rest = pending_after-toggles i rest

-- a further event, which keeps what is pending or doesn't
pending_step : (b : Bool) (o : Option ℕ) (rest : List (Option ℕ))
    → pending_by_dead_keys (if b then rest else o ∷ rest)
    ≡ (if b then pending_by_dead_keys rest else pending_after_dead_key o (pending_by_dead_keys rest))
pending_step true o rest = refl
pending_step false o rest = toggles o rest

pub pending-action : (m : MapValue) (k : ℕ) (b : Action) (h : List ResolvedEvent)
    → pending m (PressedAction k b ∷ h) ≡ next_pending m (pending m h) (taken_over (remembered k h) b)
unfolding dead_keys_taken
pending-action m k b h = search (rules, pending_step)

-- pressed
pub pressed-start : (k : ℕ) → pressed k [] ≡ false
unfolding pressed
pressed-start k = refl

-- a further event, by whether it concerns the key
press_step : (b : Bool) (e : Event) (o : Option Event)
    → is_press (if b then Some e else o) ≡ (if b then is_press (Some e) else is_press o)
press_step true e o = refl
press_step false e o = refl

pub pressed-press : (k j : ℕ) (h : List Event) → pressed k (Press j ∷ h) ≡ (if j == k then true else pressed k h)
unfolding pressed
pressed-press k j h = press_step (j == k) (Press j) (last_where (concerns k) h)

pub pressed-release : (k j : ℕ) (h : List Event) → pressed k (Release j ∷ h) ≡ (if j == k then false else pressed k h)
unfolding pressed
pressed-release k j h = press_step (j == k) (Release j) (last_where (concerns k) h)

pub pressed-reset : (k : ℕ) (h : List Event) → pressed k (Reset ∷ h) ≡ false
unfolding pressed
pressed-reset k h = refl

pub pressed-load : (k : ℕ) (h : List Event) → pressed k (Load ∷ h) ≡ false
unfolding pressed
pressed-load k h = refl

-- a further event of a lock, by whether it unlocks and whether it turns
locked_more : (b t : Bool) (n : ℕ)
    → is_odd (if b then 0 else (if t then suc n else n))
    ≡ (if b then false else (if t then not (is_odd n) else is_odd n))
locked_more true t n = refl
locked_more false t n = locked_step t n

-- a further event of a lock
pub locked-more : (l : Lock) (x : ResolvedEvent) (h : List ResolvedEvent)
    → locked l (x ∷ h) ≡ (if unlocks l x h then false else (if turns l x h then not (locked l h) else locked l h))
unfolding locked
locked-more l x h = locked_more (unlocks l x h) (turns l x h) _

-- a press turns no lock off as a load does
pub press-unlocks : (l : Lock) (k : ℕ) (x : Cell) (r : List ResolvedEvent) → unlocks l (resolve_press k x) r ≡ false
press-unlocks l k (Char c) r = refl
press-unlocks l k (Act a) r = refl
