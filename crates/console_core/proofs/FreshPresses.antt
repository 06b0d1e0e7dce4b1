-- A lock that one key alone bears throughout turns at each fresh press of the key.
use Rattle.console_core.proofs.Common.{suc, ◌⊎◌, inl, inr, lit<, ◌≡◌, ℕ, ◌<◌, Bool, true, false, ◌&&◌, not, List, []}
use Rattle.console_core.proofs.Common.{◌∷◌, Option, Some, None, refl, ap, subst, sym, ◌∙◌, if◌then◌else◌, eqb-true}
use Rattle.console_core.proofs.Common.{eq-eqb, true≢false, false_from_ne_true, All-head, All-tail, ◌==◌, Action, Lock}
use Rattle.console_core.proofs.Common.{Cell, Char, Act, Holding, Event, Press, Release, Reset, Load, same_action}
use Rattle.console_core.proofs.Common.{MapValue, cell_at, is_borne, bears-borne, count_where, is_odd, unlocks}
use Rattle.console_core.proofs.Common.{ResolvedEvent, held, locked, remembered, taken_over, look, resolve_press, turns}
use Rattle.console_core.proofs.Common.{Maps, in_force, loaded, is_second_in_force, resolved_event, resolved, pressed}
use Rattle.console_core.proofs.Common.{HasKey, HasKeys, IsNoLoad, HasNoLoads, IsCellOf, BearsThroughout, is_fresh_press}
use Rattle.console_core.proofs.Common.{same_action-refl}
use Rattle.console_core.specs.Headline.{LockedByFreshPresses}
use Rattle.console_core.proofs.OneMore.{resolved-start, resolved-more, locked-start, locked-more, press-unlocks}
use Rattle.console_core.proofs.Borne.{AllLooked, taken-holding, look-cell, resolved-looked}
use Rattle.console_core.proofs.Bearing.{remembered-cell}
use Rattle.console_core.proofs.Headline.{throughout_held, act_act}
use Rattle.keymap_core.specs.declared.action.Action.TheVariants as act
use Rattle.keymap_core.specs.declared.action.Holding.TheVariants as holding

-- what a key that bears it throughout takes
takes : (m : MapValue) (k : ℕ) (l : Lock) (r : List ResolvedEvent) → BearsThroughout m k (holding.Lock l)
    → AllLooked m r → (o : Option Action) → remembered k r ≡ o
    → same_action (taken_over o (act.Lock l)) (act.Lock l) ≡ true
takes m k l r bears all None e = same_action-refl (act.Lock l)
takes m k l r bears all (Some b) e =
    let s : b ≡ act.Lock l = act_act b (act.Lock l) (bears.2 (Act b) (remembered-cell m r k b all e).1) in
    rw (s, same_action-refl (act.Lock l), same_action-refl (act.Lock l)) refl

-- a press turns the lock exactly if it is a fresh press of the bearer, by the cell looked up
turns-bearer : (ms : Maps) (k j : ℕ) (l : Lock) (h : List Event) (t : Bool) (x : Cell)
    → BearsThroughout (in_force ms h) k (holding.Lock l) → HasKeys h → j < 128 → (j == k) ≡ t
    → IsCellOf (in_force ms h) j x → turns l (resolve_press j x) (resolved ms h) ≡ (t && not (pressed k h))
turns-bearer ms k j l h true (Char c) bears keys lt e is =
    let f : Char c ≡ Act (act.Lock l) =
    bears.2 (Char c) (subst (λ y. IsCellOf (in_force ms h) y (Char c)) (eqb-true j k e) is) in
    cc
turns-bearer ms k j l h true (Act b) bears keys lt e is =
    let s : j ≡ k = eqb-true j k e in
    let f : b ≡ act.Lock l =
    act_act b (act.Lock l) (bears.2 (Act b) (subst (λ y. IsCellOf (in_force ms h) y (Act b)) s is)) in
    let t : same_action (taken_over (remembered j (resolved ms h)) b) (act.Lock l) ≡ true =
    ap (λ i. same_action (taken_over (remembered i (resolved ms h)) b) (act.Lock l)) s
    ∙ ap (λ y. same_action (taken_over (remembered k (resolved ms h)) y) (act.Lock l)) f
    ∙ takes (in_force ms h) k l (resolved ms h) bears (resolved-looked ms h keys) (remembered k (resolved ms h)) refl in
    cc (t, throughout_held ms h keys (holding.Lock l) k bears)
turns-bearer ms k j l h false (Char c) bears keys lt e is = refl
turns-bearer ms k j l h false (Act b) bears keys lt e is =
    ap (λ y. y && not (held (holding.Lock l) (resolved ms h))) (false_from_ne_true _ (λ t.
    let f : b ≡ act.Lock l = (taken-holding (remembered j (resolved ms h)) b (holding.Lock l) t).0 in
    let s : j ≡ k = bears.1 j lt (subst (λ y. IsCellOf (in_force ms h) j (Act y)) f is) in
    true≢false (sym (eq-eqb j k s) ∙ e)))

-- an event turns the lock exactly if it is a fresh press of the bearer
turns-fresh : (ms : Maps) (k : ℕ) (l : Lock) (e : Event) (h : List Event)
    → BearsThroughout (in_force ms h) k (holding.Lock l) → HasKeys (e ∷ h)
    → turns l (resolved_event ms h e) (resolved ms h) ≡ is_fresh_press k e h
turns-fresh ms k l (Press j) h bears keys =
    let before : HasKeys h = All-tail HasKey (Press j) h keys in
    turns-bearer ms k j l h (j == k) _ bears before (All-head HasKey (Press j) h keys) refl
    (look-cell (in_force ms h) (resolved ms h) j (resolved-looked ms h before))
turns-fresh ms k l (Release j) h bears keys = refl
turns-fresh ms k l Reset h bears keys = refl
turns-fresh ms k l Load h bears keys = refl

-- a further press turns an odd number even and an even one odd
odd_step : (b : Bool) (n : ℕ) → (if b then not (is_odd n) else is_odd n) ≡ is_odd (if b then suc n else n)
odd_step true n = refl
odd_step false n = refl

-- without loads the first map is in force
pub no_loads-first : (h : List Event) → HasNoLoads h → is_second_in_force h ≡ false
no_loads-first [] none = refl
no_loads-first (Press k ∷ h) none = no_loads-first h (All-tail IsNoLoad (Press k) h none)
no_loads-first (Release k ∷ h) none = no_loads-first h (All-tail IsNoLoad (Release k) h none)
no_loads-first (Reset ∷ h) none = no_loads-first h (All-tail IsNoLoad Reset h none)
no_loads-first (Load ∷ h) none = absurd (true≢false (All-head IsNoLoad Load h none))

-- what a key bears throughout is borne
throughout-borne : (m : MapValue) (a : Holding) (k : ℕ) → BearsThroughout m k a → is_borne m a ≡ true
throughout-borne m a k bears =
    bears-borne m a k bears.0 (inl (0, lit< tt, bears.2 (cell_at m k 0) (inl (0, lit< tt, refl))))

-- the key bears the lock throughout wherever the second map may be in force
abbrev Bearer : Maps → Lock → ℕ → List Event → Type 0
Bearer ms l k h = HasNoLoads h ⊎ BearsThroughout ms.second k (holding.Lock l)

-- the key bears the lock throughout in whichever of the maps it is
either_bears : (b : Bool) (ms : Maps) (l : Lock) (k : ℕ) → BearsThroughout ms.first k (holding.Lock l)
    → (b ≡ true → BearsThroughout ms.second k (holding.Lock l))
    → BearsThroughout (if b then ms.second else ms.first) k (holding.Lock l)
either_bears true ms l k first f = f refl
either_bears false ms l k first f = first

-- the key bears the lock throughout in the map in force
bears-in_force : (ms : Maps) (l : Lock) (k : ℕ) (h : List Event) → BearsThroughout ms.first k (holding.Lock l)
    → Bearer ms l k h → BearsThroughout (in_force ms h) k (holding.Lock l)
bears-in_force ms l k h first (inl none) =
    either_bears (is_second_in_force h) ms l k first (λ e. absurd (true≢false (sym e ∙ no_loads-first h none)))
bears-in_force ms l k h first (inr second) = either_bears (is_second_in_force h) ms l k first (λ e. second)

-- the key bore the lock so before the last event
bearer-before : (ms : Maps) (l : Lock) (k : ℕ) (e : Event) (h : List Event) → Bearer ms l k (e ∷ h) → Bearer ms l k h
bearer-before ms l k e h (inl none) = inl (All-tail IsNoLoad e h none)
bearer-before ms l k e h (inr second) = inr second

-- no event turns the lock off
keeps-lock : (ms : Maps) (l : Lock) (k : ℕ) (e : Event) (h : List Event) → BearsThroughout ms.first k (holding.Lock l)
    → Bearer ms l k (e ∷ h) → unlocks l (resolved_event ms h e) (resolved ms h) ≡ false
keeps-lock ms l k (Press j) h first bearer = press-unlocks l j (look (in_force ms h) (resolved ms h) j) (resolved ms h)
keeps-lock ms l k (Release j) h first bearer = refl
keeps-lock ms l k Reset h first bearer = refl
keeps-lock ms l k Load h first bearer =
    ap not (throughout-borne (loaded ms h) (holding.Lock l) k (bears-in_force ms l k (Load ∷ h) first bearer))

-- a lock that one key alone bears throughout is on after an odd number of its fresh presses
pub locked_by_fresh_presses : LockedByFreshPresses
locked_by_fresh_presses ms [] keys l k first bearer = ap (λ r. locked l r) (resolved-start ms) ∙ locked-start l
locked_by_fresh_presses ms (e ∷ h) keys l k first bearer =
    let before : Bearer ms l k h = bearer-before ms l k e h bearer in
    rw (
      resolved-more ms h e,
      locked-more l (resolved_event ms h e) (resolved ms h),
      keeps-lock ms l k e h first bearer,
      turns-fresh ms k l e h (bears-in_force ms l k h first before) keys,
      locked_by_fresh_presses ms h (All-tail HasKey e h keys) l k first before,
    )
    (odd_step (is_fresh_press k e h) (count_where (is_fresh_press k) h))
