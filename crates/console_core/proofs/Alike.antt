-- Lists of events after which a console goes on alike: the same map is in force, and what resolved events tell is the
-- same.
use Rattle.console_core.proofs.Common.{suc, ◌≡◌, ℕ, ◌<◌, Bool, true, false, not, List, [], ◌∷◌, ◌++◌, refl, ap}
use Rattle.console_core.proofs.Common.{sym, ◌∙◌, if◌then◌else◌, reverse, true≢false, All-head, All-tail, Lock, Modifier}
use Rattle.console_core.proofs.Common.{Holding, Cell, Char, Act, Event, Press, Release, Reset, Load, MapValue, is_odd}
use Rattle.console_core.proofs.Common.{count_where, look_with, ResolvedEvent, held, locked, remembered, pending, look}
use Rattle.console_core.proofs.Common.{resolve, resolve_press, answer_resolved, on, Maps, in_force, loaded}
use Rattle.console_core.proofs.Common.{is_second_in_force, is_load, resolved_event, resolved, answers_to, answer_to}
use Rattle.console_core.proofs.Common.{HasKey, HasKeys, PressedCharacter, PressedAction, ReleasedKey, WasReset}
use Rattle.console_core.proofs.Common.{WasLoaded, fun_ext, rules}
use Rattle.console_core.specs.History.{accent_pending_after}
use Rattle.console_core.proofs.OneMore.{resolved-more, held-character, held-action, held-release, held-reset}
use Rattle.console_core.proofs.OneMore.{locked-character, locked-action, locked-release, locked-reset}
use Rattle.console_core.proofs.OneMore.{remembered-character, remembered-action, remembered-release, remembered-reset}
use Rattle.console_core.proofs.OneMore.{pending-character, pending-action, pending-release, pending-reset, held-load}
use Rattle.console_core.proofs.OneMore.{locked-load, remembered-load, pending-load}
use Rattle.console_core.proofs.Deliveries.{reverse-cons}
use Rattle.keymap_core.specs.declared.action.Modifier.TheVariants as modifier
use Rattle.keymap_core.specs.declared.action.Holding.TheVariants as holding

-- two lists of resolved events that leave the same
pub record Same (m : MapValue) (r s : List ResolvedEvent) : Type 0 where
  pub held : (a : Holding) → held a r ≡ held a s
  pub locked : (l : Lock) → locked l r ≡ locked l s
  pub remembered : (k : ℕ) → k < 128 → remembered k r ≡ remembered k s
  pub pending : pending m r ≡ pending m s

-- states that are the same look up the same
same-look : (m : MapValue) (r s : List ResolvedEvent) (k : ℕ) → Same m r s → look m r k ≡ look m s k
unfolding look
same-look m r s k same =
    let e : (λ (i : Modifier). on i r) ≡ (λ i. on i s) = fun_ext (λ i. same.held (holding.Mod i)) in
    let f : (λ (l : Lock). locked l r) ≡ (λ l. locked l s) = fun_ext (λ l. same.locked l) in
    ap (λ x. look_with m x (λ l. locked l r) k) e ∙ ap (λ y. look_with m (λ i. on i s) y k) f

-- a resolved event's key is a key
abbrev pub HasResolvedKey : ResolvedEvent → Type 0
HasResolvedKey (PressedCharacter k c) = k < 128
HasResolvedKey (PressedAction k a) = k < 128
HasResolvedKey (ReleasedKey k) = k < 128
HasResolvedKey WasReset = Unit {0}
HasResolvedKey (WasLoaded m) = Unit {0}

-- a press of a key is resolved to one of a key
press-key : (k : ℕ) (x : Cell) → k < 128 → HasResolvedKey (resolve_press k x)
press-key k (Char c) lt = lt
press-key k (Act a) lt = lt

-- an event of a key is resolved to one of a key
pub resolve-key : (m n : MapValue) (r : List ResolvedEvent) (e : Event) → HasKey e → HasResolvedKey (resolve m n r e)
resolve-key m n r (Press k) key = press-key k (look m r k) key
resolve-key m n r (Release k) key = key
resolve-key m n r Reset key = tt
resolve-key m n r Load key = tt

-- states that are the same resolve an event alike
pub same-resolve : (m n : MapValue) (r s : List ResolvedEvent) (e : Event) → Same m r s
    → resolve m n r e ≡ resolve m n s e
same-resolve m n r s (Press k) same = ap (λ x. resolve_press k x) (same-look m r s k same)
same-resolve m n r s (Release k) same = refl
same-resolve m n r s Reset same = refl
same-resolve m n r s Load same = refl

-- states that are the same are so after one more resolved event
pub same-step : (m : MapValue) (r s : List ResolvedEvent) (x : ResolvedEvent) → HasResolvedKey x → Same m r s
    → Same m (x ∷ r) (x ∷ s)
same-step m r s (PressedCharacter k c) lt same = record {
  held = λ a. held-character a k c r ∙ same.held a ∙ sym (held-character a k c s);
  locked = λ l. locked-character l k c r ∙ same.locked l ∙ sym (locked-character l k c s);
  remembered = λ j lt. cc (remembered-character j k c r, same.remembered j lt, remembered-character j k c s);
  pending = pending-character m k c r ∙ sym (pending-character m k c s);
}
same-step m r s (PressedAction k b) lt same = record {
  held = λ a. rw (held-action a k b r, held-action a k b s, same.remembered k lt, same.held a) refl;
  locked =
      λ l. rw (
        locked-action l k b r,
        locked-action l k b s,
        same.remembered k lt,
        same.held (holding.Lock l),
        same.locked l,
      )
      refl;
  remembered = λ j lt2. rw (remembered-action j k b r, remembered-action j k b s, same.remembered j lt2) refl;
  pending = rw (pending-action m k b r, pending-action m k b s, same.remembered k lt, same.pending) refl;
}
same-step m r s (ReleasedKey k) lt same = record {
  held = λ a. rw (held-release a k r, held-release a k s, same.remembered k lt, same.held a) refl;
  locked = λ l. locked-release l k r ∙ same.locked l ∙ sym (locked-release l k s);
  remembered = λ j lt2. cc (remembered-release j k r, same.remembered j lt2, remembered-release j k s);
  pending = pending-release m k r ∙ same.pending ∙ sym (pending-release m k s);
}
same-step m r s WasReset lt same = record {
  held = λ a. held-reset a r ∙ sym (held-reset a s);
  locked = λ l. locked-reset l r ∙ same.locked l ∙ sym (locked-reset l s);
  remembered = λ j lt. remembered-reset j r ∙ sym (remembered-reset j s);
  pending = pending-reset m r ∙ sym (pending-reset m s);
}
same-step m r s (WasLoaded n) lt same = record {
  held = λ a. held-load a n r ∙ sym (held-load a n s);
  locked = λ l. cc (locked-load l n r, same.locked l, locked-load l n s);
  remembered = λ j lt. remembered-load j n r ∙ sym (remembered-load j n s);
  pending = pending-load m n r ∙ sym (pending-load m n s);
}

-- states that are the same answer a resolved event alike
pub same-answer_resolved : (m : MapValue) (r s : List ResolvedEvent) (x : ResolvedEvent) → HasResolvedKey x → Same m r s
    → answer_resolved m x r ≡ answer_resolved m x s
same-answer_resolved m r s (PressedCharacter k c) lt same = cc (same.pending, same.held (holding.Mod modifier.Meta))
same-answer_resolved m r s (PressedAction k b) lt same =
    rw (same.remembered k lt, same.pending, same.held (holding.Mod modifier.Meta)) refl
same-answer_resolved m r s (ReleasedKey k) lt same = rw (same.remembered k lt) refl
same-answer_resolved m r s WasReset lt same = refl
same-answer_resolved m r s (WasLoaded n) lt same = refl

-- two lists of events that leave the same map in force, and the same under it
pub record SameAfter (ms : Maps) (h g : List Event) : Type 0 where
  pub map_in_force : is_second_in_force h ≡ is_second_in_force g
  pub same : Same (in_force ms h) (resolved ms h) (resolved ms g)

-- events that go on alike have the same map in force
same_force : (ms : Maps) (h g : List Event) → SameAfter ms h g → in_force ms h ≡ in_force ms g
same_force ms h g s = ap (λ b. if b then ms.second else ms.first) s.map_in_force

-- events that go on alike load the same map
same_loaded : (ms : Maps) (h g : List Event) → SameAfter ms h g → loaded ms h ≡ loaded ms g
same_loaded ms h g s = ap (λ b. if not b then ms.second else ms.first) s.map_in_force

-- events that go on alike resolve an event alike
pub same-resolved_event : (ms : Maps) (h g : List Event) (e : Event) → SameAfter ms h g
    → resolved_event ms h e ≡ resolved_event ms g e
same-resolved_event ms h g e s = search (rules, same-resolve, same_force, same_loaded)

-- what is the same under one map is so under another after a load
same_under : (m n : MapValue) (r s : List ResolvedEvent) (p : MapValue) → Same m (WasLoaded p ∷ r) (WasLoaded p ∷ s)
    → Same n (WasLoaded p ∷ r) (WasLoaded p ∷ s)
same_under m n r s p same = record {
  held = same.held;
  locked = same.locked;
  remembered = same.remembered;
  pending = pending-load n p r ∙ sym (pending-load n p s);
}

-- after a further event that is a load in both lists, or in neither, the same map is in force
more_force : (b c : Bool) (h g : List Event) → b ≡ c → is_second_in_force h ≡ is_second_in_force g
    → is_odd (if b then suc (count_where is_load h) else count_where is_load h)
    ≡ is_odd (if c then suc (count_where is_load g) else count_where is_load g)
more_force true true h g e f = ap not f
more_force false false h g e f = f
more_force true false h g e f = absurd (true≢false e)
more_force false true h g e f = absurd (true≢false (sym e))

-- whether an event is a load doesn't depend on those before
load_anywhere : (e : Event) (h g : List Event) → is_load e h ≡ is_load e g
load_anywhere (Press k) h g = refl
load_anywhere _ h g = refl

-- a further event, under the map in force before it
same_more : (ms : Maps) (h g : List Event) (e : Event) → HasKey e → SameAfter ms h g
    → Same (in_force ms h) (resolved ms (e ∷ h)) (resolved ms (e ∷ g))
same_more ms h g e key s =
    rw (resolved-more ms h e, resolved-more ms g e, ← same-resolved_event ms h g e s)
    (same-step (in_force ms h) (resolved ms h) (resolved ms g) (resolved_event ms h e)
    (resolve-key (in_force ms h) (loaded ms h) (resolved ms h) e key) s.same)

-- a further load, under the map that it loads
same_load : (ms : Maps) (h g : List Event) → SameAfter ms h g
    → Same (loaded ms h) (resolved ms (Load ∷ h)) (resolved ms (Load ∷ g))
same_load ms h g s =
    let f : resolved ms (Load ∷ g) ≡ WasLoaded (loaded ms h) ∷ resolved ms g =
    resolved-more ms g Load ∙ ap (λ x. WasLoaded x ∷ resolved ms g) (sym (same_loaded ms h g s)) in
    rw (resolved-more ms h Load, f)
    (same_under (in_force ms h) (loaded ms h) (resolved ms h) (resolved ms g) (loaded ms h)
    (same-step (in_force ms h) (resolved ms h) (resolved ms g) (WasLoaded (loaded ms h)) tt s.same))

-- a further event, under the map in force after it
same_events : (ms : Maps) (h g : List Event) (e : Event) → HasKey e → SameAfter ms h g
    → Same (in_force ms (e ∷ h)) (resolved ms (e ∷ h)) (resolved ms (e ∷ g))
same_events ms h g (Press k) key s = same_more ms h g (Press k) key s
same_events ms h g (Release k) key s = same_more ms h g (Release k) key s
same_events ms h g Reset key s = same_more ms h g Reset key s
same_events ms h g Load key s = same_load ms h g s

-- events that go on alike do so after one more event
pub same-events : (ms : Maps) (h g : List Event) (e : Event) → HasKey e → SameAfter ms h g
    → SameAfter ms (e ∷ h) (e ∷ g)
same-events ms h g e key s = record {
  map_in_force = more_force (is_load e h) (is_load e g) h g (load_anywhere e h g) s.map_in_force;
  same = same_events ms h g e key s;
}

-- events that go on alike answer an event alike
pub same-answer : (ms : Maps) (h g : List Event) (e : Event) → HasKey e → SameAfter ms h g
    → answer_to ms h e ≡ answer_to ms g e
same-answer ms h g e key s = search (rules, same-answer_resolved, resolve-key, same_force, same-resolved_event)

-- events that go on alike do so after any events
pub same-later : (ms : Maps) (h g later : List Event) → HasKeys later → SameAfter ms h g
    → SameAfter ms (reverse later ++ h) (reverse later ++ g)
same-later ms h g [] keys s = s
same-later ms h g (e ∷ later) keys s =
    rw (reverse-cons e later h, reverse-cons e later g)
    (same-later ms (e ∷ h) (e ∷ g) later (All-tail HasKey e later keys)
    (same-events ms h g e (All-head HasKey e later keys) s))

-- events that go on alike answer any events alike
pub same-answers : (ms : Maps) (h g later : List Event) → HasKeys later → SameAfter ms h g
    → answers_to ms h later ≡ answers_to ms g later
same-answers ms h g [] keys s = refl
same-answers ms h g (e ∷ later) keys s =
    rw (
      same-answer ms h g e (All-head HasKey e later keys) s,
      same-answers ms (e ∷ h) (e ∷ g) later (All-tail HasKey e later keys)
          (same-events ms h g e (All-head HasKey e later keys) s),
    )
    refl

-- events that go on alike have the same pending accent
pub same-pending : (ms : Maps) (h g : List Event) → SameAfter ms h g
    → accent_pending_after ms h ≡ accent_pending_after ms g
same-pending ms h g s = s.same.pending ∙ ap (λ x. pending x (resolved ms g)) (same_force ms h g s)
