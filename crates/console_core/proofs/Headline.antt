-- The main theorem.
use Rattle.console_core.proofs.Common.{◌≡◌, ◌≢◌, ℕ, ◌<◌, Bool, true, false, ◌&&◌, not, List, [], ◌∷◌, ◌++◌, Option}
use Rattle.console_core.proofs.Common.{Some, None, refl, ap, subst, sym, ◌∙◌, inl, inr, if◌then◌else◌, ◌==◌, reverse}
use Rattle.console_core.proofs.Common.{eqb-true, cases_Bool, true≢false, false_from_ne_true, All-head, All-tail, Action}
use Rattle.console_core.proofs.Common.{Lock, Holding, Cell, Char, Act, Event, Press, Release, Reset, Load, same_action}
use Rattle.console_core.proofs.Common.{holding_action, MapValue, ResolvedEvent, held, locked, remembered}
use Rattle.console_core.proofs.Common.{taken_over, unless_nop, look, resolve_press, turns, Maps, in_force, resolved}
use Rattle.console_core.proofs.Common.{pressed, HasKey, HasKeys, IsCellOf, BearsThroughout, IsSafe, same_action-true}
use Rattle.console_core.proofs.Common.{option_or, none-some, rules}
use Rattle.keymap_core.proofs.Shared.{none_unless}
use Rattle.console_core.specs.History.{accent_pending_after, IsQuiet}
use Rattle.std.proofs.lemmas.Bool.{false≢true}
use Rattle.console_core.specs.Headline.{IsSteady, IsActing, AreRepeats, IsOnOnlyWhilePressed}
use Rattle.console_core.specs.Headline.{IsOffOnceQuiet, GoesOnAs, Headline, HeadlineHolds}
use Rattle.console_core.specs.Reading.{turns_at}
use Rattle.console_core.proofs.Common.{is_on_after, is_locked_after, fun_ext, Modifier}
use Rattle.std.proofs.lemmas.List.Elements.{All-cons}
use Rattle.console_core.proofs.OneMore.{resolved-more, locked-more, held-reset, locked-reset, remembered-character}
use Rattle.console_core.proofs.OneMore.{remembered-action, remembered-release, remembered-reset, pending-reset}
use Rattle.console_core.proofs.OneMore.{pressed-start, pressed-press, pressed-release, pressed-reset, pressed-load}
use Rattle.console_core.proofs.OneMore.{press-unlocks}
use Rattle.console_core.proofs.Readings.{turns-event}
use Rattle.console_core.proofs.Alike.{Same, SameAfter, same-later, same-answers, same-pending}
use Rattle.console_core.proofs.Borne.{AllLooked, taken-holding, look-cell, resolved-looked}
use Rattle.console_core.proofs.Bearing.{borne-pressed, remembered-cell, remembered-pressed, held-remembered}
use Rattle.console_core.proofs.Bearing.{remembered-held}
use Rattle.console_core.proofs.Deliveries.{reverse-cons}
use Rattle.keymap_core.specs.declared.action.Action.TheVariants as act
use Rattle.keymap_core.specs.declared.action.Holding.TheVariants as holding

-- no cell is a character and an action, or two actions
act_char : (a : Action) (c : ℕ) → Char c ≡ Act a → ⊥
act_char a c e = cc

pub act_act : (a b : Action) → Act a ≡ Act b → a ≡ b
act_act a b e = cc

-- truth values that follow from each other are the same
pub same_by : (x y : Bool) → (x ≡ true → y ≡ true) → (y ≡ true → x ≡ true) → x ≡ y
same_by true y f g = sym (f refl)
same_by false true f g = g refl
same_by false false f g = refl

-- in a safe map a modifier is on only while a key that bears it is pressed
pub on_only_while_pressed : (ms : Maps) (h : List Event) → IsSafe (in_force ms h) → HasKeys h
    → IsOnOnlyWhilePressed (in_force ms h) h (λ i. is_on_after ms i h)
on_only_while_pressed ms h safe keys i on =
    borne-pressed ms h (act.Mod i) keys
    (held-remembered (in_force ms h) (holding.Mod i) (λ k lt b c x. safe k lt (holding.Mod i) b c x) (resolved ms h)
    (resolved-looked ms h keys) on)

-- a pressed key whose cells are all actions other than nop remembers one
abbrev Remembers : ℕ → List ResolvedEvent → Type 0
Remembers k r = (a : Action) × (remembered k r ≡ Some a)

-- an action other than nop is offered
offers_some : (t : Bool) (b : Action) → same_action b act.Nop ≡ t → b ≢ act.Nop
    → (a : Action) × ((if t then None else Some b) ≡ Some a)
offers_some true b e ne = absurd (ne (same_action-true b act.Nop e))
offers_some false b e ne = (b, refl)

-- one of two actions is there where the second is
first_some_of : (o p : Option Action) → ((a : Action) × (p ≡ Some a)) → (a : Action) × (option_or o p ≡ Some a)
first_some_of None p s = s
first_some_of (Some a) p s = (a, refl)

-- one of two actions is there where the first is
first_some_kept : (o p : Option Action) → ((a : Action) × (o ≡ Some a)) → (a : Action) × (option_or o p ≡ Some a)
first_some_kept None p s = absurd (none-some s.0 s.1)
first_some_kept (Some a) p s = (a, refl)

-- a press of a key that looks up an action other than nop leaves the key something to remember
press-remembers : (m : MapValue) (k j : ℕ) (r : List ResolvedEvent) (t : Bool) (x : Cell) → (j == k) ≡ t
    → (t ≡ true → IsActing x) → (t ≡ false → Remembers k r) → Remembers k (resolve_press j x ∷ r)
press-remembers m k j r true (Char c) e f g = absurd (f refl)
press-remembers m k j r false (Char c) e f g =
    let s : Remembers k r = g refl in
    (s.0, rw (remembered-character k j c r, e) s.1)
press-remembers m k j r true (Act b) e f g =
    let s : (a : Action) × (option_or (remembered k r) (unless_nop b) ≡ Some a) =
    first_some_of (remembered k r) (unless_nop b) (offers_some (same_action b act.Nop) b refl (f refl)) in
    (s.0, rw (remembered-action k j b r, e) s.1)
press-remembers m k j r false (Act b) e f g =
    let s : (a : Action) × (option_or (remembered k r) (if j == k then unless_nop b else None) ≡ Some a) =
    first_some_kept (remembered k r) _ (g refl) in
    (s.0, remembered-action k j b r ∙ s.1)

-- a key whose cells all act remembers an action while it is pressed
pub pressed-remembers : (ms : Maps) (k : ℕ) (h : List Event) → ((x : Cell) → IsCellOf (in_force ms h) k x → IsActing x)
    → HasKeys h → pressed k h ≡ true → Remembers k (resolved ms h)
pressed-remembers ms k [] acting keys p = absurd (true≢false (sym p ∙ pressed-start k))
pressed-remembers ms k (Press j ∷ h) acting keys p =
    let all : AllLooked (in_force ms h) (resolved ms h) = resolved-looked ms h (All-tail HasKey (Press j) h keys) in
    rw (resolved-more ms h (Press j))
    (press-remembers (in_force ms h) k j (resolved ms h) (j == k) (look (in_force ms h) (resolved ms h) j) refl
    (λ e. acting (look (in_force ms h) (resolved ms h) j)
    (rw (← (eqb-true j k e)) (look-cell (in_force ms h) (resolved ms h) j all)))
    (λ e. pressed-remembers ms k h acting (All-tail HasKey (Press j) h keys)
    (rw (pressed-press k j h, e) at p)))
pressed-remembers ms k (Release j ∷ h) acting keys p =
    elim (cases_Bool (j == k)) [
      | inl e ↦ absurd (false≢true (rw (pressed-release k j h, e) at p))
      | inr e ↦
          let s : Remembers k (resolved ms h) =
          pressed-remembers ms k h acting (All-tail HasKey (Release j) h keys) (rw (pressed-release k j h, e) at p) in
          (s.0, rw (resolved-more ms h (Release j), remembered-release k j (resolved ms h), e) s.1)
    ]
pressed-remembers ms k (Reset ∷ h) acting keys p = absurd (true≢false (sym p ∙ pressed-reset k h))
pressed-remembers ms k (Load ∷ h) acting keys p = absurd (true≢false (sym p ∙ pressed-load k h))

-- no holding action is nop
acting-holding : (a : Holding) → holding_action a ≡ act.Nop → ⊥
acting-holding (holding.Mod i) e = cc
acting-holding (holding.Lock l) e = cc

-- a holding action that one key alone bears throughout is held exactly while that key is pressed
pub throughout_held : (ms : Maps) (h : List Event) → HasKeys h → (a : Holding) (k : ℕ)
    → BearsThroughout (in_force ms h) k a → held a (resolved ms h) ≡ pressed k h
throughout_held ms h keys a k bears =
    let all : AllLooked (in_force ms h) (resolved ms h) = resolved-looked ms h keys in
    same_by (held a (resolved ms h)) (pressed k h)
    (λ on.
    let (j, lt, borne, down) =
    borne-pressed ms h (holding_action a) keys
    (held-remembered (in_force ms h) a
    (λ j lt b c x. act_char (holding_action a) c
    (bears.2 (Char c) (subst (λ y. IsCellOf (in_force ms h) y (Char c)) (bears.1 j lt b) x)))
    (resolved ms h) all on) in
    subst (λ y. pressed y h ≡ true) (bears.1 j lt borne) down)
    (λ p.
    let s : Remembers k (resolved ms h) =
    pressed-remembers ms k h (λ x is. subst IsActing (sym (bears.2 x is)) (acting-holding a)) keys p in
    let b : (k < 128) × IsCellOf (in_force ms h) k (Act s.0) =
    remembered-cell (in_force ms h) (resolved ms h) k s.0 all s.1 in
    remembered-held (in_force ms h) a k bears.1 (resolved ms h) all
    (s.1 ∙ ap (λ x. Some x) (act_act s.0 (holding_action a) (bears.2 (Act s.0) b.1))))

-- a repeat of a key finds a steady lock down
turned-false : (t d : Bool) → (t ≡ true → d ≡ true) → (t && not d) ≡ false
turned-false true d f = rw (f refl) refl
turned-false false d f = refl

-- a repeat turns no steady lock, by the cell looked up
repeat-turns : (ms : Maps) (h : List Event) (l : Lock) (k : ℕ) (x : Cell) → IsSteady (in_force ms h) l
    → HasKeys (Press k ∷ h) → pressed k h ≡ true → IsCellOf (in_force ms h) k x
    → turns l (resolve_press k x) (resolved ms h) ≡ false
repeat-turns ms h l k (Char c) steady keys p is = refl
repeat-turns ms h l k (Act b) steady keys p is =
    turned-false (same_action (taken_over (remembered k (resolved ms h)) b) (act.Lock l))
    (held (holding.Lock l) (resolved ms h))
    (λ t.
    let t1 : (b ≡ act.Lock l) × (option_or (remembered k (resolved ms h)) (unless_nop b) ≡ Some (act.Lock l)) =
    taken-holding (remembered k (resolved ms h)) b (holding.Lock l) t in
    let e : k ≡ steady.0 =
    steady.3 k (All-head HasKey (Press k) h keys) (subst (λ y. IsCellOf (in_force ms h) k (Act y)) t1.0 is) in
    let s : Remembers k (resolved ms h) =
    pressed-remembers ms k h (λ y cell. steady.4 y (subst (λ i. IsCellOf (in_force ms h) i y) e cell))
    (All-tail HasKey (Press k) h keys) p in
    let f : remembered k (resolved ms h) ≡ Some (act.Lock l) =
    s.1 ∙ ap (λ o. option_or o (unless_nop b)) (sym s.1) ∙ t1.1 in
    remembered-held (in_force ms h) (holding.Lock l) k (λ j lt bears. steady.3 j lt bears ∙ sym e) (resolved ms h)
    (resolved-looked ms h (All-tail HasKey (Press k) h keys)) f)

-- a repeat turns no steady lock
pub repeats_turn_no_steady_lock : (ms : Maps) (h : List Event) (l : Lock) → IsSteady (in_force ms h) l → (k : ℕ)
    → HasKeys (Press k ∷ h) → pressed k h ≡ true
    → (turns_at ms l (Press k) h ≡ false) × (is_locked_after ms l (Press k ∷ h) ≡ is_locked_after ms l h)
repeats_turn_no_steady_lock ms h l steady k keys p =
    let still : turns l (resolve_press k (look (in_force ms h) (resolved ms h) k)) (resolved ms h) ≡ false =
    repeat-turns ms h l k (look (in_force ms h) (resolved ms h) k) steady keys p
    (look-cell (in_force ms h) (resolved ms h) k (resolved-looked ms h (All-tail HasKey (Press k) h keys))) in (
      sym (turns-event ms l (Press k) h) ∙ still,
      rw (resolved-more ms h (Press k), locked-more l _ (resolved ms h))
          (rw (press-unlocks l k (look (in_force ms h) (resolved ms h) k) (resolved ms h), still) refl),
    )

-- once no key is pressed, no holding action is held
pub held-quiet : (ms : Maps) (h : List Event) → IsSafe (in_force ms h) → HasKeys h → IsQuiet h → (a : Holding)
    → held a (resolved ms h) ≡ false
held-quiet ms h safe keys quiet a =
    false_from_ne_true (held a (resolved ms h)) (λ on.
    let (k, lt, borne, down) =
    borne-pressed ms h (holding_action a) keys
    (held-remembered (in_force ms h) a (λ k lt b c x. safe k lt a b c x) (resolved ms h) (resolved-looked ms h keys)
    on) in
    true≢false (sym down ∙ quiet k lt))

-- in a safe map no modifier is on once every key is released
pub off_once_quiet : (ms : Maps) (h : List Event) → IsSafe (in_force ms h) → HasKeys h
    → IsOffOnceQuiet h (λ i. is_on_after ms i h)
off_once_quiet ms h safe keys quiet i = held-quiet ms h safe keys quiet (holding.Mod i)

-- once every key is released nothing is remembered
remembered-quiet : (ms : Maps) (h : List Event) → IsQuiet h → (k : ℕ) → k < 128 → remembered k (resolved ms h) ≡ None
remembered-quiet ms h quiet k lt = search (rules, none_unless, true≢false, remembered-pressed)

-- in a safe map a quiet console with nothing pending goes on as after a reset
same-reset : (ms : Maps) (h : List Event) → IsSafe (in_force ms h) → HasKeys h → IsQuiet h
    → accent_pending_after ms h ≡ None
    → SameAfter ms h (Reset ∷ h)
same-reset ms h safe keys quiet p = record {
  map_in_force = refl;
  same = subst (λ r. Same (in_force ms h) (resolved ms h) r) (sym (resolved-more ms h Reset)) (record {
    held = λ a. held-quiet ms h safe keys quiet a ∙ sym (held-reset a (resolved ms h));
    locked = λ l. sym (locked-reset l (resolved ms h));
    remembered = λ k lt. remembered-quiet ms h quiet k lt ∙ sym (remembered-reset k (resolved ms h));
    pending = p ∙ sym (pending-reset (in_force ms h) (resolved ms h));
  });
}

-- in a safe map a console goes on as after a reset, once every key is released and nothing is pending
goes_on_as_after_reset : (ms : Maps) (h : List Event) → IsSafe (in_force ms h) → HasKeys h → IsQuiet h
    → accent_pending_after ms h ≡ None → GoesOnAs ms h (Reset ∷ h)
goes_on_as_after_reset ms h safe keys quiet p later later_keys =
    let base : SameAfter ms h (Reset ∷ h) = same-reset ms h safe keys quiet p in
    let after : SameAfter ms (reverse later ++ h) (reverse later ++ (Reset ∷ h)) =
    same-later ms h (Reset ∷ h) later later_keys base in (
      same-answers ms h (Reset ∷ h) later later_keys base,
      (λ i. after.same.held (holding.Mod i)),
      after.same.locked,
      same-pending ms (reverse later ++ h) (reverse later ++ (Reset ∷ h)) after,
    )

-- the headline holds after every list of events
pub headline_holds : HeadlineHolds
headline_holds ms h keys = record {
  on_only_while_pressed = λ safe. on_only_while_pressed ms h safe keys;
  on_exactly_while_pressed = λ i k. throughout_held ms h keys (holding.Mod i) k;
  repeats_turn_no_steady_lock = λ l steady k lt.
      repeats_turn_no_steady_lock ms h l steady k (All-cons HasKey (Press k) h lt keys);
  off_once_quiet = λ safe. off_once_quiet ms h safe keys;
  as_after_reset_once_quiet = λ safe. goes_on_as_after_reset ms h safe keys;
}

-- and of what a console shows
pub headline-shown : (ms : Maps) (h : List Event) → HasKeys h → (is_on : Modifier → Bool) (is_locked : Lock → Bool)
    (pending : Option ℕ) → ((i : Modifier) → is_on i ≡ is_on_after ms i h)
    → ((l : Lock) → is_locked l ≡ is_locked_after ms l h) → pending ≡ accent_pending_after ms h
    → Headline (IsSafe (in_force ms h)) ms h is_on is_locked pending
headline-shown ms h keys is_on is_locked pending on_is locked_is pending_is =
    let e : is_on ≡ (λ i. is_on_after ms i h) = fun_ext on_is in
    let f : is_locked ≡ (λ l. is_locked_after ms l h) = fun_ext locked_is in
    rw (e, f, pending_is) (headline_holds ms h keys)

-- events of which some more are of keys are of keys
keys-before : (later h : List Event) → HasKeys (reverse later ++ h) → HasKeys h
keys-before [] h keys = keys
keys-before (e ∷ later) h keys =
    let rest : HasKeys (e ∷ h) = keys-before later (e ∷ h) (subst HasKeys (reverse-cons e later h) keys) in
    All-tail HasKey e h rest

-- repeats leave a steady lock as it was
pub repeats-kept : (ms : Maps) (l : Lock) (h later : List Event) → IsSteady (in_force ms h) l
    → HasKeys (reverse later ++ h) → AreRepeats h later
    → locked l (resolved ms (reverse later ++ h)) ≡ locked l (resolved ms h)
repeats-kept ms l h [] steady keys repeats = refl
repeats-kept ms l h (Press k ∷ later) steady keys repeats =
    let there : HasKeys (reverse later ++ (Press k ∷ h)) = subst HasKeys (reverse-cons (Press k) later h) keys in
    ap (λ x. locked l (resolved ms x)) (reverse-cons (Press k) later h)
    ∙ repeats-kept ms l (Press k ∷ h) later steady there repeats.1
    ∙ (repeats_turn_no_steady_lock ms h l steady k (keys-before later (Press k ∷ h) there) repeats.0).1
repeats-kept ms l h (Release k ∷ later) steady keys repeats = absurd repeats
repeats-kept ms l h (Reset ∷ later) steady keys repeats = absurd repeats
repeats-kept ms l h (Load ∷ later) steady keys repeats = absurd repeats
