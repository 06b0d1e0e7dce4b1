-- A press that changes nothing: what comes behind it is answered as by a new console.
use Rattle.keymap_consequences.proofs.Common.{◌≡◌, ◌<◌, ◌∷◌, [], ◌∙◌, ◌⊎◌, ◌||◌, ℕ, Bool, true, false, List, None, Some}
use Rattle.keymap_consequences.proofs.Common.{refl, ap, sym, subst, inl, inr, cases_Bool, if◌then◌else◌, ◌==◌}
use Rattle.std.proofs.Common.{ne_eqb}
use Rattle.std.proofs.lemmas.Bool.{cases_eq, eq-eqb, true≢false}
use mathlib.Core.Path.{fun_ext}
use Rattle.keymap_core.specs.Actions.{holding_action, same_action}
use Rattle.keymap_core.specs.Maps.{MapValue, cell_at, entry_at}
use Rattle.keymap_core.specs.declared.action.Action.{Action}
use Rattle.keymap_core.specs.declared.action.Action.TheVariants as act
use Rattle.keymap_core.specs.declared.action.Holding.{Holding}
use Rattle.keymap_core.specs.declared.action.Holding.TheVariants as holding
use Rattle.keymap_core.specs.declared.action.Lock.{Lock}
use Rattle.keymap_core.specs.declared.action.Modifier.{Modifier}
use Rattle.keymap_core.specs.declared.action.Modifier.TheVariants.{Meta}
use Rattle.keymap_core.specs.declared.entry.Cell.{Cell}
use Rattle.keymap_core.specs.declared.entry.Cell.TheVariants.{Act, Char}
use Rattle.keymap_core.specs.declared.entry.LockFlag.{LockFlag}
use Rattle.keymap_core.specs.declared.entry.LockFlag.TheVariants as flag
use Rattle.console_core.specs.declared.event.Answer.{Answer}
use Rattle.console_core.specs.declared.event.Event.{Event}
use Rattle.console_core.specs.declared.event.Event.TheVariants.{Press, Release}
use Rattle.console_core.specs.Answers.{answer_action, answer_char, usable}
use Rattle.console_core.specs.Inner.Kept.{next_pending, pending_after_dead_key}
use Rattle.console_core.specs.Columns.{flips_shift, look_with}
use Rattle.console_core.specs.History.{accent_pending_after, answer_to, between, in_force, is_on_after}
use Rattle.console_core.specs.History.{is_second_in_force, resolved}
use Rattle.console_core.specs.Reading.{answer_to_look, remembered_after}
use Rattle.console_core.specs.Resolved.{ResolvedEvent, held, locked, look, on, pending, remembered, resolve_press}
use Rattle.console_core.specs.Resolved.{taken_over}
use Rattle.console_core.specs.Resolved.ResolvedEvent.{PressedAction, ReleasedKey}
use Rattle.console_core.proofs.Shared.{answers_by_cases, held-action, held-character, held-release, held-start}
use Rattle.console_core.proofs.Shared.{locked-action, locked-character, locked-release, locked-start, one_map}
use Rattle.console_core.proofs.Shared.{pending-action, pending-character, pending-release, pending-start}
use Rattle.console_core.proofs.Shared.{remembered-action, remembered-character, remembered-release}
use Rattle.console_core.proofs.Shared.{remembered-start, resolved-more, resolved-start}
use Rattle.console_states.proofs.Shared.{not_holding}
use Rattle.keymap_consequences.specs.Consequences.{before_second}
use Rattle.keymap_consequences.specs.Inner.Near.{Changes, ChangesBy}

-- no modifier and no lock is on, and no accent is pending
pub record IsCalm (m : MapValue) (r : List ResolvedEvent) : Type 0 where
  pub on : (a : Holding) → held a r ≡ false
  pub locked : (l : Lock) → locked l r ≡ false
  pub pending : pending m r ≡ None

calm-start : (m : MapValue) → IsCalm m []
calm-start m = record { on = held-start; locked = locked-start; pending = pending-start m }

-- an action that changes nothing is no modifier or lock, and keeps no accent pending
plain : (m : MapValue) (a : Action) → (ChangesBy m (Act a) → ⊥) → (h : Holding)
    → same_action a (holding_action h) ≡ false
plain m (act.Mod i) still h = absurd (still tt)
plain m (act.Lock l) still h = absurd (still tt)
plain m a still h = not_holding a h refl

calm-action : (m : MapValue) (j : ℕ) (a : Action) → (ChangesBy m (Act a) → ⊥)
    → pending m (PressedAction j a ∷ []) ≡ None
    → IsCalm m (PressedAction j a ∷ [])
calm-action m j a still none = record {
  on = λ h. rw (held-action h j a [], remembered-start j, plain m a still h, held-start h) refl;
  locked = λ l. rw (locked-action l j a [], remembered-start j, plain m a still (holding.Lock l), locked-start l) refl;
  pending = none;
}

after-press : (m : MapValue) (j : ℕ) (a : Action) → pending m (PressedAction j a ∷ []) ≡ next_pending m None a
after-press m j a =
    pending-action m j a [] ∙ ap (λ o. next_pending m (pending m []) (taken_over o a)) (remembered-start j)
    ∙ ap (λ p. next_pending m p a) (pending-start m)

calm-pending : (m : MapValue) (j : ℕ) (a : Action) → (ChangesBy m (Act a) → ⊥)
    → pending m (PressedAction j a ∷ []) ≡ None
calm-pending m j (act.Mod i) still = absurd (still tt)
calm-pending m j (act.Lock l) still = absurd (still tt)
calm-pending m j (act.DeadKey i) still = elim (cases_Bool (usable m i)) [
  | inl can ↦ absurd (still can)
  | inr cannot ↦
      after-press m j (act.DeadKey i)
      ∙ ap (λ b. pending_after_dead_key (if b then Some i else None) None) cannot
]
calm-pending m j a still = after-press m j a

calm-press : (m : MapValue) (j : ℕ) (x : Cell) → (ChangesBy m x → ⊥) → IsCalm m (resolve_press j x ∷ [])
calm-press m j (Char c) still = record {
  on = λ h. held-character h j c [] ∙ held-start h;
  locked = λ l. locked-character l j c [] ∙ locked-start l;
  pending = pending-character m j c [];
}
calm-press m j (Act a) still = calm-action m j a still (calm-pending m j a still)

-- another key remembers nothing
other-forgets : (j k : ℕ) (x : Cell) → (j ≡ k → ⊥) → remembered k (resolve_press j x ∷ []) ≡ None
other-forgets j k (Char c) other =
    rw (remembered-character k j c [], ne_eqb j k other, remembered-start k) refl
other-forgets j k (Act a) other = rw (remembered-action k j a [], ne_eqb j k other, remembered-start k) refl

calm-release : (m : MapValue) (j : ℕ) (r : List ResolvedEvent) → IsCalm m r → IsCalm m (ReleasedKey j ∷ r)
calm-release m j r calm = record {
  on = λ h. rw (held-release h j r, calm.on h) refl;
  locked = λ l. locked-release l j r ∙ calm.locked l;
  pending = pending-release m j r ∙ calm.pending;
}

released-forgets : (j : ℕ) (r : List ResolvedEvent) → remembered j (ReleasedKey j ∷ r) ≡ None
released-forgets j r = rw (remembered-release j j r, eq-eqb j j refl) refl

-- ---- answers

-- the cell that a key looks up while nothing is on
abbrev calm_look : MapValue → ℕ → Cell
calm_look m k = look_with m (λ i. false) (λ l. false) k

flips-none : (f : LockFlag) → flips_shift f false false ≡ false
flips-none flag.O = refl
flips-none flag.C = refl
flips-none flag.N = refl
flips-none flag.B = refl

calm-cell : (m : MapValue) (k : ℕ) → calm_look m k ≡ cell_at m k 0
calm-cell m k = rw (flips-none (entry_at m k).flag) refl

-- the answer to what is looked up while nothing is on or remembered
abbrev calm_answer : MapValue → Cell → Answer
calm_answer m (Char c) = answer_char m None false c
calm_answer m (Act a) = answer_action m None false a

answer-look : (m : MapValue) (h : List Event) (k : ℕ) (x : Cell) → accent_pending_after (between m m) h ≡ None
    → is_on_after (between m m) Meta h ≡ false → remembered_after (between m m) k h ≡ None
    → answer_to_look (between m m) k h x ≡ calm_answer m x
answer-look m h k (Char c) p o r = cc (one_map m (is_second_in_force h), p, o)
answer-look m h k (Act a) p o r = rw (r) (cc (one_map m (is_second_in_force h), p, o))

look-calm : (m n : MapValue) (r : List ResolvedEvent) (k : ℕ) → n ≡ m → IsCalm m r → look n r k ≡ calm_look m k
unfolding look
look-calm m n r k e calm =
    ap (λ z. look_with z (λ i. on i r) (λ l. locked l r) k) e
    ∙ ap (λ f. look_with m f (λ l. locked l r) k) (fun_ext (λ i. calm.on (holding.Mod i)))
    ∙ ap (λ f. look_with m (λ i. false) f k) (fun_ext (λ l. calm.locked l))

answer-calm : (m : MapValue) (h : List Event) (k : ℕ) → IsCalm m (resolved (between m m) h)
    → remembered_after (between m m) k h ≡ None
    → answer_to (between m m) h (Press k) ≡ calm_answer m (calm_look m k)
answer-calm m h k calm forgot =
    let now = one_map m (is_second_in_force h) in
    (answers_by_cases (between m m) k h).0
    ∙ ap (λ x. answer_to_look (between m m) k h x)
    (look-calm m (in_force (between m m) h) (resolved (between m m) h) k now calm)
    ∙ answer-look m h k (calm_look m k)
    (ap (λ n. pending n (resolved (between m m) h)) now ∙ calm.pending) (calm.on (holding.Mod Meta)) forgot

-- the press of a key by a new console, resolved
first-press : (m : MapValue) (j : ℕ) → resolved (between m m) (Press j ∷ []) ≡ resolve_press j (cell_at m j 0) ∷ []
first-press m j =
    resolved-more (between m m) [] (Press j)
    ∙ ap (λ r. resolve_press j (look m r j) ∷ r) (resolved-start (between m m))
    ∙ ap (λ x. resolve_press j x ∷ []) (look-calm m m [] j refl (calm-start m) ∙ calm-cell m j)

-- A press behind one that changes nothing is answered as by a new console.
pub second-is-first : (m : MapValue) (j k : ℕ) → (Changes m j → ⊥)
    → answer_to (between m m) (before_second j k) (Press k) ≡ answer_to (between m m) [] (Press k)
second-is-first m j k still =
    let x = cell_at m j 0 in
    let first : answer_to (between m m) [] (Press k) ≡ calm_answer m (calm_look m k) =
    answer-calm m [] k (subst (IsCalm m) (sym (resolved-start (between m m))) (calm-start m))
    (ap (λ r. remembered k r) (resolved-start (between m m)) ∙ remembered-start k) in
    let pressed = first-press m j in
    elim (cases_eq j k) [
      | inl same ↦
          let released : resolved (between m m) (Release j ∷ Press j ∷ [])
          ≡ ReleasedKey j ∷ (resolve_press j x ∷ []) =
          resolved-more (between m m) (Press j ∷ []) (Release j) ∙ ap (λ r. ReleasedKey j ∷ r) pressed in
          rw (eq-eqb j k same)
          (answer-calm m (Release j ∷ Press j ∷ []) k
          (subst (IsCalm m) (sym released) (calm-release m j (resolve_press j x ∷ []) (calm-press m j x still)))
          (ap (λ r. remembered k r) released
          ∙ subst (λ z. remembered z (ReleasedKey j ∷ (resolve_press j x ∷ [])) ≡ None) same
          (released-forgets j (resolve_press j x ∷ [])))
          ∙ sym first)
      | inr other ↦
          rw (ne_eqb j k other)
          (answer-calm m (Press j ∷ []) k (subst (IsCalm m) (sym pressed) (calm-press m j x still))
          (ap (λ r. remembered k r) pressed ∙ other-forgets j k x other)
          ∙ sym first)
    ]

-- a press changes something or nothing
pub changes-or-not : (m : MapValue) (x : Cell) → ChangesBy m x ⊎ (ChangesBy m x → ⊥)
changes-or-not m (Char c) = inr (λ none. none)
changes-or-not m (Act (act.Mod i)) = inl tt
changes-or-not m (Act (act.Lock l)) = inl tt
changes-or-not m (Act (act.DeadKey i)) = elim (cases_Bool (usable m i)) [
  | inl can ↦ inl can
  | inr cannot ↦ inr (λ can. true≢false (sym can ∙ cannot))
]
changes-or-not m (Act a) = inr (λ none. none)
