-- The facts on which the main theorem stands.
use Rattle.console_core.proofs.Common.{◌≡◌, ℕ, ◌<◌, true, false, List, [], ◌∷◌, ◌++◌, Some, inl, inr, refl, ap, subst}
use Rattle.console_core.proofs.Common.{sym, ◌∙◌, ◌==◌, eqb-true, eq-eqb, true≢false, false_from_ne_true, All-tail}
use Rattle.console_core.proofs.Common.{Modifier, Holding, Cell, Char, Act, Event, Press, Release, Reset, Load}
use Rattle.console_core.proofs.Common.{holding_action, MapValue, IsCellOf, ResolvedEvent, remembered, is_this_action}
use Rattle.console_core.proofs.Common.{look, resolve_press, Maps, in_force, pressed, resolved, is_on_after}
use Rattle.console_core.proofs.Common.{is_locked_after, HasKey, HasKeys, remembered_after, raises_at, lowers_at, NoneOf}
use Rattle.console_core.proofs.Common.{SomeSince, taken_of, IsSafe, same_action-refl, rules}
use Rattle.console_core.specs.Facts.{LooksAreCells, DeadUpperHalfIsNotLookedAt, lets_go, HoldingIsRemembered}
use Rattle.console_core.specs.Facts.{IsRaisedByPressed, OnByPressedKey}
use Rattle.console_core.proofs.OneMore.{resolved-more, remembered-character, remembered-action, remembered-release}
use Rattle.console_core.proofs.Borne.{AllLooked, taken-holding, held-upper, locked-upper, look-cell, resolved-looked}
use Rattle.console_core.proofs.Bearing.{remembered-cell, remembered-pressed, first_kept}
use Rattle.console_core.proofs.Readings.{held-positions}
use Rattle.keymap_core.specs.declared.action.Action.TheVariants as act
use Rattle.keymap_core.specs.declared.action.Lock.TheVariants as lock
use Rattle.keymap_core.specs.declared.action.Modifier.TheVariants as modifier
use Rattle.keymap_core.specs.declared.action.Holding.TheVariants as holding

-- what a key looks up is one of its cells
pub looks_are_cells : LooksAreCells
looks_are_cells ms h keys k = look-cell (in_force ms h) (resolved ms h) k (resolved-looked ms h keys)

-- a dead upper half is never looked at
pub dead_upper_half : DeadUpperHalfIsNotLookedAt
dead_upper_half ms h keys dead =
    let all : AllLooked (in_force ms h) (resolved ms h) = resolved-looked ms h keys in
    let shift : is_on_after ms modifier.AltShift h ≡ false =
    false_from_ne_true _
    (λ e. dead (held-upper (in_force ms h) (holding.Mod modifier.AltShift) (λ j lt low. (j, lt, inl low))
    (resolved ms h) all e)) in
    let alt : is_locked_after ms lock.Alt h ≡ false =
    false_from_ne_true _ (λ e. dead (locked-upper (in_force ms h) (resolved ms h) all e)) in (
      rw (shift, alt) refl,
      (λ k. elim (look-cell (in_force ms h) (resolved ms h) k all) [ inl s ↦ s | inr s ↦ absurd (dead s.0) ]),
    )

-- a press keeps a remembered holding action, unless it looks up a character for that key
kept-press : (m : MapValue) (k j : ℕ) (a : Holding) (r : List ResolvedEvent) (x : Cell)
    → ((c : ℕ) → x ≡ Char c → j == k ≡ true → ⊥) → remembered k r ≡ Some (holding_action a)
    → remembered k (resolve_press j x ∷ r) ≡ Some (holding_action a)
kept-press m k j a r (Char c) apart e =
    rw (remembered-character k j c r, false_from_ne_true (j == k) (λ s. apart c refl s)) e
kept-press m k j a r (Act b) apart e = remembered-action k j b r ∙ first_kept (remembered k r) _ (holding_action a) e

-- in a safe map a holding action is remembered until a release of its key, a reset or a load
pub holding_is_remembered : HoldingIsRemembered
holding_is_remembered ms h (Press j) safe keys k a e kept =
    let all : AllLooked (in_force ms h) (resolved ms h) = resolved-looked ms h (All-tail HasKey (Press j) h keys) in
    let bears : (k < 128) × IsCellOf (in_force ms h) k (Act (holding_action a)) =
    remembered-cell (in_force ms h) (resolved ms h) k (holding_action a) all e in
    ap (λ r. remembered k r) (resolved-more ms h (Press j))
    ∙ kept-press (in_force ms h) k j a (resolved ms h) (look (in_force ms h) (resolved ms h) j)
    (λ c is s. safe k bears.0 a bears.1 c
    (rw (← (eqb-true j k s), ← is) (look-cell (in_force ms h) (resolved ms h) j all))) e
holding_is_remembered ms h (Release j) safe keys k a e kept =
    search (rules, resolved-more, remembered-release)
holding_is_remembered ms h Reset safe keys k a e kept = absurd (true≢false kept)
holding_is_remembered ms h Load safe keys k a e kept = absurd (true≢false kept)

-- a press that raises a holding action remembers it
raised-press : (k : ℕ) (a : Holding) (r : List ResolvedEvent) (x : Cell)
    → is_this_action (taken_of (remembered k r) x) (holding_action a) ≡ true
    → remembered k (resolve_press k x ∷ r) ≡ Some (holding_action a)
raised-press k a r (Char c) e = absurd (true≢false (sym e))
raised-press k a r (Act b) e = rw (remembered-action k k b r, eq-eqb k k refl) (taken-holding (remembered k r) b a e).1

-- a holding action stays remembered as long as nothing lowers it, and the key isn't let go
abbrev Kept : Maps → ℕ → Holding → List Event → List Event → Type 0
Kept ms k a later before =
    (remembered_after ms k (later ++ Press k ∷ before) ≡ Some (holding_action a))
    × NoneOf (lets_go k) later (Press k ∷ before)

-- a key that remembers another action isn't the one that remembers this
not_let_go : (ms : Maps) (k j : ℕ) (a : Holding) (t : List Event) → remembered_after ms k t ≡ Some (holding_action a)
    → is_this_action (remembered_after ms j t) (holding_action a) ≡ false → j == k ≡ false
not_let_go ms k j a t e low = search (rules, false_from_ne_true, true≢false, eqb-true, same_action-refl)

-- a holding action is remembered from the press that raises it, while nothing lowers it
kept : (ms : Maps) (k : ℕ) (a : Holding) (later before : List Event) → IsSafe (in_force ms (later ++ Press k ∷ before))
    → HasKeys (later ++ Press k ∷ before) → raises_at ms a (Press k) before ≡ true
    → NoneOf (lowers_at ms a) later (Press k ∷ before) → Kept ms k a later before
kept ms k a [] before safe keys raised none = search (rules, resolved-more, raised-press)
kept ms k a (Press j ∷ later) before safe keys raised none =
    let s : Kept ms k a later before =
    kept ms k a later before safe (All-tail HasKey (Press j) (later ++ Press k ∷ before) keys) raised none.1 in
    (holding_is_remembered ms (later ++ Press k ∷ before) (Press j) safe keys k a s.0 refl, (refl, s.1))
kept ms k a (Release j ∷ later) before safe keys raised none =
    let s : Kept ms k a later before =
    kept ms k a later before safe (All-tail HasKey (Release j) (later ++ Press k ∷ before) keys) raised none.1 in
    let other : j == k ≡ false = not_let_go ms k j a (later ++ Press k ∷ before) s.0 none.0 in
    (holding_is_remembered ms (later ++ Press k ∷ before) (Release j) safe keys k a s.0 other, (other, s.1))
kept ms k a (Reset ∷ later) before safe keys raised none = absurd (true≢false none.0)
kept ms k a (Load ∷ later) before safe keys raised none = absurd (true≢false none.0)

-- a modifier that some press raised and nothing lowered is on by a pressed key
raised_by : (ms : Maps) (h : List Event) (i : Modifier) (later : List Event) (x : Event) (before : List Event)
    → IsSafe (in_force ms h) → HasKeys h → h ≡ later ++ x ∷ before → raises_at ms (holding.Mod i) x before ≡ true
    → NoneOf (lowers_at ms (holding.Mod i)) later (x ∷ before) → IsRaisedByPressed ms i h
raised_by ms h i later (Press k) before safe keys is raised none =
    let s : Kept ms k (holding.Mod i) later before =
    kept ms k (holding.Mod i) later before (subst (λ t. IsSafe (in_force ms t)) is safe) (subst HasKeys is keys) raised
    none in (
      k,
      later,
      before,
      ap (λ t. pressed k t) is ∙ remembered-pressed ms (later ++ Press k ∷ before) k (act.Mod i) s.0,
      is,
      raised,
      s.1,
    )
raised_by ms h i later (Release k) before safe keys is raised none = absurd (true≢false (sym raised))
raised_by ms h i later Reset before safe keys is raised none = absurd (true≢false (sym raised))
raised_by ms h i later Load before safe keys is raised none = absurd (true≢false (sym raised))

-- in a safe map a modifier that is on was raised by a press of a key that is still pressed
pub on_by_pressed_key : OnByPressedKey
on_by_pressed_key ms h safe keys i on =
    let s : SomeSince (raises_at ms (holding.Mod i)) (lowers_at ms (holding.Mod i)) h =
    (held-positions ms (holding.Mod i) h).0 on in
    raised_by ms h i s.0 s.1 s.2 safe keys s.3 s.4 s.5
