-- Pressed by positions, what an event is resolved to, and the answers by cases.
use Rattle.console_core.proofs.Common.{suc, ◌≡◌, ℕ, Bool, true, false, List, [], ◌∷◌, ◌++◌, length, Some, refl, ap, sym}
use Rattle.console_core.proofs.Common.{◌∙◌, if◌then◌else◌, eqb-true, eq-eqb, true≢false, Cell, Char, Act, Event, Press}
use Rattle.console_core.proofs.Common.{Release, Reset, Load, last_where, ResolvedEvent, resolve_press, answer_resolved}
use Rattle.console_core.proofs.Common.{Maps, in_force, concerns, is_press, pressed, resolved, resolved_event}
use Rattle.console_core.proofs.Common.{NoneOf}
use Rattle.console_core.specs.Reading.{answer_to_look}
use Rattle.console_core.specs.Reading.{LastPresses, PressedByPositions, ResolvedAtPrefix, AnswersByCases, look_after}
use Rattle.console_core.proofs.OneMore.{resolved-more}

-- a further event, by whether it concerns the key
last_press_by : (k : ℕ) (e : Event) (h : List Event) (b : Bool) → concerns k e ≡ b
    → is_press (if b then Some e else last_where (concerns k) h) ≡ true
    → (is_press (last_where (concerns k) h) ≡ true → LastPresses k h) → LastPresses k (e ∷ h)
last_press_by k (Press j) h true c p rec = ([], h, ap (λ x. Press x ∷ h) (eqb-true j k c), tt)
last_press_by k (Release j) h true c p rec = absurd (true≢false (sym p))
last_press_by k Reset h true c p rec = absurd (true≢false (sym p))
last_press_by k Load h true c p rec = absurd (true≢false (sym p))
last_press_by k e h false c p rec =
    let s : LastPresses k h = rec p in (e ∷ s.0, s.1, ap (λ t. e ∷ t) s.2, (c, s.3))

-- where the last event that concerns a key is a press, it stands at some position
last_press : (k : ℕ) (h : List Event) → is_press (last_where (concerns k) h) ≡ true → LastPresses k h
last_press k [] p = absurd (true≢false (sym p))
last_press k (e ∷ h) p = last_press_by k e h (concerns k e) refl p (last_press k h)

-- a press behind which nothing concerns the key is the last event that does
press_last : (k : ℕ) (later before : List Event) → NoneOf (λ e _. concerns k e) later (Press k ∷ before)
    → is_press (last_where (concerns k) (later ++ Press k ∷ before)) ≡ true
press_last k [] before none = rw (eq-eqb k k refl) refl
press_last k (e ∷ later) before none = rw none.0 (press_last k later before none.1)

-- a key is pressed exactly if a press of it has no later event that concerns it
pub pressed_by_positions : PressedByPositions
unfolding pressed
pressed_by_positions k h = (
  last_press k h,
  (λ s. ap (λ t. is_press (last_where (concerns k) t)) s.2 ∙ press_last k s.0 s.1 s.3),
)

-- each event is resolved by those before it
pub resolved_at_prefix : ResolvedAtPrefix
resolved_at_prefix ms [] e before = ([], refl, resolved-more ms before e)
resolved_at_prefix ms (x ∷ later) e before =
    let s : (newer : List ResolvedEvent) × (length newer ≡ length later)
    × (resolved ms (later ++ e ∷ before) ≡ newer ++ resolved_event ms before e ∷ resolved ms before) =
    resolved_at_prefix ms later e before in (
      resolved_event ms (later ++ e ∷ before) x ∷ s.0,
      ap suc s.1,
      resolved-more ms (later ++ e ∷ before) x ∙ ap (λ r. resolved_event ms (later ++ e ∷ before) x ∷ r) s.2,
    )

-- the answer to a press, by the cell looked up
answer_press : (ms : Maps) (k : ℕ) (h : List Event) (x : Cell)
    → answer_resolved (in_force ms h) (resolve_press k x) (resolved ms h) ≡ answer_to_look ms k h x
answer_press ms k h (Char c) = refl
answer_press ms k h (Act a) = refl

-- the answer to a press is that to its look, and to a release that to what is remembered
pub answers_by_cases : AnswersByCases
answers_by_cases ms k h = (answer_press ms k h (look_after ms k h), refl, refl, refl)
