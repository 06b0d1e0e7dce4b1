-- The notions by resolved events are those on the events.
use Rattle.console_core.proofs.Common.{◌≡◌, ℕ, Bool, false, true, ◌&&◌, not, List, [], ◌∷◌, ◌++◌, refl, ap, sym, ◌∙◌}
use Rattle.console_core.proofs.Common.{inl, inr, or_cases, and_parts, not-true, true≢false, or_right, Holding, Lock}
use Rattle.console_core.proofs.Common.{Cell, Char, Act, Event, Press, Release, Reset, Load, count_since, is_odd}
use Rattle.console_core.proofs.Common.{unlocks, look, resolve_press, held, locked, turns, Maps, in_force}
use Rattle.console_core.proofs.Common.{resolved_event, resolved, unlocks_at, raises_at, lowers_at, turns_at, NoneOf}
use Rattle.console_core.proofs.Common.{SomeSince}
use Rattle.console_core.specs.Positions.{holds_since}
use Rattle.console_core.specs.Resolved.{raises, lowers}
use Rattle.console_core.proofs.OneMore.{press-unlocks}
use Rattle.console_core.specs.Reading.{is_held_after, HeldByPositions, LockedByCount}
use Rattle.keymap_core.specs.declared.action.Holding.TheVariants as holding

-- the step of the next lemma at a press, by the cell looked up
raises_press : (ms : Maps) (a : Holding) (k : ℕ) (h : List Event) (x : Cell)
    → look (in_force ms h) (resolved ms h) k ≡ x
    → raises a (resolve_press k (look (in_force ms h) (resolved ms h) k)) (resolved ms h) ≡ raises_at ms a (Press k) h
raises_press ms a k h (Char c) e = rw e refl
raises_press ms a k h (Act b) e = rw e refl

-- what an event is resolved to raises what the event raises
raises-event : (ms : Maps) (a : Holding) (e : Event) (h : List Event)
    → raises a (resolved_event ms h e) (resolved ms h) ≡ raises_at ms a e h
raises-event ms a (Press k) h = raises_press ms a k h (look (in_force ms h) (resolved ms h) k) refl
raises-event ms a (Release k) h = refl
raises-event ms a Reset h = refl
raises-event ms a Load h = refl

-- no press lowers anything, by the cell looked up
lowers_press : (ms : Maps) (a : Holding) (k : ℕ) (h : List Event) (x : Cell)
    → look (in_force ms h) (resolved ms h) k ≡ x
    → lowers a (resolve_press k (look (in_force ms h) (resolved ms h) k)) (resolved ms h) ≡ false
lowers_press ms a k h (Char c) e = rw e refl
lowers_press ms a k h (Act b) e = rw e refl

-- what an event is resolved to lowers what the event lowers
lowers-event : (ms : Maps) (a : Holding) (e : Event) (h : List Event)
    → lowers a (resolved_event ms h e) (resolved ms h) ≡ lowers_at ms a e h
lowers-event ms a (Press k) h = lowers_press ms a k h (look (in_force ms h) (resolved ms h) k) refl
lowers-event ms a (Release k) h = refl
lowers-event ms a Reset h = refl
lowers-event ms a Load h = refl

-- what is held, by the events that raise and lower it
pub held-events : (ms : Maps) (a : Holding) (h : List Event)
    → is_held_after ms a h ≡ holds_since (raises_at ms a) (lowers_at ms a) h
unfolding held resolved
held-events ms a [] = refl
held-events ms a (e ∷ h) = rw (raises-event ms a e h, lowers-event ms a e h, held-events ms a h) refl

-- what an event is resolved to turns what the event turns
pub turns-event : (ms : Maps) (l : Lock) (e : Event) (h : List Event)
    → turns l (resolved_event ms h e) (resolved ms h) ≡ turns_at ms l e h
turns-event ms l e h = ap (λ t. t && not (is_held_after ms (holding.Lock l) h)) (raises-event ms (holding.Lock l) e h)

-- what an event is resolved to unlocks what the event unlocks
unlocks-event : (ms : Maps) (l : Lock) (e : Event) (h : List Event)
    → unlocks l (resolved_event ms h e) (resolved ms h) ≡ unlocks_at ms l e h
unlocks-event ms l (Press k) h = press-unlocks l k (look (in_force ms h) (resolved ms h) k) (resolved ms h)
unlocks-event ms l (Release k) h = refl
unlocks-event ms l Reset h = refl
unlocks-event ms l Load h = refl

-- the turns since the last unlock, counted on the events
turns-count : (ms : Maps) (l : Lock) (h : List Event)
    → count_since (unlocks l) (turns l) (resolved ms h) ≡ count_since (unlocks_at ms l) (turns_at ms l) h
unfolding resolved
turns-count ms l [] = refl
turns-count ms l (e ∷ h) = rw (unlocks-event ms l e h, turns-event ms l e h, turns-count ms l h) refl

-- a lock is on after an odd number of turns since the last unlock
pub locked-count : LockedByCount
unfolding locked
locked-count ms l h = ap is_odd (turns-count ms l h)

-- holds_since by positions
module _ {A : Type 0} (starts ends : A → List A → Bool) where
  -- what holds since some event: such an event, and no end behind it
  some-since : (h : List A) → holds_since starts ends h ≡ true → SomeSince starts ends h
  some-since [] e = absurd (true≢false (sym e))
  some-since (x ∷ h) e =
      elim (or_cases (starts x h) _ e) [
        | inl s ↦ ([], x, h, refl, s, tt)
        | inr s ↦
            let p : (holds_since starts ends h ≡ true) × (not (ends x h) ≡ true) = and_parts _ _ s in
            let q : SomeSince starts ends h = some-since h p.0 in
            (x ∷ q.0, q.1, q.2, ap (λ t. x ∷ t) q.3, q.4, (ap (λ t. ends x t) (sym q.3) ∙ not-true (ends x h) p.1, q.5))
      ]

  -- an event that starts, and no end behind it: what it starts holds
  since-some : (later : List A) (x : A) (before : List A) → starts x before ≡ true → NoneOf ends later (x ∷ before)
      → holds_since starts ends (later ++ x ∷ before) ≡ true
  since-some [] x before s none = rw s refl
  since-some (y ∷ later) x before s none =
      rw (since-some later x before s none.1, none.0) (or_right (starts y (later ++ x ∷ before)) true refl)

-- a holding action is held exactly if some event raises it and no later event lowers it
pub held-positions : HeldByPositions
held-positions ms a h = (
  (λ e. some-since (raises_at ms a) (lowers_at ms a) h (sym (held-events ms a h) ∙ e)),
  (λ p. cc (held-events ms a h, p.3, since-some (raises_at ms a) (lowers_at ms a) p.0 p.1 p.2 p.4 p.5)),
)
