-- The press at the end of a visit, and the reset at its beginning.
use Rattle.console_scripts.proofs.Common.{◌≡◌, ◌≢◌, ◌<◌, ℕ, false, List, [], ◌∷◌, ◌++◌, None, refl, ap}
use Rattle.console_scripts.proofs.Common.{subst, sym, ◌∙◌, inl, inr, MapValue, Lock, Caps, Num, Scroll, Alt, Event}
use Rattle.console_scripts.proofs.Common.{Press, Reset, Sight, between, is_locked_after, HasKeys, key_count}
use Rattle.console_scripts.proofs.Common.{HasNoLoads, alone, State, IsFree, IsIdle, look_in}
use Rattle.console_scripts.proofs.Common.{IsPendingFor, SeesBy, selection_of, resting_after}
use Rattle.console_scripts.proofs.Common.{IsAfter, IsAt, but_scroll, rules}
use Rattle.console_scripts.proofs.Common.{press-turns, same_states, stands-reset, pending-reset, resolved-more}
use Rattle.console_scripts.specs.Inner.Exploring.{IsOrigin}
use Rattle.console_scripts.specs.Visiting.{EndsSeeing}
use Rattle.console_states.proofs.Shared.{each-lock, going-sees, pending-is, press-turns_none}
use Rattle.console_scripts.proofs.Leading.{pends}

-- ---- the press at the end

-- behind a press a console rests in the state after it
pub press-rests : (m : MapValue) (s : State) (h l : List Event) (k : ℕ) (after : State) → k < key_count → IsAt m s h l
    → IsAfter (alone m) s k after → IsFree after × IsOrigin after × (after.is_locked Scroll ≡ false)
    → resting_after m (Press k ∷ (l ++ h)) ≡ after
press-rests m s h l k after lt a is (free, first, off) =
    same_states _ _ (λ i. sym (free i)) each (sym first.0) (sym first.1)
  where
    lock : IsAfter (alone m) s k after → (n : Lock) → n ≢ Scroll
        → is_locked_after (between m m) n (Press k ∷ (l ++ h)) ≡ after.is_locked n
    lock (inl (j, ((below, idle, (seen, may)), turns), turned)) n other =
        search (rules, press-turns)
    lock (inr (none, same)) n other =
        press-turns_none m (l ++ h) a.at k a.stands n
        (λ idle seen.
        none n (
          (
            lt,
            subst (λ x. IsIdle x k) a.near idle,
            (sym (ap (λ x. look_in (alone m) x k) a.near) ∙ seen, refl),
          ),
          other,
        ))
        ∙ a.stands.exact.follows.locked n other ∙ ap (λ x. x.is_locked n) a.near ∙ ap (λ x. x.is_locked n) (sym same)

    each : (n : Lock)
        → but_scroll (λ j. is_locked_after (between m m) j (Press k ∷ (l ++ h))) n ≡ after.is_locked n
    each Caps = lock is Caps (λ e. cc)
    each Num = lock is Num (λ e. cc)
    each Scroll = sym off
    each Alt = lock is Alt (λ e. cc)

-- the press at the end sees the sight
pub press-sees : (m : MapValue) (s : State) (h l : List Event) (k : ℕ) (x : Sight) → IsAt m s h l
    → SeesBy m (selection_of s) k x → IsPendingFor m (l ++ h) x → EndsSeeing m h (Press k ∷ l) x
press-sees m s h l k x a sees waits = search (rules, going-sees)

-- behind a reset a console is where it rests
pub at-reset : (m : MapValue) (h : List Event) → HasKeys h → HasNoLoads h → IsAt m (resting_after m h) h (Reset ∷ [])
at-reset m h keys none = record {
  at = resting_after m h;
  stands = stands-reset m h (resting_after m h) (λ i. refl) refl
      (each-lock (λ l. l ≢ Scroll → is_locked_after (between m m) l h ≡ (resting_after m h).is_locked l) (λ e. refl)
      (λ e. refl) (λ e. absurd (e refl)) (λ e. refl)) keys none;
  near = refl;
  taken = (refl, tt, tt);
}

-- nothing is pending behind it
pub reset-pends : (m : MapValue) (h : List Event) → pends m (Reset ∷ h) ≡ None
reset-pends m h = search (rules, pending-is, resolved-more, pending-reset)
