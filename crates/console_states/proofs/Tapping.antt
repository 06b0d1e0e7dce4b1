-- A tap of a key that looks up a character, or an action that nothing holds, leaves the console in its state.
use Rattle.std.proofs.Common.{rules}
use Rattle.console_states.proofs.Common.{◌≡◌, ◌<◌, ◌∙◌, ℕ, List, ◌∷◌, None, refl, ap}
use Rattle.console_states.proofs.Common.{eq-eqb, key_count}
use Rattle.console_states.proofs.Common.{Act, Event, Press, Release, ResolvedEvent, remembered}
use Rattle.console_states.proofs.Common.{is_this_action, PressedCharacter, PressedAction}
use Rattle.console_states.proofs.Common.{ReleasedKey, resolved, Under, State, IsIdle, look_in, Exact, Stands}
use Rattle.console_states.proofs.Common.{held-character, held-release}
use Rattle.console_states.proofs.Common.{remembered-character}
use Rattle.console_states.proofs.Common.{◌≢◌, Lock, Scroll, with_lock_turned}
use Rattle.console_states.proofs.SameStates.{each-lock}
use Rattle.console_states.proofs.Standing.{exact-turn, tap-only}
use Rattle.console_states.proofs.Standing.{stands-tapped}
use Rattle.console_states.proofs.Following.{follows-character, follows-release}
use Rattle.keymap_core.specs.declared.action.Action.TheVariants as act
use Rattle.keymap_core.specs.declared.action.Holding.TheVariants as holding

-- A tap of a key that looks up a character, or an action that nothing holds, keeps the state.
pub exact-character : (r : List ResolvedEvent) (s : State) (k c : ℕ) → Exact r s → IsIdle s k
    → Exact (ReleasedKey k ∷ (PressedCharacter k c ∷ r)) s
exact-character r s k c x idle =
    let now : List ResolvedEvent = PressedCharacter k c ∷ r in
    let none : remembered k now ≡ None = rw (remembered-character k k c r, eq-eqb k k refl) refl in
    record {
      follows = follows-release now s k (follows-character r s k c x.follows idle)
          (λ i. ap (λ o. is_this_action o (act.Mod i)) none);
      only = tap-only r now s k x (λ n t. rw (remembered-character n k c r, t) refl);
      up = λ l. rw (held-release (holding.Lock l) k now, held-character (holding.Lock l) k c r, x.up l) refl;
    }

-- so does a tap of a key that looks up the scroll lock, of which no state tells
exact-scroll : (r : List ResolvedEvent) (s : State) (k : ℕ) → Exact r s → IsIdle s k
    → Exact (ReleasedKey k ∷ (PressedAction k (act.Lock Scroll) ∷ r)) s
exact-scroll r s k x idle =
    let y = exact-turn r s k Scroll x idle in
    record {
      follows = record {
        on = y.follows.on;
        locked = λ l other. y.follows.locked l other ∙ still l other;
        holds = y.follows.holds;
      };
      only = y.only;
      up = y.up;
    }
  where
    still : (l : Lock) → l ≢ Scroll → (with_lock_turned s Scroll).is_locked l ≡ s.is_locked l
    still l = search (rules, each-lock)

pub scroll-tapped : (u : Under) (h : List Event) (s : State) (k : ℕ) → k < key_count → Stands u h s → IsIdle s k
    → look_in u s k ≡ Act (act.Lock Scroll) → Stands u (Release k ∷ Press k ∷ h) s
scroll-tapped u h s k lt st idle seen =
    stands-tapped u h s k (Act (act.Lock Scroll)) lt st seen (exact-scroll (resolved u.maps h) s k st.exact idle)
