-- The states in which a console stands, by the presses that lead there, also where an accent is pending.
use Rattle.std.proofs.Common.{rules}
use Rattle.console_states.proofs.Shared.{AreSpared, IsKeptBelow, KeepsHeld, PendsIn, admitted-before, keeps-held}
use Rattle.console_states.proofs.Shared.{minded_are_offers, pends-in, stays}
use Rattle.console_states.specs.Allowed.{all_allowed}
use Rattle.keymap_diff.proofs.Common.{suc, ◌≡◌, ℕ, ◌<◌, ◌≤◌, Bool, true, false, List, [], ◌∷◌, Some, refl, ap}
use Rattle.keymap_diff.proofs.Common.{subst, sym, arith, true≢false, Event, Press, Release, Reset, Load, Move}
use Rattle.keymap_diff.proofs.Common.{MapValue, ResolvedEvent, pending, between, resolved, is_second_in_force, alone}
use Rattle.keymap_diff.proofs.Common.{alone_minding, Under, State, start, IsMove, moved, IsPath, state_after}
use Rattle.keymap_diff.proofs.Common.{presses_along, presses, IsAdmitted, Follows, NeverForgetsBelow}

pub presses-before : (e : Event) (h : List Event) → presses h ≤ presses (e ∷ h)
presses-before (Press k) h = omega arith
presses-before (Release k) h = omega arith
presses-before Reset h = omega arith
presses-before Load h = omega arith

-- a path of at most p presses leads to the state
abbrev pub ReachedBy : Under → ℕ → State → Type 0
ReachedBy u p s = (path : List Move) × IsPath u path × (presses_along path ≤ p) × (state_after u path ≡ s)

reached-kept : (u : Under) (n : ℕ) → IsKeptBelow u n (ReachedBy u)
reached-kept u n = record {
  led = record {
    more = λ p s (path, is, le, leads). (path, is, omega (arith, le), leads);
    moved = λ p q s move e lt (path, is, le, leads) can. (
      move ∷ path,
      (subst (λ t. IsMove u t move) (sym leads) can, is),
      omega (arith, le, e),
      ap (λ t. moved u t move) leads,
    );
  };
  start = ([], tt, omega arith, refl);
}

-- lists that are spoken of, of at most b presses
abbrev pub IsWithinReach : MapValue → Bool → ℕ → List Event → Type 0
IsWithinReach m forgets b h = IsAdmitted m forgets h × (presses h ≤ b)

pub reach-before : (m : MapValue) (forgets : Bool) (b : ℕ) (e : Event) (h : List Event)
    → IsWithinReach m forgets b (e ∷ h) → IsWithinReach m forgets b h
reach-before m forgets b e h (given, le) =
    let up = presses-before e h in (admitted-before m forgets e h given, omega (arith, le, up))

-- such lists are spared in sets of states to which as many presses lead
reached-spared : (m : MapValue) (forgets : Bool) (b n : ℕ) (S : ℕ → State → Type 0)
    → ((p : ℕ) (s : State) → S p s → ReachedBy (alone m) p s) → (forgets ≡ false → NeverForgetsBelow m b)
    → AreSpared (alone m) n S (IsWithinReach m forgets b)
reached-spared m forgets b n S reached never = record {
  fewer = reach-before m forgets b;
  keeps = keeps forgets never;
}
  where
    keeps : (forgets : Bool) → (forgets ≡ false → NeverForgetsBelow m b) → (h : List Event) (k : ℕ)
        → IsWithinReach m forgets b (Press k ∷ h) → presses h < n → (s : State) → S (presses h) s
        → Follows (resolved (between m m) h) s → s.is_second ≡ is_second_in_force h → KeepsHeld (alone m) s k
    keeps false never h k (given, few) lt s there f second i forgetful = search rules
    keeps true never h k (given, few) lt s there f second i forgetful =
        let (path, is, le, leads) = reached (presses h) s there in
        keeps-held m true k h (λ e. absurd (true≢false e)) given s (path, is, leads) f second i forgetful

-- after a list that is spoken of the console stands in such a state
abbrev pub StandsBy : MapValue → ℕ → List ResolvedEvent → Type 0
StandsBy m p r = (s : State) × ReachedBy (alone m) p s × Follows r s

pub stands-by : (m : MapValue) (forgets : Bool) (b : ℕ) (h : List Event) → (forgets ≡ false → NeverForgetsBelow m b)
    → IsWithinReach m forgets b h → StandsBy m (presses h) (resolved (between m m) h)
stands-by m forgets b h never given =
    let n : ℕ = suc (presses h) in
    let (s, there, f, is) =
    stays (alone m) n (ReachedBy (alone m)) (IsWithinReach m forgets b) (reached-kept (alone m) n)
    (reached-spared m forgets b n (ReachedBy (alone m)) (λ p s there. there) never) h
    (given, given.0.0, ((λ e. given.0.1), (λ l p j at. refl)), omega arith) in
    (s, there (omega arith), f)

-- where an accent is pending the console stands in a state to which a path leads that minds it
pub pends-by : (m : MapValue) (forgets : Bool) (b : ℕ) (h : List Event) (i : ℕ)
    → (forgets ≡ false → NeverForgetsBelow m b) → IsWithinReach m forgets b h
    → pending m (resolved (between m m) h) ≡ Some i
    → PendsIn (ReachedBy (alone_minding m (Some i)) (presses h)) (resolved (between m m) h)
pends-by m forgets b h i never given e =
    let u : Under = alone_minding m (Some i) in
    let n : ℕ = suc (presses h) in
    pends-in all_allowed m i n (ReachedBy u) (IsWithinReach m forgets b) (reached-kept u n)
    (reached-spared m forgets b n (λ p s. ReachedBy u p s × (s.is_pending ≡ false)) plain never) h
    (given, given.0.0, ((λ e. given.0.1), (λ l p j at. refl)), omega arith) e
  where
    plain : (p : ℕ) (s : State) → ReachedBy (alone_minding m (Some i)) p s × (s.is_pending ≡ false)
        → ReachedBy (alone m) p s
    plain p s ((path, is, le, leads), off) =
        let (free, pends) =
        minded_are_offers (alone m) start i (presses_along path) s (refl, refl, refl) (path, is, leads, refl) in
        let (same, made, to, count) = free off in (same, made, omega (arith, le, count), to)
