-- Paths that mind an accent beside paths that mind none: these are of those, and those are these but for the tap.
use Rattle.std.proofs.Common.{rules}
use Rattle.keymap_diff.proofs.Common.{◌≡◌, ℕ, ◌<◌, ◌≤◌, true, inl, inr, List, ◌++◌, Option, Some, None, refl, ap}
use Rattle.keymap_diff.proofs.Common.{subst, sym, ◌∙◌, arith, cases_Bool, true≢false, MapValue, usable, alone}
use Rattle.keymap_diff.proofs.Common.{alone_minding, State, start, IsPath, state_after, presses_along, Move, HoldsNearer}
use Rattle.keymap_diff.proofs.Common.{AreClear, NoneShows, ShowsNothing}
use Rattle.console_states.specs.Minding.{without_accent}
use Rattle.console_states.proofs.Shared.{minded-path, minded_are_offers, path-none}

-- a path that minds none is one that minds the accent
pub minded-too : (m : MapValue) (p : Option ℕ) (path : List Move) → IsPath (alone m) path
    → IsPath (alone_minding m p) path × (state_after (alone_minding m p) path ≡ state_after (alone m) path)
minded-too m None path is = (is, refl)
minded-too m (Some i) path is = minded-path (alone m) i start path refl is

-- A path that minds the accent leads where one does that minds none, without the tap where it is pending.
pub without-tap : (m : MapValue) (p : Option ℕ) (path : List Move) → IsPath (alone_minding m p) path
    → (plain : List Move) × IsPath (alone m) plain
    × (state_after (alone m) plain ≡ without_accent (state_after (alone_minding m p) path))
    × (presses_along plain ≤ presses_along path)
    × ((state_after (alone_minding m p) path).is_pending ≡ true → presses_along plain < presses_along path)
without-tap m None path is = search (rules, path-none)
without-tap m (Some i) path is =
    let t : State = state_after (alone_minding m (Some i)) path in
    let (free, pends) =
    minded_are_offers (alone m) start i (presses_along path) t (refl, refl, refl) (path, is, refl, refl) in
    elim (cases_Bool t.is_pending) [
      | inl on ↦
          let (b, more, (later, before, made, offered, leads, count)) = pends on in
          (later ++ before, made, leads, omega (arith, more, count), λ e. omega (arith, more, count))
      | inr off ↦
          let (plain, made, leads, count) = free off in (
            plain,
            made,
            leads ∙ ap (λ b. record t { is_pending = b }) off,
            omega (arith, count),
            λ on. absurd (true≢false (sym on ∙ off)),
          )
    ]

-- an accent that is pending is usable, and its dead key was tapped
pub pending-usable : (m : MapValue) (i : ℕ) (path : List Move) → IsPath (alone_minding m (Some i)) path
    → (state_after (alone_minding m (Some i)) path).is_pending ≡ true
    → (usable m i ≡ true) × (1 ≤ presses_along path)
pending-usable m i path is on =
    let (b, more, (later, before, made, offered, leads, count)) =
    (minded_are_offers (alone m) start i (presses_along path) _ (refl, refl, refl) (path, is, refl, refl)).1 on in
    (offered.0, omega (arith, more))

-- what holds where fewer presses lead by paths that mind an accent holds where they lead by paths that mind none
pub nearer-too : (m : MapValue) (p : Option ℕ) (P : State → Type 0) (b : ℕ)
    → HoldsNearer (alone_minding m p) start P b → HoldsNearer (alone m) start P b
nearer-too m p P b holds path is lt =
    let (too, same) = minded-too m p path is in subst P same (holds path too lt)

-- where nothing shows while none is minded, nothing shows then where an accent is
pub clear-too : (m n : MapValue) (p : Option ℕ) (b : ℕ) → AreClear m n None b
    → HoldsNearer (alone_minding m p) start (NoneShows m n None) b
clear-too m n p b clear path is lt k key =
    let (plain, made, leads, few, fewer) = without-tap m p path is in
    subst (λ s. ShowsNothing m n None s k) leads (clear plain made (omega (arith, few, lt)) k key)

-- where it is pending that may be by as many
pub clear-pending : (m n : MapValue) (p : Option ℕ) (b : ℕ) → AreClear m n None b → (path : List Move)
    → IsPath (alone_minding m p) path → (state_after (alone_minding m p) path).is_pending ≡ true
    → presses_along path ≤ b → NoneShows m n None (state_after (alone_minding m p) path)
clear-pending m n p b clear path is on le k key =
    let (plain, made, leads, few, fewer) = without-tap m p path is in
    let lt = fewer on in
    subst (λ s. ShowsNothing m n None s k) leads (clear plain made (omega (arith, lt, le)) k key)

-- no accent is pending where it can't be used, and none behind no press
pub unusable-clear : (m n : MapValue) (i b : ℕ) → (usable m i ≡ true → ⊥) → AreClear m n (Some i) b
unusable-clear m n i b none path is lt k key on = absurd (none (pending-usable m i path is on).0)

pub unpressed-clear : (m n : MapValue) (i b : ℕ) → b ≤ 1 → AreClear m n (Some i) b
unpressed-clear m n i b le path is lt k key on =
    let up = (pending-usable m i path is on).1 in absurd (omega (arith, up, lt, le))
