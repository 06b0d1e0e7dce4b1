-- What the searches met, what they found, and what is told of it. Mirrors src/searched.rt and src/nearest.rt.
use Rattle.std.specs.Prelude.{◌≡◌, ◌⊎◌, ℕ, ◌<◌, ◌≤◌, List, [], ◌∷◌, Option, Some, None, slice_get, reverse}
use Rattle.std.specs.Prelude.{IfSome}
use Rattle.keymap_core.specs.Maps.{MapValue}
use Rattle.console_core.specs.declared.event.Event.{Event}
use Rattle.console_core.specs.declared.event.Event.TheVariants.{Press, Release}
use Rattle.console_core.specs.History.{between, answer_to}
use Rattle.console_states.specs.Moves.{alone, start, IsForgetful}
use Rattle.console_states.specs.Searching.{Entry, Entries, HasEnded}
use Rattle.console_states.specs.Looks.{HoldsNearer}
use Rattle.console_states.specs.declared.look.KeyAt.{KeyAt}
use Rattle.console_states.specs.declared.search.End.{End}
use Rattle.console_states.specs.declared.search.End.TheVariants.{Complete, TooMany}
use Rattle.keymap_diff.specs.declared.searched.Searched.{Searched}
use Rattle.keymap_diff.specs.declared.telling.Telling.{Telling}
use Rattle.keymap_diff.specs.declared.telling.Telling.TheVariants.{Told}
use Rattle.keymap_diff.specs.Telling.{TellsApart}
use Rattle.keymap_diff.specs.Inner.Showing.{AreClear, IsFirstShown, alone_minding}

-- the bound is within the limit
abbrev pub IsWithin : ℕ → Option ℕ → Type 0
IsWithin b None = Unit {0}
IsWithin b (Some limit) = b ≤ limit

-- the place was met by so many presses
abbrev pub IsMetAt : Entries → ℕ → ℕ → Type 0
IsMetAt es place presses = (x : Entry) × (slice_get es place ≡ Some x) × (presses ≡ x.1.presses)

-- by how many presses something shows, or else the search gave up
abbrev pub IsReach : Entries → End → Option KeyAt → Option ℕ → Type 0
IsReach es end (Some at) reach = (q : ℕ) × (reach ≡ Some q) × IsMetAt es at.place q
IsReach es Complete None reach = reach ≡ None
IsReach es (TooMany p) None reach = reach ≡ Some p

-- A search from the start that minds the accent that it tells, or none.
pub record IsSearched (m n : MapValue) (x : Searched) : Type 0 where
  pub end : End
  pub ended : HasEnded (alone_minding m x.minded) (start ∷ []) x.met.entries end
  pub reach : IsReach x.met.entries end x.shown x.reach
  pub shown : IsFirstShown m n x.minded x.met.entries x.shown

-- within the reach of the search nothing shows, where no accent is minded, or one of those below the number
abbrev pub IsNearestBelow : MapValue → MapValue → ℕ → Searched → Type 0
IsNearestBelow m n accents x =
    IsSearched m n x
    × ((p : Option ℕ) → IfSome p (λ i. i < accents) → (b : ℕ) → IsWithin b x.reach → AreClear m n p b)

-- nor where any is
abbrev pub IsNearest : MapValue → MapValue → Searched → Type 0
IsNearest m n x = IsSearched m n x × ((p : Option ℕ) (b : ℕ) → IsWithin b x.reach → AreClear m n p b)

-- Behind the events a press of the key, or its release too where that is answered alike, and the answers to the last.
abbrev pub IsScript : MapValue → MapValue → List Event → ℕ → Telling → Type 0
IsScript m n h k (Told events old new) =
    ((reverse events.items ≡ Press k ∷ h) × (answer_to (between m m) h (Press k) ≡ old)
    × (answer_to (between n n) h (Press k) ≡ new) × TellsApart m n (Press k ∷ h))
    ⊎ ((reverse events.items ≡ Release k ∷ Press k ∷ h)
    × (answer_to (between m m) (Press k ∷ h) (Release k) ≡ old)
    × (answer_to (between n n) (Press k ∷ h) (Release k) ≡ new)
    × (answer_to (between m m) h (Press k) ≡ answer_to (between n n) h (Press k)))
IsScript m n h k _ = ⊥

-- where fewer than b presses lead no key can forget that it holds a modifier
abbrev pub NeverForgetsBelow : MapValue → ℕ → Type 0
NeverForgetsBelow m b = HoldsNearer (alone m) start (λ s. IsForgetful (alone m) s → ⊥) b
