use Rattle.console_scripts.proofs.Common.{ℕ, Option, Some, None, MatchOption, Explored, HasTap, IsTapAt, KeyAt, Symbol}
use Rattle.console_scripts.proofs.Common.{rules, slice_get_within}
use Rattle.console_scripts.specs.Inner.Exploring.{CanTapIn}
use Rattle.console_states.specs.Looks.{IsLook}
use Rattle.console_states.proofs.Shared.{look_tells}
use Rattle.console_scripts.proofs.explored.Explored.first_place.Goals as goal

told : (e : Explored) (x : Symbol) (o : Option KeyAt)
    → IsLook (λ h. (k : ℕ) → CanTapIn e x h k → ⊥) (CanTapIn e x) e.met.entries o
    → MatchOption o (HasTap e x → ⊥) (λ at. IsTapAt e x at.place at.key)
told e x None look =
    λ (j, k, (y, at, has, tapped)). look.is j y at (slice_get_within e.met.entries j y at) k (has, tapped)
told e x (Some at) look = let (y, here, (has, tapped)) = look.is.0 in (y, here, has, tapped)

pub returns : goal.returns
returns c = search (rules, told, look_tells)
