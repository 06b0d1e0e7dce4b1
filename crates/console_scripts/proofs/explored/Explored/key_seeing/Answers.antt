use Rattle.console_scripts.proofs.Common.{◌≡◌, ◌<◌, ℕ, Option, Some, None, MatchOption, subst, sym, key_count, MapValue}
use Rattle.console_scripts.proofs.Common.{Sight, SeesBy, map_of_explored, selection_of, state_of}
use Rattle.console_scripts.specs.Types.{Selection}
use Rattle.console_scripts.proofs.explored.Explored.key_seeing.Goals as goal

told : (m : MapValue) (x : Sight) (y z : Selection) (o : Option ℕ) → y ≡ z
    → MatchOption o ((k : ℕ) → k < key_count → SeesBy m y k x → ⊥) (λ k. (k < key_count) × SeesBy m y k x)
    → MatchOption o ((k : ℕ) → (k < key_count) × SeesBy m z k x → ⊥) (λ k. (k < key_count) × SeesBy m z k x)
told m x y z None is none = λ k (lt, sees). none k lt (subst (λ w. SeesBy m w k x) (sym is) sees)
told m x y z (Some k) is (lt, sees) = (lt, subst (λ w. SeesBy m w k x) is sees)

pub returns : goal.returns
returns c =
    told (map_of_explored c.args.self.now) c.args.sight c.selection.result (selection_of (state_of c.args.held.now))
    c.key_seeing.result c.selection.ensures c.key_seeing.ensures
