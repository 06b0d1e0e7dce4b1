-- A place of a table after a write, by a test on the places.
use Rattle.console_core.proofs.Common.{cases_Bool, ◌≡◌, ℕ, ◌<◌, Bool, true, false, eqb, List, length}
use Rattle.console_core.proofs.Common.{get_or, set, ◌+◌, ◌&&◌, not, Some, ap, lit<, refl, sym, subst, arith, eqb-true}
use Rattle.console_core.proofs.Common.{eqb-false, ne_eqb, Modifier, LeftShift, Lock, Caps, Holding}
use Rattle.console_core.proofs.Common.{Action, holding_of, modifier_index, lock_index, holding_index, same_action}
use Rattle.console_core.proofs.Common.{holding_action, rules}
use Rattle.keymap_core.specs.Actions.{modifiers}
use Rattle.std.proofs.Common.{cond}
use Rattle.std.proofs.lemmas.List.{get_or-set_same, get_or-set_other, get_or-replicate}
use Rattle.keymap_core.specs.declared.action.Holding.TheVariants as holding
use Rattle.keymap_core.specs.declared.action.Action.TheVariants as act

-- an element after a write
pub get_or-set_if : {X : Type 0} (xs : List X) (i j : ℕ) (v d : X) → i < length xs
    → get_or (set xs i v) j d ≡ cond (eqb i j) v (get_or xs j d)
get_or-set_if xs i j v d h =
    search (rules, cases_Bool, eqb-true, get_or-set_same, get_or-set_other, eqb-false)

-- the modifier at a place of the modifiers
modifier_at : (i : Modifier) (d : Modifier) → get_or modifiers (modifier_index i) d ≡ i
modifier_at LeftShift d = refl
modifier_at _ d = refl

pub modifier-at : (i : Modifier) (n : ℕ) (d : Modifier) → modifier_index i ≡ n → get_or modifiers n d ≡ i
modifier-at i n d e = subst (λ x. get_or modifiers x d ≡ i) e (modifier_at i d)

pub modifier_index-lt : (m : Modifier) → modifier_index m < 8
modifier_index-lt LeftShift = lit< tt
modifier_index-lt _ = lit< tt

-- the index of a modifier is that of no lock
mod_lock : (m : Modifier) (l : Lock) → eqb (modifier_index m) (8 + lock_index l) ≡ false
mod_lock m l = let h : modifier_index m < 8 = modifier_index-lt m in ne_eqb _ _ (λ e. omega arith)

-- the index of a lock is that of no modifier
lock_mod : (m : Modifier) (l : Lock) → eqb (8 + lock_index l) (modifier_index m) ≡ false
lock_mod m l = let h : modifier_index m < 8 = modifier_index-lt m in ne_eqb _ _ (λ e. omega arith)

-- holding actions are the same exactly where their indices are
pub same_place : (a b : Holding)
    → same_action (holding_action a) (holding_action b) ≡ eqb (holding_index a) (holding_index b)
same_place (holding.Mod m) (holding.Mod n) = search rules
same_place (holding.Mod m) (holding.Lock l) = sym (mod_lock m l)
same_place (holding.Lock l) (holding.Mod m) = sym (lock_mod m l)
same_place (holding.Lock l) (holding.Lock k) = search rules

-- the index of a holding action is one of twelve
pub holding_index-lt : (a : Holding) → holding_index a < 12
holding_index-lt (holding.Mod m) = let h : modifier_index m < 8 = modifier_index-lt m in omega arith
holding_index-lt (holding.Lock Caps) = lit< tt
holding_index-lt _ = lit< tt

-- an action that is a holding one is the action of that
pub holding_of-some : (b : Action) (a : Holding) → holding_of b ≡ Some a → b ≡ holding_action a
holding_of-some (act.Mod m) a e = let f : holding.Mod m ≡ a = cc in ap holding_action f
holding_of-some (act.Lock l) a e = let f : holding.Lock l ≡ a = cc in ap holding_action f
holding_of-some _ a e = cc

cleared_by : (x b : Bool) → cond b false x ≡ (x && not b)
cleared_by true true = refl
cleared_by true false = refl
cleared_by false true = refl
cleared_by false false = refl

-- after the mark of an action was cleared, the others are as before
pub mark-cleared : (marks : List Bool) (action : Action) (a b : Holding) → length marks ≡ 12
    → holding_of action ≡ Some a
    → get_or (set marks (holding_index a) false) (holding_index b) false
    ≡ (get_or marks (holding_index b) false && not (same_action action (holding_action b)))
mark-cleared marks action a b n e =
    search (rules, holding_index-lt, holding_of-some, get_or-set_if, same_place, cleared_by)

-- what a write to a place, and a list of one value, leave at each place
pub ruleset places = (mark-cleared, get_or-set_if, get_or-replicate, same_place, holding_index-lt)
