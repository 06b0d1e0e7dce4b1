use Rattle.std.proofs.Common.{rules}
use Rattle.console_states.proofs.Common.{◌≡◌, ℕ, List, get_or, length, Option, Some, None, refl}
use Rattle.console_states.proofs.Common.{cases_Bool, Modifier, modifier_index}
use Rattle.console_states.proofs.Common.{modifier-at, same_modifier, same_action-refl, if◌then◌else◌}
use Rattle.std.proofs.Common.{set}
use Rattle.std.proofs.lemmas.List.{get_or-set_same, get_or-set_other}
use Rattle.console_core.proofs.Shared.{modifier_index-lt}
use Rattle.console_states.specs.Moves.{key_of, number_of}
use Rattle.console_states.proofs.Following.{same_mods}
use Rattle.console_states.proofs.SameStates.{same_states}
use Rattle.console_states.proofs.held.Held.with_holder.Goals as goal

key-back : (o : Option ℕ) → key_of (number_of o) ≡ o
key-back None = refl
key-back (Some k) = refl

-- who holds a modifier after a holder is written
holder-at : (hs : List ℕ) (i j : Modifier) (o : Option ℕ) → length hs ≡ 8
    → key_of (get_or (set hs (modifier_index i) (number_of o)) (modifier_index j) 0)
    ≡ (if same_modifier i j then o else key_of (get_or hs (modifier_index j) 0))
holder-at hs i j o len =
    search (
      rules,
      cases_Bool,
      modifier_index-lt,
      same_mods,
      get_or-set_same,
      key-back,
      get_or-set_other,
      modifier-at,
      same_action-refl,
    )

pub returns : goal.returns
returns c = search (rules, same_states, holder-at)
