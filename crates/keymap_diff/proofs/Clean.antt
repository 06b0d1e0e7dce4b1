-- In a safe keymap all lists are clean, and no list tells a keymap apart from itself.
use Rattle.keymap_diff.proofs.Common.{◌≡◌, List, [], ◌∷◌, ◌++◌, subst, refl, All-head, All-tail}
use Rattle.keymap_diff.proofs.Common.{Event, Press, Act, Char, HasKey, HasKeys, between, resolved, in_force}
use Rattle.keymap_core.specs.Bearers.{IsCellOf}
use Rattle.console_core.proofs.Shared.{looks_are_cells, one_in_force, remembered-cell, resolved-looked}
use Rattle.keymap_core.specs.declared.action.Action.TheVariants as act
use Rattle.keymap_core.specs.declared.action.Holding.TheVariants as holding
use Rattle.keymap_diff.specs.Telling.{SafeListsAreClean, SameIsNeverTold}

later-keys : (later h : List Event) → HasKeys (later ++ h) → HasKeys h
later-keys [] h keys = keys
later-keys (e ∷ later) h keys = later-keys later h (All-tail HasKey e (later ++ h) keys)

pub safe_lists_are_clean : SafeListsAreClean
safe_lists_are_clean m h safe keys later before k i c at rem seen =
    let all : HasKeys (Press k ∷ before) = later-keys later (Press k ∷ before) (subst HasKeys at keys) in
    let rest : HasKeys before = All-tail HasKey (Press k) before all in
    let one : in_force (between m m) before ≡ m = one_in_force m before in
    let bears =
    remembered-cell (in_force (between m m) before) (resolved (between m m) before) k (act.Mod i)
    (resolved-looked (between m m) before rest) rem in
    safe k (All-head HasKey (Press k) before all) (holding.Mod i)
    (subst (λ z. IsCellOf z k (Act (act.Mod i))) one bears.1) c
    (subst (λ z. IsCellOf z k (Char c)) one
    (subst (λ x. IsCellOf (in_force (between m m) before) k x) seen (looks_are_cells (between m m) before rest k)))

pub same_is_never_told : SameIsNeverTold
same_is_never_told m [] apart = apart tt
same_is_never_told m (e ∷ h) apart = apart refl
