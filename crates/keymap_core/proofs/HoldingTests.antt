-- Tests of all modifiers, and of each one.
use Rattle.keymap_core.proofs.Common.{◌≡◌, Bool, true, false, sym, ◌∙◌, list_any, true≢false, Modifier, rules}
use Rattle.std.proofs.lemmas.Bool.{or_parts, true_from_ne_false}
use Rattle.keymap_core.specs.Actions.{modifiers}

-- where the test of all finds none, no modifier passes
pub no-modifier : (f : Modifier → Bool) → list_any f modifiers ≡ false → (i : Modifier) → f i ≡ false
no-modifier f e = search (rules, or_parts)

-- where no modifier passes, the test of all finds none
pub no-modifiers : (f : Modifier → Bool) → ((i : Modifier) → f i ≡ false) → list_any f modifiers ≡ false
no-modifiers f none = search rules

-- where a modifier passes, the test of all finds one
pub some-modifier : (f : Modifier → Bool) (i : Modifier) → f i ≡ true → list_any f modifiers ≡ true
some-modifier f i passes =
    true_from_ne_false (list_any f modifiers) (λ none. true≢false (sym passes ∙ no-modifier f none i))
