use Rattle.keymap_lint.proofs.Common.{◌≡◌, false, is_defined}
use Rattle.keymap_core.specs.Borne.{any_below}
use Rattle.keymap_lint.proofs.dead_key.defines_some.Given as goal

-- none of the accents so far is defined
abbrev pub invariant-loop-accent : goal.invariant-loop-accent
invariant-loop-accent l = any_below (is_defined l.text) l.accent ≡ false
