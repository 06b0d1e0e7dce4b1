use Rattle.keymap_lint.proofs.Common.{arith, sym, ◌∙◌, is_defined}
use Rattle.keymap_core.proofs.Shared.{any-some}
use Rattle.keymap_lint.proofs.dead_key.defines_some.Goals as goal

pub returns-then-defines_accent : goal.returns-then-defines_accent
returns-then-defines_accent c =
    sym (any-some (is_defined c.args.text.now) c.loop-accent.accent 15 (omega arith)
    (sym c.defines_accent.ensures ∙ c.if-defines_accent.true))
