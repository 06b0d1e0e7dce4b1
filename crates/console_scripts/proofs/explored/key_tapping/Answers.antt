use Rattle.console_scripts.proofs.Common.{◌≡◌, ap, subst, sym, ◌∙◌, below_more, arith, IsIdle, look_selected}
use Rattle.console_scripts.proofs.Common.{selection_of, cell_of, state_of}
use Rattle.console_scripts.proofs.explored.key_tapping.Goals.{then-have-code+else-is_symbol, else-have-code}
use Rattle.console_scripts.proofs.explored.key_tapping.Goals.{else-is_symbol-via-then-is_symbol+else-not-holds}
use Rattle.console_scripts.proofs.explored.key_tapping.Goals.{else-is_symbol-via-else-is_symbol}
use Rattle.console_scripts.proofs.explored.key_tapping.Goals as goal

pub loop-code-init : goal.loop-code-init
loop-code-init c = λ u is k lt tapped. absurd (omega (arith, lt))

pub loop-code-preserved : goal.loop-code-preserved
loop-code-preserved c =
    λ u is.
    let s = state_of c.args.held.now in
    let n = c.loop-code.code in
    below_more _ _ (c.loop-code.invariant u is)
    (λ tapped.
    let seen : look_selected c.args.map.now (selection_of s) n ≡ cell_of c.args.symbol =
    ap (λ m. look_selected m (selection_of s) n) (sym is) ∙ tapped.2 in
    elim c.if-have-code.branch [
      | then-have-code+else-is_symbol w ↦
          let looked : w.look.result ≡ cell_of c.args.symbol =
          w.look.ensures ∙ ap (λ y. look_selected c.args.map.now y w.key_with-key.result) c.selection-selection.ensures
          ∙ ap (λ k. look_selected c.args.map.now (selection_of s) k) w.key_with-key.ensures ∙ seen in
          elim w.else-is_symbol.branch [
            | else-is_symbol-via-then-is_symbol+else-not-holds v ↦
                v.holds.ensures.busy v.if-not-holds.false
                (subst (λ k. IsIdle s k) (sym w.key_with-key.ensures) tapped.1)
            | else-is_symbol-via-else-is_symbol v ↦ w.is_symbol.ensures.other v.if-is_symbol.false looked
          ]
      | else-have-code w ↦
          c.requires n (omega (arith, c.loop-code-test.true, c.loop-code.auto.code-end)) w.if-have-code.false
          (selection_of s) seen
    ])

pub returns : goal.returns
returns c =
    λ u is k tapped. c.loop-code.invariant u is k (omega (arith, tapped.0, c.loop-code-test.false)) tapped
