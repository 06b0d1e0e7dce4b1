use Rattle.console_scripts.proofs.Common.{true, subst, ap, ◌∙◌, length, arith, below_more, LacksSymbol}
use Rattle.console_scripts.proofs.Lacking.{marked}
use Rattle.std.proofs.lemmas.List.{length-set}
use Rattle.console_scripts.proofs.symbols.keys_with.Goals.{then-has_symbol, else-has_symbol}
use Rattle.console_scripts.proofs.symbols.keys_with.Goals as goal

pub loop-code-preserved : goal.loop-code-preserved
loop-code-preserved c =
    let lacks = LacksSymbol c.args.map.now c.args.symbol in
    let n = c.loop-code.code in
    elim c.if-has_symbol.branch [
      | then-has_symbol w ↦ record {
        lacking =
            rw (w.have-is)
            (marked lacks c.loop-code.have n (omega (arith, c.loop-code-test.true, c.loop-code.invariant.size))
            c.loop-code.invariant.lacking);
        size = rw (w.have-is) (length-set c.loop-code.have n true ∙ c.loop-code.invariant.size);
      }
      | else-has_symbol w ↦ record {
        lacking =
            rw (w.have-is)
            (below_more _ _ c.loop-code.invariant.lacking
            (λ no. subst lacks c.key_with.ensures (c.has_symbol.ensures w.if-has_symbol.false)));
        size = ap length w.have-is ∙ c.loop-code.invariant.size;
      }
    ]
