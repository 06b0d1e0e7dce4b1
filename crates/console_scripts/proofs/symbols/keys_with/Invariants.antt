-- each key below the code of which the list says that it has not lacks the symbol
use Rattle.console_scripts.proofs.Common.{◌≡◌, ℕ, ◌<◌, false, LacksSymbol}
use Rattle.std.specs.Prelude.{length, slice_index_or}
use Rattle.console_scripts.proofs.symbols.keys_with.Given as goal

abbrev pub invariant-loop-code : goal.invariant-loop-code
invariant-loop-code l = record {
  lacking : (k : ℕ) → k < l.code → slice_index_or l.have k false ≡ false → LacksSymbol l.map l.symbol k;
  size : length l.have ≡ 128;
}
