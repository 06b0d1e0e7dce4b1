use Rattle.console_core.proofs.Common.{rules}
use Rattle.console_core.proofs.WordBits.{bit-test, mark_bit-lt}
use Rattle.console_core.proofs.word_store.WordStoreStore.is_marked.Goals as goal

pub returns : goal.returns
returns c = search (rules, mark_bit-lt, bit-test)
