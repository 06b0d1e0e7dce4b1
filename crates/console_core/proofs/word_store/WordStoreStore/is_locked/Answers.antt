use Rattle.console_core.proofs.Common.{rules}
use Rattle.console_core.proofs.WordBits.{bit-test, lock_bit-lt}
use Rattle.console_core.proofs.word_store.WordStoreStore.is_locked.Goals as goal

pub returns : goal.returns
returns c = search (rules, lock_bit-lt, bit-test)
