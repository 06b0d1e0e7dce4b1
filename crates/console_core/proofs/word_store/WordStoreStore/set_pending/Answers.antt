use Rattle.console_core.proofs.Common.{rules}
use Rattle.console_core.proofs.Keeping.{kept-same}
use Rattle.console_core.proofs.WordBits.{low-bit, second-kept, field-written, mark_bit-lt, lock_bit-lt}
use Rattle.console_core.proofs.word_store.WordStoreStore.set_pending.Goals as goal

pub returns : goal.returns
returns c = search (rules, kept-same, low-bit, mark_bit-lt, lock_bit-lt, field-written, second-kept)
