use Rattle.console_core.proofs.Common.{lit<}
use Rattle.console_core.proofs.WordBits.{bit-test}
use Rattle.console_core.proofs.word_store.WordStoreStore.is_second.Goals as goal

pub returns : goal.returns
returns c = bit-test c.args.self.now.word 20 (lit< tt)
