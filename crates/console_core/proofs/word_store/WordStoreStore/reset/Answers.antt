use Rattle.console_core.proofs.Common.{rules}
use Rattle.console_core.proofs.Codes.{codes-start}
use Rattle.console_core.proofs.Keeping.{kept-same}
use Rattle.console_core.proofs.WordBits.{mark-after_reset, lock-after_reset, second-after_reset, field-after_reset}
use Rattle.console_core.proofs.word_store.WordStoreStore.reset.Goals as goal

pub returns : goal.returns
returns c =
    search (rules, kept-same, mark-after_reset, lock-after_reset, codes-start, field-after_reset, second-after_reset)
