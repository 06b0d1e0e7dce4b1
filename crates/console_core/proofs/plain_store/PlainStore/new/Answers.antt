use Rattle.console_core.proofs.Common.{get_or-replicate_default, rules}
use Rattle.console_core.proofs.Keeping.{kept-same}
use Rattle.console_core.proofs.plain_store.PlainStore.new.Goals as goal

pub returns : goal.returns
returns c = search (rules, kept-same, get_or-replicate_default)
