use Rattle.console_core.proofs.Common.{refl, rules}
use Rattle.console_core.proofs.Codes.{codes-start}
use Rattle.console_core.proofs.Keeping.{kept-same}
use Rattle.console_core.proofs.word_store.WordStore.new.Goals as goal

pub returns : goal.returns
returns c = kept-same _ _ (λ a. search rules) (λ l. search rules) codes-start refl refl
