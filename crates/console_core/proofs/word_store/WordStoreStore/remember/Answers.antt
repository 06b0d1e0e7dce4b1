use Rattle.console_core.proofs.Common.{refl, rules}
use Rattle.console_core.proofs.Codes.{codes-set}
use Rattle.console_core.proofs.Keeping.{kept-same}
use Rattle.console_core.proofs.word_store.WordStoreStore.remember.Goals as goal

pub returns : goal.returns
returns c =
    let codes = c.args.self.now.codes in
    kept-same _ _ (λ a. refl) (λ l. refl) (λ i. codes-set codes c.get.result c.args.key i c.memory_code.result
    c.args.action c.get.ensures.same (search rules) c.memory_code.ensures) refl refl
