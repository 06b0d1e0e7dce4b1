use Rattle.console_core.proofs.Common.{◌≡◌, Some, ap, sym, ◌∙◌, same_action, rules}
use Rattle.std.specs.Prelude.{option_map}
use Rattle.std.proofs.lemmas.List.{get_or_default}
use Rattle.console_core.specs.Inner.Tables.{memory_at}
use Rattle.console_core.proofs.plain_store.PlainStoreStore.remembers.Goals as goal

pub returns-in-Some-clause-value : goal.returns-in-Some-clause-value
returns-in-Some-clause-value c =
    let actions = c.args.self.now.actions in
    let read : memory_at actions c.args.key ≡ Some c.in-Some.held =
    ap (memory_at actions) (sym c.get.ensures.same) ∙ get_or_default actions c.get.result _ _ (search rules)
    ∙ c.in-Some.is in
    ap Some c.eq.ensures ∙ sym (ap (option_map (λ held. same_action held c.args.action)) read)
