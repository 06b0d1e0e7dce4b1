use Rattle.console_scripts.proofs.Common.{None, ap, sym, ◌∙◌, ◌++◌, option_copied, state_of}
use Rattle.console_scripts.proofs.Typings.{types-behind}
use Rattle.console_scripts.specs.Ways.{ending_with}
use Rattle.console_scripts.proofs.Known.{are_same_sought, tells-sought, found-known}
use Rattle.console_scripts.proofs.typing.recall.Goals as goal

pub returns-in_ok-extend_from_slice-in-Some : goal.returns-in_ok-extend_from_slice-in-Some
returns-in_ok-extend_from_slice-in-Some c =
    λ b m all.
    let k = c.args.sought.now in
    let v = c.in-Some.found.now in
    let old = c.args.events.now.items in
    types-behind b m (ending_with None k.character) (state_of k.from) v.step old v.events.items
    c.extend_from_slice.new.self.items
    (found-known are_same_sought tells-sought b m c.args.known.now.entries k v all
    (sym c.get.ensures.value ∙ ap option_copied c.in-Some.is))
    (c.in_ok-extend_from_slice-in-Some.ensures.items ∙ ap (λ z. old ++ z) c.deref.ensures.value)
