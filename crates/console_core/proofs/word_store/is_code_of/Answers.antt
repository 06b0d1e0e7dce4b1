use Rattle.console_core.proofs.Common.{◌≡◌, Some, ap, sym, ◌∙◌, same_action, same_action-refl}
use Rattle.std.specs.Prelude.{option_map}
use Rattle.keymap_core.specs.Actions.{action_of}
use Rattle.console_core.proofs.Codes.{action_of_byte-some, action_of_byte-other}
use Rattle.console_core.proofs.word_store.is_code_of.Goals as goal

pub returns-in-Some : goal.returns-in-Some
returns-in-Some c =
    let read = sym c.from_code.ensures ∙ c.in-Some.is in
    action_of_byte-other c.args.code c.in-Some.field-0 c.args.expected c.requires read
    (c.every_action_has_its_code.ensures c.args.code c.in-Some.field-0 read).0 (λ e.
    c.if-code.false (e ∙ sym c.code.ensures.code))

pub returns-then-code : goal.returns-then-code
returns-then-code c =
    let read : action_of c.args.code ≡ Some c.args.expected =
    ap action_of (c.if-code.true ∙ c.code.ensures.code) ∙ c.every_code_is_read.ensures _ c.code.ensures.known in
    sym (ap (option_map (λ a. same_action a c.args.expected)) (action_of_byte-some c.args.code c.requires ∙ read)
    ∙ ap Some (same_action-refl c.args.expected))

pub returns-in-None : goal.returns-in-None
returns-in-None c =
    sym (ap (option_map (λ a. same_action a c.args.expected))
    (action_of_byte-some c.args.code c.requires ∙ sym c.from_code.ensures ∙ c.in-None.is))
