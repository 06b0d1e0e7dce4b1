use Rattle.keymap_core.proofs.Common.{◌∙◌, sym, map, to_ascii_lowercase, rules}
use Rattle.keymap_core.proofs.Meanings.{meaning-screen, meaning-function, meaning-combined, meaning-named}
use Rattle.keymap_core.proofs.action.Action.named.Goals as goal

pub returns-in-Some : goal.returns-in-Some
returns-in-Some c =
    c.screen.ensures ∙ meaning-screen (map to_ascii_lowercase c.args.word.now) c.in-Some.number c.in-Some.ensures

pub returns-in-Some-number_of : goal.returns-in-Some-number_of
returns-in-Some-number_of c = search (rules, meaning-function)

pub returns-in-Some-action_named : goal.returns-in-Some-action_named
returns-in-Some-action_named c =
    meaning-named (map to_ascii_lowercase c.args.word.now) _ c.in_default.ensures c.in_default-number_of.ensures
    (sym c.is_combined.ensures ∙ c.if-is_combined.false) c.in-Some-action_named.ensures

pub returns-in-None : goal.returns-in-None
returns-in-None c =
    meaning-named (map to_ascii_lowercase c.args.word.now) _ c.in_default.ensures c.in_default-number_of.ensures
    (sym c.is_combined.ensures ∙ c.if-is_combined.false) c.in-None.ensures

pub returns-then-is_combined : goal.returns-then-is_combined
returns-then-is_combined c = search (rules, meaning-combined)
