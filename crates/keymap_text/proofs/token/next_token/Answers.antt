use Rattle.keymap_text.proofs.Common.{sym, ◌∙◌, ap, arith, at_drop_all, tokens_after, rules}
use Rattle.keymap_text.proofs.Common.{first}
use Rattle.keymap_text.proofs.Splitting.{split_none, at_found, at_refused, at_unfinished, front_is, to_end}
use Rattle.std.proofs.lemmas.Grind.{common_steps}
use Rattle.keymap_text.proofs.token.next_token.Goals as goal

pub returns-then-start-text-clause-exact : goal.returns-then-start-text-clause-exact
returns-then-start-text-clause-exact c =
    let i = c.token_start-start.result in
    let text = c.args.text.now in
    sym (ap first (c.token_start-start.ensures.same ∙ at_drop_all (tokens_after 0 i) text i (omega arith)
    ∙ split_none i))

pub returns-in-Found-clause-exact : goal.returns-in-Found-clause-exact
returns-in-Found-clause-exact c = search (rules, at_found, front_is, to_end)

pub returns-in-Refused-clause-exact : goal.returns-in-Refused-clause-exact
returns-in-Refused-clause-exact c = search (rules, at_refused, front_is, to_end)

pub returns-in-Unfinished-clause-exact : goal.returns-in-Unfinished-clause-exact
returns-in-Unfinished-clause-exact c = search (rules, at_unfinished, front_is, to_end)

pub returns-in-Found-clause-span : goal.returns-in-Found-clause-span
returns-in-Found-clause-span c = grind (arith, common_steps)
