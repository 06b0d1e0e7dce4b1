use Rattle.console_states.proofs.Common.{◌≡◌, [], ◌∷◌, ◌++◌, Some, sym, insert_entry-new, rules, is-nothing}
use Rattle.console_states.proofs.Searching.{meet-new, meet-old}
use Rattle.console_states.proofs.search.meet_step.Goals as goal

new_entries : (c : goal.In_ok-insert)
    → c.insert.new.self.entries
    ≡ c.args.met.now.entries
    ++ (c.args.step.to, record { presses = c.args.presses; last = Some (c.args.place, c.args.step.by) })
    ∷ []
new_entries c = search (rules, insert_entry-new, is-nothing)

pub returns-in_ok-insert : goal.returns-in_ok-insert
returns-in_ok-insert c =
    let new =
    meet-new c.args.met.now.entries c.insert.new.self.entries c.args.place c.args.presses c.args.step (new_entries c)
    c.requires in
    record { met = new.0; within = new.1; grown = new.2; added = new.3 }

pub returns-else-not-contains_key-clause-met : goal.returns-else-not-contains_key-clause-met
returns-else-not-contains_key-clause-met c =
    meet-old c.args.met.now.entries c.args.presses c.args.step.to (sym c.if-not-contains_key.ensures) c.requires
