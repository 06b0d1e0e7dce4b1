-- where none was found, no key below the place shows anything
use Rattle.std.proofs.Common.{◌<◌, ℕ, get_or, MatchOption}
use Rattle.keymap_core.specs.Numbers.{key_count}
use Rattle.console_states.specs.Searching.{state_of}
use Rattle.keymap_diff.specs.Inner.Showing.{Shows, ShowsNothing}
use Rattle.keymap_diff.proofs.showing.Both.key_showing.Given as goal

abbrev pub invariant-loop-key : goal.invariant-loop-key
invariant-loop-key l =
    MatchOption l.found
    ((j : ℕ) → j < l.key-index
    → ShowsNothing l.self.old.now l.self.new.now l.minded (state_of l.held) (get_or l.keys j 0))
    (λ k. (k < key_count) × Shows l.self.old.now l.self.new.now l.minded (state_of l.held) k)
