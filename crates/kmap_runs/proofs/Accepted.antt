-- Keymaps that the check accepts never stick; what the search answers to others is found.
use Rattle.kmap_runs.proofs.Common.{Option, Some, None, MapValue, refl, subst, sym, ◌∙◌}
use Rattle.console_core.proofs.Shared.{first_in_force, off_once_quiet, on_only_while_pressed}
use Rattle.console_core.specs.Headline.{IsSafe}
use Rattle.console_core.specs.History.{between, in_force}
use Rattle.console_states.proofs.Shared.{safe_never_sticks_between}
use Rattle.console_states.specs.Moves.{Under}
use Rattle.console_states.specs.Sticking.{IsAnswerUnder, NeverSticks}
use Rattle.console_states.specs.declared.outcome.Sticking.{Sticking}
use Rattle.console_states.specs.declared.outcome.Sticking.TheVariants.{Never, Sticks, Undecided}
use Rattle.kmap_runs.specs.Runs.{AreSafe, IsFound, IsFoundUnder}
use Rattle.std.specs.Prelude.{IfOk, Result, Ok, Err}

-- under a safe keymap no modifier sticks
safe_never_sticks : (m : MapValue) → IsSafe m → NeverSticks m
safe_never_sticks m safe ms h (first, loads) keys none =
    let held : IsSafe (in_force ms h) = subst IsSafe (sym (first_in_force ms h (none.0 refl) ∙ first)) safe in
    (on_only_while_pressed ms h held keys, off_once_quiet ms h held keys)

-- that no modifier sticks is the answer to a safe keymap, and to two between them
pub accepted_never_stick : (m : MapValue) (next : Option MapValue) → AreSafe (m, next) → IsFound (m, next) Never
accepted_never_stick m None safe = safe_never_sticks m safe
accepted_never_stick m (Some n) (first, second) = safe_never_sticks_between (between m n) first second

found-answer : (u : Under) (found : Sticking) → IsAnswerUnder u found → IsFoundUnder u found
found-answer u (Sticks events on) answer = answer
found-answer u Never answer = answer.0
found-answer u (Undecided p) answer = answer

-- what a search answers is found
pub answer-found : {E : Type 0} (u : Under) (r : Result Sticking E) → IfOk r (IsAnswerUnder u) → IfOk r (IsFoundUnder u)
answer-found u (Ok found) answer = found-answer u found answer
answer-found u (Err e) answer = answer
