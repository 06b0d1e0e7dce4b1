use Rattle.std.proofs.Common.{rules}
use Rattle.console_scripts.proofs.Common.{inl, sym, ◌∙◌, true≢false}
use Rattle.console_scripts.proofs.explored.Explored.key_showing.Goals as goal

pub returns-in_default : goal.returns-in_default
returns-in_default c = inl c.in_default.ensures

pub returns-then-not-leads_back : goal.returns-then-not-leads_back
returns-then-not-leads_back c =
    (c.in-Some.ensures, (λ back. absurd (true≢false (sym back ∙ c.if-not-leads_back.true))))

pub returns-then-has_route : goal.returns-then-has_route
returns-then-has_route c = search rules

pub returns-else-has_route : goal.returns-else-has_route
returns-else-has_route c = search rules
