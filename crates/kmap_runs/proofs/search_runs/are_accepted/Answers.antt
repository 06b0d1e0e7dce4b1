use Rattle.kmap_runs.proofs.search_runs.are_accepted.Goals as goal

pub returns-then-is_first : goal.returns-then-is_first
returns-then-is_first c =
    let first = c.accepted-is_first.ensures in
    let second = c.accepted.ensures in
    let first_safe = c.check.ensures.accepted in
    let second_safe = c.check-then-is_first.ensures.accepted in
    rw c.in-Some.is (
      (λ yes. (first_safe.0 (first.0 c.if-is_first.true), second_safe.0 (second.0 yes))),
      (λ safe. second.1 (second_safe.1 safe.1)),
    )

pub returns-in-None : goal.returns-in-None
returns-in-None c =
    let first = c.accepted-is_first.ensures in
    let first_safe = c.check.ensures.accepted in
    rw c.in-None.is
    ((λ yes. first_safe.0 (first.0 yes)), (λ safe. first.1 (first_safe.1 safe)))
