use Rattle.console_states.proofs.Common.{◌≡◌, take, List, filter, Event, Maps, is_on_after}
use Rattle.console_states.proofs.left_on.those_on.Given as goal

-- the modifiers that are on, among those so far
abbrev pub invariant-loop-modifier : goal.invariant-loop-modifier
invariant-loop-modifier g l =
    (ms : Maps) (h : List Event) → g.T.Translator.stands l.console ms h
    → l.on.items ≡ filter (λ i. is_on_after ms i h) (take l.modifier-index l.modifiers)
