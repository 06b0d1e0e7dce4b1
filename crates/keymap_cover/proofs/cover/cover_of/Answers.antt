use Rattle.keymap_cover.proofs.Common.{◌≡◌, ℕ, subst, alone, AreSightsOf, rules}
use Rattle.std.proofs.Common.{MatchOption}
use Rattle.console_states.specs.Sticking.{ReachesMoreThan, state_limit}
use Rattle.keymap_cover.proofs.Covered.{script-covers}
use Rattle.keymap_cover.proofs.cover.cover_of.Goals as goal

pub script_of-requires-clause-explorer : goal.script_of-requires-clause-explorer
script_of-requires-clause-explorer c = search (rules, alone)

pub script_of-requires-clause-sights : goal.script_of-requires-clause-sights
script_of-requires-clause-sights c = search rules

pub returns : goal.returns
returns c =
    let m = c.args.map.now in
    let is : c.in-Some.explorer.map ≡ m =
    subst (λ o. MatchOption o ((p : ℕ) × ReachesMoreThan (alone m) state_limit p) (λ p. p.map ≡ m)) c.in-Some.is
    c.in_ok-explorer.ensures.explorer in
    let are : AreSightsOf m c.in_ok-sights.sights =
    subst (λ n. AreSightsOf n c.in_ok-sights.sights) is c.in_ok-sights.ensures in
    let ((up, (h, t, rest, off, ahead)), parts) = c.in_ok-script.ensures in
    script-covers m h _ c.in_ok-script.script.pressed t (rest, off) ahead up are parts
