use Rattle.std.proofs.Common.{rules}
use Rattle.console_scripts.proofs.Marking.{gains-none, gains-next}
use Rattle.console_scripts.proofs.Tapping.{all-bases}
use Rattle.console_scripts.specs.Inner.Tapped.{HasCharacter}
use Rattle.console_scripts.proofs.typed.add_accent.Goals as goal

pub returns-then-not-is_offered : goal.returns-then-not-is_offered
returns-then-not-is_offered c = search (rules, gains-none)

pub returns : goal.returns
returns c =
    let offered = c.is_offered.ensures.offered c.if-not-is_offered.false c.args.map.now c.requires in
    all-bases c.args.map.now c.args.tapped.now c.args.plain.now c.args.index c.args.accent.now c.args.typed.now _
    c.requires offered.0 offered.1
    (gains-next (HasCharacter c.args.typed.now) _ _ _ _
    (gains-next (HasCharacter c.args.typed.now) _ _ _ _ c.in_ok-add_pairs.ensures c.in_ok-add_made.ensures)
    c.in_ok-add_made-2.ensures)
