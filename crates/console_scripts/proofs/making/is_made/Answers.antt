use Rattle.console_scripts.proofs.Common.{refl, subst, sym}
use Rattle.console_scripts.specs.declared.explored.Symbol.TheVariants as symbol
use Rattle.console_scripts.specs.Inner.Courses.{IsMade}
use Rattle.console_scripts.proofs.making.is_made.Goals as goal

pub returns-in-None-clause-made : goal.returns-in-None-clause-made
returns-in-None-clause-made c =
    λ t.
    subst (λ o. IsMade c.args.map.now o c.args.character c.args.cell.now) (sym c.in-None.is)
    (symbol.Character c.args.character, c.is_symbol.ensures.same t, refl)
