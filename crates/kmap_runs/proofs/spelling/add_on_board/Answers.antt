use Rattle.kmap_runs.proofs.Common.{inl, inr, refl, subst}
use Rattle.kmap_runs.specs.Spelling.{PressesOff}
use Rattle.kmap_runs.proofs.Spellings.{none-typed}
use Rattle.kmap_runs.proofs.spelling.add_on_board.Goals as goal

pub returns-in_ok-push_spelled-in-Ok-clause-ok : goal.returns-in_ok-push_spelled-in-Ok-clause-ok
returns-in_ok-push_spelled-in-Ok-clause-ok c =
    inl (
      record { character = c.args.character; typing = c.in-Ok.typing },
      refl,
      (c.in-Ok.ensures.typed, c.in-Ok.ensures.ways),
      c.in_ok-push_spelled-in-Ok.ensures,
    )

pub returns-else-are_on-clause-ok : goal.returns-else-are_on-clause-ok
returns-else-are_on-clause-ok c =
    inr (
      refl,
      λ can. (
        record { character = c.args.character; typing = c.in-Ok.typing },
        refl,
        (c.in-Ok.ensures.typed, c.in-Ok.ensures.ways),
        subst (PressesOff c.args.board) c.as_slice.ensures.value (c.are_on.ensures c.if-are_on.false),
      ),
    )

pub returns-in-Err-NoWay-clause-ok : goal.returns-in-Err-NoWay-clause-ok
returns-in-Err-NoWay-clause-ok c =
    inr (
      refl,
      λ can. absurd (none-typed c.args.map.now c.args.character c.in-Err-NoWay.field-0-0 c.in-Err-NoWay.field-0
          c.in-Err-NoWay.field-0-is c.in-Err-NoWay.ensures.error can),
    )
