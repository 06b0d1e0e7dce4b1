use Rattle.keymap_lint.proofs.Common.{subst, sym}
use Rattle.std.proofs.Common.{inl}
use Rattle.keymap_lint.specs.Typed.{AreTold}
use Rattle.keymap_lint.proofs.Untyped.{all_typed}
use Rattle.keymap_lint.proofs.typed.untyped_of.Goals as goal

pub returns-then-are_all : goal.returns-then-are_all
returns-then-are_all c =
    subst (AreTold c.args.map.now) (sym c.new.ensures)
    (all_typed c.args.map.now (λ n low high. c.sure_of.ensures n (c.are_all.ensures c.if-are_all.true n low high)))

pub returns-then-branch : goal.returns-then-branch
returns-then-branch c =
    let found = rw c.in-Some.is at c.in_ok-found.ensures in
    inl (
      c.told-characters.ensures c.args.map.now found.0,
      λ many. absurd (c.in_ok-has_few_states.ensures.few c.if-branch.true many.0 many.1),
    )
