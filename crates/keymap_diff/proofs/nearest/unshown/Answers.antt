use Rattle.keymap_diff.proofs.Common.{arith, subst, sym}
use Rattle.keymap_diff.proofs.Ending.{gave-up, never-found, never-tells, undecided-tells}
use Rattle.keymap_diff.specs.Inner.Searches.{IsWithin}
use Rattle.console_states.specs.Looks.{IsFirstStuck}
use Rattle.keymap_diff.proofs.nearest.unshown.Goals as goal

pub before_forgetting-requires-clause-within : goal.before_forgetting-requires-clause-within
before_forgetting-requires-clause-within c =
    subst (λ o. IsWithin c.in-Some.presses o) (sym c.in-Some.is) (omega arith)

pub returns-in-Some : goal.returns-in-Some
returns-in-Some c =
    let m = c.args.both.now.old.now in
    let n = c.args.both.now.new.now in
    let r = c.before_forgetting.result in
    let told = c.before_forgetting.ensures in
    undecided-tells m n c.in-Some.presses r
    (gave-up m n c.args.nearest.now c.in-Some.presses c.requires.nearest.0 c.requires.none c.in-Some.is)
    (λ p. c.requires.nearest.1 p r (subst (λ o. IsWithin r o) (sym c.in-Some.is) told.few))
    told.few told.clean told.most

pub returns-in-None : goal.returns-in-None
returns-in-None c =
    let m = c.args.both.now.old.now in
    let n = c.args.both.now.new.now in
    let x = c.args.nearest.now in
    let (never, can) =
    never-found m n x c.first_stuck.result c.is_some.result c.requires.nearest.0 c.in-None.is
    (subst (λ u. IsFirstStuck u x.met.entries c.first_stuck.result) c.maps.ensures c.first_stuck.ensures)
    c.is_some.ensures in
    never-tells m n c.is_some.result
    (λ b p. c.requires.nearest.1 p b (subst (λ o. IsWithin b o) (sym c.in-None.is) tt)) never can
