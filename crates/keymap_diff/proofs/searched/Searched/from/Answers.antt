use Rattle.std.proofs.Common.{rules}
use Rattle.keymap_diff.proofs.Common.{subst, sym}
use Rattle.keymap_diff.specs.Inner.Showing.{AreShowing}
use Rattle.keymap_diff.proofs.Clearing.{searched-from}
use Rattle.keymap_diff.proofs.searched.Searched.from.Goals as goal

pub first_showing-shown-requires : goal.first_showing-shown-requires
first_showing-shown-requires c =
    subst (λ z. AreShowing c.args.both.now.old.now c.args.both.now.new.now c.args.minded z 128)
    (sym c.as_slice.ensures.value) c.in_ok-keys.ensures

pub returns-clause-searched : goal.returns-clause-searched
returns-clause-searched c = search (rules, searched-from)
