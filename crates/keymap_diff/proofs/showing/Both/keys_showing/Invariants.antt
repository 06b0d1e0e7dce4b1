-- the keys below the code that show something in some state
use Rattle.keymap_diff.specs.Inner.Showing.{AreShowing}
use Rattle.keymap_diff.proofs.showing.Both.keys_showing.Given as goal

abbrev pub invariant-loop-code : goal.invariant-loop-code
invariant-loop-code l = AreShowing l.self.old.now l.self.new.now l.minded l.keys.items l.code
