use Rattle.std.proofs.Common.{below_more, rules}
use Rattle.keymap_diff.proofs.Marks.{no_dead_key}
use Rattle.keymap_diff.proofs.unseen.sees_dead_key.Goals as goal

pub loop-place-preserved : goal.loop-place-preserved
loop-place-preserved c are =
    below_more _ _ (c.loop-place.invariant are) (c.sees_dead_key_at.ensures.unseen are c.if-sees_dead_key_at.false)

pub returns-clause-unseen : goal.returns-clause-unseen
returns-clause-unseen c are e meets = search (rules, no_dead_key, c.loop-place.invariant are)
