use Rattle.play_core.proofs.Common.{sym, append-nil, codes, names_of_locks}
use Rattle.play_core.proofs.Tails.{name_added}
use Rattle.play_core.proofs.tail.push_locks.Goals as goal

pub returns-clause-text : goal.returns-clause-text
unfolding names_of_locks
returns-clause-text g c =
    name_added _ _ _ _ _ (codes "clock") _ c.push_if.ensures.text c.locked.ensures
    (name_added _ _ _ _ _ (codes "nlock") _ c.push_if-2.ensures.text c.locked-2.ensures
    (name_added _ _ _ _ _ (codes "slock") _ c.push_if-3.ensures.text c.locked-3.ensures
    (name_added _ _ _ _ _ (codes "alock") _ c.push_if-4.ensures.text c.locked-4.ensures (sym (append-nil _)))))
