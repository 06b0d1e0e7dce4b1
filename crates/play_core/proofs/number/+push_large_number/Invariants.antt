use Rattle.play_core.proofs.number.+push_large_number.Given as goal

abbrev pub decreases-push_large_number : goal.decreases-push_large_number
decreases-push_large_number l = l.number
