use Rattle.std.proofs.Common.{rules}
use Rattle.console_states.proofs.Shared.{sights-some}
use Rattle.keymap_diff.proofs.unseen.Letters.are_unseen.Goals as goal

pub are_seen-are_old-requires : goal.are_seen-are_old-requires
are_seen-are_old-requires c = search (rules, sights-some)

pub are_seen-are_new-requires : goal.are_seen-are_new-requires
are_seen-are_new-requires c = search (rules, sights-some)
