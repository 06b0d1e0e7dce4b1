use Rattle.std.proofs.Common.{rules}
use Rattle.console_states.proofs.Shared.{sights-some}
use Rattle.keymap_diff.proofs.unseen.is_dead_key_unseen.Goals as goal

pub sees_dead_key-is_old-requires-clause-sights : goal.sees_dead_key-is_old-requires-clause-sights
sees_dead_key-is_old-requires-clause-sights c = search (rules, sights-some)

pub sees_dead_key-is_new-requires-clause-sights : goal.sees_dead_key-is_new-requires-clause-sights
sees_dead_key-is_new-requires-clause-sights c = search (rules, sights-some)
