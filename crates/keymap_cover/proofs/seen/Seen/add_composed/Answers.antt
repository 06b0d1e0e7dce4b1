use Rattle.keymap_cover.proofs.Common.{has_seen, rules}
use Rattle.keymap_cover.proofs.Scripts.{pair-added, pair-not}
use Rattle.keymap_cover.proofs.seen.Seen.add_composed.Goals as goal

pub returns-in_ok-add_pair : goal.returns-in_ok-add_pair
returns-in_ok-add_pair c = search (rules, has_seen, pair-added)

pub returns-in_default : goal.returns-in_default
returns-in_default c = search (rules, pair-not, has_seen)

pub returns-in_default-look : goal.returns-in_default-look
returns-in_default-look c = search (rules, pair-not, has_seen)
