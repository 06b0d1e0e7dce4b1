use Rattle.std.proofs.Common.{rules}
use Rattle.keymap_cover.proofs.Scripts.{press-added}
use Rattle.keymap_cover.proofs.seen.Seen.add_press.Goals as goal

pub returns : goal.returns
returns c = search (rules, press-added)
