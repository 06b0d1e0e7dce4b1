use Rattle.keymap_cover.proofs.Scripts.{script-new, all-off}
use Rattle.keymap_cover.proofs.script.Script.new.Goals as goal

pub returns : goal.returns
returns g c = λ m stands. (stands, script-new m _ _ _ c.new.ensures.items c.in_ok-new.ensures all-off)
