use Rattle.script_text.proofs.Shared.{shows-keyboard-cover}
use Rattle.kmap_runs.proofs.laws.printed_keyboard_covers_are_scripts.Goals as goal

pub returns : goal.returns
returns c =
    λ x text out (m, script, reads, (k, (p, presses, covers), can, e), appends).
    (m, script, k, reads, appends, (p, presses, covers), shows-keyboard-cover p m k script covers e)
