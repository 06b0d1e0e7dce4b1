use Rattle.script_text.proofs.Common.{◌≡◌, ◌++◌, [], flat_map, take}
use Rattle.play_core.specs.Spelling.{sent_line}
use Rattle.script_text.specs.Diff.{sent_along}
use Rattle.script_text.proofs.diff.push_script.Given as goal

abbrev pub invariant-loop-place : goal.invariant-loop-place
invariant-loop-place l =
    l.text.items ≡ l.fn.text.items ++ flat_map sent_line (sent_along [] (take l.place l.events))
