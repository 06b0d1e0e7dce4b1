use Rattle.script_text.proofs.Common.{◌≡◌, ◌++◌, flat_map, range_with_len}
use Rattle.script_text.specs.Keyboard.{titled_event}
use Rattle.script_text.proofs.keyboard_script.push_titled.Given as goal

abbrev pub invariant-loop-place : goal.invariant-loop-place
invariant-loop-place l =
    l.text.items ≡ l.fn.text.items ++ flat_map (titled_event l.titles l.events) (range_with_len 0 l.place)
