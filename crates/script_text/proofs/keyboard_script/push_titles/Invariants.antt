use Rattle.script_text.proofs.Common.{◌≡◌, ◌++◌, take, flat_map}
use Rattle.script_text.specs.Keyboard.{title_line}
use Rattle.script_text.proofs.keyboard_script.push_titles.Given as goal

abbrev pub invariant-loop-title : goal.invariant-loop-title
invariant-loop-title l =
    l.text.items ≡ l.fn.text.items ++ flat_map (title_line l.place) (take l.title-index l.titles)
