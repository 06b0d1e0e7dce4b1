use Rattle.keymap_cover.proofs.Common.{◌∙◌}
use Rattle.keymap_cover.proofs.Showing.{script-whole, under-way-new}
use Rattle.keymap_cover.proofs.cover.script_of.Goals as goal

pub returns : goal.returns
returns g c =
    let m = c.args.map.now in
    let s = g.T.Translator.stands in
    let a = c.in_ok-script.script in
    let b = c.show_told.new.script in
    let d = c.try_keys.new.script in
    let e = c.go_onward.new.script in
    let (rest, parts) =
    script-whole s m a b d e c.in_ok-starts.starts.items
    c.in_ok-first.first c.len-second.result c.len-third.result c.len.result
    (under-way-new s m a (c.in_ok-script.ensures m c.requires.new))
    c.in_ok-first.ensures c.in_ok-try_keys.ensures (c.in_ok-go_onward.ensures c.requires.sights)
    (c.len-second.ensures ∙ b.events.ok.0) (c.len-third.ensures ∙ d.events.ok.0) (c.len.ensures ∙ e.events.ok.0)
    c.in_ok-starts.ensures in
    (rest, (c.in_ok-first.first, c.len-second.result, c.len-third.result, parts))
