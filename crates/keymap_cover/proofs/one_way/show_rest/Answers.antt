use Rattle.keymap_cover.proofs.Common.{◌≡◌, ap, arith, false, filter, has_seen, length, not, true, ◌∙◌}
use Rattle.keymap_cover.proofs.Onward.{next-same, rounds-all, rounds-end, rounds-more, rounds-none}
use Rattle.keymap_cover.proofs.one_way.show_rest.Goals as goal

pub loop-init : goal.loop-init
loop-init g c = λ single. rounds-none g.T.Translator.stands c.args.map.now c.args.sights.items c.args.script.now

pub loop-preserved : goal.loop-preserved
loop-preserved g c =
    λ single.
    rounds-more g.T.Translator.stands c.args.map.now c.args.sights.items c.loop.left.items c.in_ok-left.left.items
    c.args.script.now c.loop.script c.show_next.new.script c.loop.counter single (c.loop.invariant single)
    (next-same g.T.Translator.stands c.args.map.now c.deref.result.now c.loop.left.items c.loop.script
    c.show_next.new.script c.in_ok-show_next.field-0 true c.deref.ensures.value c.if-not-branch.false
    c.in_ok-show_next.ensures)
    (c.in_ok-left.ensures
    ∙ ap (λ xs. filter (λ x. not (has_seen c.show_next.new.script.seen x)) xs) c.deref-in-loop.ensures.value)

pub returns-then-not-branch : goal.returns-then-not-branch
returns-then-not-branch g c =
    λ single.
    rounds-end g.T.Translator.stands c.args.map.now c.args.sights.items c.loop.left.items c.args.script.now
    c.loop.script c.show_next.new.script c.loop.counter single (c.loop.invariant single)
    (next-same g.T.Translator.stands c.args.map.now c.deref.result.now c.loop.left.items c.loop.script
    c.show_next.new.script c.in_ok-show_next.field-0 false c.deref.ensures.value c.if-not-branch.true
    c.in_ok-show_next.ensures)

pub returns : goal.returns
returns g c =
    λ single.
    let end : c.len-end.result ≡ length c.args.sights.items = c.len-end.ensures ∙ c.args.sights.ok.0 in
    rounds-all g.T.Translator.stands c.args.map.now c.args.sights.items c.loop.left.items c.args.script.now
    c.loop.script c.loop.counter (c.loop.invariant single) (omega (arith, end, c.loop-test.false))
