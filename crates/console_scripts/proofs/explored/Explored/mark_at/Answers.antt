use Rattle.std.proofs.Common.{rules}
use Rattle.console_scripts.proofs.Common.{◌+◌, subst, Contains, map_of_explored}
use Rattle.console_scripts.proofs.Marking.{gathered-known, gathered-none, gathered-there, gathered-selected}
use Rattle.console_scripts.specs.Inner.Places.{IsSelected}
use Rattle.console_scripts.proofs.explored.Explored.mark_at.Goals as goal

pub returns-then-is_among : goal.returns-then-is_among
returns-then-is_among c =
    gathered-known c.args.self.now c.args.is_plain c.args.place c.args.marks.now c.args.known.now.items
    c.entry.result c.entry.ensures
    (subst (λ y. Contains c.args.known.now.items y) c.selection-selection.ensures
    (subst (λ ys. Contains ys c.selection-selection.result) c.as_slice.ensures.value
    (c.is_among.ensures c.if-is_among.true))) c.requires.gathered

pub returns-then-not-has_taps : goal.returns-then-not-has_taps
returns-then-not-has_taps c = search (rules, gathered-none)

pub returns-then-are_all : goal.returns-then-are_all
returns-then-are_all c =
    gathered-selected c.args.self.now c.args.is_plain (c.args.place + 1) _ c.args.known.now.items _
    c.selection-selection.result c.in_ok-push.ensures.items
    (λ p sel.
    let (k, lt, shows) =
    subst (λ y. IsSelected (map_of_explored c.args.self.now) y p) c.selection-selection.ensures sel in
    c.mark_in-are_all.ensures.all c.if-are_all.true p k lt shows)
    (gathered-there c.args.self.now c.args.is_plain c.args.place c.args.marks.now _ c.args.known.now.items
    c.entry.result c.entry.ensures (c.has_taps.ensures.route c.if-not-has_taps.false)
    (c.has_taps.ensures.plain c.if-not-has_taps.false) c.mark_in-are_all.ensures.gains c.requires.gathered)

pub returns : goal.returns
returns c = search (rules, gathered-there)
