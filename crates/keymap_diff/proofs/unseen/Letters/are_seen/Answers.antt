use Rattle.keymap_diff.proofs.Marks.{no_setting}
use Rattle.keymap_diff.proofs.unseen.Letters.are_seen.Goals as goal
use Rattle.keymap_diff.proofs.unseen.Letters.are_seen.Goals.{then-are_seen_under, else-are_seen_under}
use Rattle.keymap_diff.proofs.unseen.Letters.are_seen.Goals.{then-are_seen_under-2, else-are_seen_under-2}

pub returns-else-are_seen_under-3-clause-unseen : goal.returns-else-are_seen_under-3-clause-unseen
returns-else-are_seen_under-3-clause-unseen c are last meets =
    elim c.if-are_seen_under-2.branch [
      | then-are_seen_under-2 w ↦ absurd (let e = w.value-is in let f = c.if-are_seen_under-3.false in cc)
      | else-are_seen_under-2 w ↦ elim c.if-are_seen_under.branch [
        | then-are_seen_under v ↦ absurd (let e = v.value-is in let f = w.if-are_seen_under-2.false in cc)
        | else-are_seen_under v ↦
            no_setting c.args.self.slot c.args.self.old c.args.self.new c.args.map.now
            (c.are_seen_under.ensures.unseen are v.if-are_seen_under.false)
            (v.are_seen_under-else-are_seen_under.ensures.unseen are
            (let e = v.value-is in let f = w.if-are_seen_under-2.false in cc))
            (w.are_seen_under-else-are_seen_under-2.ensures.unseen are
            (let e = w.value-is in let f = c.if-are_seen_under-3.false in cc))
            (c.are_seen_under-else-are_seen_under-3.ensures.unseen are last) meets
      ]
    ]
