use Rattle.keymap_fmt.proofs.Common.{◌<◌, ◌∷◌, length, refl, sym, ◌∙◌, ap, arith, drop, pieces, pieces_after, rendered}
use Rattle.keymap_fmt.proofs.Common.{rendered_from, behind}
use Rattle.keymap_fmt.specs.Inner.Reading.{piece_view}
use Rattle.keymap_fmt.specs.Quoted.{change_by, changed, left_by, written_from}
use Rattle.keymap_fmt.proofs.Writing.{piece_written, next_written, none_written, end_written, longer}
use Rattle.keymap_fmt.proofs.whole.laid_out.Goals as goal

pub loop-piece-preserved : goal.loop-piece-preserved
loop-piece-preserved c =
    let text = c.args.text.now in
    let q = c.args.quoting in
    let l = c.loop-piece in
    let p = c.in-Some.piece in
    let k = c.behind-standing in
    record {
      within = c.in-Some.ensures.within;
      column = c.in-Ok.ensures.column;
      same = piece_written l.laid.items c.push_changed.new.laid.items (rendered (written_from q 0 (pieces text)))
          l.state c.push_changed.new.state (changed (change_by q l.left p.part p.bytes.now) (piece_view p))
          (written_from q l.left (pieces_after 0 l.standing (drop l.at text)))
          (written_from q c.left_by-left.result (pieces_after 0 k.result (drop p.end text)))
          (next_written q l.left c.left_by-left.result (piece_view p)
          (pieces_after 0 l.standing (drop l.at text)) (pieces_after 0 k.result (drop p.end text))
          (c.in-Some.ensures.others
          ∙ ap (λ u. piece_view p ∷ pieces_after 0 u (drop p.end text)) (sym k.ensures)) c.left_by-left.ensures)
          c.in-Ok.ensures.text c.in-Ok.ensures.state l.invariant.same;
    }

pub returns-then-len-gt-LIMIT-clause-refused : goal.returns-then-len-gt-LIMIT-clause-refused
returns-then-len-gt-LIMIT-clause-refused c =
    let text = c.args.text.now in
    let q = c.args.quoting in
    let l = c.loop-piece in
    let p = c.in-Some.piece in
    let all = rendered (written_from q 0 (pieces text)) in
    let us = pieces_after 0 l.standing (drop l.at text) in
    let rest = pieces_after 0 (behind p.part) (drop p.end text) in
    let n = left_by q l.left p.part p.bytes.now in
    let long : 1048576 < length c.push_changed.new.laid.items =
    omega (arith, c.if-len-gt-LIMIT.true, c.len.ensures, c.push_changed.new.laid.ok.0) in
    longer 1048576 c.push_changed.new.laid.items (rendered_from c.push_changed.new.state (written_from q n rest)) all
    (piece_written l.laid.items c.push_changed.new.laid.items all l.state c.push_changed.new.state
    (changed (change_by q l.left p.part p.bytes.now) (piece_view p)) (written_from q l.left us) (written_from q n rest)
    (next_written q l.left n (piece_view p) us rest c.in-Some.ensures.others refl)
    c.in-Ok.ensures.text c.in-Ok.ensures.state l.invariant.same) long

pub returns-clause-laid : goal.returns-clause-laid
returns-clause-laid c =
    let l = c.loop-piece in
    end_written l.laid.items c.end_line.new.laid.items
    (rendered (written_from c.args.quoting 0 (pieces c.args.text.now))) l.state
    (written_from c.args.quoting l.left (pieces_after 0 l.standing (drop l.at c.args.text.now)))
    (none_written c.args.quoting l.left _ c.in_default.ensures) c.in-Ok-end_line.ensures l.invariant.same

pub returns-then-len-gt-LIMIT-2-clause-refused : goal.returns-then-len-gt-LIMIT-2-clause-refused
returns-then-len-gt-LIMIT-2-clause-refused c =
    let l = c.loop-piece in
    let same = end_written l.laid.items c.end_line.new.laid.items
    (rendered (written_from c.args.quoting 0 (pieces c.args.text.now))) l.state
    (written_from c.args.quoting l.left (pieces_after 0 l.standing (drop l.at c.args.text.now)))
    (none_written c.args.quoting l.left _ c.in_default.ensures) c.in-Ok-end_line.ensures l.invariant.same in
    omega (arith, c.if-len-gt-LIMIT-2.true, c.len-2.ensures, c.end_line.new.laid.ok.0, ap length same)
