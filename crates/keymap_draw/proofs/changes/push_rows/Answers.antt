use Rattle.keymap_draw.proofs.Common.{◌++◌, ◌∷◌, [], ◌∙◌, ap, arith, is_seen, sym}
use Rattle.std.proofs.Math.ListN.{drop_of_length-le}
unfoldable use Rattle.keymap_draw.specs.Changes.{rows_behind}
use Rattle.keymap_draw.proofs.Scans.{item_all}
use Rattle.keymap_draw.proofs.changes.push_rows.Goals as goal

pub row_with-requires-clause-character : goal.row_with-requires-clause-character
row_with-requires-clause-character c =
    ap is_seen c.index-line-i.is
    ∙ item_all is_seen c.args.line.now c.loop-i.i c.index-line-i.result (omega (arith, c.loop-i-test.true)) c.requires

pub returns : goal.returns
unfolding rows_behind
returns c =
    c.in_ok-push.ensures.items ∙ ap (λ row. c.loop-i.rows.items ++ row ∷ []) c.new.ensures
    ∙ sym (ap (λ l. c.loop-i.rows.items ++ rows_behind c.loop-i.row.items l)
    (drop_of_length-le c.args.line.now (omega arith)))
    ∙ c.loop-i.invariant.rows
