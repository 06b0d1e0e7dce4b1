use Rattle.keymap_tables.proofs.Common.{◌∙◌, [], sym, append-nil, StopsIn-more, passed_on}
use Rattle.keymap_core.proofs.Shared.{Gathers-start}
use Rattle.keymap_tables.proofs.Images.{image-parts}
use Rattle.keymap_tables.proofs.Sizes.{slot-blank, accent-blank}
use Rattle.keymap_tables.proofs.write.write_image.Goals as goal

pub push_table-requires-clause-empty : goal.push_table-requires-clause-empty
push_table-requires-clause-empty g c = slot-blank c.args.layout

pub push_table-requires-2-clause-empty : goal.push_table-requires-2-clause-empty
push_table-requires-2-clause-empty g c = accent-blank c.args.layout

pub returns-in_err-push_table-clause-bytes : goal.returns-in_err-push_table-clause-bytes
returns-in_err-push_table-clause-bytes g c =
    passed_on _ _ _ _ c.from_residual.ensures.1
    (StopsIn-more _ _ _ _ _ _ (image-parts c.args.layout c.args.map.now)
    (c.in_err-push_table.ensures.bytes _ [] (Gathers-start _ _ c.new-stream.ensures.empty c.new-stream.ensures.none)))

pub returns-in_err-push_table-2-clause-bytes : goal.returns-in_err-push_table-2-clause-bytes
returns-in_err-push_table-2-clause-bytes g c =
    passed_on _ _ _ _ c.from_residual-in_err-push_table-2.ensures.1
    (StopsIn-more _ _ _ [] _ _ (image-parts c.args.layout c.args.map.now ∙ sym (append-nil _))
    (c.in_err-push_table-2.ensures.bytes _ _ (c.in_ok-push_table.ensures.bytes _ []
    (Gathers-start _ _ c.new-stream.ensures.empty c.new-stream.ensures.none))))

pub returns-clause-bytes : goal.returns-clause-bytes
returns-clause-bytes g c =
    rw (image-parts c.args.layout c.args.map.now)
    (c.finish.ensures.bytes _ _
    (c.in_ok-push_table-2.ensures.bytes _ _
    (c.in_ok-push_table.ensures.bytes _ []
    (Gathers-start _ _ c.new-stream.ensures.empty c.new-stream.ensures.none))))
