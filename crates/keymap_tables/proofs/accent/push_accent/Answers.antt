use Rattle.keymap_tables.proofs.Common.{arith, number_bytes, numbers_of, number_size, common_steps, rules}
use Rattle.keymap_tables.proofs.AccentImages.{length-numbers}
use Rattle.keymap_tables.proofs.Rows.{rows-written, rows-ended}
use Rattle.keymap_tables.proofs.Sizes.{row-next, row-inside, rows-size, accent-small}
use Rattle.keymap_tables.proofs.accent.push_accent.Goals as goal

pub push_number-requires : goal.push_number-requires
push_number-requires c = search (rules, row-inside, accent-small)

pub loop-index-preserved : goal.loop-index-preserved
loop-index-preserved c =
    let l = c.args.layout in
    let i = c.loop-index.index in
    record {
      bytes =
          rows-written (number_bytes l) (number_size l) (numbers_of c.args.accent.now) i _ 0 _ _
          (omega (arith, length-numbers c.args.accent.now)) c.number_at.ensures c.loop-index.invariant.bytes
          c.push_number.ensures.bytes;
      each = search (rules, row-next);
    }

pub push_zeros-requires : goal.push_zeros-requires
push_zeros-requires c = search (rules, rows-size, accent-small)

pub returns-clause-bytes : goal.returns-clause-bytes
returns-clause-bytes c = grind (arith, common_steps, length-numbers, rows-ended)
