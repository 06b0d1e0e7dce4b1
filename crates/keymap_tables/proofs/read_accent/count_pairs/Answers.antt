use Rattle.keymap_tables.proofs.Common.{arith, sym, ◌∙◌, ◌+◌, ◌*◌, number_size, rules}
use Rattle.keymap_tables.proofs.AccentImages.{pairs-counted}
use Rattle.keymap_tables.proofs.Sizes.{row-inside}
use Rattle.keymap_tables.proofs.read_accent.count_pairs.Goals as goal

pub read_number-requires : goal.read_number-requires
read_number-requires c =
    omega (arith, c.requires, row-inside (number_size c.args.layout) 105 (1 + 2 * c.loop-pair.pair) (omega arith))

pub returns-then-read_number-eq0-clause-value : goal.returns-then-read_number-eq0-clause-value
returns-then-read_number-eq0-clause-value c =
    pairs-counted c.args.layout c.args.bytes.now c.loop-pair.pair (omega arith) c.loop-pair.invariant
    (λ below. sym c.read_number.ensures ∙ c.if-read_number-eq0.true)

pub returns-clause-value : goal.returns-clause-value
returns-clause-value c = search (rules, pairs-counted)
