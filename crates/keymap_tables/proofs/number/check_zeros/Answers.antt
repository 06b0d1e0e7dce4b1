use Rattle.keymap_tables.proofs.Common.{rules}
use Rattle.keymap_tables.proofs.Numbers.{zero-here, zero-none}
use Rattle.keymap_tables.proofs.number.check_zeros.Goals as goal

pub returns-then-bytes-place-ne0-clause-first : goal.returns-then-bytes-place-ne0-clause-first
returns-then-bytes-place-ne0-clause-first c = search (rules, zero-here, zero-none)
