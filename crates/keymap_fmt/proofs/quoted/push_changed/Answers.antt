use Rattle.keymap_fmt.proofs.Common.{ap, arith, length}
use Rattle.keymap_fmt.proofs.Changed.{quote_size}
use Rattle.keymap_fmt.proofs.quoted.push_changed.Goals as goal

pub push_piece-requires-in-Quoted-clause-bytes : goal.push_piece-requires-in-Quoted-clause-bytes
push_piece-requires-in-Quoted-clause-bytes c =
    omega (arith, quote_size c.in-Quoted.c, ap length c.as_slice.ensures.value, ap length c.quote-bytes.ensures)
