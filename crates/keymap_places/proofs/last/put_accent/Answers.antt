use Rattle.keymap_places.proofs.Common.{arith}
use Rattle.keymap_places.proofs.LastOf.{accent_put, accent_left}
use Rattle.keymap_places.proofs.last.put_accent.Goals as goal

pub returns-then-index-lt-ACCENT_LIMIT : goal.returns-then-index-lt-ACCENT_LIMIT
returns-then-index-lt-ACCENT_LIMIT c = λ ds h.
    accent_put c.args.last.now ds c.args.definition c.args.index c.requires (omega arith) h

pub returns-else-index-lt-ACCENT_LIMIT : goal.returns-else-index-lt-ACCENT_LIMIT
returns-else-index-lt-ACCENT_LIMIT c = λ ds h.
    accent_left c.args.last.now ds c.args.definition c.args.index c.requires (omega arith) h
