use Rattle.console_core.proofs.Common.{◌<◌, ◌∙◌, ap, arith, not, refl, if◌then◌else◌, lock_bit, mark_bit, pending_from}
use Rattle.console_core.proofs.Common.{word_mark, word_lock, word_second}
use Rattle.console_core.proofs.Keeping.{kept-same}
use Rattle.console_core.proofs.WordBits.{bit-turn, lock_mark, same_lock_bit, below_flag, field-turn, lock_bit-lt}
use Rattle.console_core.proofs.word_store.WordStoreStore.turn.Goals as goal

pub returns : goal.returns
returns c =
    let word = c.args.self.now.word in
    let at = lock_bit c.args.which in
    let h : at < 12 = lock_bit-lt c.args.which in
    rw c.lock_bit.ensures.value (kept-same _ _
    (λ a. bit-turn word at (mark_bit a) (omega arith)
    ∙ ap (λ b. if b then not (word_mark word a) else word_mark word a) (lock_mark a c.args.which))
    (λ l. bit-turn word at (lock_bit l) (omega arith)
    ∙ ap (λ b. if b then not (word_lock word l) else word_lock word l) (same_lock_bit c.args.which l))
    (λ j. refl)
    (ap pending_from (field-turn word at (omega arith)))
    (bit-turn word at 20 (omega arith) ∙ ap (λ b. if b then not (word_second word) else word_second word)
    (below_flag at (omega arith))))
