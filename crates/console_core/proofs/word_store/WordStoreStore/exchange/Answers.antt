use Rattle.console_core.proofs.Common.{◌<◌, ◌∙◌, ap, arith, not, refl, if◌then◌else◌, lit<, lock_bit, mark_bit}
use Rattle.console_core.proofs.Common.{pending_from, word_mark, word_lock}
use Rattle.console_core.proofs.Keeping.{kept-same}
use Rattle.console_core.proofs.WordBits.{bit-turn, flag_above, field-exchange, lock_bit-lt, mark_bit-lt}
use Rattle.console_core.proofs.word_store.WordStoreStore.exchange.Goals as goal

pub returns : goal.returns
returns c =
    let word = c.args.self.now.word in
    kept-same _ _
    (λ a. bit-turn word 20 (mark_bit a) (lit< tt) ∙ ap (λ b. if b then not (word_mark word a) else word_mark word a)
    (flag_above (mark_bit a) (mark_bit-lt a)))
    (λ l. let h : lock_bit l < 12 = lock_bit-lt l in
    bit-turn word 20 (lock_bit l) (lit< tt) ∙ ap (λ b. if b then not (word_lock word l) else word_lock word l)
    (flag_above (lock_bit l) (omega arith)))
    (λ j. refl)
    (ap pending_from (field-exchange word))
    (bit-turn word 20 20 (lit< tt))
