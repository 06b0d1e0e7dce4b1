use Rattle.console_core.proofs.Common.{◌<◌, ◌∙◌, ap, arith, true, false, refl, if◌then◌else◌, mark_bit, lock_bit}
use Rattle.console_core.proofs.Common.{pending_from, word_mark, word_lock, word_second}
use Rattle.console_core.proofs.Keeping.{kept-same}
use Rattle.console_core.proofs.WordBits.{bit-set, bit-clear, mark_lock, same_mark_bit, below_flag, field-set}
use Rattle.console_core.proofs.WordBits.{field-clear, mark_bit-lt, lock_bit-lt}
use Rattle.console_core.proofs.word_store.WordStoreStore.set_mark.Goals as goal

pub returns-then-on : goal.returns-then-on
returns-then-on c =
    let word = c.args.self.now.word in
    let at = mark_bit c.args.holding in
    let h : at < 16 = mark_bit-lt c.args.holding in
    rw (c.mark_bit.ensures.value, c.if-on.true) (kept-same _ _
    (λ a. bit-set word at (mark_bit a) (omega arith) ∙ ap (λ b. if b then true else word_mark word a)
    (same_mark_bit c.args.holding a))
    (λ l. bit-set word at (lock_bit l) (omega arith) ∙ ap (λ b. if b then true else word_lock word l)
    (mark_lock c.args.holding l))
    (λ j. refl)
    (ap pending_from (field-set word at h))
    (bit-set word at 20 (omega arith) ∙ ap (λ b. if b then true else word_second word) (below_flag at h)))

pub returns-else-on : goal.returns-else-on
returns-else-on c =
    let word = c.args.self.now.word in
    let at = mark_bit c.args.holding in
    let h : at < 16 = mark_bit-lt c.args.holding in
    rw (c.mark_bit.ensures.value, c.if-on.false) (kept-same _ _
    (λ a. let j : mark_bit a < 16 = mark_bit-lt a in
    bit-clear word at (mark_bit a) (omega arith) (omega arith) ∙ ap (λ b. if b then false else word_mark word a)
    (same_mark_bit c.args.holding a))
    (λ l. let j : lock_bit l < 12 = lock_bit-lt l in
    bit-clear word at (lock_bit l) (omega arith) (omega arith) ∙ ap (λ b. if b then false else word_lock word l)
    (mark_lock c.args.holding l))
    (λ j. refl)
    (ap pending_from (field-clear word at h))
    (bit-clear word at 20 (omega arith) (omega arith) ∙ ap (λ b. if b then false else word_second word)
    (below_flag at h)))
