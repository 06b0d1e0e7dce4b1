use Rattle.keymap_text.proofs.Common.{◌≡◌, ℕ, sym, ◌∙◌, arith, Result, Ok, Stop, rules}
use Rattle.keymap_text.proofs.Scanning.{stays, takes_same, blank_advances, comment_advances}
use Rattle.keymap_text.proofs.Tails.{open_comment, comment_some}
use Rattle.keymap_text.proofs.scanner.take_any_piece.Goals as goal

ok_is : (n k : ℕ) → ◌≡◌ {A = Result ℕ Stop} (Ok n) (Ok k) → n ≡ k
ok_is n k h = cc

pub returns-then-is_blank_byte-clause-takes : goal.returns-then-is_blank_byte-clause-takes
returns-then-is_blank_byte-clause-takes g c =
    takes_same (λ s. blank_advances s c.args.rest.now c.requires.some
    (sym c.is_blank_byte.ensures ∙ c.if-is_blank_byte.true))

pub returns-then-n-rest-clause-takes : goal.returns-then-n-rest-clause-takes
returns-then-n-rest-clause-takes g c = search (rules, takes_same, comment_advances)

pub returns-then-n-rest-clause-open : goal.returns-then-n-rest-clause-open
returns-then-n-rest-clause-open g c = search (rules, ok_is, comment_some)

pub returns-else-n-rest-clause-open : goal.returns-else-n-rest-clause-open
returns-else-n-rest-clause-open g c = λ _.
    open_comment c.args.rest.now c.requires.some c.if-rest-ne35.false (omega (arith, c.line_len-n.ensures.value))

pub returns-else-n-rest-clause-takes : goal.returns-else-n-rest-clause-takes
returns-else-n-rest-clause-takes g c = takes_same (λ s. stays s c.args.rest.now)
