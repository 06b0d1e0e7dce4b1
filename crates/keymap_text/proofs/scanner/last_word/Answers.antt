use Rattle.keymap_text.proofs.Common.{◌∙◌, ap, sym, arith, eqb-true, at, accept, grammar_view, rules}
use Rattle.keymap_text.proofs.Scanning.{not_none}
use Rattle.keymap_text.proofs.Tails.{end_none, end_comment, end_word, end_refused, end_quote, open_not_refused}
use Rattle.keymap_text.proofs.Tails.{open_stands, open_few}
use Rattle.keymap_text.proofs.scanner.last_word.Goals as goal

pub token_front-requires-clause-stands : goal.token_front-requires-clause-stands
token_front-requires-clause-stands g c = search (rules, open_stands, not_none)

pub item_of-requires : goal.item_of-requires
item_of-requires g c = λ _. open_few c.args.tail.now c.requires.open c.if-tail-eq35.false

pub returns-then-is_empty-clause-takes : goal.returns-then-is_empty-clause-takes
returns-then-is_empty-clause-takes g c = λ m h.
    (m, h, λ q. end_none _ c.args.tail.now q (eqb-true _ _ (sym c.is_empty.ensures ∙ c.if-is_empty.true)))

pub returns-then-tail-eq35-clause-takes : goal.returns-then-tail-eq35-clause-takes
returns-then-tail-eq35-clause-takes g c = search (rules, end_comment, not_none)

pub returns-in-Ok-clause-takes : goal.returns-in-Ok-clause-takes
unfolding accept
returns-in-Ok-clause-takes g c = λ m h.
    let s = c.in-Ok.ensures.steps m h in
    let old = at m (grammar_view c.args.grammar.now) in (
      s.0,
      s.1,
      λ q. end_word old (at s.0 (grammar_view c.accept.new.self)) c.args.tail.now c.in-Found.field-1 q c.in-Found.kind
          (not_none _ (sym c.is_empty.ensures ∙ c.if-is_empty.false)) c.in-Found.ensures.value c.requires.open
          (ap (accept old) (sym c.item_of.ensures) ∙ s.2),
    )

pub returns-in-Err-clause-takes : goal.returns-in-Err-clause-takes
unfolding accept
returns-in-Err-clause-takes g c = λ m h.
    let old = at m (grammar_view c.args.grammar.now) in (
      omega arith,
      λ q. end_refused old c.args.tail.now c.in-Found.field-1 q c.in-Found.kind c.in-Err.kind
          (not_none _ (sym c.is_empty.ensures ∙ c.if-is_empty.false))
          c.in-Found.ensures.value c.requires.open
          (ap (accept old) (sym c.item_of.ensures) ∙ c.in-Err.ensures.steps m h),
    )

pub returns-in-Refused-clause-takes : goal.returns-in-Refused-clause-takes
returns-in-Refused-clause-takes g c = search (rules, open_not_refused, not_none)

pub returns-in-Unfinished-clause-takes : goal.returns-in-Unfinished-clause-takes
returns-in-Unfinished-clause-takes g c = search (rules, end_quote, not_none)
