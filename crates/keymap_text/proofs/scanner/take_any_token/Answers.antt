use Rattle.keymap_text.proofs.Common.{refl, length-take-le, rules}
use Rattle.keymap_text.proofs.Scanning.{takes_token, takes_fault}
use Rattle.keymap_text.proofs.InFront.{front_fits}
use Rattle.keymap_text.proofs.Tails.{open_word, open_quote, found_here, refused_here}
use Rattle.keymap_text.proofs.scanner.take_any_token.Goals as goal

pub returns-then-not-is_whole-clause-open : goal.returns-then-not-is_whole-clause-open
returns-then-not-is_whole-clause-open g c = search (rules, open_word)

pub item_of-requires : goal.item_of-requires
item_of-requires g c = search (rules, front_fits, length-take-le)

pub returns-in-Ok-clause-takes : goal.returns-in-Ok-clause-takes
returns-in-Ok-clause-takes g c =
    takes_token (found_here c.args.rest.now c.in-Found.kind c.in-Found.n c.item_of.result c.requires.some
    c.in-Found.ensures.value c.in-Found.ensures.fits (c.is_whole.ensures.whole c.if-not-is_whole.false)
    c.item_of.ensures) c.in-Ok.ensures.steps

pub returns-in-Err-clause-takes : goal.returns-in-Err-clause-takes
returns-in-Err-clause-takes g c =
    takes_fault (found_here c.args.rest.now c.in-Found.kind c.in-Found.n c.item_of.result c.requires.some
    c.in-Found.ensures.value c.in-Found.ensures.fits (c.is_whole.ensures.whole c.if-not-is_whole.false)
    c.item_of.ensures) refl c.in-Err.ensures.steps

pub returns-in-Refused-clause-takes : goal.returns-in-Refused-clause-takes
returns-in-Refused-clause-takes g c = record {
  took = λ m h. refused_here _ c.args.rest.now c.in-Refused.kind c.requires.some c.in-Refused.ensures.value;
}

pub returns-in-Unfinished-clause-open : goal.returns-in-Unfinished-clause-open
returns-in-Unfinished-clause-open g c = λ _. open_quote c.args.rest.now c.requires.some c.in-Unfinished.ensures.value
