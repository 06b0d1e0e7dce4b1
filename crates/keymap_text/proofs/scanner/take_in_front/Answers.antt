use Rattle.keymap_text.proofs.Common.{refl, ap, is_blank}
use Rattle.keymap_text.proofs.Scanning.{takes_same, takes_on, faults_on, blanks_advance, blank_advances}
use Rattle.keymap_text.proofs.scanner.take_in_front.Goals as goal

pub returns-then-rest-eq10-clause-takes : goal.returns-then-rest-eq10-clause-takes
returns-then-rest-eq10-clause-takes g c =
    takes_same (λ s. blank_advances s c.args.rest.now c.requires.some (ap is_blank c.if-rest-eq10.true))

pub returns-then-blanks-rest-clause-takes : goal.returns-then-blanks-rest-clause-takes
returns-then-blanks-rest-clause-takes g c =
    let b = c.first_spaces-blanks.ensures in takes_same (λ s. blanks_advance s _ c.args.rest.now b.blank b.length)

pub returns-in-Ok-clause-takes : goal.returns-in-Ok-clause-takes
returns-in-Ok-clause-takes g c =
    let b = c.first_spaces-blanks.ensures in
    takes_on (takes_same (λ s. blanks_advance s _ c.args.rest.now b.blank b.length)) refl c.in-Ok.ensures.takes

pub returns-in-Err-clause-takes : goal.returns-in-Err-clause-takes
returns-in-Err-clause-takes g c =
    let b = c.first_spaces-blanks.ensures in
    faults_on (takes_same (λ s. blanks_advance s _ c.args.rest.now b.blank b.length)) refl c.in-Err.ensures.takes
    c.behind.ensures.kind c.behind.ensures.at
