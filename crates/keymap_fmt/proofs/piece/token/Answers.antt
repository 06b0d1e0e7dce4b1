use Rattle.keymap_fmt.proofs.Common.{rules}
use Rattle.keymap_fmt.proofs.Finding.{piece_found, none_found}
use Rattle.keymap_fmt.proofs.piece.token.Goals as goal

pub returns-in-Ok-Some : goal.returns-in-Ok-Some
returns-in-Ok-Some c =
    let found = rw c.in-Ok-Some.field-0-is at c.in-Ok-Some.ensures in
    piece_found c.args.text.now c.args.at c.args.standing c.requires.inside c.requires.stands c.in-Ok-Some.token
    found.exact found.span

pub returns-in-Ok-None : goal.returns-in-Ok-None
returns-in-Ok-None c = search (rules, none_found)

pub returns-in-Err : goal.returns-in-Err
returns-in-Err c = search (rules, none_found)
