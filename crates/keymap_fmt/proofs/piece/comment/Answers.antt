use Rattle.keymap_fmt.proofs.Common.{rules}
use Rattle.keymap_fmt.proofs.Finding.{comment_found}
use Rattle.keymap_fmt.proofs.piece.comment.Goals.{then-end-text, else-end-text}
use Rattle.keymap_fmt.proofs.piece.comment.Goals as goal

pub returns : goal.returns
returns c = search (rules, then-end-text, comment_found, else-end-text)
