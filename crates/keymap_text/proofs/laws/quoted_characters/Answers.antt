use Rattle.keymap_text.proofs.Common.{rules}
use Rattle.keymap_text.proofs.Quoted.{quoted_found, quoted_broken, quoted_refused, quoted_reason}
use Rattle.keymap_text.proofs.laws.quoted_characters.Goals as goal

pub returns : goal.returns
returns c = search (rules, quoted_found, quoted_broken, quoted_refused, quoted_reason)
