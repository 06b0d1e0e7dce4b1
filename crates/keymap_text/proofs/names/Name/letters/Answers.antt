use Rattle.keymap_text.proofs.Common.{take, ap}
use Rattle.keymap_text.proofs.names.Name.letters.Goals as goal

pub returns : goal.returns
returns c = ap (λ n. take n c.args.self.now.0) c.name_len-n.ensures.value
