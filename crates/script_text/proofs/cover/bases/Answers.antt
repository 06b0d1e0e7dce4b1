use Rattle.script_text.proofs.Common.{◌∙◌, ap}
use Rattle.std.proofs.Common.{unwrap_or}
use Rattle.std.proofs.lemmas.Option.{unwrap_or-slice_get}
use Rattle.keymap_core.specs.Accents.{blank}
use Rattle.script_text.specs.Cover.{bases_of}
use Rattle.script_text.proofs.cover.bases.Goals as goal

pub returns-in-None : goal.returns-in-None
returns-in-None c =
    c.new.ensures.items
    ∙ ap bases_of
    (ap (λ o. unwrap_or o blank) c.in-None.ensures.value
    ∙ unwrap_or-slice_get c.args.map.now.accents c.args.accent blank)
