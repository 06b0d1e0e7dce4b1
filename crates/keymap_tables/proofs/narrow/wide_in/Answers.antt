use Rattle.keymap_tables.proofs.Wideness.{first-number}
use Rattle.keymap_tables.proofs.narrow.wide_in.Goals as goal

pub returns-in-Some-wide_accent : goal.returns-in-Some-wide_accent
returns-in-Some-wide_accent c =
    λ m shows. first-number m c.in-Some-wide_accent.accent c.in-Some-wide_accent.number (c.in_default.ensures m shows)
    (c.in-Some-wide_accent.ensures m shows)
