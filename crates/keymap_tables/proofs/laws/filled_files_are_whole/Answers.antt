use Rattle.keymap_tables.proofs.RowsFilled.{file-of}
use Rattle.keymap_tables.specs.Layouts.{wide, narrow}
use Rattle.keymap_tables.proofs.laws.filled_files_are_whole.Goals as goal

pub returns-clause-wide : goal.returns-clause-wide
returns-clause-wide c = λ t m s. (s.known, file-of wide t.n_keys t.n_accs t.slots t.accents m s)

pub returns-clause-narrow : goal.returns-clause-narrow
returns-clause-narrow c = λ t m s. (s.known, file-of narrow t.n_keys t.n_accs t.slots t.accents m s)
