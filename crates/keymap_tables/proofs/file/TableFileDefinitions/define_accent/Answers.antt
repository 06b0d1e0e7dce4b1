use Rattle.keymap_tables.proofs.Common.{◌≡◌, arith, rules, accent_bytes, wide}
use Rattle.keymap_tables.proofs.RowsFilled.{shows-accent}
use Rattle.keymap_tables.proofs.file.TableFileDefinitions.define_accent.Goals as goal

pub returns : goal.returns
returns c =
    λ m shown. let t = c.args.self.now in
    let row : c.put.new.part ≡ accent_bytes wide c.args.accent = search rules in
    shows-accent wide t.n_keys t.n_accs t.slots t.accents m shown c.args.index c.args.accent c.put.new.part
    c.raised-self.result (omega (arith, c.requires)) c.every_accent_is_within_the_bounds.ensures row c.raised-self.ensures
