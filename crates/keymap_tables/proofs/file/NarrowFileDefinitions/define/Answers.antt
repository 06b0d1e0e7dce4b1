use Rattle.keymap_tables.proofs.Common.{◌≡◌, arith, rules, slot_bytes, narrow}
use Rattle.keymap_tables.proofs.RowsFilled.{shows-entry}
use Rattle.keymap_tables.proofs.file.NarrowFileDefinitions.define.Goals as goal

pub returns : goal.returns
returns c =
    λ m shown. let t = c.args.self.now in
    let row : c.put.new.part ≡ slot_bytes narrow c.args.entry = search rules in
    shows-entry narrow t.n_keys t.n_accs t.slots t.accents m shown c.args.slot c.args.entry c.put.new.part
    c.raised-self.result (omega (arith, c.ranges.slot.fits)) c.every_entry_is_within_the_bounds.ensures row c.raised-self.ensures
