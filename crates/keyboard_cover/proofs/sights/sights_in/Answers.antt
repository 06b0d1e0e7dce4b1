use Rattle.std.proofs.Common.{◌≡◌, false, subst, sym}
use Rattle.std.specs.Prelude.{◌↔◌}
use Rattle.std.specs.Option.{is_some}
use Rattle.console_states.specs.Looks.{IsFirstStuck}
use Rattle.console_states.specs.Sticking.{NeverForgets}
use Rattle.keymap_cover.specs.SeenSights.{has_seen}
use Rattle.keyboard_cover.specs.Sights.{under}
use Rattle.keyboard_cover.proofs.Collecting.{forgets-met, sights-are}
use Rattle.keyboard_cover.proofs.sights.sights_in.Goals as goal

pub returns : goal.returns
returns c =
    let p = c.args.presses.now in
    let m = c.args.map.now in
    let es = c.args.met.now.entries in
    let first = subst (λ u. IsFirstStuck u es c.first_stuck.result) c.keymaps_of-maps.ensures.under
    c.first_stuck.ensures in
    let forgets = subst (λ b. (b ≡ false) ↔ NeverForgets (under p m)) (sym c.is_some.ensures)
    (forgets-met (under p m) es c.first_stuck.result c.requires.0 first) in
    sights-are p m es (record { can = c.add_accents.new.can; forgets = c.is_some.result })
    (has_seen c.in_ok-can.can) (has_seen c.add_met.new.can) c.requires.0 c.in_ok-can.ensures c.in_ok-add_met.ensures
    c.in_ok-add_accents.ensures forgets
