use Rattle.console_scripts.proofs.Common.{◌∙◌, state_of, sym}
use Rattle.console_scripts.proofs.FewPlaces.{marked-plainly}
use Rattle.console_scripts.proofs.few.mark_plainly.Goals as goal

pub returns : goal.returns
returns c =
    let off = c.is_any_locked.ensures.unlocked c.if-is_any_locked.false in
    marked-plainly c.args.map.now (state_of c.args.held.now) c.args.marks.now c.mark_in.new.marks c.requires off
    (sym c.is_meta_held.ensures ∙ c.if-is_meta_held.false) c.mark_in.ensures.gains
