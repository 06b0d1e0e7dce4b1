use Rattle.std.proofs.Common.{rules}
use Rattle.keyboard_cover.proofs.Collecting.{gains-none, state-sees}
use Rattle.keyboard_cover.proofs.sights.add_state.Goals as goal

pub returns-in_ok-add_keys : goal.returns-in_ok-add_keys
returns-in_ok-add_keys c = search (rules, state-sees)

pub returns-else-is_accent_pending-is_some : goal.returns-else-is_accent_pending-is_some
returns-else-is_accent_pending-is_some c = search (rules, gains-none)
