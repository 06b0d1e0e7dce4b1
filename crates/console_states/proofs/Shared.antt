-- What the crates above may cite of these proofs. All else stands for this crate alone.
pub use Rattle.console_states.proofs.Adding.{adds-both, adds-none, adds-one, empty-none}
pub use Rattle.console_states.proofs.Beginning.{reached-one, start-one}
pub use Rattle.console_states.proofs.Concluding.{all-few}
pub use Rattle.console_states.proofs.Paths.{path-split, presses-append}
pub use Rattle.console_states.proofs.Common.{Char, get_or_read_under}
pub use Rattle.console_states.proofs.Deciding.{safe_never_sticks_between}
pub use Rattle.console_states.proofs.Following.{follows-again, follows-look, follows-nothing, follows-selection}
pub use Rattle.console_states.proofs.Following.{kind_of, not_holding}
pub use Rattle.console_states.proofs.Following.{same_mods}
pub use Rattle.console_states.proofs.Going.{going-sees, pending-along, pending-is, pending-move, tap-pending}
pub use Rattle.console_states.proofs.GoingBack.{push-reversed, searched-back}
pub use Rattle.console_states.proofs.KeyLists.{keys-with, keys-without, read-below}
pub use Rattle.console_states.proofs.Looks.{look_tells}
pub use Rattle.console_states.proofs.Minding.{minded-along, pending_in}
pub use Rattle.console_states.proofs.Minding.{minded_are_offers, minded_reaches_more, offers_are_minded, tap-moves}
pub use Rattle.console_states.proofs.Minding.{pends_as_minded}
pub use Rattle.console_states.proofs.Nearest.{met-along, below-fewer, holds-nearer, is-nearest, is-nowhere, all-met}
pub use Rattle.console_states.proofs.Reaching.{ended-alone, met-alone, reaches-more}
pub use Rattle.console_states.proofs.Results.{ok-then, on_ok-then}
pub use Rattle.console_states.proofs.SameStates.{are_same, each-lock, home-start, same-tells, same_states}
pub use Rattle.console_states.proofs.SameStates.{scroll_or_other, tells-same}
pub use Rattle.console_states.proofs.Scripts.{Reached, holder-pressed, reached-more}
pub use Rattle.console_states.proofs.Searching.{all-done, place_last, presses-map, same_entry, steps-to}
pub use Rattle.console_states.proofs.Seeing.{AreShort, PendsIn, admitted-before, admitted-spared, follows-pending}
pub use Rattle.console_states.proofs.Seeing.{keeps-held, pends-in, sights_are_reachable}
pub use Rattle.console_states.proofs.Seeing.{stands-in, taken-dead, takes-pending}
pub use Rattle.console_states.proofs.Shown.{IsShort, short-admitted, short-along, short-start, short-tap}
pub use Rattle.console_states.proofs.Sparing.{AreSpared, IsKeptBelow, stays, stays-on}
pub use Rattle.console_states.proofs.Standing.{hold-self, idle-none, other-remembered, pressed-look, stands-from}
pub use Rattle.console_states.proofs.Standing.{minded-path, minded-stands, stands-minded, stands-plain, stands-move}
pub use Rattle.console_states.proofs.Standing.{stands-reset, stands-start, dead-tapped, exact-action, stands-tapped}
pub use Rattle.console_states.proofs.Staying.{KeepsHeld, LeadsOn, Stays, emptied, emptied-kept, emptied-none}
pub use Rattle.console_states.proofs.Staying.{stays-press, stays-release}
pub use Rattle.console_states.proofs.Tapping.{exact-character, scroll-tapped}
pub use Rattle.console_states.proofs.Visible.{all-seen, any-member, same-truth, sees-all, sights-some, some-member}
pub use Rattle.console_states.proofs.Visits.{minded-scroll, first-along, none-along, off-along, path-none, path-first}
pub use Rattle.console_states.proofs.Visits.{path-off, press-flips, press-presses, press-turns}
pub use Rattle.console_states.proofs.Visits.{press-turns_none, scroll-along, scroll-tap}
