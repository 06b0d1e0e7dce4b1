-- What the crates above may cite of these proofs. All else stands for this crate alone.
pub use Rattle.keymap_core.proofs.Below.{IsFirstBelow, NoneBelow, below-suc, first_below-found}
pub use Rattle.keymap_core.proofs.Below.{first_below-is, first_below-more, first_below-no, first_below-none}
pub use Rattle.keymap_core.proofs.Below.{first_below-some, gathered-le, gathered-more, gathered-none}
pub use Rattle.keymap_core.proofs.BorneTests.{any-none, any-some, any-start, bears-borne, borne-bears}
pub use Rattle.keymap_core.proofs.BorneTests.{borne-upper, live-upper, slot-stands, some-any, stands-slot}
pub use Rattle.keymap_core.proofs.BorneTests.{upper-is_live}
pub use Rattle.keymap_core.proofs.CodeLaws.{action-has_code, code-read}
pub use Rattle.keymap_core.proofs.Gathering.{Gathers-more, Gathers-same, Gathers-start, StopsIn-more}
pub use Rattle.keymap_core.proofs.Gathering.{passed_on}
pub use Rattle.keymap_core.proofs.HoldingTests.{no-modifier, no-modifiers, some-modifier}
pub use Rattle.keymap_core.proofs.Lists.{All-reversed, along, find-true, get_or-replicate_default}
pub use Rattle.keymap_core.proofs.Lists.{none_unless, option_or-none}
pub use Rattle.keymap_core.proofs.SameActions.{same_action-refl, same_action-true}
