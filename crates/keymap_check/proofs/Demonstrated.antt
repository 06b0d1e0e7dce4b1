-- A demonstration leaves a modifier on.
use Rattle.keymap_check.proofs.Common.{◌≡◌, List, reverse, All, Event, MapValue, HasKey, IsQuiet, bit_keys, tried}
use Rattle.keymap_check.proofs.Common.{leaves_modifier_on, demonstration_of, Some}
use Rattle.std.proofs.lemmas.List.Elements.{All-weaker}
use Rattle.keymap_check.specs.Shown.{IsPressOrRelease, LeavesModifierOn}
use Rattle.keymap_check.proofs.Quiet.{script-quiet}
use Rattle.keymap_check.proofs.TriedScripts.{IsKeyEvent, by_keys-script, given-holds}
use Rattle.keymap_core.proofs.Shared.{All-reversed, find-true}

pub demonstrations_leave_modifiers_on : (m : MapValue) (events : List Event) → demonstration_of m ≡ Some events
    → LeavesModifierOn m (reverse events)
demonstrations_leave_modifiers_on m events e =
    let given = given-holds m (leaves_modifier_on m) events in
    let keys = All-reversed IsKeyEvent events (given (All IsKeyEvent) (by_keys-script m) e) in (
      All-weaker IsKeyEvent HasKey (λ x y. y.0) (reverse events) keys,
      All-weaker IsKeyEvent IsPressOrRelease (λ x y. y.1) (reverse events) keys,
      given (λ s. IsQuiet (reverse s)) (λ k a b lt. script-quiet (bit_keys m k) k a b) e,
      find-true (leaves_modifier_on m) (tried m) events e,
    )
