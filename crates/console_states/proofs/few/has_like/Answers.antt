use Rattle.std.proofs.Common.{rules}
use Rattle.console_states.proofs.Common.{◌≡◌, ◌∙◌, sym, Caps, Num, Scroll, Alt, Contains, selection_of, state_of}
use Rattle.console_states.specs.Returning.{IsUnlocked}
use Rattle.console_states.proofs.Likes.{same-selection, told-alike}
use Rattle.console_states.proofs.few.has_like.Goals as goal

pub returns-then-is_any_locked-is_locked : goal.returns-then-is_any_locked-is_locked
returns-then-is_any_locked-is_locked c =
    let h = c.state-item.result in
    let s = state_of c.args.held.now in
    let there : Contains c.args.states.now h = search (rules, c.state-item.is, c.loop-state-test.true) in
    let equal : c.selection.result ≡ c.selection-selection.result =
    same-selection c.selection.result c.selection-selection.result (sym c.eq.ensures ∙ c.if-eq.true) in
    let same : selection_of (state_of h) ≡ selection_of s =
    sym c.selection.ensures ∙ equal ∙ c.selection-selection.ensures in
    let on = c.is_any_locked.result in
    let is_locked = c.is_any_locked-is_locked.result in
    let alike : on ≡ is_locked = search (rules, c.if-is_any_locked-is_locked.true) in
    let told = c.is_any_locked.ensures in
    let asked = c.is_any_locked-is_locked.ensures in
    λ is. (
      h,
      there,
      same,
      told-alike (IsUnlocked (state_of h)) (IsUnlocked s) on is_locked alike
          (λ is off. told.locked is (off Caps) (off Num) (off Scroll) (off Alt)) asked.unlocked,
      told-alike (IsUnlocked s) (IsUnlocked (state_of h)) is_locked on (sym alike)
          (λ is off. asked.locked is (off Caps) (off Num) (off Scroll) (off Alt)) told.unlocked,
    )
