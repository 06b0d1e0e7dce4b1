-- The promises, from the laws over the two maps of a console.
use Rattle.keymap_check.proofs.Common.{◌≡◌, ℕ, inl, inr, ap, subst, sym, ◌∙◌, Lock, MapValue, BearsThroughout, Maps}
use Rattle.keymap_check.proofs.Common.{IsPlain}
use Rattle.std.proofs.Common.{◌⊎◌}
use Rattle.console_core.specs.Headline.{IsSafe, HeadlineHolds, LockedByFreshPresses}
use Rattle.console_core.specs.History.{in_force}
use Rattle.console_core.specs.Plain.{plain_look, LooksPlainly}
use Rattle.keymap_check.specs.Promises.{IsOnAfterOddFreshPresses, LooksPlainlyIn, KeepsPromise}
use Rattle.keymap_core.specs.declared.action.Holding.TheVariants as holding

-- a map keeps the promise where it is safe
pub keeps_promise : HeadlineHolds → (m : MapValue) (accepted : Type 0) → (accepted → IsSafe m) → KeepsPromise m accepted
keeps_promise law m accepted safe ms h e keys =
    let headline = law ms h keys in
    let in_force_safe : accepted → IsSafe (in_force ms h) = λ a. subst IsSafe (sym e) (safe a) in record {
      on_only_while_pressed = λ a. headline.on_only_while_pressed (in_force_safe a);
      on_exactly_while_pressed = headline.on_exactly_while_pressed;
      repeats_turn_no_steady_lock = headline.repeats_turn_no_steady_lock;
      off_once_quiet = λ a. headline.off_once_quiet (in_force_safe a);
      as_after_reset_once_quiet = λ a. headline.as_after_reset_once_quiet (in_force_safe a);
    }

-- a key bears the lock throughout in the second map too, where that is the same
same_map : (m : MapValue) (l : Lock) (k : ℕ) (ms : Maps) {P : Type 0} → BearsThroughout m k (holding.Lock l)
    → P ⊎ (ms.second ≡ m) → P ⊎ BearsThroughout ms.second k (holding.Lock l)
same_map m l k ms throughout (inl none) = inl none
same_map m l k ms throughout (inr e) = inr (subst (λ n. BearsThroughout n k (holding.Lock l)) (sym e) throughout)

-- a lock that one key alone bears throughout is on after an odd number of its fresh presses
pub fresh_presses : LockedByFreshPresses → (m : MapValue) (l : Lock) (k : ℕ) → BearsThroughout m k (holding.Lock l)
    → IsOnAfterOddFreshPresses m l k
fresh_presses law m l k throughout ms h e loads keys =
    law ms h keys l k (subst (λ n. BearsThroughout n k (holding.Lock l)) (sym e) throughout)
    (same_map m l k ms throughout loads)

-- in a plain map each look follows from the keys
pub looks_plainly : LooksPlainly → (m : MapValue) → IsPlain m → LooksPlainlyIn m
looks_plainly law m plain ms h e none keys k =
    law ms h (subst IsPlain (sym e) plain) none keys k ∙ ap (λ n. plain_look n k h) e
