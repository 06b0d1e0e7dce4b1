-- Actions kept by their codes.
use Rattle.console_core.proofs.Common.{ne_eqb, false_from_ne_true, ◌≡◌, ℕ, ◌<◌, Bool, true, false, List, length}
use Rattle.console_core.proofs.Common.{set, Option, None, Some, refl, ap, if◌then◌else◌, ◌==◌, ◌≢◌}
use Rattle.console_core.proofs.Common.{same_action-true, get_or-replicate_default, get_or, Action, same_action, sym}
use Rattle.console_core.proofs.Common.{◌∙◌}
use Rattle.std.proofs.Common.{replicate}
use Rattle.std.specs.Prelude.{option_map}
use Rattle.keymap_core.specs.Actions.{code_of, action_of}
use Rattle.console_core.specs.PackedWord.{action_of_byte, code_memory}
use Rattle.console_core.proofs.Places.{get_or-set_if}

-- a code other than 0 is that of its action
pub action_of_byte-some : (code : ℕ) → code ≢ 0 → action_of_byte code ≡ action_of code
action_of_byte-some code not_zero = rw (ne_eqb code 0 not_zero) refl

-- another code is that of another action
pub action_of_byte-other : (code : ℕ) (held expected : Action) → code ≢ 0 → action_of code ≡ Some held
    → code_of held ≡ code
    → code ≢ code_of expected
    → Some false ≡ option_map (λ a. same_action a expected) (action_of_byte code)
action_of_byte-other code held expected not_zero read same ne =
    sym (ap (option_map (λ a. same_action a expected)) (action_of_byte-some code not_zero ∙ read)
    ∙ ap Some (false_from_ne_true _ (λ t. ne (sym same ∙ ap code_of (same_action-true held expected t)))))

-- the bytes of all keys
pub codes-start : (k : ℕ) → code_memory (replicate 128 0) k ≡ None
codes-start k = ap action_of_byte (get_or-replicate_default 128 k 0)

-- a code that is written under a condition
kept_if : (b : Bool) (code old : ℕ) (a : Option Action) → action_of_byte code ≡ a
    → action_of_byte (if b then code else old) ≡ (if b then a else action_of_byte old)
kept_if true code old a e = e
kept_if false code old a e = refl

-- after a code was written, its key has the action, and each other key its own
pub codes-set : (codes : List ℕ) (i j k code : ℕ) (a : Option Action) → i ≡ j → i < length codes
    → action_of_byte code ≡ a
    → code_memory (set codes i code) k ≡ (if j == k then a else code_memory codes k)
codes-set codes i j k code a s lt e =
    ap action_of_byte (get_or-set_if codes i k code 0 lt) ∙ kept_if (i == k) code (get_or codes k 0) a e
    ∙ ap (λ n. if n == k then a else code_memory codes k) s
