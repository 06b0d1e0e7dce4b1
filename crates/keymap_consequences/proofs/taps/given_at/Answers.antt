use Rattle.keymap_consequences.proofs.Common.{◌≡◌, ◌∙◌, MatchOption, None, Option, Some, false, subst, sym, true, ℕ}
use Rattle.std.proofs.Common.{get_or}
use Rattle.keymap_core.specs.Actions.{action_of, code_of}
use Rattle.keymap_core.specs.declared.action.Action.{Action}
use Rattle.keymap_core.specs.Maps.{MapValue}
use Rattle.keymap_consequences.proofs.Codes.{given-here, given-none, given-push, given-there}
use Rattle.keymap_consequences.specs.Consequences.{IsGivenAlone}
use Rattle.console_scripts.specs.Typing.{AreGiven}
use Rattle.std.proofs.Common.{List, Bool}
use Rattle.keymap_consequences.proofs.taps.given_at.Goals as goal

told : (m n : MapValue) (these others : List Bool) (c : ℕ) (o : Option Action) → AreGiven m these → AreGiven n others
    → get_or these c false ≡ true → get_or others c false ≡ false → action_of c ≡ o
    → MatchOption o ((a : Action) → code_of a ≡ c → IsGivenAlone m n a → ⊥)
    (λ a. (code_of a ≡ c) × IsGivenAlone m n a)
told m n these others c None are other has lacks e = λ a code is. given-none m n c e (a, code, is)
told m n these others c (Some b) are other has lacks e = given-push m n these others c b are other has lacks e

pub returns-then-not-these-from : goal.returns-then-not-these-from
returns-then-not-these-from c = λ m n are other a code is.
    given-here m n c.args.these.now c.args.code are
    (subst (λ i. get_or c.args.these.now i false ≡ false) c.from.ensures c.if-not-these-from.true) (a, code, is)

pub returns-then-others-from : goal.returns-then-others-from
returns-then-others-from c = λ m n are other a code is.
    given-there m n c.args.others.now c.args.code other
    (subst (λ i. get_or c.args.others.now i false ≡ true) c.from-2.ensures c.if-others-from.true) (a, code, is)

pub returns : goal.returns
returns c = λ m n are other.
    told m n c.args.these.now c.args.others.now c.args.code c.from_code.result are other
    (subst (λ i. get_or c.args.these.now i false ≡ true) c.from.ensures c.if-not-these-from.false)
    (subst (λ i. get_or c.args.others.now i false ≡ false) c.from-2.ensures c.if-others-from.false)
    (sym c.from_code.ensures)
