use Rattle.keymap_consequences.proofs.Common.{◌≡◌, ◌<◌, ◌∙◌, arith, refl}
use Rattle.keymap_core.specs.Actions.{code_of}
use Rattle.keymap_consequences.proofs.Codes.{IsCodeAlone, code-same, code-small}
use Rattle.keymap_consequences.proofs.Listing.{stand-all, stand-lists, stand-none, stand-push, stand-skip}
use Rattle.keymap_consequences.specs.Consequences.{IsGivenAlone}
use Rattle.keymap_consequences.proofs.taps.given_alone.Goals.{in-Some+in_ok-push, in_default}
use Rattle.keymap_consequences.proofs.taps.given_alone.Goals as goal

pub loop-code-init : goal.loop-code-init
loop-code-init c = λ m n are other. rw (c.new-actions.ensures.items) (stand-none _ _ _)

pub loop-code-preserved : goal.loop-code-preserved
loop-code-preserved c = elim c.match-given_at.branch [
  | in-Some+in_ok-push w ↦
      rw (w.actions-is, w.in_ok-push.ensures.items)
      (λ m n are other.
      let (at, is) = w.in-Some.ensures m n are other in
      stand-push code_of (IsGivenAlone m n) (IsCodeAlone m n) c.loop-code.code c.loop-code.actions.items w.in-Some.action
      (c.loop-code.invariant m n are other) at is)
  | in_default w ↦
      rw w.actions-is
      (λ m n are other.
      stand-skip code_of (IsGivenAlone m n) (IsCodeAlone m n) c.loop-code.code c.loop-code.actions.items
      (c.loop-code.invariant m n are other)
      (λ there. let (a, code, is) = there in w.in_default.ensures m n are other a code is))
]

pub returns : goal.returns
returns c = λ m n are other.
    stand-lists code_of (IsGivenAlone m n) (IsCodeAlone m n) c.loop-code.actions.items
    (stand-all code_of (IsGivenAlone m n) (IsCodeAlone m n) c.loop-code.code c.loop-code.actions.items
    (c.loop-code.invariant m n are other)
    (λ i wanted.
    let (a, at, (known, gives, none)) = wanted in
    let small = code-small a known in omega (arith, at, small, c.loop-code-test.false)))
    (λ a is. (a, refl, is)) (λ a b x y e. code-same a b x.0 y.0 e)
