use Rattle.std.proofs.Common.{◌<◌, ◌∙◌, arith, ap, inl, inr, length, sym, true, false}
use Rattle.std.proofs.lemmas.Bool.{eq-eqb}
use Rattle.std.proofs.lemmas.List.{get_or-set_other, length-set}
use Rattle.console_states.proofs.Shared.{place_last}
use Rattle.keymap_cover.proofs.Shared.{set-cases}
use Rattle.keyboard_cover.specs.Allowed.{is_code_pressed}
use Rattle.keyboard_cover.proofs.allowed.pressed_codes.Goals as goal

pub loop-code-preserved : goal.loop-code-preserved
loop-code-preserved c =
    let xs = c.loop-code.actions in
    let i = c.loop-code.code in
    let v = c.is_code_pressed.result in
    let within : i < length xs = omega (arith, c.loop-code.invariant.0, c.loop-code-test.true) in (
      length-set xs i v ∙ c.loop-code.invariant.0,
      (λ j lt. elim (place_last j i lt) [
        | inl below ↦
            get_or-set_other xs i j v false (λ f. omega (arith, below, f)) ∙ c.loop-code.invariant.1 j below
        | inr e ↦
            set-cases xs i j v within true (eq-eqb i j (sym e)) ∙ c.is_code_pressed.ensures
            ∙ ap (is_code_pressed c.args.keyboard.now.groups) (sym e)
      ]),
    )
