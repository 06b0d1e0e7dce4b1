use Rattle.keymap_text.proofs.Common.{◌+◌, ◌++◌, ℕ, List, refl, sym, ◌∙◌, ap, subst, arith, length-take-le, Keeps}
use Rattle.keymap_text.proofs.Common.{Reading, GrammarState, Advances, Refuses, state_view, IsPlace, grammar_view}
use Rattle.keymap_text.proofs.Splitting.{to_end}
use Rattle.keymap_text.proofs.Standing.{taken, broken, of_map}
use Rattle.keymap_text.proofs.reading.Reading.take.Goals as goal

pub returns-in-Ok : goal.returns-in-Ok
returns-in-Ok c =
    let r = c.args.self.now in
    let bytes = c.args.bytes.now in
    let window = c.as_slice-window.result.now in
    let n = c.in-Ok.n in
    let passed = c.pass.ensures in
    taken r c.pass.new.self c.keep.new.self bytes window n c.requires.reader
    (c.as_slice-window.ensures.value ∙ c.window-window.ensures
    ∙ ap (λ (p : List ℕ). p ++ bytes) c.as_slice.ensures.value)
    (subst (λ (s : GrammarState). Advances (state_view r) s window n) (sym (ap (λ (s : Reading). state_view s) passed))
    (of_map (state_view r) (grammar_view c.scan.new.grammar) c.scan.new.into window n
    (c.in-Ok.ensures.takes.took r.map refl)))
    (subst (λ (s : Reading). IsPlace s.grammar.place s.grammar.accent) (sym passed) c.in-Ok.ensures.leaves.1)
    (ap (λ (s : Reading). s.offset) passed
    ∙ ap (λ k. r.offset + k) (length-take-le n window c.in-Ok.ensures.leaves.0))
    (ap (λ (s : Reading). s.line) passed) c.in-Ok.ensures.open
    (subst (λ (t : List ℕ). Keeps c.pass.new.self c.keep.new.self t) (to_end window n) c.keep.ensures)

pub returns-in-Err : goal.returns-in-Err
returns-in-Err c =
    let r = c.args.self.now in
    let bytes = c.args.bytes.now in
    let window = c.as_slice-window.result.now in
    let at = c.in-Err.stop.at in
    broken r bytes window at c.fault.result c.requires.reader
    (c.as_slice-window.ensures.value ∙ c.window-window.ensures
    ∙ ap (λ (p : List ℕ). p ++ bytes) c.as_slice.ensures.value)
    (subst (λ f. Refuses (state_view r) window f at) (sym c.fault.ensures.kind) (c.in-Err.ensures.takes.took r.map refl))
    (omega (arith, c.fault.ensures.offset, length-take-le at window c.in-Err.ensures.leaves)) c.fault.ensures.line
