use Rattle.keymap_text.proofs.Common.{arith, refl, sym, ◌∙◌, ap₂, true, false, Faulty}
use Rattle.keymap_text.proofs.Judged.{taken_whole, refused_whole}
use Rattle.std.proofs.lemmas.Grind.{common_steps}
use Rattle.keymap_text.proofs.defining.take_all.Goals as goal

pub returns-in-Err-clause-takes : goal.returns-in-Err-clause-takes
returns-in-Err-clause-takes g c = λ shows.
    (true, refused_whole c.in-Err.ensures.takes c.new-grammar.ensures shows)

pub returns-in-Ok-take_end-clause-takes : goal.returns-in-Ok-take_end-clause-takes
returns-in-Ok-take_end-clause-takes g c = λ shows.
    let a = taken_whole c.in-Ok.ensures.takes refl c.new-grammar.ensures shows in
    let e = c.in-Ok-take_end.ensures.ends a.0 a.1 in (e.0, e.1, a.2 ∙ e.2 c.in-Ok.n)

pub returns-in-Err-take_end-clause-takes : goal.returns-in-Err-take_end-clause-takes
returns-in-Err-take_end-clause-takes g c = λ shows.
    let a = taken_whole c.in-Ok.ensures.takes refl c.new-grammar.ensures shows in
    let e = c.in-Err-take_end.ensures.ends a.0 a.1 in (
      false,
      a.2 ∙ e.1 c.in-Ok.n ∙ ap₂ (λ k q. Faulty k q false) (sym c.behind.ensures.kind) (sym c.behind.ensures.at),
    )

pub returns-in-Err-take_end-clause-inside : goal.returns-in-Err-take_end-clause-inside
returns-in-Err-take_end-clause-inside g c = grind (arith, common_steps)
