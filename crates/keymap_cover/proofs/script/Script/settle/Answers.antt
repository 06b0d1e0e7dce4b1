use Rattle.keymap_cover.proofs.Common.{[], refl, sym, ◌∙◌, between, has_seen}
use Rattle.keymap_cover.proofs.Scripts.{rests, not-some}
use Rattle.keymap_cover.proofs.Walking.{to-rest}
use Rattle.keymap_cover.proofs.script.Script.settle.Goals as goal

pub returns-else-is_some-clause-along : goal.returns-else-is_some-clause-along
returns-else-is_some-clause-along g c =
    λ m h (stands, script).
    let old = c.args.self.now in (
      h,
      (stands, script),
      (([], refl), (λ l. refl)),
      rests m h old.events.items old.pressed (has_seen old.seen) script c.requires
          (sym (c.is_any_on.ensures (between m m) h stands) ∙ c.if-is_any_on.false)
          (sym (g.met.T.Translator.pending_where_it_stands old.console (between m m) h stands) ∙ sym c.pending.ensures
          ∙ not-some c.pending.result (sym c.is_some.ensures ∙ c.if-is_some.false)),
    )

pub returns-in_ok-reset-clause-along : goal.returns-in_ok-reset-clause-along
returns-in_ok-reset-clause-along g c =
    λ m. to-rest g.T.Translator.stands m c.args.self.now c.reset.new.self (c.in_ok-reset.ensures.along m)
