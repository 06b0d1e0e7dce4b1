use Rattle.keymap_cover.proofs.Common.{[], ◌∷◌, subst, sym, GoesAlong, rules}
use Rattle.console_core.specs.declared.event.Event.TheVariants.{Press}
use Rattle.keymap_cover.proofs.Walking.{by-taken, no-load, up-taken}
use Rattle.keymap_cover.proofs.script.Script.deliver.Goals as goal

pub returns-in_ok-press-in-Press : goal.returns-in_ok-press-in-Press
returns-in_ok-press-in-Press g c =
    let m = c.args.map.now in
    let s = g.T.Translator.stands in
    let old = c.args.self.now in
    let now = c.press.new.self in
    subst (λ e. GoesAlong m (e ∷ []) s old now) (sym c.in-Press.is)
    (by-taken s m (Press c.in-Press.key) old now c.in_ok-press-in-Press.ensures)

pub returns-in_ok-reset-in_default : goal.returns-in_ok-reset-in_default
returns-in_ok-reset-in_default g c =
    no-load g.T.Translator.stands c.args.map.now c.args.event.now c.args.self.now c.reset.new.self
    (λ k e. c.in_default.not-Press k e) (λ k e. c.in_default.not-Release k e)
    (c.in_ok-reset-in_default.ensures.along c.args.map.now)

pub returns-in_ok-up-in-Release : goal.returns-in_ok-up-in-Release
returns-in_ok-up-in-Release g c = search (rules, up-taken)
