use Rattle.keymap_cover.proofs.Common.{sym, ◌∙◌, between, has_seen}
use Rattle.keymap_cover.proofs.Scripts.{shown-added}
use Rattle.keymap_cover.proofs.seen.Seen.add_sights.Goals as goal

pub returns : goal.returns
returns g c =
    λ h stands.
    let m = c.args.map.now in
    let t = c.args.console.now in
    shown-added m h c.args.key c.pending.result c.selection.result (has_seen c.args.self.now)
    (has_seen c.add_press.new.self) (g.T.Translator.shows_on t) (g.T.Translator.shows_locked t)
    c.selection.ensures
    (λ i. g.met.T.Translator.on_where_it_stands t (between m m) h stands i)
    (λ l. g.met.T.Translator.locked_where_it_stands t (between m m) h stands l)
    (sym (c.pending.ensures ∙ g.met.T.Translator.pending_where_it_stands t (between m m) h stands))
    c.in_ok-add_press.ensures
