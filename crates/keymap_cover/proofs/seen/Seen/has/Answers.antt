use Rattle.keymap_cover.proofs.Common.{◌≡◌, subst, sym, ap, ◌∙◌, list_any, is_pair, has_seen}
use Rattle.keymap_cover.proofs.Marking.{pair-value}
use Rattle.keymap_cover.proofs.seen.Seen.has.Goals as goal

pub returns-in-Pair : goal.returns-in-Pair
returns-in-Pair c =
    subst (λ x. c.has_pair.result ≡ has_seen c.args.self.now x) (sym c.in-Pair.is)
    (pair-value _ c.in-Pair.accent c.in-Pair.character c.has_pair.result c.has_pair.ensures.among
    c.has_pair.ensures.missing
    ∙ ap (λ z. list_any (is_pair c.in-Pair.accent c.in-Pair.character) z) c.deref-in-Pair.ensures.value)
