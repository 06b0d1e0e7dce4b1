use Rattle.play_core.proofs.Common.{sym, append-nil, codes, names_of_modifiers}
use Rattle.play_core.proofs.Tails.{name_added}
use Rattle.play_core.proofs.tail.push_modifiers.Goals as goal

pub returns-clause-text : goal.returns-clause-text
unfolding names_of_modifiers
returns-clause-text g c =
    name_added _ _ _ _ _ (codes "lshift") _ c.push_if.ensures.text c.on.ensures
    (name_added _ _ _ _ _ (codes "rshift") _ c.push_if-2.ensures.text c.on-2.ensures
    (name_added _ _ _ _ _ (codes "lctrl") _ c.push_if-3.ensures.text c.on-3.ensures
    (name_added _ _ _ _ _ (codes "rctrl") _ c.push_if-4.ensures.text c.on-4.ensures
    (name_added _ _ _ _ _ (codes "lalt") _ c.push_if-5.ensures.text c.on-5.ensures
    (name_added _ _ _ _ _ (codes "ralt") _ c.push_if-6.ensures.text c.on-6.ensures
    (name_added _ _ _ _ _ (codes "ashift") _ c.push_if-7.ensures.text c.on-7.ensures
    (name_added _ _ _ _ _ (codes "meta") _ c.push_if-8.ensures.text c.on-8.ensures (sym (append-nil _)))))))))
