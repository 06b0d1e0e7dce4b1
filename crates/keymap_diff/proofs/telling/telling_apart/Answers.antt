use Rattle.keymap_diff.proofs.Common.{sym, subst, None, reverse, Shows}
use Rattle.keymap_diff.proofs.Ending.{start-tells}
use Rattle.keymap_diff.specs.Inner.Searches.{IsScript}
use Rattle.keymap_diff.specs.Inner.Showing.{AreShowing}
use Rattle.console_states.proofs.Shared.{ok-then}
use Rattle.keymap_diff.proofs.telling.telling_apart.Goals as goal

pub key_showing-requires : goal.key_showing-requires
key_showing-requires c =
    subst (λ z. AreShowing c.args.old.now c.args.new.now None z 128) (sym c.as_slice.ensures.value) c.in_ok-keys.ensures

pub returns-in-Some : goal.returns-in-Some
returns-in-Some c =
    let m = c.args.old.now in
    let n = c.args.new.now in
    let k = c.in-Some.key in
    let (key, shows) = c.in-Some.ensures in
    ok-then c.tell.result
    (λ x script. start-tells m n k key (subst (λ s. Shows m n None s k) c.start-start.ensures shows) x
    (subst (λ es. IsScript m n (reverse es) k x) c.new.ensures.items script))
    c.tell.ensures
