use Rattle.keymap_cover.proofs.Common.{reverse, subst, Contains, Sight, GoesAlongToRest}
use Rattle.std.proofs.Common.{MatchOption}
use Rattle.console_scripts.specs.Visiting.{CannotSee, IsOnward}
use Rattle.keymap_cover.proofs.Onward.{goes-next, goes-none}
use Rattle.keymap_cover.proofs.one_way.show_next.Goals as goal

pub returns-in_default : goal.returns-in_default
returns-in_default g c =
    λ single.
    let m = c.args.map.now in
    goes-none g.T.Translator.stands m c.args.left.now c.args.script.now
    (λ h stands none.
    subst (λ o. MatchOption o ((x : Sight) → Contains c.args.left.now x → CannotSee m h x)
    (λ events. IsOnward m h c.args.left.now (reverse events.items))) c.in_default.is
    (c.in_ok-events.ensures h stands none))

pub returns : goal.returns
returns g c =
    λ single.
    let m = c.args.map.now in
    let s = g.T.Translator.stands in
    let a = c.args.script.now in
    goes-next s m c.args.left.now (reverse c.in-Some.events.items) a c.walk.new.self c.turn_scroll_off.new.script
    (λ h stands none.
    subst (λ o. MatchOption o ((x : Sight) → Contains c.args.left.now x → CannotSee m h x)
    (λ events. IsOnward m h c.args.left.now (reverse events.items))) c.in-Some.is
    (c.in_ok-events.ensures h stands none))
    single
    (subst (λ xs. GoesAlongToRest m (reverse xs) s a c.walk.new.self) c.deref.ensures.value c.in_ok-walk.ensures.along)
    c.in_ok-walk.ensures.up c.in_ok-turn_scroll_off.ensures
