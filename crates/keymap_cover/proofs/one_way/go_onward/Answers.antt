use Rattle.keymap_cover.proofs.Common.{zero, suc, ◌≡◌, ◌<◌, ◌==◌, ℕ, false, subst, sym, ◌∙◌, arith, eqb-true}
use Rattle.keymap_cover.proofs.Common.{true≢false}
use Rattle.keymap_cover.proofs.Onward.{ends-there, goes-to_end}
use Rattle.keymap_cover.proofs.Walking.{on-ok}
use Rattle.keymap_cover.proofs.one_way.go_onward.Goals as goal

some-of : (n : ℕ) → (n == 0) ≡ false → 0 < n
some-of zero e = absurd (true≢false e)
some-of (suc n) e = omega arith

pub returns-then-is_empty : goal.returns-then-is_empty
returns-then-is_empty g c =
    λ are.
    ends-there g.T.Translator.stands c.args.map.now c.args.sights.now c.in_ok-left.left.items c.args.script.now are
    c.in_ok-left.ensures
    (sym c.in_ok-left.left.ok.0 ∙ eqb-true _ 0 (sym c.is_empty.ensures ∙ c.if-is_empty.true))

pub returns : goal.returns
returns g c =
    on-ok c.show_rest.result
    (λ rest are.
    goes-to_end g.T.Translator.stands c.args.map.now c.args.sights.now c.in_ok-left.left.items c.args.script.now
    c.show_rest.new.script are c.in_ok-left.ensures
    (subst (λ n. 0 < n) c.in_ok-left.left.ok.0 (some-of _ (sym c.is_empty.ensures ∙ c.if-is_empty.false))) rest)
    c.show_rest.ensures
