use Rattle.console_scripts.proofs.Common.{◌<◌, ◌≤◌, ℕ, List, subst, ap, ◌∙◌, length, get_or, take_all}
use Rattle.console_scripts.proofs.Tapping.{MadeByPairs, pairs-none, pairs-more}
use Rattle.console_scripts.specs.Inner.Places.{Gains}
use Rattle.console_scripts.specs.Inner.Tapped.{Composes, HasCharacter}
use Rattle.console_scripts.specs.declared.explored.Symbol.TheVariants as symbol
use Rattle.console_scripts.proofs.typed.add_pairs.Goals as goal

pub loop-pair-init : goal.loop-pair-init
loop-pair-init c = pairs-none c.args.map.now c.args.plain.now c.args.index c.args.accent.now.pairs c.args.typed.now

pub loop-pair-preserved : goal.loop-pair-preserved
loop-pair-preserved c =
    let n = c.loop-pair.pair-index in
    let e = c.pairs-pair-items.ensures.value in
    let lt : n < length c.args.accent.now.pairs =
    subst (λ (ps : List (ℕ × ℕ)). n < length ps) e c.loop-pair-test.true in
    pairs-more c.args.map.now c.args.plain.now c.args.index n c.args.accent.now.pairs c.args.typed.now c.loop-pair.typed
    c.add_made.new.typed
    lt c.loop-pair.invariant
    (subst (λ x. Gains (HasCharacter c.loop-pair.typed) (HasCharacter c.add_made.new.typed)
    (λ z. Composes c.args.map.now c.args.plain.now c.args.index z x))
    (c.base_of.ensures ∙ ap (λ (ps : List (ℕ × ℕ)). symbol.Character (get_or ps n (0, 0)).0) e)
    c.in_ok-add_made.ensures)

pub returns : goal.returns
returns c =
    let n = c.loop-pair.pair-index in
    subst (λ ps. Gains (HasCharacter c.args.typed.now) (HasCharacter c.loop-pair.typed)
    (MadeByPairs c.args.map.now c.args.plain.now c.args.index ps))
    (take_all n c.args.accent.now.pairs
    (subst (λ (ps : List (ℕ × ℕ)). length ps ≤ n) c.pairs-pair-items.ensures.value c.loop-pair-test.false))
    c.loop-pair.invariant
