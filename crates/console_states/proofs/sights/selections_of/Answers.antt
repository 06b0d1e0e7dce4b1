use Rattle.console_states.proofs.Common.{◌≡◌, ◌+◌, ◌∙◌, List, [], length, refl, subst, sym, arith, IsWith, rules, Adds}
use Rattle.console_states.proofs.Common.{IsInSome, HasSelection, Selection, selection_of, state_of, true≢false}
use Rattle.std.specs.Cmp.{booleans_Decides}
use Rattle.console_states.proofs.Adding.{adds-as, adds-none, adds-one, adds-place, enumerates}
use Rattle.console_states.proofs.sights.selections_of.Goals.{then-is_accent_pending-is_pending+in_ok-add_selection}
use Rattle.console_states.proofs.sights.selections_of.Goals.{else-is_accent_pending-is_pending}
use Rattle.console_states.proofs.sights.selections_of.Goals as goal

pub loop-place-init : goal.loop-place-init
loop-place-init c = search (rules, adds-none)

pub loop-place-preserved : goal.loop-place-preserved
loop-place-preserved c =
    let old = c.loop-place.selections.items in
    let s = state_of c.entry.result.0 in
    let same = booleans_Decides c.is_accent_pending.result c.args.is_pending in
    let more : (now : List Selection) → Adds (λ y. HasSelection c.args.is_pending y s) old now
    → Adds (λ y. IsInSome c.args.met.now.entries (c.loop-place.place + 1) (HasSelection c.args.is_pending y)) [] now =
    λ now. adds-place (λ y. HasSelection c.args.is_pending y) c.args.met.now.entries c.loop-place.place c.entry.result
    old now c.entry.ensures c.loop-place.invariant in
    elim c.if-is_accent_pending-is_pending.branch [
      | then-is_accent_pending-is_pending+in_ok-add_selection w ↦
          let now = w.add_selection.new.selections.items in
          rw w.selections-is (more now
          (adds-as (λ y. selection_of s ≡ y) (λ y. HasSelection c.args.is_pending y s) old now
          (λ y e. (sym c.is_accent_pending.ensures ∙ same.0 w.if-is_accent_pending-is_pending.true, e)) (λ y (on, e). e)
          (adds-one _ old now (subst (λ y. IsWith y old now) w.selection.ensures w.in_ok-add_selection.ensures))))
      | else-is_accent_pending-is_pending w ↦
          rw w.selections-is (more old (adds-none _ old old refl
          (λ y (on, e). true≢false (sym (same.1 (c.is_accent_pending.ensures ∙ on))
          ∙ w.if-is_accent_pending-is_pending.false))))
    ]

pub returns : goal.returns
returns c =
    let es = c.args.met.now.entries in
    let e : c.loop-place.place ≡ length es =
    omega (arith, c.loop-place-test.false, c.loop-place.auto.place-end, c.len-place-end.ensures.len) in
    enumerates _ c.loop-place.selections.items
    (rw (← e) c.loop-place.invariant)
