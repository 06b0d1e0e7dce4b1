use Rattle.keymap_diff.proofs.Common.{arith, subst, sym, reverse, ap, ◌∙◌, ◌++◌, events_along}
use Rattle.keymap_diff.proofs.Apart.{found-told}
use Rattle.keymap_diff.proofs.Clearing.{shown-place}
use Rattle.keymap_diff.proofs.Ending.{goes-back, told-tells}
use Rattle.keymap_diff.specs.Inner.Searches.{IsWithin}
use Rattle.console_states.proofs.Shared.{ok-then}
use Rattle.keymap_diff.proofs.nearest.told.Goals as goal

pub go_out-requires-clause-place : goal.go_out-requires-clause-place
go_out-requires-clause-place c = shown-place _ _ _ _ _ c.requires.0.shown c.in-Some.at c.in-Some.is

pub go_out-requires-clause-back : goal.go_out-requires-clause-back
go_out-requires-clause-back c = goes-back _ _ c.args.nearest.now c.requires.0

pub returns-in_ok-go_out-in-Some : goal.returns-in_ok-go_out-in-Some
returns-in_ok-go_out-in-Some c =
    let m = c.args.both.now.old.now in
    let n = c.args.both.now.new.now in
    let x = c.args.nearest.now in
    let (s, clear) = c.requires in
    ok-then c.tell.result
    (λ t script.
    let (q, same, told) =
    found-told m n x (s, clear) c.in-Some.at c.in-Some.is (reverse c.go_out.new.events.items)
    (λ path trail.
    c.in_ok-go_out-in-Some.ensures path trail ∙ ap (λ z. events_along path ++ reverse z) c.new-events.ensures.items)
    t script in
    let within : IsWithin q x.reach = subst (λ o. IsWithin q o) (sym same) (omega arith) in
    told-tells m n q t (λ p. clear p q within) told)
    c.tell.ensures
