use Rattle.play_core.proofs.Common.{◌≡◌, ◌++◌, ◌∷◌, [], false, subst, arith, length-append, rules}
use Rattle.play_core.proofs.Common.{err_from_is_err_and, Sent, IsReadTo}
use Rattle.play_core.proofs.ScriptLines.{read-more, read-out}
use Rattle.play_core.proofs.script.read_plain_lines.Goals as goal

pub loop-told-init : goal.loop-told-init
loop-told-init c = search rules

pub returns-in_err-push-clause-err : goal.returns-in_err-push-clause-err
returns-in_err-push-clause-err c =
    let p = err_from_is_err_and c.from_residual.result c.from_residual.ensures.1 in
    rw p.1
    (λ script number read. read-out script _ _ _ _ _ (c.loop-told.invariant.read script number read)
    c.in-Some.ensures.event)

pub loop-told-preserved : goal.loop-told-preserved
loop-told-preserved c =
    let one : Sent = record { lost = false; what = c.in-Some.told.0 } in
    let items : c.push.new.self.items ≡ c.loop-told.events.items ++ one ∷ [] = c.in_ok-push.ensures.items in
    let long = length-append c.loop-told.events.items (one ∷ []) in
    let more = c.loop-told.invariant.more in
    record {
      read = λ script number read.
          rw items
          (subst (λ n. IsReadTo script n (c.loop-told.events.items ++ one ∷ []) c.in-Some.told.1.now) (omega arith)
          (read-more script c.loop-told.rest.now c.in-Some.told.1.now _ c.loop-told.events.items c.in-Some.told.0
          (c.loop-told.invariant.read script number read) c.in-Some.ensures.event));
      more = rw items (omega arith);
      shorter = omega (arith, c.in-Some.ensures.shorter, c.loop-told.invariant.shorter);
    }
