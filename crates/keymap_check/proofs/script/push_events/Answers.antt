use Rattle.keymap_check.proofs.Common.{◌≡◌, ◌≤◌, ◌<◌, ◌+◌, ap, sym, ◌∙◌, arith, length, length-append, lit<, rules}
use Rattle.keymap_check.proofs.Common.{append-nil, array_vec_len, gathered, gathered-none, gathered-more, event_at, ℕ}
use Rattle.keymap_check.proofs.Common.{List, Event}
use Rattle.std.proofs.Common.{append_assoc}
use Rattle.keymap_core.proofs.Shared.{gathered-le}
use Rattle.keymap_check.proofs.script.push_events.Goals.{in-Some, in-None}
use Rattle.keymap_check.proofs.script.push_events.Goals as goal

pub loop-bit-init : goal.loop-bit-init
loop-bit-init c =
    rw (gathered-none (event_at c.args.is_press c.args.keys.now c.args.set.bits c.args.except.bits))
    (sym (append-nil _))

pub push-requires : goal.push-requires
push-requires c =
    let f : ℕ → List Event = event_at c.args.is_press c.args.keys.now c.args.set.bits c.args.except.bits in
    let i = c.loop-bit.bit in
    let more : length (gathered f (i + 1)) ≡ length (gathered f i) + 1 =
    ap length (gathered-more f i) ∙ length-append _ _ ∙ ap (λ l. length (gathered f i) + length l) c.in-Some.ensures in
    let most : length (gathered f (i + 1)) ≤ length (gathered f 4) =
    gathered-le f (i + 1) 4 (omega (arith, c.loop-bit-test.true)) in
    let now : array_vec_len c.loop-bit.script ≡ array_vec_len c.args.script.now + length (gathered f i) =
    ap length c.loop-bit.invariant ∙ length-append _ _ in
    let lt : array_vec_len c.loop-bit.script < 11 = omega (arith, more, most, now, c.requires) in
    (lit< tt, lt)

pub loop-bit-preserved : goal.loop-bit-preserved
loop-bit-preserved c = search (rules, gathered-more, in-Some, append_assoc, in-None, append-nil)
