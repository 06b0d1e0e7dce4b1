use Rattle.keymap_places.proofs.Common.{◌+◌, ◌-◌, length, get_or, arith, rules}
use Rattle.keymap_places.proofs.Common.{length-append, get_or-append_seam}
use Rattle.keymap_places.proofs.LineStarts.{first_start, start_pushed, end_within}
use Rattle.keymap_places.proofs.text_line.starts_of.Goals as goal

pub loop-end-init : goal.loop-end-init
loop-end-init c = search (rules, first_start)

pub loop-end-preserved : goal.loop-end-preserved
loop-end-preserved c = search (rules, length-append, get_or-append_seam, start_pushed)

pub returns : goal.returns
returns c =
    let l = c.loop-end in
    let b = c.args.text.now in
    let k = length l.starts.items - 1 in
    let each = l.invariant.starts.each k (omega (arith, l.invariant.starts.some)) in
    let within = end_within b (k + 1) (get_or l.starts.items k 0) each in
    record { lines = l.invariant.starts; last = omega (arith, l.invariant.end, c.loop-end-test.false) }
