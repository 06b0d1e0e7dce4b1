-- How many events the sets of a script give.
use Rattle.keymap_check.proofs.Common.{zero, suc, ◌≡◌, ℕ, ◌≤◌, ◌+◌, ◌*◌, Bool, true, false, ◌&&◌, not, List, [], length}
use Rattle.keymap_check.proofs.Common.{length-append, Option, Some, None, ap, arith, if◌then◌else◌, ◌==◌, ◌%◌, ◌^◌}
use Rattle.keymap_check.proofs.Common.{gathered, has_bit, key_at, event_if, event_at, events_of, is_chosen}
use Rattle.std.proofs.Math.Nat.{zero-div}
use Rattle.console_core.specs.Columns.{bit}

-- a bit of a set gives at most one event
one_each : (p t : Bool) (o : Option ℕ) → length (if t then event_if p o else []) ≤ bit t
one_each p true None = omega arith
one_each p true (Some k) = omega arith
one_each p false o = omega arith

-- a bit gives at most two events in all
two_each : (a b z : Bool) → z ≡ false → bit (a && not z) + bit (a && not b) + bit (b && not a) + bit (b && not z) ≤ 2
two_each _ _ true e = cc
two_each true true false e = omega arith
two_each true false false e = omega arith
two_each false true false e = omega arith
two_each false false false e = omega arith

-- the empty set has no bit
pub no_bit : (i : ℕ) → has_bit 0 i ≡ false
no_bit i = ap (λ n. (n % 2) == 1) (zero-div (2 ^ i))

-- the bits below n give at most two events each
pub lengths : (keys : List (Option ℕ)) (a b n : ℕ)
    → length (gathered (event_at true keys a 0) n) + length (gathered (event_at false keys a b) n)
    + length (gathered (event_at true keys b a) n) + length (gathered (event_at false keys b 0) n)
    ≤ 2 * n
unfolding gathered
lengths keys a b zero = omega arith
lengths keys a b (suc n) =
    let h = lengths keys a b n in
    let two = two_each (has_bit a n) (has_bit b n) (has_bit 0 n) (no_bit n) in
    let p = one_each true (is_chosen a 0 n) (key_at keys n) in
    let q = one_each false (is_chosen a b n) (key_at keys n) in
    let r = one_each true (is_chosen b a n) (key_at keys n) in
    let s = one_each false (is_chosen b 0 n) (key_at keys n) in
    omega (
      arith,
      h,
      two,
      p,
      q,
      r,
      s,
      length-append (gathered (event_at true keys a 0) n) (event_at true keys a 0 n),
      length-append (gathered (event_at false keys a b) n) (event_at false keys a b n),
      length-append (gathered (event_at true keys b a) n) (event_at true keys b a n),
      length-append (gathered (event_at false keys b 0) n) (event_at false keys b 0 n),
    )

-- the four bits give at most eight events
pub room : (keys : List (Option ℕ)) (a b : ℕ)
    → length (events_of true keys a 0) + length (events_of false keys a b) + length (events_of true keys b a)
    + length (events_of false keys b 0)
    ≤ 8
room keys a b = lengths keys a b 4
