use Rattle.keymap_tables.proofs.Common.{◌≡◌, ◌≤◌, length, drop, AccentValue, first_result, IsAccentIn, accent_bytes}
use Rattle.keymap_tables.proofs.tables.composed_in.Given as goal

-- No pair passed has the base.
abbrev pub invariant-loop-pair : goal.invariant-loop-pair
invariant-loop-pair l =
    (a : AccentValue) → IsAccentIn l.layout a → l.bytes ≡ accent_bytes l.layout a
    → (l.pair ≤ length a.pairs) × (first_result (drop l.pair a.pairs) l.base ≡ first_result a.pairs l.base)
