use Rattle.keymap_text.proofs.Common.{◌≡◌, ◌≤◌, ◌==◌, take, count_by}
use Rattle.keymap_text.proofs.token.few_line_feeds.Given as goal

abbrev pub invariant-loop-c : goal.invariant-loop-c
invariant-loop-c l = record {
  value : l.n ≡ count_by (λ c. c == 10) (take l.c-index l.bytes);
  bound : l.n ≤ l.c-index;
}
