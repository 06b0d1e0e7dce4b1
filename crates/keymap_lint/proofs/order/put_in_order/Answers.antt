use Rattle.keymap_lint.proofs.Common.{rules}
use Rattle.std.proofs.lemmas.List.Sorted.{answers_always}
use Rattle.keymap_lint.proofs.order.put_in_order.Goals as goal

pub returns : goal.returns
returns c = record {
  same = c.in_ok-sort_by_key.ensures.permutation;
  in_order = c.in_ok-sort_by_key.ensures.sorted (λ d. d.place) (answers_always _ _ _ (λ f a r g h. search rules));
  stable = c.in_ok-sort_by_key.ensures.stable (λ d. d.place) (answers_always _ _ _ (λ f a r g h. search rules));
}
