use Rattle.keymap_fmt.proofs.Common.{drop, sym, ◌∙◌, ap, arith, drop-drop, is_space, leading, pieces_after}
use Rattle.keymap_text.proofs.Shared.{leading_rest, to_end}
use Rattle.keymap_fmt.proofs.Finding.{spaces_passed}
use Rattle.keymap_fmt.proofs.piece.spaces_end.Goals as goal

pub returns-clause-same : goal.returns-clause-same
returns-clause-same c = λ s.
    let text = c.args.text.now in
    let n = c.space_len.result in
    spaces_passed n s (drop c.args.at text)
    (omega (arith, c.space_len.ensures.value, ap (leading is_space) (to_end text c.args.at)))
    ∙ ap (pieces_after 0 s) (drop-drop n c.args.at text)

pub returns-clause-behind : goal.returns-clause-behind
returns-clause-behind c =
    let text = c.args.text.now in
    let at = c.args.at in
    ap (leading is_space) (sym (drop-drop c.space_len.result at text)
    ∙ ap (λ n. drop n (drop at text)) (c.space_len.ensures.value ∙ ap (leading is_space) (to_end text at)))
    ∙ leading_rest is_space (drop at text)
