use Rattle.keymap_core.proofs.Common.{◌≡◌, None, find, map, take, filter_map, bytes_eq, to_ascii_lowercase, action_of}
use Rattle.keymap_core.proofs.Common.{letters_of}
use Rattle.keymap_core.proofs.named.named_among.Given as goal

abbrev pub invariant-loop-code : goal.invariant-loop-code
invariant-loop-code l =
    find (λ action. bytes_eq (map to_ascii_lowercase l.word) (letters_of action))
    (filter_map action_of (take l.code-index l.codes))
    ≡ None
