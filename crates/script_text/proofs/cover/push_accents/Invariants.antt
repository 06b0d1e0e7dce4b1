use Rattle.script_text.proofs.Common.{◌≡◌, ◌++◌, flat_map, range_with_len, accent_line, is_in}
use Rattle.script_text.proofs.cover.push_accents.Given as goal

abbrev pub invariant-loop-accent : goal.invariant-loop-accent
invariant-loop-accent l =
    l.text.items ≡ l.fn.text.items ++ flat_map
    (accent_line (is_in l.listing) l.listing.word.now l.listing.map.now) (range_with_len 0 l.accent)
