use Rattle.keymap_places.proofs.Common.{◌≡◌, ◌≤◌, ◌-◌, length, not, tokens, tokens_from}
use Rattle.std.specs.Prelude.{◌&&◌, ◌||◌}
use Rattle.std.specs.List.{list_all, list_any}
use Rattle.keymap_places.specs.Unicode.{is_lone, is_wide, is_unicode}
use Rattle.keymap_places.proofs.unicode.is_unicode.Given as goal

-- no byte stands alone so far, and what is wide so far or stands in the tokens to come makes the text so
abbrev pub invariant-loop-token : goal.invariant-loop-token
invariant-loop-token l = record {
  within : l.at ≤ length l.text;
  sure : (list_all (λ t. not (is_lone t.kind t.bytes)) (tokens_from l.text l.at)
      && (l.has_wide || list_any (λ t. is_wide t.kind t.bytes) (tokens_from l.text l.at)))
      ≡ is_unicode (tokens l.text);
}

abbrev pub decreases-loop-token : goal.decreases-loop-token
decreases-loop-token l = length l.text - l.at
