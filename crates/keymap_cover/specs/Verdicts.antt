-- Verdicts on sights, by what a script saw and what can be seen.
use Rattle.std.specs.Prelude.{Bool, if◌then◌else◌}
use Rattle.keymap_core.specs.Maps.{MapValue}
use Rattle.console_states.specs.Sights.{can_see}
use Rattle.console_states.specs.declared.selection.Sight.{Sight}
use Rattle.keymap_cover.specs.SeenSights.{has_seen}
use Rattle.keymap_cover.specs.declared.parts.Verdict.{Verdict}
use Rattle.keymap_cover.specs.declared.parts.Verdict.TheVariants.{Seen, LeftOut, Never}
use Rattle.keymap_cover.specs.declared.verdicts.Can.{Can}
use Rattle.keymap_cover.specs.declared.verdicts.Can.TheVariants.{Searched, Listed}
use Rattle.keymap_cover.specs.declared.verdicts.Verdicts.{Verdicts}

-- whether the sight can be seen, as a search tells or a list
abbrev pub can_be_seen : MapValue → Can → Sight → Bool
can_be_seen m (Searched sights) x = can_see m sights.now x
can_be_seen m (Listed listed) x = has_seen listed.now x

-- the verdict on a sight
abbrev pub verdict_in : MapValue → Verdicts → Sight → Verdict
verdict_in m v x = if has_seen v.seen.now x then Seen else (if can_be_seen m v.can x then LeftOut else Never)
