-- Which sights a listing lists, as the tables of its verdicts tell.
use Rattle.std.specs.Prelude.{Bool}
use Rattle.console_states.specs.declared.selection.Sight.{Sight}
use Rattle.keymap_cover.specs.Verdicts.{verdict_in}
use Rattle.script_text.specs.Cover.{has_verdict}
use Rattle.script_text.specs.declared.cover.Listing.{Listing}

abbrev pub is_in : Listing → Sight → Bool
is_in l = has_verdict (verdict_in l.map.now l.verdicts) l.listed
