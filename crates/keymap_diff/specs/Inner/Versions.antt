-- Two keymaps with what presses can see under each, and which changes presses meet. Mirrors src/versions.rt and
-- src/marking.rt.
use Rattle.std.specs.Prelude.{◌≡◌, ◌<◌, ◌⊎◌, ⊤, Option, None, Some, is_some}
use Rattle.std.specs.Prelude.{MatchOption}
use Rattle.keymap_core.specs.Maps.{MapValue}
use Rattle.keymap_core.specs.Numbers.{accent_limit}
use Rattle.console_states.specs.Sights.{AreSightsOf}
use Rattle.console_states.specs.declared.sights.Sights.{Sights}
use Rattle.keymap_diff.specs.Changes.{GivesUp, IsChange, MeetsChange}
use Rattle.keymap_diff.specs.Types.{Change, Accent, Seen, Versions}

-- what presses can see is that under each of the keymaps
abbrev pub AreSights : MapValue → MapValue → Option Seen → Type 0
AreSights m n None = ⊤
AreSights m n (Some s) = AreSightsOf m s.old.now × AreSightsOf n s.new.now

abbrev pub HaveSights : Versions → Type 0
HaveSights v = AreSights v.old.now v.new.now v.seen

-- what presses can see under each of the keymaps; none where a search gave up
abbrev pub IsSeenOfBoth : MapValue → MapValue → Option (Sights × Sights) → Type 0
IsSeenOfBoth m n seen = MatchOption seen (GivesUp m ⊎ GivesUp n) (λ s. AreSightsOf m s.0 × AreSightsOf n s.1)

-- the two keymaps with what presses can see, unless a search gave up
abbrev pub AreVersions : MapValue → MapValue → Versions → Type 0
AreVersions m n v =
    (v.old.now ≡ m) × (v.new.now ≡ n) × HaveSights v × (v.seen ≡ None → GivesUp m ⊎ GivesUp n)

abbrev pub IsChangeOf : Versions → Change → Type 0
IsChangeOf v x = IsChange (is_some v.seen) v.old.now v.new.now x

-- a change of an accent's character is of one that a keymap has room for
abbrev pub HasAccent : Change → Type 0
HasAccent (Accent i a b u) = i < accent_limit
HasAccent _ = ⊤

-- a press meets what the change tells under one of the keymaps
abbrev pub IsMet : MapValue → MapValue → Change → Type 0
IsMet m n x = MeetsChange x m ⊎ MeetsChange x n
