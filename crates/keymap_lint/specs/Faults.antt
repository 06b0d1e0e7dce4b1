-- The faults of a text. What stands behind the line of a fault is read on, as a text of its own.
use Rattle.std.specs.Prelude.{◌≡◌, ℕ, zero, suc, ◌+◌, List, [], ◌∷◌, drop, None}
use Rattle.std.specs.Option.{option_map}
use Rattle.keymap_core.specs.Maps.{MapValue}
use Rattle.keymap_lint.specs.Types.{PlacedFault}
use Rattle.keymap_places.specs.declared.wanted.DefinitionStart.{DefinitionStart}
use Rattle.keymap_places.specs.declared.wanted.FaultPlace.{FaultPlace}
use Rattle.keymap_places.specs.LineOf.{line_end}
use Rattle.keymap_text.specs.Meaning.{Spells, Fault, line, tokens}
use Rattle.keymap_text.specs.Places.{AtDefinition}
use Rattle.keymap_places.specs.Wanted.{fault_place_view, first_refused}

-- what is wanted where the text goes wrong, and the definition that has begun
abbrev pub IsWanted : List ℕ → FaultPlace → Type 0
IsWanted text place = fault_place_view place ≡ first_refused AtDefinition None 0 (tokens text)

-- the offsets of what stands behind so many bytes, counted in the whole text
abbrev pub start_behind : ℕ → DefinitionStart → DefinitionStart
start_behind n d = record { what = d.what; offset = n + d.offset }

abbrev pub place_behind : ℕ → FaultPlace → FaultPlace
place_behind n p =
    record { wanted = p.wanted; definition = option_map (start_behind n) p.definition; behind = n + p.behind }

-- This is the fault of what stands behind so many bytes of a text, with its offsets and its line in the whole text.
pub record IsFaultBehind (text : List ℕ) (n : ℕ) (f : PlacedFault) : Type 0 where
  pub own : PlacedFault
  pub is_fault : Fault (drop n text) own.fault
  pub is_wanted : IsWanted (drop n text) own.place
  pub kind : f.fault.kind ≡ own.fault.kind
  pub offset : f.fault.offset ≡ n + own.fault.offset
  pub line : f.fault.line ≡ line text f.fault.offset
  pub place : f.place ≡ place_behind n own.place

-- The faults of what stands behind n bytes of a text, so many at most: none where it spells a map; else its fault, and
-- those of what stands behind the line of this one.
abbrev pub AreFaults : ℕ → List ℕ → ℕ → List PlacedFault → Type 0
AreFaults zero text n fs = fs ≡ []
AreFaults (suc limit) text n [] = (m : MapValue) × Spells (drop n text) m
AreFaults (suc limit) text n (f ∷ fs) =
    IsFaultBehind text n f × AreFaults limit text (line_end text f.fault.offset + 1) fs

-- how many faults are found in a text: one more than are told
abbrev pub fault_limit : ℕ
fault_limit = 21
