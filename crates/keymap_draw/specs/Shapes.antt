-- The shapes of caps, from the widths and heights of keys: the edge of a cap leaves 4 units free before the next key,
-- and on it lies a face.
use Rattle.std.specs.Prelude.{◌≡◌, ℕ, ◌+◌, ◌-◌, List, [], ◌∷◌, ◌++◌, codes, decimal}
use Rattle.std.specs.List.{flat_map}
use Rattle.keymap_draw.specs.declared.board.Shape.{Shape}
use Rattle.keymap_draw.specs.declared.board.Shape.TheVariants.{A, B, C, D, E, F, G, H, Tall, Enter}
use Rattle.keymap_draw.specs.declared.constants.TheConstants.{SHAPES}
use Rattle.keymap_draw.specs.Boards.{letter, width, height}

abbrev pub sized : ℕ → ℕ → List ℕ
sized wide high = codes " width=\"" ++ decimal wide ++ codes "\" height=\"" ++ decimal high ++ codes "\""

abbrev pub named : Shape → List ℕ → List ℕ
named s parts = codes "<g id=\"" ++ letter s ∷ [] ++ codes "\">" ++ parts ++ codes "</g>"

-- a cap that is one rectangle; its face is 8 narrower and 12 less high
abbrev pub rectangles : Shape → List ℕ
rectangles s =
    codes "<rect fill=\"currentColor\"" ++ sized (width s - 4) (height s - 4) ++ codes " rx=\"7\"/>"
    ++ codes "<rect x=\"4\" y=\"2\"" ++ sized (width s - 12) (height s - 16)
    ++ codes " rx=\"5\"/>"

abbrev pub cap_of : Shape → List ℕ
cap_of s = named s (rectangles s)

-- A corner of the high Enter: numbers of a path.
abbrev pub spot : ℕ → ℕ → List ℕ
spot x y = decimal x ++ codes " " ++ decimal y

-- The outline of the high Enter, whose lower part begins at `step` and below `level`, with round corners of a radius.
abbrev pub outline : ℕ → ℕ → ℕ → ℕ → ℕ → ℕ → ℕ → List ℕ
outline left top right bottom step level r =
    codes "M" ++ spot (left + r) top ++ codes "H" ++ decimal (right - r)
    ++ codes "Q" ++ spot right top ++ codes " " ++ spot right (top + r) ++ codes "V" ++ decimal (bottom - r)
    ++ codes "Q" ++ spot right bottom ++ codes " " ++ spot (right - r) bottom ++ codes "H" ++ decimal (step + r)
    ++ codes "Q" ++ spot step bottom ++ codes " " ++ spot step (bottom - r) ++ codes "V" ++ decimal (level + r)
    ++ codes "Q" ++ spot step level ++ codes " " ++ spot (step - r) level ++ codes "H" ++ decimal (left + r)
    ++ codes "Q" ++ spot left level ++ codes " " ++ spot left (level - r) ++ codes "V" ++ decimal (top + r)
    ++ codes "Q" ++ spot left top ++ codes " " ++ spot (left + r) top ++ codes "Z"

-- the edge and the face of the enter key; its upper part is as high as other keys
abbrev pub paths : List ℕ
paths =
    codes "<path fill=\"currentColor\" d=\"" ++ outline 0 0 (width Enter - 4) (height Enter - 4) 16 (64 - 4) 7
    ++ codes "\"/><path d=\"" ++ outline 4 2 (width Enter - 8) (height Enter - 18) 20 (64 - 16) 5
    ++ codes "\"/>"

abbrev pub shapes : List ℕ
shapes =
    codes "<defs>" ++ flat_map cap_of (A ∷ B ∷ C ∷ D ∷ E ∷ F ∷ G ∷ H ∷ Tall ∷ []) ++ named Enter paths
    ++ codes "</defs>\n"

-- The shape that a key uses by its letter is as wide and as high as the key, but for the 4 units.
abbrev pub CapsAreOfTheirKeys : Type 0
CapsAreOfTheirKeys = SHAPES ≡ shapes
