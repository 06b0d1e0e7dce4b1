-- The sizes of words and of large signs in the style, by which it is told whether a word is wider than its place.
use Rattle.std.specs.Prelude.{◌≡◌, ℕ, List, ◌∷◌, ◌++◌, codes, decimal}
use Rattle.std.specs.List.{flat_map}
use Rattle.keymap_draw.specs.declared.constants.TheConstants.{STYLE}
use Rattle.keymap_draw.specs.Places.{pixels}

-- the rule for a class
abbrev pub size_rule : ℕ → List ℕ
size_rule class = codes "." ++ class ∷ codes "{font-size:" ++ decimal (pixels class) ++ codes "px}"

-- the rules for the classes of words and large signs, the widest first
abbrev pub size_rules : List ℕ
size_rules = flat_map size_rule (codes "wxvout") ++ codes "\n" ++ flat_map size_rule (codes "yb")

-- The style draws the letters of a class as high as they are taken to be: by its last rules, which no other one undoes.
abbrev pub SizesAreOfTheStyle : Type 0
SizesAreOfTheStyle = (before : List ℕ) × (STYLE ≡ before ++ size_rules ++ codes "\n</style>\n")
