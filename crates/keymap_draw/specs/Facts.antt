-- What a reader finds in a picture: groups, shapes and texts, in their order, and nothing else can be drawn in it.
use Rattle.std.specs.Prelude.{ℕ, ◌+◌, List, [], ◌∷◌, ◌++◌, codes, decimal, Option, Some, None}

-- attributes with their values, in their order
abbrev pub Attributes : Type 0
Attributes = List (List ℕ × List ℕ)

-- Each element with its name, its class, which is empty where it has none, and its other attributes.
pub data Fact : Type 0 where
  -- a group begins, or another element that holds some
  Begin : List ℕ → List ℕ → Attributes → Fact
  -- the last element of those that have begun ends
  End : Fact
  -- an element without content
  Figure : List ℕ → List ℕ → Attributes → Fact
  -- an element that holds characters, as a text or a title, with these
  Text : List ℕ → List ℕ → Attributes → List ℕ → Fact

-- the value of the attribute that says where a group stands, by its numbers in digits
abbrev pub place_at : List ℕ → List ℕ → List ℕ
place_at x y = codes "translate(" ++ x ++ codes " " ++ y ++ codes ")"

-- a group of a class at a place
abbrev pub group : List ℕ → List ℕ → List ℕ → Fact
group class x y = Begin (codes "g") class ((codes "transform", place_at x y) ∷ [])

-- a group that is read as one picture, which its title names
abbrev pub image : List ℕ → List ℕ → List ℕ → Fact
image class x y = Begin (codes "g") class ((codes "role", codes "img") ∷ (codes "transform", place_at x y) ∷ [])

abbrev pub titled : List ℕ → Fact
titled said = Text (codes "title") [] [] said

-- a text of a class at a place of its group
abbrev pub text : List ℕ → List ℕ → List ℕ → List ℕ → Fact
text x y class said = Text (codes "text") class ((codes "x", x) ∷ (codes "y", y) ∷ []) said

-- how a text is shrunk to a length, if it is
abbrev pub shrinking : Option ℕ → Attributes
shrinking None = []
shrinking (Some length) =
    (codes "textLength", decimal length) ∷ (codes "lengthAdjust", codes "spacingAndGlyphs") ∷ []

-- a text of a class at a place of its group, shrunk to a length if it is
abbrev pub text_within : List ℕ → List ℕ → List ℕ → Option ℕ → List ℕ → Fact
text_within x y class length said =
    Text (codes "text") class ((codes "x", x) ∷ (codes "y", y) ∷ shrinking length) said

-- a cap, by the letter of its shape
abbrev pub cap_by : List ℕ → Fact
cap_by letter = Figure (codes "use") [] ((codes "href", codes "#" ++ letter) ∷ [])

-- a headline, and a line of small letters above what it tells of
abbrev pub headline_at : ℕ → List ℕ → List ℕ → Fact
headline_at y class said = text (codes "28") (decimal y) class said

-- the field of a class behind a row below the keys
abbrev pub row_field : List ℕ → Fact
row_field class = Figure (codes "rect") class
    ((codes "width", codes "1460") ∷ (codes "height", codes "48") ∷ (codes "rx", codes "8") ∷ [])

-- a group that a screen reader passes over
abbrev pub hidden : List ℕ → List ℕ → Fact
hidden x y = Begin (codes "g") [] ((codes "aria-hidden", codes "true") ∷ (codes "transform", place_at x y) ∷ [])

-- the facts of each thing, by its place
unfoldable pub numbered : {A : Type 0} → (ℕ → A → List Fact) → ℕ → List A → List Fact
numbered f i [] = []
numbered f i (x ∷ xs) = f i x ++ numbered f (i + 1) xs
