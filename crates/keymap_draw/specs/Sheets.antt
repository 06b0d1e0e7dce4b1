-- The text of a picture that isn't complete: where its end stands, and what it tells so far.
use Rattle.std.specs.Prelude.{◌≡◌, ℕ, ◌&&◌, not, ◌==◌, ◌||◌, Bool, List, [], ◌∷◌, ◌++◌, codes, decimal, Option, Some}
use Rattle.std.specs.Prelude.{reverse}
use Rattle.std.specs.Prelude.{None, true, if◌then◌else◌, slice_index}
use Rattle.std.specs.List.{list_all, flat_map}
use Rattle.std.specs.Option.{option_and_then}
use Rattle.keymap_core.specs.Unseen.{is_unseen}
use Rattle.keymap_draw.specs.declared.sheet.Content.{Content}
use Rattle.keymap_draw.specs.declared.sheet.Content.TheVariants as told
use Rattle.keymap_draw.specs.Facts.{Fact}
use Rattle.keymap_draw.specs.Markup.{escaped}
use Rattle.keymap_draw.specs.WellFormed.{Element, element, Place, Read, State, at, within_element, saying, scan}
use Rattle.keymap_draw.specs.WellFormed.{start, is_plain, is_shown}
use Rattle.keymap_draw.specs.WellFormed.Place.{Text, Value}
use Rattle.keymap_draw.specs.WellFormed.Role.{Holder}
use Rattle.messages.specs.Filled.{words_before, words_behind}

-- the ids of the head of a picture, the last first: of the shapes, and of what its title and its description are in
abbrev pub ids : List (List ℕ)
ids =
    codes "E" ∷ codes "t" ∷ codes "h" ∷ codes "g" ∷ codes "f" ∷ codes "e" ∷ codes "d" ∷ codes "c" ∷ codes "b"
    ∷ codes "a"
    ∷ codes "desc" ∷ codes "title" ∷ []

-- behind the head, in these elements, with these facts, the last first
abbrev pub within : List Element → List Fact → State
within begun fs = at Text (record { begun = begun; ids = ids; facts = fs })

abbrev pub in_svg : List Element
in_svg = element (codes "svg") Holder ∷ []

abbrev pub in_key : List Element
in_key = element (codes "g") Holder ∷ in_svg

-- in a row below the keys, and in a line of the table of an accent
abbrev pub in_row : List Element
in_row = element (codes "g") Holder ∷ in_svg

abbrev pub in_table : List Element
in_table = element (codes "g") Holder ∷ in_row

abbrev pub facts_of : Option State → List Fact
facts_of None = []
facts_of (Some s) = s.read.facts

-- the last first
unfoldable pub last_facts : List ℕ → List Fact
last_facts bytes = facts_of (scan (Some start) bytes)

abbrev pub facts_in : List ℕ → List Fact
facts_in bytes = reverse (last_facts bytes)

-- what a reader makes of the bytes
pub record ReadAs (s : State) (bytes : List ℕ) : Type 0 where
  pub scanned : scan (Some start) bytes ≡ Some s

-- the bytes end in these elements
abbrev pub IsWithin : List Element → List ℕ → Type 0
IsWithin begun bytes = ReadAs (within begun (last_facts bytes)) bytes

-- what may stand in a value and in a text as it is
abbrev pub is_inner : ℕ → Bool
is_inner c = is_plain c && not (c == 34) && not (c == 38 || c == 60) && not (c == 93)

-- the character may stand in a text, and a terminal shows it as it is
abbrev pub is_seen : ℕ → Bool
is_seen c = is_shown c && not (is_unseen c)

-- bytes that are told as they are
abbrev pub plain : List ℕ → Content
plain bytes = told.Plain (record { ref_ptr = (0, 0); now = bytes })

-- the characters that are told
abbrev pub characters : Content → List ℕ
characters (told.Plain t) = t.now
characters (told.Number n) = decimal n
characters (told.Bytes t) = t.now
characters (told.Characters t) = t.now

abbrev pub written : Content → List ℕ
written (told.Plain t) = t.now
written (told.Number n) = decimal n
written t = flat_map escaped (characters t)

abbrev pub is_ready : Content → Bool
is_ready (told.Plain t) = list_all is_inner t.now
is_ready (told.Number n) = true
is_ready t = list_all is_seen (characters t)

-- a tag, a comma, a colon or a line feed begins
abbrev pub ends_told : ℕ → Bool
ends_told c = (c == 60 || c == 44) || (c == 58 || c == 10)

-- the reader behind what is told, in a value or between tags; what has references ends before one of these
abbrev pub taking : Place → Read → Content → List ℕ → Option State
taking (Value tag name value) r (told.Plain t) behind = Some (at (Value tag name (value ++ t.now)) r)
taking (Value tag name value) r (told.Number n) behind = Some (at (Value tag name (value ++ decimal n)) r)
taking Text r (told.Plain t) behind = within_element Text (saying t.now r)
taking Text r (told.Number n) behind = within_element Text (saying (decimal n) r)
taking Text r t behind =
    if ends_told (slice_index behind 0) then within_element Text (saying (characters t) r) else None
taking p r t behind = None

-- the reader behind words with what is told at their places
abbrev pub over : Option State → List ℕ → List Content → Option State
over s words [] = scan s words
over s words (t ∷ ts) =
    over (option_and_then (λ u. taking u.place u.read t (words_behind words)) (scan s (words_before words)))
    (words_behind words) ts

-- the facts that they tell
abbrev pub facts_from : State → List ℕ → List Content → List Fact
facts_from s words ts = reverse (facts_of (over (Some s) words ts))

abbrev pub facts_over : List Element → List ℕ → List Content → List Fact
facts_over begun words ts = facts_from (within begun []) words ts

-- behind the begin of a picture, before its ids
abbrev pub opened : State
opened = at Text (record { begun = in_svg; ids = []; facts = [] })
