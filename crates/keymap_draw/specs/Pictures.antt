-- The whole picture: what it tells of a keymap.
use Rattle.std.specs.Prelude.{ℕ, ◌+◌, ◌==◌, List, [], ◌∷◌, ◌++◌, codes, decimal, length, true, false}
use Rattle.std.specs.Prelude.{if◌then◌else◌}
use Rattle.keymap_core.specs.Borne.{is_upper_live}
use Rattle.keymap_core.specs.Maps.{MapValue}
use Rattle.keymap_check.specs.declared.finding.Finding.{Finding}
use Rattle.keymap_check.specs.Computed.{findings_of}
use Rattle.keyboard.specs.declared.board.Board.{Board}
use Rattle.keymap_draw.specs.declared.change.ChangeLine.{ChangeLine}
use Rattle.keymap_draw.specs.declared.constants.TheConstants.{STYLE, SHAPES}
use Rattle.keymap_draw.specs.declared.half.Half.TheVariants.{Lower, Upper}
use Rattle.keymap_draw.specs.declared.sheet.Content.TheVariants.{Number}
use Rattle.keymap_draw.specs.declared.words.TheConstants.{END}
use Rattle.keymap_draw.specs.declared.whole.Starts.{Starts}
use Rattle.keymap_draw.specs.Changes.{changed_rows, changes_height, changes_list, marks_style}
use Rattle.keymap_draw.specs.Drawings.{Drawing, name_of}
use Rattle.keymap_draw.specs.Facts.{Fact}
use Rattle.keymap_draw.specs.Facts.Fact.{Begin, Figure, Text}
use Rattle.keymap_draw.specs.Halves.{board_facts, board_height, other_keys, others, others_height}
use Rattle.keymap_draw.specs.Lists.{findings_height, findings_list, named_accents, accents_height, accents_list}
use Rattle.keymap_draw.specs.Lists.{silent_accents, silent_height, silent_list}
use Rattle.keymap_draw.specs.Sheets.{facts_from, facts_over, in_svg, opened}
use Rattle.keymap_draw.specs.WellFormed.{Tells}

-- the picture begins, with its height
abbrev pub begin : ℕ → Fact
begin high =
    Begin (codes "svg") []
    ((codes "xmlns", codes "http://www.w3.org/2000/svg") ∷ (codes "width", codes "1492")
    ∷ (codes "height", decimal high) ∷ (codes "viewBox", codes "0 0 1492 " ++ decimal high)
    ∷ (codes "role", codes "graphics-document document") ∷ (codes "aria-labelledby", codes "title desc")
    ∷ (codes "lang", codes "en") ∷ [])

-- the title of the whole has the name, and says whether the keymap is accepted
abbrev pub heading : List ℕ → ℕ → Fact
heading name count =
    Text (codes "title") [] ((codes "id", codes "title") ∷ [])
    ((name ++ codes ", ") ++ (if count == 0 then codes "accepted" else codes "refused"))

abbrev pub description : Fact
description =
    Text (codes "desc") [] ((codes "id", codes "desc") ∷ [])
    (codes "A keyboard. On each key stand base below left, shift above left, alt below right and alt shift "
    ++ codes "above right; its title is its line of the keymap.")

abbrev pub page : ℕ → Fact
page high = Figure (codes "rect") (codes "page") ((codes "width", codes "1492") ∷ (codes "height", decimal high) ∷ [])

-- of a picture of a name and some height with so many findings: its begin, its title and its description, the style,
-- the shapes and the page
unfoldable pub head : List ℕ → ℕ → ℕ → List Fact
head name count high =
    begin high ∷ heading name count ∷ description ∷ [] ++ facts_from opened STYLE [] ++ facts_from opened SHAPES []
    ++ page high ∷ []

-- what the colours and the places of legends mean, which is the same in each picture, and the end
unfoldable pub colour_key : ℕ → List Fact
colour_key y = facts_over in_svg END.now (Number y ∷ [])

-- the upper half is drawn only if it is live, with the keys that the board doesn't have
abbrev pub upper : Drawing → List ℕ → ℕ → List Fact
upper d keys y =
    if is_upper_live d.map then board_facts d Upper y ++ others d Upper (y + board_height) keys else []

abbrev pub upper_keys : Drawing → List ℕ
upper_keys d = if is_upper_live d.map then other_keys d Upper else []

-- what changed begins below the lower board
abbrev pub changes_y : ℕ
changes_y = 16 + board_height

-- where the keys begin that the lower board doesn't have, below so many rows of what changed
abbrev pub others_y : Drawing → ℕ → ℕ
others_y d rows = changes_y + changes_height d rows

-- where the upper half begins, below so many of those keys
abbrev pub upper_y : Drawing → ℕ → ℕ → ℕ
upper_y d rows lower = others_y d rows + others_height lower

-- how high the upper half is, with so many keys that the board doesn't have, if it is drawn
abbrev pub upper_height : Drawing → ℕ → ℕ
upper_height d upper = if is_upper_live d.map then board_height + others_height upper else 0

-- how many there are of what is listed: rows of what changed, keys below the boards of the lower half and of the upper
-- one, accents, and dead keys without one
pub record Counts : Type 0 where
  pub rows : ℕ
  pub lower : ℕ
  pub upper : ℕ
  pub named : ℕ
  pub silent : ℕ

-- where the findings begin, and the accents
abbrev pub findings_y : Drawing → Counts → ℕ
findings_y d n = upper_y d n.rows n.lower + upper_height d n.upper

abbrev pub accents_y : Drawing → Counts → ℕ
accents_y d n = findings_y d n + findings_height (length d.findings)

-- Where the parts begin.
abbrev pub starts_of : Drawing → Counts → Starts
starts_of d n = record {
  others = others_y d n.rows;
  upper = upper_y d n.rows n.lower;
  findings = findings_y d n;
  accents = accents_y d n;
  silent = accents_y d n + accents_height n.named;
  key = accents_y d n + accents_height n.named + silent_height n.silent + 16;
}

-- what is listed, of which these are the counts
pub record Listed : Type 0 where
  pub rows : List (List ℕ)
  pub lower : List ℕ
  pub upper : List ℕ
  pub named : List ℕ
  pub silent : List ℕ

abbrev pub counts_of : Listed → Counts
counts_of l = record {
  rows = length l.rows;
  lower = length l.lower;
  upper = length l.upper;
  named = length l.named;
  silent = length l.silent;
}

-- the lower half with what changed below its board, and the upper one
unfoldable pub halves : Drawing → Starts → List (List ℕ) → List ℕ → List ℕ → List Fact
halves d starts rows lower above =
    board_facts d Lower 16 ++ changes_list d rows changes_y ++ others d Lower starts.others lower
    ++ upper d above starts.upper

-- the parts, one below the other, and below them what the colours mean
unfoldable pub parts : Drawing → Starts → Listed → List Fact
parts d starts l =
    head d.name (length d.findings) (starts.key + 76) ++ marks_style d
    ++ halves d starts l.rows l.lower l.upper
    ++ findings_list d.findings starts.findings
    ++ accents_list d l.named starts.accents
    ++ silent_list l.silent starts.silent
    ++ colour_key starts.key

abbrev pub listed : Drawing → Listed
listed d = record {
  rows = changed_rows d;
  lower = other_keys d Lower;
  upper = upper_keys d;
  named = named_accents d.map;
  silent = silent_accents d.map;
}

unfoldable pub picture_facts : Drawing → List Fact
picture_facts d = parts d (starts_of d (counts_of (listed d))) (listed d)

-- The bytes are well formed, and tell these facts and no other ones.
abbrev pub IsPicture : Drawing → List ℕ → Type 0
IsPicture d bytes = Tells (picture_facts d) bytes

-- the picture of a map with these findings, under a name that is given
abbrev pub drawing_with : MapValue → List Finding → Board → List ℕ → Drawing
drawing_with m fs board given = record {
  map = m;
  findings = fs;
  board = board;
  name = name_of given;
  is_change = false;
  old = m;
  old_name = [];
  lines = [];
}

abbrev pub IsPictureWith : MapValue → List Finding → Board → List ℕ → List ℕ → Type 0
IsPictureWith m fs board given bytes = IsPicture (drawing_with m fs board given) bytes

-- the same, of the change of an old map, under a name that is given for it, told by lines
abbrev pub since : MapValue → List ℕ → List ChangeLine → Drawing → Drawing
since old given lines d = record {
  map = d.map;
  findings = d.findings;
  board = d.board;
  name = d.name;
  is_change = true;
  old = old;
  old_name = name_of given;
  lines = lines;
}

-- what is drawn of a map under a name that is given: with the findings of the check
abbrev pub drawing : MapValue → Board → List ℕ → Drawing
drawing m board given = drawing_with m (findings_of m) board given
