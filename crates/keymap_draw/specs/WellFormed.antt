-- What a reader makes of the bytes of a picture, told byte by byte. They are well formed as XML: one element that holds
-- all others, texts, and tags of elements out of a fixed list, with attributes out of a fixed list, none twice in a
-- tag. Each element ends by its own end tag. No two ids are the same, and a link leads to an id that stands before it.
-- A reference is of a character that XML 1.0 allows and that is no control character. `]>` stands in no text, and so
-- `]]>` doesn't. What they tell are facts: each group, shape and text with its attributes.
use Rattle.std.specs.Prelude.{◌≡◌, ℕ, ◌+◌, ◌*◌, ◌==◌, nat_lt, nat_le, Bool, ◌||◌, ◌&&◌, not, true, false, List, [], ◌∷◌}
use Rattle.std.specs.Prelude.{◌++◌, reverse, codes, Option, Some, None, if◌then◌else◌, bytes_eq}
use Rattle.std.specs.Char.{digit_value}
use Rattle.std.specs.List.{filter, list_all, list_any}
use Rattle.std.specs.Option.{option_and_then}
use Rattle.keymap_core.specs.Actions.{within}
use Rattle.keymap_core.specs.Unseen.{is_unseen}
use Rattle.keymap_draw.specs.Facts.{Attributes, Fact}
use Rattle.keymap_draw.specs.Facts.Fact.{Begin, End, Figure, Text as Said}

-- LF and the printable characters of ASCII
abbrev pub is_plain : ℕ → Bool
is_plain c = c == 10 || within 32 126 c

abbrev pub IsPlain : ℕ → Type 0
IsPlain c = is_plain c ≡ true

abbrev pub is_xml_character : ℕ → Bool
is_xml_character c =
    (c == 9 || c == 10 || c == 13) || within 0x20 0xd7ff c || within 0xe000 0xfffd c || within 0x10000 0x10ffff c

-- a character that may stand in a text, as it is or by a reference: one that XML allows, and no control character
abbrev pub is_shown : ℕ → Bool
is_shown c = nat_le 32 c && not (within 0x7f 0x9f c) && is_xml_character c

abbrev pub IsShown : ℕ → Type 0
IsShown c = is_shown c ≡ true

-- a character that a terminal shows as it is
abbrev pub IsSeen : ℕ → Type 0
IsSeen c = is_unseen c ≡ false

abbrev pub elements : List (List ℕ)
elements =
    codes "svg" ∷ codes "title" ∷ codes "desc" ∷ codes "style" ∷ codes "defs" ∷ codes "g" ∷ codes "rect" ∷ codes "path"
    ∷ codes "use"
    ∷ codes "text" ∷ []

abbrev pub attributes : List (List ℕ)
attributes =
    codes "xmlns" ∷ codes "width" ∷ codes "height" ∷ codes "viewBox" ∷ codes "role" ∷ codes "aria-labelledby"
    ∷ codes "aria-hidden"
    ∷ codes "lang" ∷ codes "id" ∷ codes "class" ∷ codes "transform" ∷ codes "href" ∷ codes "fill" ∷ codes "x"
    ∷ codes "y" ∷ codes "rx" ∷ codes "d" ∷ codes "textLength" ∷ codes "lengthAdjust"
    ∷ codes "xml:space" ∷ []

abbrev pub is_among : List (List ℕ) → List ℕ → Bool
is_among names name = list_any (bytes_eq name) names

-- a begin tag: its name, and its attributes with their values
pub record Tag : Type 0 where
  pub name : List ℕ
  pub has : Attributes

-- the value of an attribute, nothing where the tag doesn't have it
abbrev pub value_in : Attributes → List ℕ → List ℕ
value_in [] name = []
value_in (a ∷ more) name = if bytes_eq name a.0 then a.1 else value_in more name

abbrev pub has_attribute : Attributes → List ℕ → Bool
has_attribute has name = list_any (λ (a : List ℕ × List ℕ). bytes_eq name a.0) has

abbrev pub class_in : Attributes → List ℕ
class_in has = value_in has (codes "class")

-- the attributes beside the class
abbrev pub others_in : Attributes → Attributes
others_in has = filter (λ (a : List ℕ × List ℕ). not (bytes_eq (codes "class") a.0)) has

-- what an element that has begun is to a reader
pub data Role : Type 0 where
  -- an element that holds other ones
  Holder : Role
  -- an element that holds characters: its tag, and those so far
  Lettered : Tag → List ℕ → Role

pub record Element : Type 0 where
  pub name : List ℕ
  pub role : Role

abbrev pub element : List ℕ → Role → Element
element name role = record { name = name; role = role }

-- where the next byte stands
pub data Place : Type 0 where
  -- before the element that holds all others
  Before : Place
  -- between tags, and behind that element
  Text : Place
  -- in a text, behind a `]`
  Bracket : Place
  -- behind the `<` of a tag
  Opened : Place
  -- in the name of a begin tag, and of an end tag
  Name : List ℕ → Place
  EndName : List ℕ → Place
  -- in a begin tag, behind the name or a value, and behind a blank
  Behind : Tag → Place
  Blank : Tag → Place
  -- behind the `/` of an element without content
  Closed : Tag → Place
  -- in the name of an attribute, behind its `=`, and in its value
  Attribute : Tag → List ℕ → Place
  Equals : Tag → List ℕ → Place
  Value : Tag → List ℕ → List ℕ → Place
  -- behind the `&` of a reference, behind its `#`, and in its number
  Ampersand : Place
  Hash : Place
  Number : ℕ → Place

-- the elements that have begun and not ended, and the ids and the facts so far, the last first
pub record Read : Type 0 where
  pub begun : List Element
  pub ids : List (List ℕ)
  pub facts : List Fact

pub record State : Type 0 where
  pub place : Place
  pub read : Read

abbrev pub at : Place → Read → State
at p r = record { place = p; read = r }

abbrev pub is_empty : {A : Type 0} → List A → Bool
is_empty [] = true
is_empty (x ∷ xs) = false

abbrev pub with_begun : List Element → Read → Read
with_begun begun r = record { begun = begun; ids = r.ids; facts = r.facts }

-- what stands in some element
abbrev pub within_element : Place → Read → Option State
within_element p r = if is_empty r.begun then None else Some (at p r)

abbrev pub with_characters : Role → List ℕ → Role
with_characters Holder cs = Holder
with_characters (Lettered tag said) cs = Lettered tag (said ++ cs)

-- the last element that has begun has more characters
abbrev pub longer : List Element → List ℕ → List Element
longer [] cs = []
longer (e ∷ begun) cs = element e.name (with_characters e.role cs) ∷ begun

abbrev pub saying : List ℕ → Read → Read
saying cs r = with_begun (longer r.begun cs) r

abbrev pub in_text : Read → ℕ → Option State
in_text r c =
    if c == 60 then within_element Opened r
    else if c == 38 then within_element Ampersand r
    else if c == 10 then Some (at Text (saying (c ∷ []) r))
    else if c == 93 then within_element Bracket (saying (c ∷ []) r)
    else within_element Text (saying (c ∷ []) r)

abbrev pub is_name_byte : ℕ → Bool
is_name_byte c = within 97 122 c || within 65 90 c || c == 45 || c == 58

abbrev pub with_facts : List Fact → Read → Read
with_facts facts r = record { begun = r.begun; ids = r.ids; facts = facts }

abbrev pub begun_with : Role → Tag → Read → Read
begun_with role tag r = with_begun (element tag.name role ∷ r.begun) r

-- the elements that hold other ones
abbrev pub holders : List (List ℕ)
holders = codes "svg" ∷ codes "defs" ∷ codes "g" ∷ []

abbrev pub begins : Tag → Read → Read
begins tag r =
    if is_among holders tag.name
    then begun_with Holder tag (with_facts (Begin tag.name (class_in tag.has) (others_in tag.has) ∷ r.facts) r)
    else begun_with (Lettered tag []) tag r

abbrev pub behind_name : Tag → Read → ℕ → Option State
behind_name tag r c =
    if c == 32 then Some (at (Blank tag) r)
    else if c == 62 then Some (at Text (begins tag r))
    else if c == 47 then Some (at (Closed tag) r)
    else None

abbrev pub in_name : List ℕ → Read → ℕ → Option State
in_name name r c =
    if is_name_byte c then Some (at (Name (name ++ c ∷ [])) r)
    else if is_among elements name then behind_name (record { name = name; has = [] }) r c
    else None

-- behind an element without content
abbrev pub passing : Tag → Read → Read
passing tag r = with_facts (Figure tag.name (class_in tag.has) (others_in tag.has) ∷ r.facts) r

abbrev pub told_by : Role → Fact
told_by Holder = End
told_by (Lettered tag said) = Said tag.name (class_in tag.has) (others_in tag.has) said

-- the last element ends if that is its name
abbrev pub ended_by : List ℕ → List Element → Read → Option State
ended_by name [] r = None
ended_by name (last ∷ begun) r =
    if bytes_eq name last.name
    then Some (at Text (record { begun = begun; ids = r.ids; facts = told_by last.role ∷ r.facts }))
    else None

abbrev pub in_end_name : List ℕ → Read → ℕ → Option State
in_end_name name r c =
    if c == 62 then ended_by name r.begun r else Some (at (EndName (name ++ c ∷ [])) r)

-- the name of an attribute, which the tag doesn't have yet
abbrev pub in_attribute : Tag → List ℕ → Read → ℕ → Option State
in_attribute tag name r c =
    if is_name_byte c then Some (at (Attribute tag (name ++ c ∷ [])) r)
    else if c == 61 && is_among attributes name && not (has_attribute tag.has name) then Some (at (Equals tag name) r)
    else None

abbrev pub with_attribute : Tag → List ℕ → List ℕ → Tag
with_attribute tag name value = record { name = tag.name; has = tag.has ++ (name, value) ∷ [] }

-- a link begins with `#`
abbrev pub is_link : List (List ℕ) → List ℕ → Bool
is_link ids [] = false
is_link ids (c ∷ name) = c == 35 && is_among ids name

-- a value ends: an id is a name and none of those before it, and a link leads to one of them
abbrev pub valued : Tag → List ℕ → List ℕ → Read → Option State
valued tag name value r =
    if bytes_eq name (codes "id") then (
    if list_all is_name_byte value && not (is_among r.ids value)
    then Some (at (Behind (with_attribute tag name value))
    (record { begun = r.begun; ids = value ∷ r.ids; facts = r.facts }))
    else None
    )
    else if bytes_eq name (codes "href") && not (is_link r.ids value) then None
    else Some (at (Behind (with_attribute tag name value)) r)

abbrev pub in_value : Tag → List ℕ → List ℕ → Read → ℕ → Option State
in_value tag name value r c =
    if c == 34 then valued tag name value r
    else if c == 38 || c == 60 then None
    else Some (at (Value tag name (value ++ c ∷ [])) r)

abbrev pub in_number : ℕ → Read → ℕ → Option State
in_number n r c =
    if c == 59 then (if is_shown n then Some (at Text (saying (n ∷ []) r)) else None)
    else if nat_lt (digit_value c) 16 then Some (at (Number (16 * n + digit_value c)) r)
    else None

-- what must come next
abbrev pub only : ℕ → Place → Read → ℕ → Option State
only wanted p r c = if c == wanted then Some (at p r) else None

-- where the byte behind this one stands, if this one may stand there
abbrev pub step_at : Place → Read → ℕ → Option State
step_at Before r c = only 60 Opened r c
step_at Text r c = in_text r c
step_at Bracket r c = if c == 62 then None else in_text r c
step_at Opened r c = if c == 47 then Some (at (EndName []) r) else in_name [] r c
step_at (Name name) r c = in_name name r c
step_at (EndName name) r c = in_end_name name r c
step_at (Behind tag) r c = behind_name tag r c
step_at (Blank tag) r c = in_attribute tag [] r c
step_at (Closed tag) r c = only 62 Text (passing tag r) c
step_at (Attribute tag name) r c = in_attribute tag name r c
step_at (Equals tag name) r c = only 34 (Value tag name []) r c
step_at (Value tag name value) r c = in_value tag name value r c
step_at Ampersand r c = only 35 Hash r c
step_at Hash r c = only 120 (Number 0) r c
step_at (Number n) r c = in_number n r c

abbrev pub step : Option State → ℕ → Option State
step s c = option_and_then (λ t. if is_plain c then step_at t.place t.read c else None) s

abbrev pub scan : Option State → List ℕ → Option State
scan s [] = s
scan s (c ∷ cs) = scan (step s c) cs

abbrev pub start : State
start = at Before (record { begun = []; ids = []; facts = [] })

-- the bytes are one element that is ended, and these are the facts that they tell
pub record Tells (fs : List Fact) (bytes : List ℕ) : Type 0 where
  pub ids : List (List ℕ)
  pub scanned : scan (Some start) bytes ≡ Some (at Text (record { begun = []; ids = ids; facts = reverse fs }))

-- The bytes are one element, and all elements that begin have ended.
abbrev pub IsWellFormed : List ℕ → Type 0
IsWellFormed bytes = (fs : List Fact) × Tells fs bytes
