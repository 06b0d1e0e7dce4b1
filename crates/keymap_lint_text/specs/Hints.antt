-- What a text with a fault may be in place of a keymap text, which is told behind its first fault.
use Rattle.std.specs.Prelude.{ℕ, ◌==◌, Bool, true, false, ◌&&◌, ◌||◌, if◌then◌else◌}
use Rattle.std.specs.Prelude.{List, [], ◌∷◌, codes, length, take, drop, slice_index, Option, Some, None}
use Rattle.std.specs.List.{list_all, list_any}
use Rattle.keymap_lint.specs.declared.diagnostic.PlacedFault.{PlacedFault}
use Rattle.keymap_lint_text.specs.Joined.{joined_word}
use Rattle.keymap_places.specs.LineOf.{before_in_line}
use Rattle.keymap_places.specs.declared.wanted.Wanted.{Wanted}
use Rattle.keymap_places.specs.declared.wanted.Wanted.TheVariants as wants
use Rattle.keymap_text.specs.Lexical.{is_space}
use Rattle.keymap_text.specs.Words.{same_name}

-- ---- by the first bytes of the text

-- the text has as many bytes as a table file, in either width, and begins with a count of keys up to 256, its lower
-- byte first
abbrev pub is_table_file : List ℕ → Bool
is_table_file text =
    (length text == 15524 || length text == 4139)
    && (slice_index text 1 == 0 || slice_index text 0 == 0 && slice_index text 1 == 1)

abbrev pub is_gzip : List ℕ → Bool
is_gzip text = slice_index text 0 == 0x1f && slice_index text 1 == 0x8b

abbrev pub is_zip : List ℕ → Bool
is_zip text =
    slice_index text 0 == 0x50 && slice_index text 1 == 0x4b && slice_index text 2 == 3 && slice_index text 3 == 4

abbrev pub is_zstd : List ℕ → Bool
is_zstd text =
    slice_index text 0 == 0x28 && slice_index text 1 == 0xb5 && slice_index text 2 == 0x2f && slice_index text 3 == 0xfd

-- the bytes that begin a file of one of these three begin the text
abbrev pub is_compressed : List ℕ → Bool
is_compressed text = is_gzip text || is_zip text || is_zstd text

-- the two bytes of a byte order mark in UTF-16, in either order, begin the text
abbrev pub is_utf16 : List ℕ → Bool
is_utf16 text =
    slice_index text 0 == 0xff && slice_index text 1 == 0xfe || slice_index text 0 == 0xfe && slice_index text 1 == 0xff

-- a byte 0 is among the first 512
abbrev pub is_binary : List ℕ → Bool
is_binary text = list_any (λ c. c == 0) (take 512 text)

-- ---- by what stands where a definition is wanted

abbrev pub loadkeys_words : List (List ℕ)
loadkeys_words =
    codes "keymaps" ∷ codes "keycode" ∷ codes "charset" ∷ codes "include" ∷ codes "strings" ∷ codes "string"
    ∷ codes "compose" ∷ codes "plain" ∷ codes "altgr" ∷ codes "alt_is_meta" ∷ []

abbrev pub xkb_words : List (List ℕ)
xkb_words =
    codes "default" ∷ codes "partial" ∷ codes "hidden" ∷ codes "xkb_keymap" ∷ codes "xkb_symbols"
    ∷ codes "xkb_keycodes" ∷ []

abbrev pub xmodmap_words : List (List ℕ)
xmodmap_words = codes "clear" ∷ codes "keysym" ∷ codes "add" ∷ codes "remove" ∷ codes "pointer" ∷ []

abbrev pub is_among : List (List ℕ) → List ℕ → Bool
is_among words word = list_any (same_name word) words

-- `!`, `;`, `//` or `/*` in front of bytes
abbrev pub begins_other_comment : List ℕ → Bool
begins_other_comment bytes =
    slice_index bytes 0 == 33 || slice_index bytes 0 == 59
    || slice_index bytes 0 == 47 && (slice_index bytes 1 == 47 || slice_index bytes 1 == 42)

-- what is told by the first of these rows that holds, or else this
abbrev pub first_or : List (Bool × List ℕ) → Option (List ℕ) → Option (List ℕ)
first_or [] told = told
first_or (row ∷ rows) told = if row.0 then Some row.1 else first_or rows told

-- what the text is taken for by these bytes, where a definition is wanted
abbrev pub foreign_rows : List ℕ → List (Bool × List ℕ)
foreign_rows bytes =
    (is_among loadkeys_words (joined_word bytes), codes "; this looks like a keymap for loadkeys")
    ∷ (
      is_among xkb_words (joined_word bytes),
      codes "; this looks like a text for xkb: ckbcomp -freebsd makes keymaps",
    )
    ∷ (is_among xmodmap_words (joined_word bytes), codes "; this looks like a text for xmodmap")
    ∷ (begins_other_comment bytes, codes "; a comment begins with #") ∷ []

abbrev pub foreign : List ℕ → Option (List ℕ)
foreign bytes = first_or (foreign_rows bytes) None

-- what it is taken for by its bytes alone; of UTF-16 nothing is told, since its message names it
abbrev pub text_rows : List ℕ → List (Bool × List ℕ)
text_rows text =
    (is_table_file text, codes "; this is a table file: kmap dump prints its text")
    ∷ (is_compressed text, codes "; the text is compressed") ∷ (is_utf16 text, [])
    ∷ (is_binary text, codes "; this is no text") ∷ []

abbrev pub wants_definition : Wanted → Bool
wants_definition wants.Definition = true
wants_definition _ = false

-- only blanks stand before the place in its line
abbrev pub is_first_in_line : List ℕ → ℕ → Bool
is_first_in_line text place = list_all is_space (before_in_line text place)

-- what is told behind the first fault of a text that is taken for another one
unfoldable pub hint : List ℕ → PlacedFault → Option (List ℕ)
hint text f =
    first_or (text_rows text)
    (if wants_definition f.place.wanted && is_first_in_line text f.fault.offset
    then foreign (drop f.fault.offset text)
    else None)
