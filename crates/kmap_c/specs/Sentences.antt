-- The sentences that say what a number of a fault means, and what a finding does.
use Rattle.std.specs.Prelude.{◌≡◌, ℕ, ◌+◌, ◌<◌, ◌≤◌, ℤ, List, [], ◌∷◌, ◌++◌, codes, length, drop}
use Rattle.keymap_core.specs.declared.action.Holding.{Holding}
use Rattle.keymap_check.specs.Said.{said_of_key}
use Rattle.kmap_c.specs.declared.tables.KmapFinding.{KmapFinding}
use Rattle.kmap_c.specs.Statuses as status

-- of a modifier that is joined with the alt lock, in a table file or in a text
abbrev pub combined : List ℕ
combined = codes "a modifier joined with alock, which is not supported"

-- of the kinds of faults of a table file, from 0 on, which is none
abbrev pub table_sentences : List (List ℕ)
table_sentences =
    []
    ∷ codes "the file is too short"
    ∷ codes "the file is too long"
    ∷ codes "more than 256 slots, or more than 15 accents"
    ∷ codes "a pad that is not 0"
    ∷ codes "a lock flag above 3"
    ∷ codes "a number that is no action, in a cell that is marked as one"
    ∷ combined
    ∷ codes "a number that is no character"
    ∷ codes "a byte that is not 0 in a slot, an accent or a pair that is not in use"
    ∷ []

-- of the kinds of faults of a text, from 0 on, which is none
abbrev pub text_sentences : List (List ℕ)
text_sentences =
    []
    ∷ codes "a byte that begins no token"
    ∷ codes "no quoted character stands here: an apostrophe, one character other than a line feed, an apostrophe"
    ∷ codes "a word without a meaning, or of more than 32 bytes"
    ∷ codes "a token that is not wanted here"
    ∷ codes "a slot above 255"
    ∷ codes "a number that is no character: characters are 0 to 0xd7ff and 0xe000 to 0x10ffff"
    ∷ codes "a screen or function key that does not exist: there are scr01 to scr16 and fkey01 to fkey96"
    ∷ codes "an accent has 52 pairs already, and room for no more"
    ∷ codes "the base of a pair is a character other than 0"
    ∷ combined
    ∷ codes "the text ends inside a token or a definition"
    ∷ []

-- what a finding does, as the line of `kmap check` says it
abbrev pub finding_sentence : Holding → KmapFinding → List ℕ
finding_sentence a t =
    said_of_key t.key a (record { slot = t.holding_slot; column = t.holding_column })
    (record { slot = t.character_slot; column = t.character_column })

-- room for each sentence and the 0 behind it: KMAP_WORDS_SIZE
abbrev pub words_size : ℕ
words_size = 128

-- room for each name of an action and the 0 behind it: KMAP_NAME_SIZE
abbrev pub name_size : ℕ
name_size = 7

-- A sentence or a name stands in front in a buffer that was `old`, and 0 behind it, where there is room for both; else
-- nothing was changed, and the result says that there is no room.
pub record IsSaid (sentence old : List ℕ) (result : ℤ) (new : List ℕ) : Type 0 where
  pub said : length sentence < length old
      → (result ≡ status.done) × (new ≡ (sentence ++ 0 ∷ []) ++ drop (length sentence + 1) old)
  pub no_room : length old ≤ length sentence → (result ≡ status.no_room) × (new ≡ old)
