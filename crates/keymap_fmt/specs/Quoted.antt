-- Characters as they are: which token stands for another in a text that has its characters between apostrophes.
use Rattle.std.specs.Prelude.{◌≡◌, ℕ, zero, suc, Bool, ◌&&◌, ◌||◌, not, nat_lt, if◌then◌else◌, List, [], ◌∷◌, ◌++◌}
use Rattle.std.specs.Prelude.{length, encode_utf8, Option, Some, None, Ok, ◌⊎◌, ⊤}
use lib.Utf8.{scalar}
use Rattle.keymap_core.specs.Actions.{within}
use Rattle.keymap_names.specs.Quoted.{is_quoted}
use Rattle.keymap_places.specs.Unicode.{is_unicode}
use Rattle.keymap_text.specs.Items.{character}
use Rattle.keymap_text.specs.Meaning.{tokens}
use Rattle.keymap_text.specs.Printed.{character_text}
use Rattle.keymap_text.specs.Words.{item}
use Rattle.keymap_text.specs.declared.token.TokenKind.TheVariants.{Literal, Word}
use Rattle.keymap_text.specs.declared.words.Item.{Item}
use Rattle.keymap_text.specs.declared.words.Item.TheVariants.{Open, Value}
use Rattle.keymap_text.specs.declared.words.Meaning.TheVariants.{Number, Act}
use Rattle.keymap_fmt.specs.declared.quoted.Change.{Change}
use Rattle.keymap_fmt.specs.declared.quoted.Change.TheVariants.{Stays, Quoted, Named}
use Rattle.keymap_fmt.specs.declared.quoted.Characters.{Characters}
use Rattle.keymap_fmt.specs.declared.quoted.Characters.TheVariants as characters
use Rattle.keymap_fmt.specs.declared.quoted.Quoting.{Quoting}
use Rattle.keymap_fmt.specs.declared.quoted.Quoting.TheVariants.{Off, On}
use Rattle.keymap_fmt.specs.Types.{TokenKind, Part, Comment, Code}
use Rattle.keymap_fmt.specs.Pieces.{PieceValue, pieces}
use Rattle.keymap_fmt.specs.Formatted.{formatted, rendered}

-- the number of a character that passes the test; one of 0x80 to 0xff only where characters are Unicode for sure
abbrev pub of_number : (ℕ → Bool) → Bool → ℕ → Change
of_number test sure c = if test c && (sure || not (within 0x80 0xff c)) then Quoted c else Stays

abbrev pub of_item : (ℕ → Bool) → Bool → Item → Change
of_item test sure (Value (Number n)) = if scalar n then of_number test sure n else Stays
of_item test sure other = Stays

-- a quoted character that doesn't pass, unless it is a byte that stands alone
abbrev pub of_literal : (ℕ → Bool) → ℕ → List ℕ → Change
of_literal test c bytes =
    if scalar c && not (test c) && (nat_lt c 0x80 || nat_lt 3 (length bytes)) then Named c else Stays

-- what is done with a token, where so many belong to what has begun: the first one of a definition or a pair stays
abbrev pub change_of : (ℕ → Bool) → Bool → ℕ → TokenKind → List ℕ → Change
change_of test sure zero kind bytes = Stays
change_of test sure (suc left) (Literal c) bytes = of_literal test c bytes
change_of test sure (suc left) kind bytes = of_item test sure (item kind bytes)

abbrev pub change_by : Quoting → ℕ → Part → List ℕ → Change
change_by Off left part bytes = Stays
change_by (On sure) left Comment bytes = Stays
change_by (On sure) left (Code kind) bytes = change_of is_quoted sure left kind bytes

-- how many tokens belong to what has begun behind a token: nine behind the number of a slot, one behind the name of an
-- accent, three behind the parenthesis of a pair
abbrev pub left_after : ℕ → Item → ℕ
left_after (suc left) i = left
left_after zero Open = 3
left_after zero (Value (Number n)) = 9
left_after zero (Value (Act a)) = 1
left_after zero other = 0

abbrev pub left_by : Quoting → ℕ → Part → List ℕ → ℕ
left_by Off left part bytes = left
left_by (On sure) left Comment bytes = left
left_by (On sure) left (Code kind) bytes = left_after left (item kind bytes)

-- a character between apostrophes
abbrev pub quote : ℕ → List ℕ
quote c = 39 ∷ (encode_utf8 c ++ 39 ∷ [])

abbrev pub part_by : Change → Part → Part
part_by Stays part = part
part_by (Quoted c) part = Code (Literal c)
part_by (Named c) part = Code Word

abbrev pub bytes_by : Change → List ℕ → List ℕ
bytes_by Stays bytes = bytes
bytes_by (Quoted c) bytes = quote c
bytes_by (Named c) bytes = character_text c

abbrev pub changed : Change → PieceValue → PieceValue
changed x p = record { part = part_by x p.part; bytes = bytes_by x p.bytes; standing = p.standing }

-- what stands for pieces, where so many tokens belong to what has begun
unfoldable pub written_from : Quoting → ℕ → List PieceValue → List PieceValue
written_from q left [] = []
written_from q left (p ∷ ps) =
    changed (change_by q left p.part p.bytes) p ∷ written_from q (left_by q left p.part p.bytes) ps

-- the layout of a text with its characters between apostrophes
abbrev pub quoted : List ℕ → List ℕ
quoted text = rendered (written_from (On (is_unicode (tokens text))) 0 (pieces text))

abbrev pub laid_by : Characters → List ℕ → List ℕ
laid_by characters.Kept text = formatted text
laid_by characters.Quoted text = quoted text

-- Two tokens mean the same: they are one, or the same character.
abbrev pub IsSameItem : Item → Item → Type 0
IsSameItem i j = (i ≡ j) ⊎ ((c : ℕ) × (character i ≡ Ok c) × (character j ≡ Ok c))

-- each token means the same as the one in its place
abbrev pub AreSameItems : List Item → List Item → Type 0
AreSameItems [] [] = ⊤
AreSameItems (i ∷ is) (j ∷ js) = IsSameItem i j × AreSameItems is js
AreSameItems is js = ⊥

-- a comment, or nothing in the place of a token
abbrev pub comment_in : Part → List ℕ → Option (List ℕ)
comment_in Comment bytes = Some bytes
comment_in (Code kind) bytes = None

abbrev pub comment_of : PieceValue → Option (List ℕ)
comment_of p = comment_in p.part p.bytes
