-- What is said of a text that spells a keymap: of each kind its words, filled with what the diagnostic tells.
use Rattle.std.specs.Prelude.{ℕ, Bool, ◌==◌, ◌&&◌, not, if◌then◌else◌, List, [], ◌∷◌, codes, decimal, length}
use Rattle.std.specs.List.{list_any}
use Rattle.keymap_core.specs.Actions.{holding_action, name_of}
use Rattle.keymap_core.specs.declared.action.Holding.{Holding}
use Rattle.keymap_check.specs.declared.finding.Finding.{Finding}
use Rattle.keymap_places.specs.declared.placed.Defined.{Defined}
use Rattle.keymap_places.specs.declared.placed.Defined.TheVariants.{Slot, Accent}
use Rattle.keymap_text.specs.Meaning.{line}
use Rattle.keymap_text.specs.declared.token.Span.{Span}
use Rattle.keymap_lint.specs.Spelled.{bytes_at}
use Rattle.keymap_lint.specs.declared.diagnostic.BadIgnore.{BadIgnore}
use Rattle.keymap_lint.specs.declared.diagnostic.BadIgnore.TheVariants as bad
use Rattle.keymap_lint.specs.declared.diagnostic.Kind.{Kind}
use Rattle.keymap_lint.specs.declared.diagnostic.Kind.TheVariants as kinds
use Rattle.keymap_lint.specs.declared.diagnostic.Diagnostics.{Diagnostics}
use Rattle.keymap_lint.specs.Severities.{never_sticks}
use Rattle.keymap_lint_text.specs.declared.words.TheConstants as words
use Rattle.messages.specs.Filled.{filled}
use Rattle.keymap_names.specs.Lists.{accent_name, accents_text, ranges}
use Rattle.keymap_names.specs.Shown.{word_text}
use Rattle.keymap_lint_text.specs.Letters.{cannot_type_text, no_control_text, octal_like_text}
use Rattle.keymap_lint_text.specs.Wanted.{column_text, defined_text, character_name}

abbrev pub holding_name : Holding → List ℕ
holding_name a = name_of (holding_action a)

-- ascending numbers in the words for one number or in those for more
abbrev pub counted : List ℕ → List ℕ → List ℕ → List ℕ
counted one more ns = if length ns == 1 then filled one (ranges ns ∷ []) else filled more (ranges ns ∷ [])

-- the verdict on the whole keymap, only where the search answers that no modifier ever stays on
abbrev pub never_text : Bool → List ℕ
never_text never = if never then codes ", though no modifier ever stays on" else []

-- the slot of the character, where it isn't that of the modifier or lock
abbrev pub other_slot : Finding → List ℕ
other_slot f =
    if f.holding_at.slot == f.character_at.slot then []
    else filled words.OTHER_SLOT.now (decimal f.character_at.slot ∷ [])

-- a key that is a modifier or lock and has a character
unfoldable pub mixed_key_text : Finding → ℕ → Bool → List ℕ
mixed_key_text f character never =
    filled words.MIXED_KEY.now (decimal f.key ∷ holding_name f.holding ∷ character_name character
    ∷ column_text f.character_at.column ∷ other_slot f ∷ holding_name f.holding ∷ never_text never ∷ [])

-- the slots that aren't defined, and the keys that have a character there
unfoldable pub half_defined_text : Diagnostics → Holding → Bool → List ℕ
half_defined_text l selector has_keys =
    filled words.HALF_DEFINED.now (holding_name selector
    ∷ counted words.MISSING_SLOT.now words.MISSING_SLOTS.now l.missing_slots.items
    ∷ (if has_keys then counted words.NUL_KEY.now words.NUL_KEYS.now l.nul_keys.items else []) ∷ [])

abbrev pub not_joined : Defined → List ℕ
not_joined (Slot slot) = []
not_joined (Accent i) = codes ", and pairs are not joined"

-- a definition without effect, and the line of the last one
unfoldable pub defined_again_text : Defined → ℕ → List ℕ
defined_again_text what last =
    filled (codes "this definition of {} has no effect: line {} defines it again{}")
    (defined_text what ∷ decimal last ∷ not_joined what ∷ [])

-- slots of the main block that aren't defined
abbrev pub gap_text : List ℕ → List ℕ
gap_text slots =
    filled (codes "the text does not define {}") (counted words.MISSING_SLOT.now words.MISSING_SLOTS.now slots ∷ [])

-- a capital where its letter is wanted
unfoldable pub exchanged_text : ℕ → ℕ → ℕ → List ℕ
exchanged_text slot base shifted =
    filled (codes "slot {} gives {} without shift and {} with it")
    (decimal slot ∷ character_name base ∷ character_name shifted ∷ [])

-- a letter in two slots, and one in none
unfoldable pub twice_text : ℕ → ℕ → ℕ → ℕ → ℕ → List ℕ
twice_text one other column character missing =
    filled (codes "slots {} and {} both give {} in {}, and none gives {}")
    (decimal one ∷ decimal other ∷ character_name character ∷ column_text column ∷ character_name missing ∷ [])

-- the slots with letters of which caps lock makes no capitals
abbrev pub no_caps_text : List ℕ → List ℕ
no_caps_text slots =
    counted
    (codes "caps lock makes no capital of the letter of slot {}, whose lock letter is O or N; with C or B it does")
    (codes "caps lock makes no capitals of the letters of slots {}, whose lock letter is O or N; with C or B it does")
    slots

-- dead keys of accents that aren't defined, where some other accent is defined or none
unfoldable pub dead_key_text : List ℕ → Bool → List ℕ
dead_key_text missing defines_some =
    if defines_some
    then filled (codes "the text does not define {}, so pressing {} is an error") (accents_text missing
    ∷ (if length missing == 1 then codes "it" else codes "one") ∷ [])
    else filled (codes "the text defines no accent, so pressing {} is an error") (accents_text missing ∷ [])

-- a character that is spelled as a bare digit
unfoldable pub bare_digit_text : ℕ → List ℕ
bare_digit_text c =
    filled (codes "{} is the character number {}, which is {}; the digit is '{}'")
    (decimal c ∷ decimal c ∷ character_name c ∷ decimal c ∷ [])

-- an accent with the character 0
abbrev pub zero_accent_text : ℕ → List ℕ
zero_accent_text accent =
    filled
    (codes "with the character 0 {} counts as not defined, so pressing it is an error and its pairs have no effect")
    (accent_name accent ∷ [])

-- a pair whose base the accent has before it, and the line of that
abbrev pub pair_again_text : ℕ → ℕ → ℕ → List ℕ
pair_again_text accent base first =
    filled (codes "this pair has no effect: {} has one with the base {} before it, in line {}")
    (accent_name accent ∷ character_name base ∷ decimal first ∷ [])

-- slots that no key selects
abbrev pub unused_text : List ℕ → List ℕ
unused_text slots =
    counted (codes "no key is ashift or alock, so slot {} is never looked at")
    (codes "no key is ashift or alock, so slots {} are never looked at") slots

abbrev pub has_byte : ℕ → List ℕ → Bool
has_byte byte text = list_any (λ c. c == byte) text

-- the lines of a text end in CR alone
abbrev pub ends_in_cr : List ℕ → Bool
ends_in_cr text = has_byte 13 text && not (has_byte 10 text)

-- a text without a key, which a comment that reaches to the end of the text may hide
unfoldable pub no_key_text : List ℕ → List ℕ
no_key_text text =
    filled (codes "the text defines no key{}") ((if ends_in_cr text
    then codes ": its lines end in CR alone, so a comment reaches to its end; end them in LF" else [])
    ∷ [])

-- what is said of a word of the text, and of a directive that is wrong
abbrev pub of_word : List ℕ → List ℕ → Span → List ℕ
of_word words text at = filled words (word_text (bytes_at text at) ∷ [])

abbrev pub bad_ignore_text : List ℕ → BadIgnore → List ℕ
bad_ignore_text text (bad.NoKind at) = of_word (codes "{} is no kind") text at
bad_ignore_text text (bad.NotIgnored at) = of_word (codes "{} can not be ignored") text at
bad_ignore_text text bad.NoKinds = filled (codes "no kind stands behind ignore") []
bad_ignore_text text bad.NoWord = filled (codes "behind kmap: stands ignore or ignore-text, and kinds") []

-- what is said of a text by a diagnostic of this kind
unfoldable pub message_text : List ℕ → Diagnostics → Kind → List ℕ
message_text text l kinds.NoKey = no_key_text text
message_text text l kinds.CannotType = cannot_type_text l.untyped.items
message_text text l kinds.NoShift = filled (codes "no key is lshift or rshift") []
message_text text l (kinds.MixedKey finding character) =
    mixed_key_text finding character (never_sticks l.sticking)
message_text text l (kinds.HalfDefined selector has_keys) = half_defined_text l selector has_keys
message_text text l (kinds.DefinedAgain what last) = defined_again_text what (line text last)
message_text text l kinds.Gap = gap_text l.gaps.items
message_text text l (kinds.Exchanged slot base shifted) = exchanged_text slot base shifted
message_text text l (kinds.Twice one other column character missing) = twice_text one other column character missing
message_text text l (kinds.NoControl above) = no_control_text l.lost_letters.items above
message_text text l kinds.NoCaps = no_caps_text l.small_slots.items
message_text text l (kinds.OctalLike character start octal) = octal_like_text text character start octal
message_text text l (kinds.DeadKey defines_some) = dead_key_text l.missing_accents.items defines_some
message_text text l (kinds.ZeroAccent accent) = zero_accent_text accent
message_text text l (kinds.PairAgain accent base first) = pair_again_text accent base (line text first)
message_text text l kinds.UnusedHalf = unused_text l.unused_slots.items
message_text text l (kinds.BareDigit character) = bare_digit_text character
message_text text l (kinds.UnusedIgnore word) = of_word (codes "no {} is kept back here") text word
message_text text l (kinds.BadIgnore wrong) = bad_ignore_text text wrong
