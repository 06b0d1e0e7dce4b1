-- Each message stays in its line, and a terminal shows it.
use Rattle.keymap_lint_text.proofs.Common.{◌≡◌, ℕ, ◌<◌, ◌/◌, ◌%◌, Bool, true, List, [], refl, arith, Option}
use Rattle.keymap_lint_text.proofs.Common.{Some, None, drop, length, nat_lt, ◌==◌, ◌-◌}
use Rattle.keymap_lint_text.proofs.Common.{◌∷◌, and_parts, list_all, nat_tests, All-take, slice_index}
use Rattle.keymap_lint_text.proofs.Common.{IsSeen, IsLine, is_shown_byte}
use Rattle.std.specs.List.{range_with_len}
use Rattle.std.proofs.lemmas.Bool.{and_from, cond_both}
use Rattle.std.specs.Prelude.{IfSome, if◌then◌else◌, ◌&&◌, ◌+◌, codes}
use Rattle.keymap_core.specs.declared.action.Holding.{Holding}
use Rattle.keymap_core.specs.declared.action.Holding.TheVariants as holding
use Rattle.keymap_check.specs.declared.finding.Finding.{Finding}
use Rattle.keymap_places.specs.declared.placed.Defined.{Defined}
use Rattle.keymap_places.specs.declared.placed.Defined.TheVariants.{Slot, Accent}
use Rattle.keymap_text.specs.declared.fault.TextFaultKind.{TextFaultKind}
use Rattle.keymap_text.specs.declared.fault.TextFaultKind.TheVariants as faults
use Rattle.keymap_places.specs.declared.wanted.Wanted.{Wanted}
use Rattle.keymap_places.specs.declared.wanted.Wanted.TheVariants as wants
use Rattle.keymap_places.specs.declared.wanted.DefinitionStart.{DefinitionStart}
use Rattle.keymap_places.specs.declared.wanted.FaultPlace.{FaultPlace}
use Rattle.keymap_lint.specs.declared.diagnostic.Diagnostics.{Diagnostics}
use Rattle.keymap_lint.specs.declared.diagnostic.BadIgnore.{BadIgnore}
use Rattle.keymap_lint.specs.declared.diagnostic.BadIgnore.TheVariants as bad
use Rattle.keymap_lint.specs.declared.diagnostic.Kind.{Kind}
use Rattle.keymap_lint.specs.declared.diagnostic.PlacedFault.{PlacedFault}
use Rattle.keymap_lint.specs.declared.diagnostic.Kind.TheVariants as kinds
use Rattle.keymap_lint_text.specs.declared.words.TheConstants as words
use Rattle.keymap_lint_text.specs.Faults as fault
use Rattle.keymap_lint_text.specs.Hints as hints
use Rattle.keymap_lint_text.specs.Letters as letters
use Rattle.keymap_lint_text.specs.declared.letters.Listed.{Listed}
use Rattle.keymap_lint_text.specs.declared.letters.Listed.TheVariants.{Character, Control, Letter}
use Rattle.keymap_lint_text.specs.Notes.{begins_text}
use Rattle.keymap_lint_text.specs.Said as said
use Rattle.keymap_lint_text.specs.Wanted.{character_name, column_text, defined_text, started_text, wanted_text}
use Rattle.keymap_names.specs.Lists.{column_names}
use Rattle.keymap_names.proofs.Shared.{accent_line, accents_line, all_seen, ascii, code_line, decimal_line}
use Rattle.keymap_names.proofs.Shared.{digit_printed, either, fills, line_chars, line_flat, line_if, line_none}
use Rattle.keymap_names.proofs.Shared.{lock_line, modifier_line, named, ranges_line, word_line, ◌⊳◌}

-- ---- what is told

holding_line : (h : Holding) → IsLine (said.holding_name h)
holding_line (holding.Mod modifier) = modifier_line modifier
holding_line (holding.Lock lock) = lock_line lock

character_line : (c : ℕ) → IsLine (character_name c)
unfolding character_name
character_line c = word_line _

column_line : (column : ℕ) → IsLine (column_text column)
unfolding column_text
column_line column =
    fills _ _ refl
    (decimal_line column, (named column_names refl column, tt))

defined_line : (what : Defined) → IsLine (defined_text what)
defined_line (Slot slot) = fills _ _ refl (decimal_line slot, tt)
defined_line (Accent i) = accent_line i

started_line : (d : Option DefinitionStart) → IsLine (started_text d)
started_line None = line_none
started_line (Some d) = defined_line d.what

wanted_line : (w : Wanted) (d : Option DefinitionStart) → IsLine (wanted_text w d)
unfolding wanted_text
wanted_line wants.Definition d = fills _ [] refl tt
wanted_line (wants.Cell column) d = fills _ _ refl (started_line d, (column_line column, tt))
wanted_line wants.Lock d = fills _ _ refl (started_line d, tt)
wanted_line wants.AccentCharacter d = fills _ _ refl (started_line d, tt)
wanted_line (wants.Pair n) d = fills _ _ refl (started_line d, tt)
wanted_line (wants.Base n) d = fills _ _ refl (started_line d, tt)
wanted_line (wants.Composed n) d = fills _ _ refl (started_line d, tt)
wanted_line (wants.PairEnd n) d = fills _ _ refl (started_line d, tt)

-- ---- of a text that spells a keymap

counted_line : (one more ns : List ℕ) → list_all is_shown_byte one ≡ true → list_all is_shown_byte more ≡ true
    → IsLine (said.counted one more ns)
counted_line one more ns h k =
    either (length ns == 1) _ _ (fills one _ h (ranges_line ns, tt)) (fills more _ k (ranges_line ns, tt))

not_joined_line : (what : Defined) → IsLine (said.not_joined what)
not_joined_line (Slot slot) = line_none
not_joined_line (Accent i) = ascii _ refl

mixed_line : (f : Finding) (c : ℕ) (never : Bool) → IsLine (said.mixed_key_text f c never)
unfolding said.mixed_key_text
mixed_line f c never =
    fills _ _ refl (
      decimal_line f.key,
      (
        holding_line f.holding,
        (
          character_line c,
          (
            column_line f.character_at.column,
            (
              either _ [] _ line_none (fills _ _ refl (decimal_line f.character_at.slot, tt)),
              (holding_line f.holding, (line_if never _ (ascii _ refl), tt)),
            ),
          ),
        ),
      ),
    )

half_line : (l : Diagnostics) (selector : Holding) (has_keys : Bool)
    → IsLine (said.half_defined_text l selector has_keys)
unfolding said.half_defined_text
half_line l selector has_keys =
    fills _ _ refl (
      holding_line selector,
      (
        counted_line _ _ l.missing_slots.items refl refl,
        (
          line_if has_keys _ (counted_line _ _ l.nul_keys.items refl refl),
          tt,
        ),
      ),
    )

again_line : (what : Defined) (last : ℕ) → IsLine (said.defined_again_text what last)
unfolding said.defined_again_text
again_line what last =
    fills _ _ refl (defined_line what, (decimal_line last, (not_joined_line what, tt)))

gap_line : (slots : List ℕ) → IsLine (said.gap_text slots)
gap_line slots = fills _ _ refl (counted_line _ _ slots refl refl, tt)

exchanged_line : (slot base shifted : ℕ) → IsLine (said.exchanged_text slot base shifted)
unfolding said.exchanged_text
exchanged_line slot base shifted =
    fills _ _ refl (decimal_line slot, (character_line base, (character_line shifted, tt)))

twice_line : (one other column character missing : ℕ) → IsLine (said.twice_text one other column character missing)
unfolding said.twice_text
twice_line one other column character missing =
    fills _ _ refl (
      decimal_line one,
      (decimal_line other, (character_line character, (column_line column, (character_line missing, tt)))),
    )

item_line : (listed : Listed) (c : ℕ) → IsLine (letters.item_text listed c)
unfolding letters.item_text
item_line Character c = character_line c
item_line Control c = fills _ _ refl (character_line (c - 96), (word_line _, tt))
item_line Letter c = word_line _

list_line : (listed : Listed) (last cs : List ℕ) → IsLine last → IsLine (letters.list_text listed last cs)
list_line listed last cs h =
    line_flat (letters.listed_item listed last cs)
    (λ i. before_line i ⊳ item_line listed (slice_index cs i)) (range_with_len 0 (length cs))
  where
    before_line : (i : ℕ) → IsLine (letters.before i (length cs) last)
    before_line i =
        either (i == 0) [] (if i + 1 == length cs then last else codes ", ") line_none
        (either (i + 1 == length cs) last (codes ", ") h (ascii (codes ", ") refl))

cannot_line : (cs : List ℕ) → IsLine (letters.cannot_type_text cs)
cannot_line cs = fills _ _ refl (list_line Character _ cs (ascii _ refl), tt)

control_line : (cs : List ℕ) (above : Bool) → IsLine (letters.no_control_text cs above)
unfolding letters.no_control_text
control_line cs above =
    either (nat_lt (length cs) 4) _ _
    (fills _ _ refl (list_line Control _ cs (ascii _ refl), (line_if above _ (ascii _ refl), tt)))
    (fills _ _ refl (list_line Letter _ cs (ascii _ refl), (line_if above _ (ascii _ refl), tt)))

octal_line : (text : List ℕ) (c start : ℕ) (octal : Option ℕ) → IsLine (letters.octal_like_text text c start octal)
unfolding letters.octal_like_text
octal_line text c start octal =
    fills _ _ refl (word_line _, (decimal_line c, (character_line c, (number_line octal, tt))))
  where
    number_line : (o : Option ℕ) → IsLine (letters.octal_text o)
    number_line None = line_none
    number_line (Some n) = fills _ _ refl (word_line _, tt)

small_line : (slots : List ℕ) → IsLine (said.no_caps_text slots)
small_line slots = counted_line _ _ slots refl refl

dead_line : (missing : List ℕ) (some : Bool) → IsLine (said.dead_key_text missing some)
unfolding said.dead_key_text
dead_line missing some =
    either some _ _ (fills words.DEAD_KEY.now _ refl (
      accents_line missing,
      (either _ _ _ (ascii words.ONE_ACCENT.now refl) (ascii words.ACCENTS.now refl), tt),
    )) (fills words.NO_ACCENT.now _ refl (accents_line missing, tt))

digit_line : (c : ℕ) → IsLine (said.bare_digit_text c)
unfolding said.bare_digit_text
digit_line c =
    fills _ _ refl (decimal_line c, (decimal_line c, (character_line c, (decimal_line c, tt))))

zero_line : (accent : ℕ) → IsLine (said.zero_accent_text accent)
zero_line accent = fills _ _ refl (accent_line accent, tt)

pair_line : (accent base first : ℕ) → IsLine (said.pair_again_text accent base first)
pair_line accent base first = fills _ _ refl (accent_line accent, (character_line base, (decimal_line first, tt)))

unused_line : (slots : List ℕ) → IsLine (said.unused_text slots)
unused_line slots = counted_line _ _ slots refl refl

no_key_line : (text : List ℕ) → IsLine (said.no_key_text text)
unfolding said.no_key_text
no_key_line text = fills _ _ refl (line_if (said.ends_in_cr text) _ (ascii _ refl), tt)

bad_ignore_line : (text : List ℕ) (wrong : BadIgnore) → IsLine (said.bad_ignore_text text wrong)
bad_ignore_line text (bad.NoKind w) = fills _ _ refl (word_line _, tt)
bad_ignore_line text (bad.NotIgnored w) = fills _ _ refl (word_line _, tt)
bad_ignore_line text bad.NoKinds = fills _ [] refl tt
bad_ignore_line text bad.NoWord = fills _ [] refl tt

pub message_line : (text : List ℕ) (l : Diagnostics) (kind : Kind) → IsLine (said.message_text text l kind)
unfolding said.message_text
message_line text l kinds.NoKey = no_key_line text
message_line text l kinds.CannotType = cannot_line l.untyped.items
message_line text l kinds.NoShift = fills _ [] refl tt
message_line text l (kinds.MixedKey f c) = mixed_line f c _
message_line text l (kinds.HalfDefined selector has_keys) = half_line l selector has_keys
message_line text l (kinds.DefinedAgain what last) = again_line what _
message_line text l kinds.Gap = gap_line l.gaps.items
message_line text l (kinds.Exchanged slot base shifted) = exchanged_line slot base shifted
message_line text l (kinds.Twice one other column character missing) = twice_line one other column character missing
message_line text l (kinds.NoControl above) = control_line l.lost_letters.items above
message_line text l kinds.NoCaps = small_line l.small_slots.items
message_line text l (kinds.OctalLike c start octal) = octal_line text c start octal
message_line text l (kinds.DeadKey some) = dead_line l.missing_accents.items some
message_line text l (kinds.ZeroAccent accent) = zero_line accent
message_line text l (kinds.PairAgain accent base first) = pair_line accent base _
message_line text l kinds.UnusedHalf = unused_line l.unused_slots.items
message_line text l (kinds.BareDigit c) = digit_line c
message_line text l (kinds.UnusedIgnore w) = fills _ _ refl (word_line _, tt)
message_line text l (kinds.BadIgnore wrong) = bad_ignore_line text wrong

pub begins_line : (what : Defined) → IsLine (begins_text what)
unfolding begins_text
begins_line what = fills _ _ refl (defined_line what, tt)

-- ---- of a text with a fault

front_line : (bytes : List ℕ) → IsLine (fault.front_text bytes)
unfolding fault.front_text
front_line bytes = line_chars _ (All-take IsSeen 1 _ (all_seen _))

unnamed_low : (c : ℕ) → fault.is_unnamed c ≡ true → c < 128
unnamed_low c h = grind (arith, nat_tests, h)

hex_line : (c : ℕ) → c < 128 → IsLine (fault.hex_byte c)
hex_line c low =
    ascii _ (and_from _ _ (digit_printed (c / 16) (omega arith))
    (and_from _ _ (digit_printed (c % 16) (omega arith)) refl))

lone_line : (bytes : List ℕ) → IsLine (fault.lone_byte_text bytes)
unfolding fault.lone_byte_text
lone_line bytes =
    cond_both (fault.is_unnamed (slice_index bytes 0)) _ _ IsLine
    (λ h. fills _ _ refl (hex_line _ (unnamed_low _ h), tt))
    (λ _. either _ _ _ (fills _ [] refl tt)
    (fills _ _ refl (front_line bytes, (front_line bytes, tt))))

byte_line : (text bytes : List ℕ) → IsLine (fault.bad_byte_text text bytes)
unfolding fault.bad_byte_text
byte_line text bytes =
    either _ _ _ (fills _ [] refl tt) (lone_line bytes)

between_line : (both : Option (ℕ × ℕ)) → IsLine (fault.between_text both)
between_line None = fills words.BAD_LITERAL.now [] refl tt
between_line (Some both) = fills _ _ refl (code_line both.0, (code_line both.1, tt))

literal_line : (bytes : List ℕ) → IsLine (fault.bad_literal_text bytes)
unfolding fault.bad_literal_text
literal_line bytes = between_line (fault.two_characters (drop 1 bytes))

help_line : (w : Wanted) → IsLine (fault.help_text w)
help_line w = either (fault.wants_cell w) _ _ (ascii _ refl) (line_if (fault.wants_lock w) _ (ascii _ refl))

near_line : (bytes : List ℕ) (w : Wanted) → IsLine (fault.near_text bytes w)
unfolding fault.near_text
near_line bytes w = either _ _ _ (help_line w) (fills _ _ refl (word_line _, tt))

meant_line : (bytes : List ℕ) (w : Wanted) → IsLine (fault.meant_text bytes w)
unfolding fault.meant_text
meant_line bytes w =
    either _ _ _ (fills words.MEANT_NUMBER.now _ refl (word_line _, (word_line _, tt)))
    (either _ _ _ (fills words.MEANT_CHARACTER.now _ refl (word_line _, tt)) (near_line _ w))

bad_word_line : (bytes : List ℕ) (w : Wanted) → IsLine (fault.bad_word_text bytes w)
unfolding fault.bad_word_text
bad_word_line bytes w =
    either _ _ _ (fills _ _ refl (decimal_line _, (help_line w, tt)))
    (fills _ _ refl (word_line _, (meant_line bytes w, tt)))

cells_line : (token : List ℕ) (w : Wanted) (d : Option DefinitionStart) → IsLine (fault.cells_text token w d)
unfolding fault.cells_text
cells_line token (wants.Cell n) d =
    line_if _ _ (fills _ _ refl (started_line d, (decimal_line n, tt)))
cells_line token wants.Lock d = fills _ [] refl tt
cells_line token wants.Definition d = line_none
cells_line token _ d = line_none

end_line : (text : List ℕ) (f : FaultPlace) → IsLine (fault.end_text text f)
unfolding fault.end_text
end_line text f =
    either _ _ _ (fills _ [] refl tt)
    (fills _ _ refl (wanted_line f.wanted f.definition, tt))

pub fault_line : (text : List ℕ) (place : ℕ) (kind : TextFaultKind) (f : FaultPlace)
    → IsLine (fault.fault_text text place kind f)
unfolding fault.fault_text
fault_line text place faults.BadByte f = byte_line text (drop place text)
fault_line text place faults.BadLiteral f = literal_line (drop place text)
fault_line text place faults.BadWord f = bad_word_line (drop place text) f.wanted
fault_line text place faults.Unexpected f =
    fills _ _ refl (word_line _, (wanted_line f.wanted f.definition, (cells_line _ f.wanted _, tt)))
fault_line text place faults.KeyTooLarge f = fills _ _ refl (word_line _, tt)
fault_line text place faults.BadChar f = fills _ _ refl (word_line _, tt)
fault_line text place faults.BadFunction f =
    fills words.BAD_FUNCTION.now _ refl (
      word_line _,
      (either _ _ _ (ascii words.SCREENS.now refl) (ascii words.FUNCTION_KEYS.now refl), tt),
    )
fault_line text place faults.TooManyPairs f = fills _ _ refl (started_line f.definition, tt)
fault_line text place faults.ZeroBase f = fills _ [] refl tt
fault_line text place faults.Combined f = fills _ _ refl (word_line _, (word_line _, tt))
fault_line text place faults.EndInside f = end_line text f

-- ---- what a text with a fault may be in place of a keymap text

abbrev is_plain_row : Bool × List ℕ → Bool
is_plain_row row = list_all is_shown_byte row.1

first_line : (rows : List (Bool × List ℕ)) (told : Option (List ℕ)) → list_all is_plain_row rows ≡ true
    → IfSome told IsLine → IfSome (hints.first_or rows told) IsLine
first_line [] told plain p = p
first_line (row ∷ rows) told plain p =
    let both = and_parts (is_plain_row row) (list_all is_plain_row rows) plain in
    cond_both row.0 (Some row.1) (hints.first_or rows told) (λ one. IfSome one IsLine) (λ _. ascii row.1 both.0)
    (λ _. first_line rows told both.1 p)

pub hint_line : (text : List ℕ) (f : PlacedFault) → IfSome (hints.hint text f) IsLine
unfolding hints.hint
hint_line text f =
    let is_first = hints.wants_definition f.place.wanted && hints.is_first_in_line text f.fault.offset in
    let bytes = drop f.fault.offset text in
    first_line (hints.text_rows text) (if is_first then hints.foreign bytes else None) refl
    (cond_both is_first (hints.foreign bytes) None (λ told. IfSome told IsLine)
    (λ _. first_line (hints.foreign_rows bytes) None refl tt) (λ _. tt))
