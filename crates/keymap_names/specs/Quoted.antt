-- Which characters a text has as they are, between apostrophes.
use Rattle.std.specs.Prelude.{ℕ, Bool, true, false, not, ◌||◌, ◌&&◌, nat_lt, if◌then◌else◌}
use Rattle.keymap_core.specs.Actions.{within}
use Rattle.keymap_core.specs.Unseen.{is_unseen}
use Rattle.ucd_bidi.specs.BidiClass.{bidi_class}
use Rattle.ucd_bidi.specs.declared.BidiClass.{BidiClass}
use Rattle.ucd_bidi.specs.declared.BidiClass.TheVariants.{ArabicLetter, ArabicNumber, RightToLeft}
use Rattle.ucd_category.specs.GeneralCategory.{general_category}
use Rattle.ucd_category.specs.GeneralCategoryGroup.{in_group}
use Rattle.ucd_category.specs.declared.GeneralCategory.{GeneralCategory}
use Rattle.ucd_category.specs.declared.GeneralCategoryGroup.TheVariants.{Letter, Number, Punctuation, Symbol}

-- a letter, a digit, a punctuation mark or a symbol; a mark sits on what stands before it, and blanks, controls,
-- private and unassigned characters show nothing
abbrev pub is_sign : GeneralCategory → Bool
is_sign g = in_group Letter g || in_group Number g || in_group Punctuation g || in_group Symbol g

-- written from right to left: the blanks and apostrophes between two of these turn with them
abbrev pub is_from_right : BidiClass → Bool
is_from_right ArabicLetter = true
is_from_right ArabicNumber = true
is_from_right RightToLeft = true
is_from_right other = false

-- a character of ASCII that is no control, or a sign above the controls that a terminal shows where it stands
abbrev pub is_quoted : ℕ → Bool
is_quoted c =
    if nat_lt c 0xa0 then within 0x20 0x7e c
    else is_sign (general_category c) && not (is_from_right (bidi_class c)) && not (is_unseen c)
