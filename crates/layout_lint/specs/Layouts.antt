-- The diagnostics of a text and of its layout are the same but for places.
use Rattle.std.specs.Prelude.{◌≡◌, ℕ, ◌<◌, Bool, false, not, List, length, map, take, count_by, slice_index}
use Rattle.keymap_fmt.specs.Formatted.{formatted}
use Rattle.keymap_places.specs.Placed.{span_of}
use Rattle.keymap_text.specs.Lexical.{is_blank}
use Rattle.keymap_text.specs.Meaning.{tokens}
use Rattle.keymap_lint.specs.Lists.{IsLint}
use Rattle.keymap_lint.specs.Same.{AnswerTheSame, IsSame, Pairwise, TellOfTheSame}
use Rattle.keymap_lint.specs.Spelled.{span_at}
use Rattle.keymap_lint.specs.declared.diagnostic.Diagnostics.{Diagnostics}
use Rattle.keymap_lint.specs.declared.diagnostic.Lint.TheVariants.{Spelled}

-- how many bytes that are no blanks stand before a place
abbrev pub is_nonblank : ℕ → Bool
is_nonblank c = not (is_blank c)

abbrev pub nonblank_before : List ℕ → ℕ → ℕ
nonblank_before text place = count_by is_nonblank (take place text)

-- One byte stands at both places, and is no blank: as many that are none stand before the one as before the other.
pub record IsSameByte (text other : List ℕ) (p q : ℕ) : Type 0 where
  pub within : p < length text
  pub within_other : q < length other
  pub byte : slice_index text p ≡ slice_index other q
  pub nonblank : is_blank (slice_index text p) ≡ false
  pub before : nonblank_before text p ≡ nonblank_before other q

-- where the token with a number begins
abbrev pub token_start : List ℕ → ℕ → ℕ
token_start text n = (span_at (map span_of (tokens text)) n).start

-- One byte stands at both places, and where a token begins at the one, that with the same number does at the other.
pub record IsSamePlace (text other : List ℕ) (p q : ℕ) : Type 0 where
  pub byte : IsSameByte text other p q
  pub token : (n : ℕ) → n < length (tokens text) → p ≡ token_start text n → q ≡ token_start other n

-- whatever directives stand in the text
abbrev pub LayoutsKeepDiagnostics : Type 0
LayoutsKeepDiagnostics =
    (text : List ℕ) (l k : Diagnostics) → IsLint text (Spelled l) → IsLint (formatted text) (Spelled k)
    → Pairwise (IsSame (IsSamePlace text (formatted text))) l.list.items k.list.items

-- and the searches answer the same
abbrev pub LayoutsAnswerTheSame : Type 0
LayoutsAnswerTheSame =
    (text : List ℕ) (l k : Diagnostics) → IsLint text (Spelled l) → IsLint (formatted text) (Spelled k)
    → AnswerTheSame l k

-- and they tell of the same slots, keys, letters and accents
abbrev pub LayoutsTellOfTheSame : Type 0
LayoutsTellOfTheSame =
    (text : List ℕ) (l k : Diagnostics) → IsLint text (Spelled l) → IsLint (formatted text) (Spelled k)
    → TellOfTheSame l k
