-- The names of the kinds, and which of them directives may name.
use Rattle.std.specs.Prelude.{ℕ, Bool, ◌||◌, List, codes}
use Rattle.std.specs.Str.{bytes_eq}
use Rattle.keymap_lint.specs.Types.{Kind}
use Rattle.keymap_lint.specs.declared.diagnostic.Kind.TheVariants as kinds

-- the kind of what is said of a text that spells a keymap
unfoldable pub kind_name : Kind → List ℕ
kind_name kinds.NoKey = codes "no-key"
kind_name kinds.CannotType = codes "cannot-type"
kind_name kinds.NoShift = codes "no-shift"
kind_name (kinds.MixedKey finding character) = codes "mixed-key"
kind_name (kinds.HalfDefined selector has_keys) = codes "half-defined"
kind_name (kinds.DefinedAgain what last) = codes "defined-again"
kind_name kinds.Gap = codes "gap"
kind_name (kinds.Exchanged slot base shifted) = codes "exchanged"
kind_name (kinds.Twice one other column character missing) = codes "twice"
kind_name (kinds.NoControl above) = codes "no-control"
kind_name kinds.NoCaps = codes "no-caps"
kind_name (kinds.OctalLike character start octal) = codes "octal-like"
kind_name (kinds.DeadKey defines_some) = codes "dead-key"
kind_name (kinds.ZeroAccent accent) = codes "zero-accent"
kind_name (kinds.PairAgain accent base first) = codes "pair-again"
kind_name kinds.UnusedHalf = codes "unused-half"
kind_name (kinds.BareDigit character) = codes "bare-digit"
kind_name (kinds.UnusedIgnore word) = codes "unused-ignore"
kind_name (kinds.BadIgnore wrong) = codes "bad-ignore"

-- a kind of which some diagnostics are warnings, which a directive may keep back: of letters, digits and punctuation,
-- or of definitions
unfoldable pub is_of_letters : List ℕ → Bool
is_of_letters word =
    bytes_eq word (codes "cannot-type") || bytes_eq word (codes "gap") || bytes_eq word (codes "exchanged")
    || bytes_eq word (codes "twice") || bytes_eq word (codes "no-control") || bytes_eq word (codes "no-caps")
    || bytes_eq word (codes "octal-like")

unfoldable pub is_of_definitions : List ℕ → Bool
is_of_definitions word =
    bytes_eq word (codes "no-shift") || bytes_eq word (codes "mixed-key") || bytes_eq word (codes "half-defined")
    || bytes_eq word (codes "defined-again") || bytes_eq word (codes "dead-key")
    || bytes_eq word (codes "zero-accent") || bytes_eq word (codes "pair-again")
    || bytes_eq word (codes "unused-half") || bytes_eq word (codes "bare-digit")

abbrev pub may_be_ignored : List ℕ → Bool
may_be_ignored word = is_of_letters word || is_of_definitions word

-- a kind of the others: the faults, and those that tell of no key and of directives
unfoldable pub is_never_ignored : List ℕ → Bool
is_never_ignored word =
    bytes_eq word (codes "BadByte") || bytes_eq word (codes "BadLiteral") || bytes_eq word (codes "BadWord")
    || bytes_eq word (codes "Unexpected") || bytes_eq word (codes "KeyTooLarge") || bytes_eq word (codes "BadChar")
    || bytes_eq word (codes "BadFunction") || bytes_eq word (codes "TooManyPairs") || bytes_eq word (codes "ZeroBase")
    || bytes_eq word (codes "Combined") || bytes_eq word (codes "EndInside") || bytes_eq word (codes "no-key")
    || bytes_eq word (codes "unused-ignore") || bytes_eq word (codes "bad-ignore")
