-- Which diagnostics of two texts are the same but for places.
use Rattle.std.specs.Prelude.{◌≡◌, ℕ, ◌-◌, ◌<◌, List, [], ◌∷◌, length, map}
use Rattle.std.specs.Option.{option_to_list}
use Rattle.keymap_text.specs.Meaning.{tokens}
use Rattle.keymap_places.specs.Placed.{span_of}
use Rattle.keymap_places.specs.Same.{HaveSameTokens}
use Rattle.keymap_lint.specs.Types.{Kind, Diagnostic, Diagnostics, Span, Spelled as OfSpelled}
use Rattle.keymap_lint.specs.declared.diagnostic.BadIgnore.TheVariants as bad
use Rattle.keymap_lint.specs.declared.diagnostic.Kind.TheVariants as kinds
use Rattle.keymap_lint.specs.Directives.{HasNoMark}
use Rattle.keymap_lint.specs.Lists.{IsLint}
use Rattle.keymap_lint.specs.Severities.{never_sticks}
use Rattle.keymap_lint.specs.Spelled.{span_at}

-- The lists have as many elements, and each of the one is related to that of the other in its place.
pub data Pairwise {A B : Type 0} (R : A → B → Type 0) : List A → List B → Type 0 where
  no_pair : Pairwise R [] []
  one_pair : {x : A} {y : B} {xs : List A} {ys : List B} → R x y → Pairwise R xs ys → Pairwise R (x ∷ xs) (y ∷ ys)

-- the kind, with no places: of a word how many bytes it has
abbrev pub sized : Span → Span
sized word = record { start = 0; end = word.end - word.start }

abbrev pub unplaced : Kind → Kind
unplaced (kinds.DefinedAgain what last) = kinds.DefinedAgain what 0
unplaced (kinds.OctalLike character start octal) = kinds.OctalLike character 0 octal
unplaced (kinds.PairAgain accent base first) = kinds.PairAgain accent base 0
unplaced (kinds.UnusedIgnore word) = kinds.UnusedIgnore (sized word)
unplaced (kinds.BadIgnore (bad.NoKind word)) = kinds.BadIgnore (bad.NoKind (sized word))
unplaced (kinds.BadIgnore (bad.NotIgnored word)) = kinds.BadIgnore (bad.NotIgnored (sized word))
unplaced kind = kind

-- the places that it tells
abbrev pub places_within : Kind → List ℕ
places_within (kinds.DefinedAgain what last) = last ∷ []
places_within (kinds.OctalLike character start octal) = start ∷ []
places_within (kinds.PairAgain accent base first) = first ∷ []
places_within (kinds.UnusedIgnore word) = word.start ∷ []
places_within (kinds.BadIgnore (bad.NoKind word)) = word.start ∷ []
places_within (kinds.BadIgnore (bad.NotIgnored word)) = word.start ∷ []
places_within kind = []

-- The diagnostics are the same but for places, and each place of the one is that of the other in its place.
pub record IsSame (IsSamePlace : ℕ → ℕ → Type 0) (d e : Diagnostic) : Type 0 where
  pub kind : unplaced d.kind ≡ unplaced e.kind
  pub place : Pairwise IsSamePlace (option_to_list d.place) (option_to_list e.place)
  pub within : Pairwise IsSamePlace (places_within d.kind) (places_within e.kind)

-- where tokens stand, one with the same number begins at these places
abbrev pub BeginsIn : List Span → List Span → ℕ → ℕ → Type 0
BeginsIn spans others p q =
    (n : ℕ) × (n < length spans) × (p ≡ (span_at spans n).start) × (q ≡ (span_at others n).start)

abbrev pub IsSameToken : List ℕ → List ℕ → ℕ → ℕ → Type 0
IsSameToken text other = BeginsIn (map span_of (tokens text)) (map span_of (tokens other))

-- The searches, which see the keymap alone, answer the same: what no keys type, and whether a modifier may stay on.
pub record AnswerTheSame (l k : Diagnostics) : Type 0 where
  pub untyped : l.untyped.items ≡ k.untyped.items
  pub never : never_sticks l.sticking ≡ never_sticks k.sticking

-- of two texts with the same tokens they do
abbrev pub SameTokensSameAnswers : Type 0
SameTokensSameAnswers =
    (text other : List ℕ) → HaveSameTokens text other → (l k : Diagnostics) → IsLint text (OfSpelled l)
    → IsLint other (OfSpelled k) → AnswerTheSame l k

-- Of two texts with the same tokens, and without directives, the diagnostics are the same but for places, in one order:
-- each stands at the same token, and tells of the same tokens.
abbrev pub SameTokensSameDiagnostics : Type 0
SameTokensSameDiagnostics =
    (text other : List ℕ) → HaveSameTokens text other → HasNoMark text → HasNoMark other → (l k : Diagnostics)
    → IsLint text (OfSpelled l) → IsLint other (OfSpelled k)
    → Pairwise (IsSame (IsSameToken text other)) l.list.items k.list.items

-- The slots, keys, letters and accents that diagnostics tell of are the same.
pub record TellOfTheSame (l k : Diagnostics) : Type 0 where
  pub slots : l.missing_slots.items ≡ k.missing_slots.items
  pub keys : l.nul_keys.items ≡ k.nul_keys.items
  pub gaps : l.gaps.items ≡ k.gaps.items
  pub lost : l.lost_letters.items ≡ k.lost_letters.items
  pub small : l.small_slots.items ≡ k.small_slots.items
  pub accents : l.missing_accents.items ≡ k.missing_accents.items
  pub unused : l.unused_slots.items ≡ k.unused_slots.items

abbrev pub SameTokensTellOfTheSame : Type 0
SameTokensTellOfTheSame =
    (text other : List ℕ) → HaveSameTokens text other → (l k : Diagnostics) → IsLint text (OfSpelled l)
    → IsLint other (OfSpelled k) → TellOfTheSame l k
