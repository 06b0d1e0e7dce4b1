-- The faults of a text: the places that are told of them lie within it.
use Rattle.keymap_lint.proofs.Common.{◌≡◌, ℕ, ◌+◌, ◌++◌, ◌<◌, ◌≤◌, ◌∙◌, List, [], ◌∷◌, length, take}
use Rattle.keymap_lint.proofs.Common.{Option, None, Some, arith, refl, sym, ap, subst, rules}
use Prim.Native.Nat.{zero, suc}
use Rattle.std.proofs.Common.{◌-◌, ◌⊎◌, All, Result, Ok, Err, IfSome, drop, inl, inr, zero-add}
use Rattle.std.proofs.Common.{append_assoc, append-nil, length-append}
use Rattle.std.proofs.lemmas.Bool.{cases_lt}
use Rattle.std.proofs.lemmas.List.{drop_all, length-drop, take_all}
use Rattle.std.proofs.lemmas.List.Elements.{All-head, All-tail, All-nil, All-cons}
use Rattle.std.specs.Option.{option_map}
use Rattle.std.specs.Prelude.{MatchOption}
use Rattle.keymap_core.specs.Maps.{MapValue}
use Rattle.keymap_lint.specs.Faults.{AreFaults, IsFaultBehind, IsWanted, start_behind}
use Rattle.keymap_lint.specs.Positions.{FaultLiesWithin}
use Rattle.keymap_lint.specs.Types.{PlacedFault}
use Rattle.keymap_text.proofs.Shared.{fault_to, fault_within, feeds, line_more, not_both}
use Rattle.keymap_places.proofs.Shared.{next_start, tokens_are_placed}
use Rattle.keymap_text.specs.Lexical.{TokenValue, leading, stays_on_line, tokens_after}
use Rattle.keymap_places.specs.LineOf.{IsLineStart, line_end}
use Rattle.keymap_text.specs.Meaning.{Fault, Spells, ending_of_tokens, item_of, line, list_of, tokens}
use Rattle.keymap_text.specs.Rows.{map_of, no_definition}
use Rattle.keymap_text.specs.declared.fault.TextFault.{TextFault}
use Rattle.keymap_places.specs.declared.wanted.FaultPlace.{FaultPlace}
use Rattle.keymap_places.specs.Placed.{IsPlaced, span_of}
use Rattle.keymap_text.specs.declared.fault.TextFaultKind.{TextFaultKind}
use Rattle.keymap_places.specs.declared.wanted.DefinitionStart.{DefinitionStart}
use Rattle.keymap_text.specs.Places.{RowPlace, AtDefinition, AtLock, AfterPairs, next}
use Rattle.keymap_places.specs.Wanted.{definition_by, definition_behind, first_refused}

-- the definition that is told begins within the text
abbrev pub BeginsWithin : List ℕ → Option DefinitionStart → Type 0
BeginsWithin text d = IfSome d (λ s. s.offset ≤ length text)

begun_by : (text : List ℕ) (d : Option DefinitionStart) (token : TokenValue) (offset : ℕ) → BeginsWithin text d
    → offset ≤ length text → BeginsWithin text (definition_by d (item_of token) offset)
begun_by text d token offset h l = search (rules)

begun_behind : (text : List ℕ) (p : RowPlace) (d : Option DefinitionStart) (token : TokenValue) (offset : ℕ)
    → BeginsWithin text d → offset ≤ length text → BeginsWithin text (definition_behind p d (item_of token) offset)
begun_behind text AtDefinition d token offset h l = begun_by text d token offset h l
begun_behind text (AfterPairs n) d token offset h l = begun_by text d token offset h l
begun_behind text AtLock d token offset h l = tt
begun_behind text _ d token offset h l = h

abbrev pub TellsPlaces : List ℕ → RowPlace × Option DefinitionStart × ℕ → Type 0
TellsPlaces text r = BeginsWithin text r.1 × (r.2 ≤ length text)

pub refused_within : (text : List ℕ) (p : RowPlace) (d : Option DefinitionStart) (behind : ℕ) (ts : List TokenValue)
    → All (IsPlaced text) ts → BeginsWithin text d → behind ≤ length text
    → TellsPlaces text (first_refused p d behind ts)
unfolding first_refused
refused_within text p d behind [] all h l = (h, l)
refused_within text p d behind (t ∷ ts) all h l =
    go (next p (item_of t))
    (λ q. refused_within text q (definition_behind p d (item_of t) t.start) (span_of t).end ts
    (All-tail (IsPlaced text) t ts all) (begun_behind text p d t t.start h
    (omega (arith, placed.within))) placed.within)
  where
    placed : IsPlaced text t
    placed = All-head (IsPlaced text) t ts all

    go : (r : Result RowPlace TextFaultKind)
        → ((q : RowPlace) → TellsPlaces text (first_refused q (definition_behind p d (item_of t) t.start)
        (span_of t).end ts))
        → TellsPlaces text (elim r [
          | Ok q ↦ first_refused q (definition_behind p d (item_of t) t.start) (span_of t).end ts
          | Err f ↦ (p, d, behind)
        ])
    go (Ok q) later = later q
    go (Err f) later = (h, l)

-- the places that are told of the fault of a text
pub wanted_within : (text : List ℕ) (p : FaultPlace) → IsWanted text p
    → BeginsWithin text p.definition × (p.behind ≤ length text)
wanted_within text p is =
    subst (TellsPlaces text) (sym is)
    (refused_within text AtDefinition None 0 (tokens text) (tokens_are_placed text) tt (omega arith))

-- where it stands
pub fault_inside : (text : List ℕ) (f : TextFault) → Fault text f → f.offset ≤ length text
fault_inside text f (early, h) = fault_within text f.kind f.offset early (fault_to text f.kind f.offset early h.0)

-- ---- what stands behind so many bytes

-- nothing spells a map
nothing_spells : Spells [] (map_of [])
unfolding list_of tokens_after ending_of_tokens
nothing_spells = record {
  definitions = [];
  row = no_definition;
  end = 0;
  whole = refl;
  map = refl;
}

pub spelled_by_nothing : (text : List ℕ) (n : ℕ) → length text < n → (m : MapValue) × Spells (drop n text) m
spelled_by_nothing text n h =
    (map_of [], subst (λ t. Spells t (map_of [])) (sym (drop_all n text (omega (arith, h)))) nothing_spells)

-- a fault stands behind no more bytes than there are
pub begun_inside : (text : List ℕ) (n : ℕ) (f : PlacedFault) → IsFaultBehind text n f → n ≤ length text
begun_inside text n f is = elim (cases_lt (length text) n) [
  | inl past ↦
      let none = spelled_by_nothing text n past in
      absurd (not_both (drop n text) none.0 is.own.fault none.1 is.is_fault)
  | inr within ↦ within
]

pub lies_behind : (text : List ℕ) (n : ℕ) (f : PlacedFault) → IsFaultBehind text n f → FaultLiesWithin text f
lies_behind text n f is =
    let inside = begun_inside text n f is in
    let size : length (drop n text) + n ≡ length text = omega (arith, inside, length-drop n text) in
    let own = fault_inside (drop n text) is.own.fault is.is_fault in
    let wanted = wanted_within (drop n text) is.own.place is.is_wanted in (
      omega (arith, is.offset, own, size),
      subst (λ (p : FaultPlace). BeginsWithin text p.definition) (sym is.place)
          (begun is.own.place.definition wanted.0 size),
      omega (arith, ap (λ (p : FaultPlace). p.behind) is.place, wanted.1, size),
    )
  where
    begun : (d : Option DefinitionStart) → BeginsWithin (drop n text) d → length (drop n text) + n ≡ length text
        → BeginsWithin text (option_map (start_behind n) d)
    begun None h size = tt
    begun (Some d) h size = omega (arith, h, size)

pub all_lie_within : (limit : ℕ) (text : List ℕ) (n : ℕ) (fs : List PlacedFault) → AreFaults limit text n fs
    → All (FaultLiesWithin text) fs
all_lie_within zero text n fs e = subst (All (FaultLiesWithin text)) (sym e) (All-nil (FaultLiesWithin text))
all_lie_within (suc limit) text n [] is = All-nil (FaultLiesWithin text)
all_lie_within (suc limit) text n (f ∷ fs) is =
    All-cons (FaultLiesWithin text) f fs (lies_behind text n f is.0)
    (all_lie_within limit text (line_end text f.fault.offset + 1) fs is.1)

-- ---- lines

-- the line of a place behind so many bytes
pub line_behind : (text : List ℕ) (n o : ℕ) → line text (n + o) + 1 ≡ line text n + line (drop n text) o
line_behind text n o = omega (arith, line_more text n o)

-- what stands behind a line begins in the next one
pub next_line : (text : List ℕ) (place : ℕ) → line_end text place < length text
    → line text (line_end text place + 1) ≡ line text place + 1
next_line text place h =
    let size = length-drop place text in
    let n = leading stays_on_line (drop place text) in
    let next : IsLineStart (drop place text) 2 (0 + n + 1) =
    next_start (drop place text) 1 0
    (record { inside = omega arith; begins = λ z. absurd (omega (arith, z)); number = refl })
    (omega (arith, h, size)) in
    let there : line (drop place text) (n + 1) ≡ 2 =
    subst (λ (k : ℕ). line (drop place text) (k + 1) ≡ 2) (zero-add n) next.number in
    let same : line_end text place + 1 ≡ place + (n + 1) = omega arith in
    ap (line text) same ∙ omega (arith, line_behind text place (n + 1), there)

-- ---- the list of a text

-- a text with a fault has one of them at least
pub some_faults : (limit : ℕ) (text : List ℕ) (fs : List PlacedFault) (f : TextFault) → 0 < limit → Fault text f
    → AreFaults limit text 0 fs → 0 < length fs
some_faults zero text fs f low h is = absurd (omega (arith, low))
some_faults (suc limit) text [] f low h is = absurd (not_both text is.0 f is.1 h)
some_faults (suc limit) text (g ∷ gs) f low h is = omega arith

-- a text with some of them has a fault
pub has_fault : (limit : ℕ) (text : List ℕ) (fs : List PlacedFault) → 0 < length fs → AreFaults limit text 0 fs
    → (f : TextFault) × Fault text f
has_fault limit text [] some is = absurd (omega (arith, some))
has_fault zero text (g ∷ gs) some is = absurd (cc)
has_fault (suc limit) text (g ∷ gs) some is = (is.0.own.fault, is.0.is_fault)

-- one fault more
pub faults_more : (text : List ℕ) (n : ℕ) (old fs more : List PlacedFault) (f : PlacedFault) → length old < 21
    → fs ≡ old ++ f ∷ []
    → ((more : List PlacedFault) → AreFaults (21 - length old) text n more → AreFaults 21 text 0 (old ++ more))
    → IsFaultBehind text n f → AreFaults (21 - length fs) text (line_end text f.fault.offset + 1) more
    → AreFaults 21 text 0 (fs ++ more)
faults_more text n old fs more f few e goes is later =
    let left : 21 - length old ≡ suc (21 - length fs) =
    omega (arith, few, ap length e, length-append old (f ∷ [])) in
    let there : AreFaults 21 text 0 (old ++ f ∷ more) =
    goes (f ∷ more) (subst (λ limit. AreFaults limit text n (f ∷ more)) (sym left) (is, later)) in
    let same : old ++ f ∷ more ≡ fs ++ more =
    sym (append_assoc old (f ∷ []) more) ∙ ap (λ t. t ++ more) (sym e) in
    subst (AreFaults 21 text 0) same there

-- no more faults
pub faults_end : (text : List ℕ) (n : ℕ) (fs : List PlacedFault)
    → ((more : List PlacedFault) → AreFaults (21 - length fs) text n more → AreFaults 21 text 0 (fs ++ more))
    → ((m : MapValue) × Spells (drop n text) m) ⊎ (21 ≤ length fs) → AreFaults 21 text 0 fs
faults_end text n fs goes end = subst (AreFaults 21 text 0) (append-nil fs) (goes [] (go (21 - length fs) refl end))
  where
    go : (k : ℕ) → 21 - length fs ≡ k → ((m : MapValue) × Spells (drop n text) m) ⊎ (21 ≤ length fs)
        → AreFaults k text n []
    go zero e end = refl
    go (suc k) e (inl spelled) = spelled
    go (suc k) e (inr full) = absurd (omega (arith, e, full))

-- how many lines end before what stands behind a line
pub lines_behind : (text : List ℕ) (place lines : ℕ) → lines ≡ line text place
    → line_end text place + 1 ≤ length text → lines ≡ feeds (take (line_end text place + 1) text)
lines_behind text place lines e h = omega (arith, e, next_line text place (omega (arith, h)))

-- ---- the fault of what stands behind so many bytes, counted in the whole text

pub offset_fits : (text : List ℕ) (n : ℕ) (f : TextFault) → n ≤ length text → Fault (drop n text) f
    → n + f.offset ≤ length text
offset_fits text n f within h = omega (arith, within, fault_inside (drop n text) f h, length-drop n text)

pub line_in_whole : (text : List ℕ) (n lines : ℕ) (f : TextFault) → lines ≡ feeds (take n text)
    → Fault (drop n text) f → lines + f.line ≡ line text (n + f.offset)
line_in_whole text n lines f e h = omega (arith, e, h.1.1, line_behind text n f.offset)

rest_is : (text : List ℕ) (n : ℕ) → take (length text - n) (drop n text) ≡ drop n text
rest_is text n = take_all (length text - n) (drop n text) (omega (arith, length-drop n text))

-- the places of the fault of this slice
of_slice : (text : List ℕ) (n : ℕ) (own : FaultPlace) → IsWanted (take (length text - n) (drop n text)) own
    → BeginsWithin (drop n text) own.definition × (own.behind ≤ length (drop n text))
of_slice text n own is = wanted_within (drop n text) own (subst (λ t. IsWanted t own) (rest_is text n) is)

pub start_fits : (text : List ℕ) (n : ℕ) (own : FaultPlace) (begun : DefinitionStart) → n ≤ length text
    → IsWanted (take (length text - n) (drop n text)) own → own.definition ≡ Some begun
    → n + begun.offset ≤ length text
start_fits text n own begun within is e =
    let own_start : BeginsWithin (drop n text) (Some begun) =
    subst (BeginsWithin (drop n text)) e (of_slice text n own is).0 in
    omega (arith, within, own_start, length-drop n text)

pub behind_fits : (text : List ℕ) (n : ℕ) (own : FaultPlace) → n ≤ length text
    → IsWanted (take (length text - n) (drop n text)) own → n + own.behind ≤ length text
behind_fits text n own within is = omega (arith, within, (of_slice text n own is).1, length-drop n text)

-- where no fault is found
pub none_found : (P : Type 0) (Q : PlacedFault → Type 0) (o : Option PlacedFault)
    → ((f : PlacedFault) → o ≡ Some f → ⊥) → MatchOption o P Q → P
none_found P Q None not h = h
none_found P Q (Some f) not h = absurd (not f refl)
