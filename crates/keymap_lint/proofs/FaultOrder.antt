-- The faults of a text stand in its order, each in a later line than the one before it.
use Rattle.keymap_lint.proofs.Common.{◌≡◌, ℕ, ◌+◌, ◌<◌, ◌≤◌, List, [], ◌∷◌, length, map, Some}
use Rattle.keymap_lint.proofs.Common.{Faulty, arith, sym, ap, subst, rules}
use Prim.Native.Nat.{zero, suc}
use Rattle.std.proofs.Common.{All, get_or}
use Rattle.std.proofs.lemmas.List.Elements.{All-nil, All-cons}
use Rattle.std.specs.List.Sorted.{IsStrictlyIncreasing}
use Rattle.std.specs.Prelude.{slice_get}
use Rattle.keymap_lint.proofs.FaultPlaces.{begun_inside, next_line, line_behind}
use Rattle.keymap_lint.specs.Faults.{AreFaults, IsFaultBehind}
use Rattle.keymap_lint.specs.Promises.{AreInOrder, FaultsAreInOrder}
use Rattle.keymap_lint.specs.Types.{PlacedFault, Spelled}
use Rattle.keymap_places.specs.LineOf.{line_end}
use Rattle.keymap_text.specs.Meaning.{Fault, line}

few_faults : (limit : ℕ) (text : List ℕ) (n : ℕ) (fs : List PlacedFault) → AreFaults limit text n fs
    → length fs ≤ limit
few_faults zero text n fs e = omega (arith, ap length e)
few_faults (suc limit) text n [] is = omega arith
few_faults (suc limit) text n (f ∷ fs) is =
    omega (arith, few_faults limit text (line_end text f.fault.offset + 1) fs is.1)

own_lines : (limit : ℕ) (text : List ℕ) (n : ℕ) (fs : List PlacedFault) → AreFaults limit text n fs
    → All (λ (f : PlacedFault). f.fault.line ≡ line text f.fault.offset) fs
own_lines zero text n fs e =
    subst (All (λ (f : PlacedFault). f.fault.line ≡ line text f.fault.offset)) (sym e) (All-nil _)
own_lines (suc limit) text n [] is = All-nil _
own_lines (suc limit) text n (f ∷ fs) is =
    search (rules, All-cons, own_lines limit text (line_end text f.fault.offset + 1) fs is.1)

-- numbers that rise, with a lesser one in front
pub suc_more : (k : ℕ) → suc (k + 1) ≡ suc k + 1
suc_more k = omega arith

pub rises : (x : ℕ) (xs : List ℕ) → (0 < length xs → x < get_or xs 0 0) → IsStrictlyIncreasing xs
    → IsStrictlyIncreasing (x ∷ xs)
rises x xs front more zero h = front (omega (arith, h))
rises x xs front more (suc k) h =
    subst (λ (n : ℕ). get_or xs k 0 < get_or (x ∷ xs) n 0) (suc_more k) (more k (omega (arith, h)))

-- the next fault stands behind the line of the one before
abbrev IsBehind : PlacedFault → PlacedFault → Type 0
IsBehind f g = (f.fault.line < g.fault.line) × (f.fault.offset < g.fault.offset)

behind_line : (text : List ℕ) (f g : PlacedFault) → f.fault.line ≡ line text f.fault.offset
    → IsFaultBehind text (line_end text f.fault.offset + 1) g → IsBehind f g
behind_line text f g e is =
    let n = line_end text f.fault.offset + 1 in
    let inside = begun_inside text n g is in
    let next = next_line text f.fault.offset (omega (arith, inside)) in
    let there = line_behind text n is.own.fault.offset in (
      omega (arith, e, is.line, ap (line text) is.offset, next, there),
      omega (arith, is.offset),
    )

first_behind : (limit : ℕ) (text : List ℕ) (f g : PlacedFault) (fs : List PlacedFault)
    → f.fault.line ≡ line text f.fault.offset
    → AreFaults limit text (line_end text f.fault.offset + 1) (g ∷ fs) → IsBehind f g
first_behind zero text f g fs e is = absurd (cc)
first_behind (suc limit) text f g fs e is = behind_line text f g e is.0

in_order : (limit : ℕ) (text : List ℕ) (n : ℕ) (fs : List PlacedFault) → AreFaults limit text n fs
    → IsStrictlyIncreasing (map (λ (f : PlacedFault). f.fault.line) fs)
    × IsStrictlyIncreasing (map (λ (f : PlacedFault). f.fault.offset) fs)
in_order limit text n [] is = (λ k h. absurd (omega (arith, h)), λ k h. absurd (omega (arith, h)))
in_order zero text n (f ∷ fs) is = absurd (cc)
in_order (suc limit) text n (f ∷ fs) is =
    let more = in_order limit text (line_end text f.fault.offset + 1) fs is.1 in (
      rises f.fault.line (map (λ (f : PlacedFault). f.fault.line) fs) (lines fs is.1) more.0,
      rises f.fault.offset (map (λ (f : PlacedFault). f.fault.offset) fs) (offsets fs is.1) more.1,
    )
  where
    lines : (gs : List PlacedFault) → AreFaults limit text (line_end text f.fault.offset + 1) gs
        → 0 < length (map (λ (f : PlacedFault). f.fault.line) gs)
        → f.fault.line < get_or (map (λ (f : PlacedFault). f.fault.line) gs) 0 0
    lines [] later h = absurd (omega (arith, h))
    lines (g ∷ gs) later h = (first_behind limit text f g gs is.0.line later).0

    offsets : (gs : List PlacedFault) → AreFaults limit text (line_end text f.fault.offset + 1) gs
        → 0 < length (map (λ (f : PlacedFault). f.fault.offset) gs)
        → f.fault.offset < get_or (map (λ (f : PlacedFault). f.fault.offset) gs) 0 0
    offsets [] later h = absurd (omega (arith, h))
    offsets (g ∷ gs) later h = (first_behind limit text f g gs is.0.line later).1

-- the first fault is that of the text
first_is : (limit : ℕ) (text : List ℕ) (fs : List PlacedFault) → AreFaults limit text 0 fs → (f : PlacedFault)
    → slice_get fs 0 ≡ Some f → Fault text f.fault
first_is limit text [] is f e = absurd (cc)
first_is zero text (g ∷ gs) is f e = absurd (cc)
first_is (suc limit) text (g ∷ gs) is f e = search rules

pub faults_in_order : (text : List ℕ) (fs : List PlacedFault) → 0 < length fs → AreFaults 21 text 0 fs
    → AreInOrder text fs
faults_in_order text fs some is =
    let rising = in_order 21 text 0 fs is in record {
      few = few_faults 21 text 0 fs is;
      some = some;
      first = first_is 21 text fs is;
      lines = own_lines 21 text 0 fs is;
      later = rising.0;
      behind = rising.1;
    }

pub faults_are_in_order : FaultsAreInOrder
faults_are_in_order text (Faulty faults) (some, are) = faults_in_order text faults.items some are
faults_are_in_order text (Spelled l) is = tt
