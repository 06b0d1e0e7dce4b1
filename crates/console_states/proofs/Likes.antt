-- Lists of states that have one like another.
use Rattle.console_states.proofs.Common.{◌≡◌, ℕ, Bool, true, false, List, ◌++◌, refl, sym}
use Rattle.console_states.proofs.Common.{subst, Contains, Contains-append_left, State, Under, state_of, Held, HasLike}
use Rattle.console_states.proofs.Common.{PressesLead, StepsTo, Step, IfSome, Option}
use mathlib.Core.Bool.{beq}
use Rattle.std.specs.Cmp.{booleans_Decides}
use Rattle.console_states.proofs.Common.{◌&&◌, and_parts, Selection}
use Rattle.console_states.proofs.Searching.{presses-map, steps-to}

-- a state that stands there is like itself
pub like-itself : (states : List Held) (h : Held) → Contains states h → HasLike states (state_of h)
like-itself states h there = (h, there, refl, (λ is. is), (λ is. is))

-- what was there is there where more were added
pub like-kept : (old now : List Held) → ((h : Held) → Contains old h → Contains now h) → (s : State)
    → HasLike old s → HasLike now s
like-kept old now kept s (h, there, same, on, off) = (h, kept h there, same, on, off)

-- where presses of the key lead is like the one to which the step leads
pub like-step : (u : Under) (s : State) (k : ℕ) (states : List Held) (step : Option Step)
    → PressesLead u s k (StepsTo step) → IfSome step (λ x. HasLike states (state_of x.to))
    → PressesLead u s k (HasLike states)
like-step u s k states step leads is =
    presses-map (StepsTo step) (HasLike states) (λ t to. steps-to (HasLike states) step t to is) u s k leads

pub like-grown : (u : Under) (s : State) (k : ℕ) (old now : List Held)
    → ((h : Held) → Contains old h → Contains now h) → PressesLead u s k (HasLike old) → PressesLead u s k (HasLike now)
like-grown u s k old now kept = presses-map (HasLike old) (HasLike now) (like-kept old now kept) u s k

-- of two that are told by the same, one follows from the other
pub told-alike : (P Q : Type 0) (a b : Bool) → a ≡ b → (a ≡ true → P → ⊥) → (b ≡ false → Q) → P → Q
told-alike P Q true b e refutes tells p = absurd (refutes refl p)
told-alike P Q false b e refutes tells p = tells (sym e)

pub added-kept : (old now : List Held) → (more : List Held) × (now ≡ old ++ more) → (h : Held) → Contains old h
    → Contains now h
added-kept old now (more, e) h there = subst (λ xs. Contains xs h) (sym e) (Contains-append_left old more h there)

abbrev selection_from : (upper shift control alt caps num : Bool) → Selection
selection_from upper shift control alt caps num = record {
  upper = upper;
  shift = shift;
  control = control;
  alt = alt;
  caps = caps;
  num = num;
}

-- what tests selections equal is right
pub same-selection : (x y : Selection)
    → (beq x.upper y.upper && (beq x.shift y.shift && (beq x.control y.control && (beq x.alt y.alt
    && (beq x.caps y.caps && beq x.num y.num))))) ≡ true
    → x ≡ y
same-selection x y e =
    let p = and_parts _ _ e in
    let q = and_parts _ _ p.1 in
    let r = and_parts _ _ q.1 in
    let s = and_parts _ _ r.1 in
    let t = and_parts _ _ s.1 in
    let upper = (booleans_Decides x.upper y.upper).0 p.0 in
    let shift = (booleans_Decides x.shift y.shift).0 q.0 in
    let control = (booleans_Decides x.control y.control).0 r.0 in
    let alt = (booleans_Decides x.alt y.alt).0 s.0 in
    let caps = (booleans_Decides x.caps y.caps).0 t.0 in
    let num = (booleans_Decides x.num y.num).0 t.1 in
    let same : selection_from x.upper x.shift x.control x.alt x.caps x.num
    ≡ selection_from y.upper y.shift y.control y.alt y.caps y.num = cc in
    same
