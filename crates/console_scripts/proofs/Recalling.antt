-- What was met before, by the course that led there.
use Rattle.console_scripts.proofs.Common.{◌≡◌, Bool, true, List, Option, Some, sym, ◌&&◌, lookup, and_parts, eqb-true}
use Rattle.console_scripts.proofs.Common.{insert_entry, MapValue, state_of, are_same, tells-same, searched-back}
use Rattle.console_scripts.proofs.Common.{HasEnded}
use Rattle.console_scripts.proofs.Common.{[], ◌∷◌, ℕ, None, ap, eqb, refl, rules, subst, true≢false}
use mathlib.Core.Bool.{beq}
use Rattle.std.specs.Option.{option_eq}
use Rattle.console_scripts.proofs.Picking.{same-class}
use Rattle.console_scripts.specs.declared.classes.Class.{Class}
use Rattle.console_scripts.specs.declared.classes.Spared.{Spared}
use Rattle.keyboard.specs.declared.board.Board.{Board}
use Rattle.console_states.specs.Searching.{GoBack}
use Rattle.console_states.specs.Allowed.{is_pressed}
use Rattle.console_scripts.specs.Inner.Courses.{ArePresses, IsReached, ReachesMany, under_by}
use Rattle.console_scripts.specs.Inner.Exploring.{IsOrigin}
use Rattle.console_scripts.specs.Inner.Seeking.{AreReached}
use Rattle.console_scripts.specs.declared.courses.Course.{Course}
use Rattle.console_scripts.specs.declared.courses.Reached.{Reached}
use Rattle.console_scripts.proofs.Entries.{found-entry, one-entry}

-- a test that tells where courses are the same
abbrev pub TellsCourse : (Course → Course → Bool) → Type 0
TellsCourse E =
    (a b : Course) → E a b ≡ true → (state_of a.from ≡ state_of b.from) × (a.class ≡ b.class) × (a.spared ≡ b.spared)
    × (a.accent ≡ b.accent)

-- what tests them equal
abbrev pub are_same_classes : Class → Class → Bool
are_same_classes a b =
    beq a.keeps_to_board b.keeps_to_board
    && (beq a.keeps_locks b.keeps_locks
    && (beq a.is_one_tap b.is_one_tap && (beq a.avoids_pad b.avoids_pad && beq a.avoids_86 b.avoids_86)))

abbrev pub are_same_spared : Spared → Spared → Bool
are_same_spared a b = beq a.left_alt b.left_alt && beq a.right_shift b.right_shift

abbrev pub are_same_courses : Course → Course → Bool
are_same_courses a b =
    are_same a.from b.from
    && (are_same_classes a.class b.class && (are_same_spared a.spared b.spared && option_eq eqb a.accent b.accent))

tells-class : (a b : Class) → are_same_classes a b ≡ true → a ≡ b
tells-class a b t = search (rules, and_parts, same-class)

same-spared : (a b : Spared) → a.left_alt ≡ b.left_alt → a.right_shift ≡ b.right_shift → a ≡ b
same-spared a b e f = search rules

tells-spared : (a b : Spared) → are_same_spared a b ≡ true → a ≡ b
tells-spared a b t = search (rules, and_parts, same-spared)

tells-accent : (a b : Option ℕ) → option_eq eqb a b ≡ true → a ≡ b
tells-accent None None t = refl
tells-accent None (Some y) t = absurd (true≢false (sym t))
tells-accent (Some x) None t = absurd (true≢false (sym t))
tells-accent (Some x) (Some y) t = ap (λ z. Some z) (eqb-true x y t)

pub tells-course : TellsCourse are_same_courses
tells-course a b t = search (rules, and_parts, tells-same, tells-class, tells-spared, tells-accent)

-- what a course leads to the same course leads to
same-reached : (b : Board) (m : MapValue) (x y : Course) (v : Reached) → state_of x.from ≡ state_of y.from
    → x.class ≡ y.class → x.spared ≡ y.spared → x.accent ≡ y.accent → IsReached b m y v → IsReached b m x v
same-reached b m x y v from class spared accent is = record {
  presses = is.presses;
  known = is.known;
  are =
      subst (λ w. ArePresses b w x.spared is.presses) (sym class)
      (subst (λ sp. ArePresses b y.class sp is.presses) (sym spared) is.are);
  source = subst IsOrigin (sym from) is.source;
  end = is.end;
  ended =
      subst (λ s. HasEnded (under_by (is_pressed is.presses) x.accent m) (s ∷ []) v.met.entries is.end) (sym from)
      (subst (λ i. HasEnded (under_by (is_pressed is.presses) i m) (state_of y.from ∷ []) v.met.entries is.end)
      (sym accent) is.ended);
  complete = is.complete;
  partial = λ t. subst (λ s. ReachesMany m s) (sym from) (is.partial t);
}

pub found-reached : (E : Course → Course → Bool) → TellsCourse E → (b : Board) (m : MapValue)
    → (es : List (Course × Reached)) (k : Course) (v : Reached) → AreReached b m es → lookup (E k) es ≡ Some v
    → IsReached b m k v
found-reached E same b m es k v all is =
    found-entry E (IsReached b m)
    (λ x y v t is. let p = same x y t in same-reached b m x y v p.0 p.1 p.2 p.3 is) es k v all is

pub reached-more : (E : Course → Course → Bool) → TellsCourse E → (b : Board) (m : MapValue)
    → (es : List (Course × Reached)) (k : Course) (v : Reached) → AreReached b m es → IsReached b m k v
    → AreReached b m (insert_entry E es k v)
reached-more E same b m es k v all is =
    one-entry E (IsReached b m)
    (λ x y v t is. let p = same x y t in same-reached b m y x v (sym p.0) (sym p.1) (sym p.2) (sym p.3) is) es k v all
    is

-- each state that was met was come to from one before it
pub reached-back : (b : Board) (m : MapValue) (o : Course) (r : Reached) → IsReached b m o r → GoBack r.met.entries
reached-back b m o r is = searched-back _ r.met.entries _ _ is.ended.searched
