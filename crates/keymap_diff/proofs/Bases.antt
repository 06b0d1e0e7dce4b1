-- The bases of pairs, and what is pushed for each.
use Rattle.std.proofs.Common.{◌≡◌, ℕ, ◌+◌, ◌*◌, ◌<◌, ◌⊎◌, inl, inr, Bool, false, List, [], ◌∷◌, ◌++◌, Option, Some}
use Rattle.std.proofs.Common.{get_or}
use Rattle.std.proofs.Common.{length, refl, ap, subst, sym, ◌∙◌, arith, eqb, not, take, None, rules, ◌==◌}
use Rattle.std.proofs.lemmas.Bool.{eqb-true, eq-eqb, true≢false}
use Rattle.std.specs.Prelude.{if◌then◌else◌, is_some}
use Rattle.std.specs.Option.{option_eq, option_to_list}
use Rattle.std.proofs.lemmas.List.{take_more}
use Rattle.keymap_core.specs.Accents.{first_result}
use Rattle.keymap_core.specs.Numbers.{accent_limit}
use Rattle.keymap_diff.specs.Changes.{IsMark, MeetsPair, pairs_of, place_of}
use Rattle.keymap_diff.specs.Inner.Pushing.{HasBase, IsOfBase, IsOfBaseIn, IsOne, Pushes, PushesAt, PushesBases}
use Rattle.keymap_diff.specs.Inner.Versions.{IsChangeOf}
use Rattle.keymap_diff.specs.Types.{Change, Pair, Versions}
use Rattle.keymap_diff.proofs.Marks.{mark-one, pairs-only}
use Rattle.keymap_diff.proofs.Pushing.{pushes-as, pushes-both, pushes-option}

-- ---- bases

-- a base of pairs and one more
pub first-push : (ps : List (ℕ × ℕ)) (p : ℕ × ℕ) (c : ℕ)
    → first_result (ps ++ p ∷ []) c
    ≡ (if is_some (first_result ps c) then first_result ps c else if p.0 == c then Some p.1 else None)
first-push [] p c = refl
first-push (q ∷ ps) p c = search (rules, first-push ps p c)

-- whether a base is one of these pairs or of one more
pub base-more : (ps : List (ℕ × ℕ)) (p : ℕ × ℕ) (c : ℕ) → HasBase (ps ++ p ∷ []) c → HasBase ps c ⊎ (p.0 ≡ c)
base-more ps p c has = search (rules, eqb-true, first-push)

pub base-kept : (ps : List (ℕ × ℕ)) (p : ℕ × ℕ) (c : ℕ) → HasBase ps c → HasBase (ps ++ p ∷ []) c
base-kept ps p c has none = grind (arith, first-push ps p c)

pub base-last : (ps : List (ℕ × ℕ)) (p : ℕ × ℕ) → HasBase (ps ++ p ∷ []) p.0
base-last ps p none = grind (arith, first-push ps p p.0, eq-eqb p.0 p.0 refl)

-- ---- the change of a base

base-as : (i : ℕ) (P Q : ℕ → Type 0) → ((c : ℕ) → P c → Q c) → (x : Change) → IsOfBase i P x → IsOfBase i Q x
base-as i P Q f (Pair j c a b u) (e, p) = (e, f c p)
base-as i P Q f x none = absurd none

base-place : (i : ℕ) (P : ℕ → Type 0) (x : Change) → IsOfBase i P x → place_of x ≡ 2306 + (i * 3 + 1)
base-place i P (Pair j c a b u) (e, p) = ap (λ z. 2306 + (z * 3 + 1)) e
base-place i P x none = absurd none

-- two bases, of which a change has one alone
base-apart : (i : ℕ) (P Q : ℕ → Type 0) → ((c : ℕ) → P c → Q c → ⊥) → (x : Change) → IsOfBase i P x
    → IsOfBase i Q x → ⊥
base-apart i P Q apart (Pair j c a b u) (e, p) (f, q) = apart c p q
base-apart i P Q apart x none also = absurd none

base-parts : (i : ℕ) (P Q R : ℕ → Type 0) → ((c : ℕ) → R c → P c ⊎ Q c) → (x : Change) → IsOfBase i R x
    → IsOfBase i P x ⊎ IsOfBase i Q x
base-parts i P Q R parts (Pair j c a b u) (e, r) = elim (parts c r) [ inl p ↦ inl (e, p) | inr q ↦ inr (e, q) ]
base-parts i P Q R parts x none = absurd none

pub pair-only : (v : Versions) (i base : ℕ) (w : Bool)
    → IsMark (is_some v.seen) v.old.now v.new.now (MeetsPair i base) w → (x : Change)
    → IsChangeOf v x × IsOfBase i (λ c. c ≡ base) x
    → Pair i base (first_result (pairs_of v.old.now i) base) (first_result (pairs_of v.new.now i) base) w ≡ x
pair-only v i base w mark (Pair j c a b u) (is, of) = search (rules, mark-one)
pair-only v i base w mark x (is, of) = absurd of

-- ---- the changes of bases

-- of one more pair, whose base none before it has
pub bases-more : (v : Versions) (i : ℕ) (before ps : List (ℕ × ℕ)) (p : ℕ × ℕ) (old mid now : List Change)
    → first_result before p.0 ≡ None → first_result ps p.0 ≡ None → PushesBases v i before ps old mid
    → Pushes (IsOfBaseIn v i (λ c. c ≡ p.0)) mid now → PushesBases v i before (ps ++ p ∷ []) old now
bases-more v i before ps p old mid now new first a b =
    search (
      rules,
      pushes-both,
      base-parts,
      base-as,
      base-kept,
      base-apart,
      base-place,
      base-more,
      base-last,
    )

-- of one more pair, whose base one before it has
pub bases-same : (v : Versions) (i : ℕ) (before ps : List (ℕ × ℕ)) (p : ℕ × ℕ) (old now : List Change)
    → (first_result before p.0 ≡ None → first_result ps p.0 ≡ None → ⊥) → PushesBases v i before ps old now
    → PushesBases v i before (ps ++ p ∷ []) old now
bases-same v i before ps p old now among a =
    search (rules, pushes-as, base-as, base-kept, base-more)

-- those of the old pairs and then of the new ones are all of an accent
pub bases-all : (v : Versions) (i : ℕ) (old mid now : List Change) → i < accent_limit
    → PushesBases v i [] (pairs_of v.old.now i) old mid
    → PushesBases v i (pairs_of v.old.now i) (pairs_of v.new.now i) mid now
    → PushesAt v (2306 + (i * 3 + 1)) old now
bases-all v i old mid now few a b = search (rules, pushes-both, base-place, base-apart, pairs-only)

-- ---- what two make of bases

-- the test of two results
pub same_result : (a b : Option ℕ) (t : Bool) → t ≡ not (option_eq eqb a b) → t ≡ false → a ≡ b
same_result None None t e f = refl
same_result None (Some y) t e f = absurd (true≢false (sym e ∙ f))
same_result (Some x) None t e f = absurd (true≢false (sym e ∙ f))
same_result (Some x) (Some y) t e f = search (rules, eqb-true)

-- a base more has the same result
pub agree_more : (ps old new : List (ℕ × ℕ)) (i : ℕ) (d : ℕ × ℕ) → i < length ps
    → ((c : ℕ) → HasBase (take i ps) c → first_result old c ≡ first_result new c)
    → first_result old (get_or ps i d).0 ≡ first_result new (get_or ps i d).0
    → (c : ℕ) → HasBase (take (i + 1) ps) c → first_result old c ≡ first_result new c
agree_more ps old new i d lt before here c has =
    elim (base-more (take i ps) (get_or ps i d) c (subst (λ z. HasBase z c) (take_more ps i d lt) has)) [
      | inl one ↦ before c one
      | inr e ↦ subst (λ z. first_result old z ≡ first_result new z) e here
    ]

-- ---- one base

pub pair_one : (v : Versions) (i base : ℕ) (a b : Option ℕ) (w : Bool) → i < accent_limit
    → first_result (pairs_of v.old.now i) base ≡ a → first_result (pairs_of v.new.now i) base ≡ b → (a ≡ b → ⊥)
    → IsMark (is_some v.seen) v.old.now v.new.now (MeetsPair i base) w
    → IsOne (IsOfBaseIn v i (λ c. c ≡ base)) (Some (Pair i base a b w))
pair_one v i base a b w few old new ne mark = search (rules, pair-only)

pub bases_step : (v : Versions) (i : ℕ) (before ps : List (ℕ × ℕ)) (index : ℕ) (d : ℕ × ℕ) (o : Option Change)
    (old mid now : List Change) → index < length ps → PushesBases v i before (take index ps) old mid
    → (first_result before (get_or ps index d).0 ≡ None) × (first_result (take index ps) (get_or ps index d).0 ≡ None)
    → IsOne (IsOfBaseIn v i (λ c. c ≡ (get_or ps index d).0)) o → now ≡ mid ++ option_to_list o
    → PushesBases v i before (take (index + 1) ps) old now
bases_step v i before ps index d o old mid now lt a new one e =
    subst (λ z. PushesBases v i before z old now) (sym (take_more ps index d lt))
    (bases-more v i before (take index ps) (get_or ps index d) old mid now new.0 new.1 a
    (pushes-option (IsOfBaseIn v i (λ c. c ≡ (get_or ps index d).0)) o mid now one e))

pub bases_skip : (v : Versions) (i : ℕ) (before ps : List (ℕ × ℕ)) (index : ℕ) (d : ℕ × ℕ) (old now : List Change)
    → index < length ps → PushesBases v i before (take index ps) old now
    → (first_result before (get_or ps index d).0 ≡ None → first_result (take index ps) (get_or ps index d).0 ≡ None
    → ⊥)
    → PushesBases v i before (take (index + 1) ps) old now
bases_skip v i before ps index d old now lt a known =
    subst (λ z. PushesBases v i before z old now) (sym (take_more ps index d lt))
    (bases-same v i before (take index ps) (get_or ps index d) old now known a)
