-- What is pushed behind a list, and what is pushed behind that.
use Rattle.std.proofs.Common.{is_some}
use Rattle.std.proofs.Common.{◌≡◌, ℕ, ◌+◌, ◌≤◌, ◌⊎◌, inl, inr, List, [], ◌∷◌, ◌++◌, get_or, refl, ap, Option}
use Rattle.std.proofs.Common.{None, Some, subst, sym, ◌∙◌, arith, append_assoc, rules}
use Rattle.std.proofs.lemmas.Bool.{cases_lt}
use Rattle.std.proofs.lemmas.List.{append-nil}
use Rattle.std.proofs.lemmas.List.Elements.{All-append, Contains-append_cases, Contains-append_left}
use Rattle.std.proofs.lemmas.List.Elements.{Contains-append_right, Contains-get_or}
use Rattle.std.proofs.lemmas.List.Kept.{AllPairs-cons}
use Rattle.std.specs.List.{AllPairs, Contains}
use Rattle.std.specs.Option.{option_to_list}
use Prim.Native.Nat.{suc}
use Rattle.keymap_diff.specs.Changes.{AreChanges, place_of}
use Rattle.keymap_diff.proofs.Marks.{place_below}
use Rattle.keymap_diff.specs.Inner.Pushing.{Pushes, IsAt, IsOne, PushesAt, PushesPlaces}
use Rattle.keymap_diff.specs.Types.{Change, Versions}

-- ---- what is so of each two elements

none-apart : {X : Type 0} (R : X → X → Type 0) → AllPairs R []
none-apart R i j d lt len = absurd (omega (arith, len))

one-apart : {X : Type 0} (R : X → X → Type 0) (x : X) → AllPairs R (x ∷ [])
one-apart R x i j d lt len = absurd (omega (arith, lt, len))

pub apart-append : {X : Type 0} (R : X → X → Type 0) (xs ys : List X) → AllPairs R xs → AllPairs R ys
    → ((x y : X) → Contains xs x → Contains ys y → R x y) → AllPairs R (xs ++ ys)
apart-append R [] ys first second across = second
apart-append R (x ∷ xs) ys first second across =
    AllPairs-cons R x (xs ++ ys)
    (All-append (R x) xs ys (λ k d lt. first 0 (suc k) d (omega arith) (omega (arith, lt)))
    (λ k d lt. across x (get_or ys k d) (0, omega arith, refl) (Contains-get_or ys k d lt)))
    (apart-append R xs ys (λ i j d lt len. first (suc i) (suc j) d (omega (arith, lt)) (omega (arith, len))) second
    (λ y z (k, lt, at) there. across y z (suc k, omega (arith, lt), at) there))

-- ---- what is pushed

pub pushes-none : (P : Change → Type 0) (old now : List Change) → now ≡ old → ((x : Change) → P x → ⊥)
    → Pushes P old now
pushes-none P old now e none = search (rules, append-nil, none-apart)

pub pushes-one : (P : Change → Type 0) (x : Change) (old now : List Change) → now ≡ old ++ x ∷ [] → P x
    → ((y : Change) → P y → x ≡ y) → Pushes P old now
pushes-one P x old now e is only = search (rules, one-apart)

-- what P says and then Q is what R says, where each of P stands before each of Q
pub pushes-both : (P Q R : Change → Type 0) (old mid now : List Change) → ((x : Change) → R x → P x ⊎ Q x)
    → ((x : Change) → P x → R x) → ((x : Change) → Q x → R x) → ((x : Change) → P x → Q x → ⊥)
    → ((x y : Change) → P x → Q y → place_of x ≤ place_of y) → Pushes P old mid → Pushes Q mid now → Pushes R old now
pushes-both P Q R old mid now parts left right apart rises a b = record {
  more = a.more ++ b.more;
  is = b.is ∙ ap (λ z. z ++ b.more) a.is ∙ append_assoc old a.more b.more;
  each = record {
    all = λ x r. elim (parts x r) [
      | inl p ↦ Contains-append_left a.more b.more x (a.each.all x p)
      | inr q ↦ Contains-append_right a.more b.more x (b.each.all x q)
    ];
    only = λ x there. elim (Contains-append_cases a.more b.more x there) [
      | inl first ↦ left x (a.each.only x first)
      | inr second ↦ right x (b.each.only x second)
    ];
    once = apart-append (λ x y. x ≡ y → ⊥) a.more b.more a.each.once b.each.once
        (λ x y first second e. apart y (subst P e (a.each.only x first)) (b.each.only y second));
  };
  in_order = apart-append (λ x y. place_of x ≤ place_of y) a.more b.more a.in_order b.in_order
      (λ x y first second. rises x y (a.each.only x first) (b.each.only y second));
}

-- what P says is what R says
pub pushes-as : (P R : Change → Type 0) (old now : List Change) → ((x : Change) → R x → P x)
    → ((x : Change) → P x → R x) → Pushes P old now → Pushes R old now
pushes-as P R old now out back a = search rules

-- one change, or none
pub pushes-option : (P : Change → Type 0) (o : Option Change) (old now : List Change) → IsOne P o
    → now ≡ old ++ option_to_list o → Pushes P old now
pushes-option P None old now one e = pushes-none P old now (e ∙ append-nil old) one
pushes-option P (Some x) old now one e = pushes-one P x old now e one.0 one.1

-- what stands at places up to one, and from there on
pub places-both : (v : Versions) (low at high : ℕ) (old mid now : List Change) → low ≤ at → at ≤ high
    → PushesPlaces v low at old mid → PushesPlaces v at high mid now → PushesPlaces v low high old now
places-both v low at high old mid now below above a b = search (rules, pushes-both, cases_lt)

-- one place
pub places-one : (v : Versions) (at high : ℕ) (old now : List Change) → high ≡ at + 1 → PushesAt v at old now
    → PushesPlaces v at high old now
places-one v at high old now e a = search (rules, pushes-as)

-- and one more
pub places-more : (v : Versions) (low at high : ℕ) (old mid now : List Change) → low ≤ at → high ≡ at + 1
    → PushesPlaces v low at old mid → PushesAt v at mid now → PushesPlaces v low high old now
places-more v low at high old mid now below e a b = search (rules, places-both, places-one)

-- and one more, of which it is known what differs there
pub places_step : (v : Versions) (low at high : ℕ) (o : Option Change) (old mid now : List Change) → low ≤ at
    → high ≡ at + 1 → PushesPlaces v low at old mid → IsOne (IsAt v at) o → now ≡ mid ++ option_to_list o
    → PushesPlaces v low high old now
places_step v low at high o old mid now below next a one e =
    places-more v low at high old mid now below next a (pushes-option (IsAt v at) o mid now one e)

-- all places, behind nothing
pub all_pushed : (v : Versions) (old now : List Change) → old ≡ [] → PushesPlaces v 0 2351 old now
    → AreChanges (is_some v.seen) v.old.now v.new.now now
all_pushed v old now e a =
    let same : now ≡ a.more = a.is ∙ ap (λ z. z ++ a.more) e in
    subst (λ z. AreChanges (is_some v.seen) v.old.now v.new.now z) (sym same) (record {
      each = record {
        all = λ x is. a.each.all x (is, omega arith, place_below v x is);
        only = λ x there. (a.each.only x there).0;
        once = a.each.once;
      };
      in_order = a.in_order;
    })
