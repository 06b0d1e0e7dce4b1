-- What presses see and what can be seen, as tests: they pass exactly where it is so.
use Rattle.console_states.proofs.Common.{suc, ◌≡◌, inl, inr, ℕ, ◌<◌, Bool, true, false, ◌&&◌, List, [], ◌∷◌, refl, ap}
use Rattle.console_states.proofs.Common.{subst, sym, ◌∙◌, arith, ◌==◌, Contains, list_any, and_parts, eqb-true, eq-eqb}
use Rattle.console_states.proofs.Common.{true≢false, Cell, Char, Act, Selection, Sight, Offer, Sights, MapValue}
use Rattle.console_states.proofs.Common.{key_count, alone, state_after, look_selected, SeesBy, is_selected, can_see}
use Rattle.console_states.proofs.Common.{AreSightsOf, IsReachable, selection_of, rules}
use Rattle.console_states.specs.Sights.{AreSomeSights}
use Rattle.std.proofs.lemmas.Bool.{or_cases}
use Rattle.std.proofs.Common.{◌%◌}
use Rattle.std.specs.List.{range_with_len}
use Rattle.std.proofs.lemmas.List.Folds.{list_any_at}
use Rattle.std.proofs.lemmas.List.FromFn.{get_or-range_with_len}
use Rattle.console_states.specs.Sights.{slot_in, is_composed, is_same, is_character, sees_by, is_seeing, CanCompose}
use Rattle.console_states.specs.Inner.Adding.{IsSelectedBy, IsComposedBy}
use Rattle.console_states.proofs.Offering.{composing-has}
use Rattle.console_states.specs.declared.selection.Sight.TheVariants as sight

-- two tests that pass alike are one
pub same-truth : (r b : Bool) → (r ≡ true → b ≡ true) → (r ≡ false → b ≡ false) → r ≡ b
same-truth true b then-so then-not = sym (then-so refl)
same-truth false b then-so then-not = sym (then-not refl)

-- a member passes the test of a list that passes
pub any-member : {X : Type 0} (p : X → Bool) (xs : List X) (x : X) → Contains xs x → p x ≡ true
    → list_any p xs ≡ true
any-member p xs x (n, lt, at) e = list_any_at p xs n x lt (ap p at ∙ e)

later-member : {X : Type 0} (x : X) (xs : List X) (y : X) → Contains xs y → Contains (x ∷ xs) y
later-member x xs y (n, lt, at) = (suc n, omega (arith, lt), at)

-- a list that passes has a member that does
pub some-member : {X : Type 0} (p : X → Bool) (xs : List X) → list_any p xs ≡ true
    → (x : X) × Contains xs x × (p x ≡ true)
some-member p [] e = absurd (true≢false (sym e))
some-member p (x ∷ xs) e = elim (or_cases (p x) (list_any p xs) e) [
  | inl is ↦ (x, (0, omega arith, refl), is)
  | inr f ↦ let (y, has, is) = some-member p xs f in (y, later-member x xs y has, is)
]

same-true : (a b : Bool) → is_same a b ≡ true → a ≡ b
same-true true true e = refl
same-true false false e = refl
same-true true false e = absurd (true≢false (sym e))
same-true false true e = absurd (true≢false (sym e))

true-same : (a b : Bool) → a ≡ b → is_same a b ≡ true
true-same true true e = refl
true-same false false e = refl
true-same true false e = absurd (true≢false e)
true-same false true e = absurd (true≢false (sym e))

character-true : (c : ℕ) (z : Cell) → is_character c z ≡ true → z ≡ Char c
character-true c (Char d) e = ap (λ n. Char n) (eqb-true d c e)
character-true c (Act a) e = absurd (true≢false (sym e))

-- the test of a press
pub sees-true : (m : MapValue) (y : Selection) (k : ℕ) (x : Sight) → sees_by m y k x ≡ true → SeesBy m y k x
sees-true m y k (sight.Cell slot column) e = search (rules, and_parts, eqb-true)
sees-true m y k (sight.Locks slot caps num) e = search (rules, and_parts, eqb-true, same-true)
sees-true m y k (sight.Pair accent c) e = character-true c (look_selected m y k) e

pub true-sees : (m : MapValue) (y : Selection) (k : ℕ) (x : Sight) → SeesBy m y k x → sees_by m y k x ≡ true
true-sees m y k (sight.Cell slot column) (e, f) = search (rules, eq-eqb)
true-sees m y k (sight.Locks slot caps num) (e, f, g) = search (rules, eq-eqb, true-same)
true-sees m y k (sight.Pair accent c) e = ap (λ z. is_character c z) e ∙ eq-eqb c c refl

-- the test of a selection
in-range : (k : ℕ) → k < key_count → Contains (range_with_len 0 key_count) k
in-range k lt = (k, lt, omega (arith, get_or-range_with_len 0 key_count k k lt))

of-range : (k : ℕ) → Contains (range_with_len 0 key_count) k → k < key_count
of-range k (n, lt, at) = search (rules, get_or-range_with_len)

pub seeing-true : (m : MapValue) (y : Selection) (x : Sight) → is_seeing m y x ≡ true
    → (k : ℕ) × (k < key_count) × SeesBy m y k x
seeing-true m y x e =
    let (k, has, sees) = some-member (λ k. sees_by m y k x) (range_with_len 0 key_count) e in
    (k, of-range k has, sees-true m y k x sees)

pub true-seeing : (m : MapValue) (y : Selection) (x : Sight) (k : ℕ) → k < key_count → SeesBy m y k x
    → is_seeing m y x ≡ true
true-seeing m y x k lt sees = search (rules, any-member, in-range, true-sees)

-- the test of the selections
pub selected-true : (m : MapValue) (ys : List Selection) (x : Sight) → IsSelectedBy m ys x → is_selected m ys x ≡ true
selected-true m ys x (y, has, (k, lt, sees)) = search (rules, any-member, true-seeing)

pub true-selected : (m : MapValue) (ys : List Selection) (x : Sight) → is_selected m ys x ≡ true → IsSelectedBy m ys x
true-selected m ys x passes = search (rules, some-member, seeing-true)

-- the test of the offers
pub composed-true : (m : MapValue) (offers : List Offer) (accent : ℕ) (x : Sight) → IsComposedBy m offers accent x
    → is_composed m offers accent x ≡ true
composed-true m offers accent x (o, has, same, sees) = search (rules, any-member, eq-eqb, selected-true)

pub true-composed : (m : MapValue) (offers : List Offer) (accent : ℕ) (x : Sight)
    → is_composed m offers accent x ≡ true → IsComposedBy m offers accent x
true-composed m offers accent x passes =
    let (o, has, pass) =
    some-member (λ z. (z.accent == accent) && is_selected m z.selections.items x) offers passes in
    let p = and_parts (o.accent == accent) (is_selected m o.selections.items x) pass in
    (o, has, eqb-true o.accent accent p.0, true-selected m o.selections.items x p.1)

-- what is seen by some can be seen
pub sees-some : (m : MapValue) (s : Sights) → AreSomeSights m s → (x : Sight) → can_see m s x ≡ true → IsReachable m x
sees-some m s are (sight.Pair accent c) e =
    let (o, has, same, (y, there, (k, lt, sees))) = true-composed m s.offers.items accent (sight.Pair accent c) e in
    let (path, is, offered, leads) = subst (λ a. CanCompose m a y) same (are.composing o has y there) in
    (path, is, offered, (k, lt, subst (λ z. SeesBy m z k (sight.Pair accent c)) (sym leads) sees))
sees-some m s are (sight.Cell slot column) e =
    let (y, there, (k, lt, sees)) = true-selected m s.selections.items (sight.Cell slot column) e in
    let (path, is, leads) = are.selections y there in
    (path, is, tt, (k, lt, subst (λ z. SeesBy m z k (sight.Cell slot column)) (sym leads) sees))
sees-some m s are (sight.Locks slot caps num) e =
    let (y, there, (k, lt, sees)) = true-selected m s.selections.items (sight.Locks slot caps num) e in
    let (path, is, leads) = are.selections y there in
    (path, is, tt, (k, lt, subst (λ z. SeesBy m z k (sight.Locks slot caps num)) (sym leads) sees))

-- all that can be seen is some of it
pub sights-some : (m : MapValue) (s : Sights) → AreSightsOf m s → AreSomeSights m s
sights-some m s are = record {
  selections = are.selections.only;
  composing = λ o has. (are.composing o has).only;
  forgets = are.forgets.0;
}

-- what can be seen passes the test, and nothing else
pub sees-all : (m : MapValue) (s : Sights) → AreSightsOf m s → (x : Sight) → can_see m s x ≡ true → IsReachable m x
sees-all m s are x e = sees-some m s (sights-some m s are) x e

pub all-seen : (m : MapValue) (s : Sights) → AreSightsOf m s → (x : Sight) → IsReachable m x → can_see m s x ≡ true
all-seen m s are (sight.Pair accent c) (path, is, offered, (k, lt, sees)) =
    let y : Selection = selection_of (state_after (alone m) path) in
    let (o, has, same, there) = composing-has m s accent y are (path, is, offered, refl) in
    composed-true m s.offers.items accent (sight.Pair accent c) (o, has, same, (y, there, (k, lt, sees)))
all-seen m s are (sight.Cell slot column) (path, is, x, (k, lt, sees)) =
    let y : Selection = selection_of (state_after (alone m) path) in
    selected-true m s.selections.items (sight.Cell slot column)
    (y, are.selections.all y (path, is, refl), (k, lt, sees))
all-seen m s are (sight.Locks slot caps num) (path, is, x, (k, lt, sees)) =
    let y : Selection = selection_of (state_after (alone m) path) in
    selected-true m s.selections.items (sight.Locks slot caps num)
    (y, are.selections.all y (path, is, refl), (k, lt, sees))

-- of all but pairs, by the selections
pub seen-otherwise : (m : MapValue) (s : Sights) (ys : List Selection) (x : Sight)
    → ((accent c : ℕ) → x ≡ sight.Pair accent c → ⊥) → ys ≡ s.selections.items
    → is_selected m ys x ≡ can_see m s x
seen-otherwise m s ys (sight.Pair accent c) other e = absurd (other accent c refl)
seen-otherwise m s ys (sight.Cell slot column) other e = ap (λ z. is_selected m z (sight.Cell slot column)) e
seen-otherwise m s ys (sight.Locks slot caps num) other e = ap (λ z. is_selected m z (sight.Locks slot caps num)) e

-- of a cell or a lock setting, only the key of the slot can see it
pub key-of-slot : (y : Selection) (k slot : ℕ) → k < key_count → slot_in y k ≡ slot → slot % key_count ≡ k
key-of-slot y k slot lt e = search rules
