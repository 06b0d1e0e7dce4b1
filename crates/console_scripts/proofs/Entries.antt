-- What holds of the entries of a map, and look-ups by a state.
use Rattle.console_scripts.proofs.Common.{◌≡◌, Bool, true, List, [], ◌∷◌, Some, None, refl, subst, sym, inl, inr}
use Rattle.console_scripts.proofs.Common.{is_some, lookup, true≢false, same_Some, cases_Bool, none-some, insert_entry}
use Rattle.console_scripts.proofs.Common.{Held, state_of, State, rules, are_same, tells-same}
use Rattle.console_scripts.specs.Inner.Routes.{AllEntries, HasEntry}
use Rattle.console_states.proofs.Shared.{same-tells}

-- what holds of each entry holds of the one that a look-up finds, under the key that is looked up
pub found-entry : {K V : Type 0} (E : K → K → Bool) (P : K → V → Type 0)
    → ((a b : K) (v : V) → E a b ≡ true → P b v → P a v) → (es : List (K × V)) (k : K) (v : V) → AllEntries P es
    → lookup (E k) es ≡ Some v
    → P k v
found-entry E P same [] k v all is = absurd (none-some v is)
found-entry E P same (x ∷ es) k v all is = elim (cases_Bool (E k x.0)) [
  | inl t ↦ subst (λ z. P k z) (same_Some x.1 v (rw t at is)) (same k x.0 x.1 t all.0)
  | inr t ↦ found-entry E P same es k v all.1 (rw t at is)
]

-- what holds of each entry and of a further one holds of all
pub one-entry : {K V : Type 0} (E : K → K → Bool) (P : K → V → Type 0)
    → ((a b : K) (v : V) → E a b ≡ true → P a v → P b v) → (es : List (K × V)) (k : K) (v : V) → AllEntries P es
    → P k v
    → AllEntries P (insert_entry E es k v)
one-entry E P same [] k v all is = (is, tt)
one-entry E P same (x ∷ es) k v all is =
    search (rules, cases_Bool, one-entry E P same es k v all.1 is)

-- what holds of the state and the value of each entry
pub found-by_state : {V : Type 0} (P : State → V → Type 0) (es : List (Held × V)) (k : Held) (v : V)
    → AllEntries (λ h x. P (state_of h) x) es → lookup (are_same k) es ≡ Some v
    → P (state_of k) v
found-by_state P es k v all is =
    found-entry are_same (λ h x. P (state_of h) x)
    (λ a b x t there. subst (λ s. P s x) (sym (tells-same a b t)) there) es k v all is

pub one-by_state : {V : Type 0} (P : State → V → Type 0) (es : List (Held × V)) (k : Held) (v : V)
    → AllEntries (λ h x. P (state_of h) x) es → P (state_of k) v
    → AllEntries (λ h x. P (state_of h) x) (insert_entry are_same es k v)
one-by_state P es k v all is = search (rules, one-entry, tells-same)

-- where a look-up finds nothing, there is no entry of the state
pub none-found : {V : Type 0} (es : List (Held × V)) (k : Held) → lookup (are_same k) es ≡ None
    → HasEntry es (state_of k) → ⊥
none-found [] k e has = has
none-found (x ∷ es) k e (inl is) = search (rules, none-some, same-tells)
none-found (x ∷ es) k e (inr later) = elim (cases_Bool (are_same k x.0)) [
  | inl t ↦ none-some x.1 (sym (rw t at e))
  | inr t ↦ none-found es k (rw t at e) later
]

-- where a look-up finds something, there is an entry of the state
pub found-has : {V : Type 0} (es : List (Held × V)) (k : Held) → is_some (lookup (are_same k) es) ≡ true
    → HasEntry es (state_of k)
found-has [] k e = absurd (true≢false (sym e))
found-has (x ∷ es) k e = elim (cases_Bool (are_same k x.0)) [
  | inl t ↦ inl (sym (tells-same k x.0 t))
  | inr t ↦ inr (found-has es k (rw t at e))
]

-- the entry that is added, and those that were there
pub has-new : {V : Type 0} (es : List (Held × V)) (k : Held) (v : V)
    → HasEntry (insert_entry are_same es k v) (state_of k)
has-new [] k v = inl refl
has-new (x ∷ es) k v = search (rules, cases_Bool, are_same, tells-same, has-new es k v)

pub has-old : {V : Type 0} (es : List (Held × V)) (k : Held) (v : V) (s : State) → HasEntry es s
    → HasEntry (insert_entry are_same es k v) s
has-old [] k v s has = absurd has
has-old (x ∷ es) k v s (inl is) = elim (cases_Bool (are_same k x.0)) [ inl t ↦ rw t (inl is) | inr t ↦ rw t (inl is) ]
has-old (x ∷ es) k v s (inr later) = search (rules, cases_Bool, are_same, has-old es k v s later)
