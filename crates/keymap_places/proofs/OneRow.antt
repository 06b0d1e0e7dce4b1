-- Tokens are the rows of one list at most.
use Rattle.keymap_places.proofs.Common.{◌≡◌, ℕ, ◌+◌, List, [], ◌∷◌, ◌++◌, length, map, refl, sym, ◌∙◌, ap, ap₂, arith}
use Rattle.keymap_places.proofs.Common.{append-nil, TokenValue, item_of}
use Rattle.keymap_places.proofs.Common.{Row, AreRows, no_row, one_row}
use Rattle.keymap_places.proofs.Common.{places_after, rules}
use Rattle.keymap_places.proofs.RowPlaces.{places_are}
use Rattle.keymap_text.proofs.Shared.{defined_is, same_head, same_tail}

empty_more : {A : Type 0} (x : A) (xs : List A) → [] ≡ x ∷ xs → ⊥
empty_more x xs h = cc

-- two lists whose first parts are as long
parts_are : {A : Type 0} (xs ys us vs : List A) → length xs ≡ length ys → xs ++ us ≡ ys ++ vs
    → (xs ≡ ys) × (us ≡ vs)
parts_are [] [] us vs n e = (refl, e)
parts_are [] (y ∷ ys) us vs n e = absurd (omega (arith, n))
parts_are (x ∷ xs) [] us vs n e = absurd (omega (arith, n))
parts_are (x ∷ xs) (y ∷ ys) us vs n e =
    let rest = same_tail x y (xs ++ us) (ys ++ vs) e in
    grind (arith, same_head, (parts_are xs ys us vs (omega (arith, n)) rest))

-- no rows have no tokens
none : {ts : List TokenValue} {rows : List Row} → AreRows ts rows → rows ≡ [] → ts ≡ []
none o h = grind (arith, empty_more)

next_place : (n m : ℕ) (a b : List Row) → places_after n a ≡ places_after m b
    → (x : Row) (xs : List Row) → a ≡ x ∷ xs → n ≡ m
unfolding places_after
next_place n m a [] h x xs e = absurd (empty_more _ _ (sym h ∙ ap (places_after n) e))
next_place n m a (y ∷ ys) h x xs e = grind arith

no_places : (n m : ℕ) (b : List Row) → places_after n [] ≡ places_after m b → b ≡ []
unfolding places_after
no_places n m [] h = refl
no_places n m (y ∷ ys) h = absurd (empty_more _ _ h)

-- rows behind which as many tokens stand, and begin at the same places
as_long : (n : ℕ) (xs ys us vs : List TokenValue) (a b : List Row) → AreRows us a → AreRows vs b
    → xs ++ us ≡ ys ++ vs → places_after (n + length xs) a ≡ places_after (n + length ys) b → length xs ≡ length ys
as_long n xs ys us vs [] b f g e h = search (rules, none, no_places, append-nil)
as_long n xs ys us vs (x ∷ a) b f g e h =
    let same : n + length xs ≡ n + length ys = next_place (n + length xs) (n + length ys) (x ∷ a) b h x a refl in
    omega (arith, same)

row_is : (r s : Row) → r.definition ≡ s.definition → r.tokens ≡ s.tokens → r ≡ s
row_is r s h k = ap₂ (λ d ts. record { definition = d; tokens = ts }) h k

more_places : (n : ℕ) (r s : Row) (a b : List Row) → places_after n (r ∷ a) ≡ places_after n (s ∷ b)
    → places_after (n + length r.tokens) a ≡ places_after (n + length s.tokens) b
unfolding places_after
more_places n r s a b h = same_tail _ _ _ _ h

rows_are : {ts us : List TokenValue} {a b : List Row} → AreRows ts a → AreRows us b → ts ≡ us → (n : ℕ)
    → places_after n a ≡ places_after n b → a ≡ b
rows_are {b = b} no_row g e n h = sym (no_places n n b h)
rows_are {a = a} f no_row e n h = no_places n n a (sym h)
rows_are (one_row {ts = us} {rs = a} r d f) (one_row {ts = vs} {rs = b} s c g) e n h =
    let more = more_places n r s a b h in
    let long = as_long n r.tokens s.tokens us vs a b f g e more in
    let m = parts_are r.tokens s.tokens us vs long e in
    let same : r ≡ s = row_is r s (defined_is d c (ap (map item_of) m.0)) m.0 in
    ap₂ (λ r rs. r ∷ rs) same
    (rows_are f g m.1 (n + length r.tokens) (more ∙ ap (λ k. places_after (n + k) b) (sym long)))

pub one_row_list : (ts : List TokenValue) (a b : List Row) → AreRows ts a → AreRows ts b → a ≡ b
one_row_list ts a b f g = rows_are f g refl 0 (sym (places_are f 0) ∙ places_are g 0)
