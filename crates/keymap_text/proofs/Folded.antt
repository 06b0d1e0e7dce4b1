-- Definitions put into a map one by one, and the last ones.
use Rattle.keymap_text.proofs.Common.{◌≡◌, ℕ, zero, suc, ◌+◌, ◌<◌, ◌==◌, cond, max, List, [], ◌∷◌, ◌++◌, length, get_or}
use Rattle.keymap_text.proofs.Common.{replicate, map, refl, sym, ◌∙◌, ap, arith, Option, Some, None, eqb-true, eq-eqb}
use Rattle.keymap_text.proofs.Common.{length-set, length-append, range_with_len, option_or, get_or-set_same}
use Rattle.keymap_text.proofs.Common.{get_or-set_other, length-map, get_or-map-range_with_len, length-range_with_len}
use Rattle.keymap_text.proofs.Common.{Entry, AccentValue, blank, MapValue, with_entry, with_accent, undefined, placed}
use Rattle.keymap_text.proofs.Common.{empty_map, Definition, KeyDefinition, AccentDefinition, last, of_slot, of_index}
use Rattle.keymap_text.proofs.Common.{greatest, slots_needed, accents_needed, or_default, map_of}
use Rattle.keymap_text.proofs.Common.{get_or-replicate_default}

abbrev pub put : MapValue → Definition → MapValue
put m (KeyDefinition s e) = with_entry m s e
put m (AccentDefinition i a) = with_accent m i a

abbrev pub puts : MapValue → List Definition → MapValue
puts m [] = m
puts m (d ∷ ds) = puts (put m d) ds

-- the last definition is put last
pub puts_push : (m : MapValue) (ds : List Definition) (d : Definition) → puts m (ds ++ d ∷ []) ≡ put (puts m ds) d
puts_push m [] d = refl
puts_push m (x ∷ ds) d = puts_push (put m x) ds d

-- lists of one length with the same elements are equal
list_ext : {X : Type 0} (xs ys : List X) (d : X) → length xs ≡ length ys
    → ((i : ℕ) → i < length xs → get_or xs i d ≡ get_or ys i d) → xs ≡ ys
list_ext [] [] d h e = refl
list_ext [] (y ∷ ys) d h e = absurd (omega (arith, h))
list_ext (x ∷ xs) [] d h e = absurd (omega (arith, h))
list_ext (x ∷ xs) (y ∷ ys) d h e =
    ap (λ z. z ∷ xs) (e 0 (omega arith)) ∙ ap (λ zs. y ∷ zs) (list_ext xs ys d (omega (arith, h))
    (λ i l. e (suc i) (omega (arith, l))))

-- no definition says nothing
pub last_none : {A : Type 0} (says : Definition → Option A) → last says [] ≡ None
unfolding last
last_none says = refl

-- what the later ones say wins
pub last_more : {A : Type 0} (says : Definition → Option A) (d : Definition) (ds : List Definition)
    → last says (d ∷ ds) ≡ option_or (last says ds) (says d)
unfolding last
last_more says d ds = refl

-- no definition has the greatest number 0
pub greatest_none : (f : Definition → ℕ) → greatest f [] ≡ 0
unfolding greatest
greatest_none f = refl

-- the greatest number of a definition and more of them
pub greatest_more : (f : Definition → ℕ) (d : Definition) (ds : List Definition)
    → greatest f (d ∷ ds) ≡ max (f d) (greatest f ds)
unfolding greatest
greatest_more f d ds = refl

-- how many were filled in
length_replicate : {X : Type 0} (n : ℕ) (u : X) → length (replicate n u) ≡ n
length_replicate zero u = refl
length_replicate (suc n) u = ap suc (length_replicate n u)

-- how long a list is after a place was set
placed_length : {X : Type 0} (u : X) (xs : List X) (i : ℕ) (x : X) → length (placed u xs i x) ≡ max (length xs) (i + 1)
placed_length u xs i x = grind (arith, length-append, length-set, length_replicate)

-- how many entries there are after a definition
entries_put : (m : MapValue) (d : Definition) → length (put m d).entries ≡ max (length m.entries) (slots_needed d)
entries_put m d = grind (arith, placed_length)

-- how many accents
accents_put : (m : MapValue) (d : Definition) → length (put m d).accents ≡ max (length m.accents) (accents_needed d)
accents_put m d = grind (arith, placed_length)

-- how many there are after all definitions, by how many each needs
length_after : (size : MapValue → ℕ) (needs : Definition → ℕ)
    → ((m : MapValue) (d : Definition) → size (put m d) ≡ max (size m) (needs d))
    → (m : MapValue) (ds : List Definition) → size (puts m ds) ≡ max (size m) (greatest needs ds)
length_after size needs one m [] = rw greatest_none (omega arith)
length_after size needs one m (d ∷ ds) =
    grind (arith, greatest_more, (length_after size needs one (put m d) ds))

-- filling a list up with the default changes no element
padded : {X : Type 0} (xs : List X) (n j : ℕ) (u : X) → get_or (xs ++ replicate n u) j u ≡ get_or xs j u
padded [] n j u = get_or-replicate_default n j u
padded (x ∷ xs) n zero u = refl
padded (x ∷ xs) n (suc j) u = padded xs n j u

-- what stands at a place after one was set
placed_says : {X : Type 0} (u : X) (xs : List X) (s i : ℕ) (x : X)
    → get_or (placed u xs s x) i u ≡ or_default (cond (s == i) (Some x) None) (get_or xs i u)
placed_says u xs s i x =
    grind (arith, eq-eqb, eqb-true, get_or-set_other, get_or-set_same, length-append, length_replicate, padded)

-- a later answer wins
later : {A : Type 0} (o p : Option A) (x y : A) → x ≡ or_default p y → or_default o x ≡ or_default (option_or o p) y
later o p x y h = grind arith

-- the entry of a slot after a definition
entry_put : (m : MapValue) (d : Definition) (slot : ℕ)
    → get_or (put m d).entries slot undefined ≡ or_default (of_slot slot d) (get_or m.entries slot undefined)
entry_put m d slot = grind (arith, placed_says)

-- the entry of a slot after all definitions
pub entries_of : (m : MapValue) (ds : List Definition) (slot : ℕ)
    → get_or (puts m ds).entries slot undefined ≡ or_default (last (of_slot slot) ds) (get_or m.entries slot undefined)
entries_of m [] slot = rw last_none refl
entries_of m (d ∷ ds) slot = grind (arith, entry_put, last_more, later, (entries_of (put m d) ds slot))

-- an accent after a definition
accent_put : (m : MapValue) (d : Definition) (i : ℕ)
    → get_or (put m d).accents i blank ≡ or_default (of_index i d) (get_or m.accents i blank)
accent_put m d i = grind (arith, placed_says)

-- an accent after all definitions
pub accents_of : (m : MapValue) (ds : List Definition) (i : ℕ)
    → get_or (puts m ds).accents i blank ≡ or_default (last (of_index i) ds) (get_or m.accents i blank)
accents_of m [] i = rw last_none refl
accents_of m (d ∷ ds) i = grind (arith, accent_put, last_more, later, (accents_of (put m d) ds i))

-- a list is its elements
pub by_range : {X : Type 0} (xs : List X) (f : ℕ → X) (n : ℕ) (u : X) → length xs ≡ n
    → ((i : ℕ) → i < n → get_or xs i u ≡ f i) → xs ≡ map f (range_with_len 0 n)
by_range xs f n u l h =
    list_ext xs (map f (range_with_len 0 n)) u
    (l ∙ sym (length-range_with_len 0 n) ∙ sym (length-map (range_with_len 0 n) f))
    (λ i k. h i (omega (arith, k, l)) ∙ sym (get_or-map-range_with_len f 0 n i i u (omega (arith, k, l)) (omega arith)))

-- maps with the same entries and accents are one
pub same_map : (es es' : List Entry) (bs bs' : List AccentValue) → es ≡ es' → bs ≡ bs'
    → ◌≡◌ {A = MapValue} (record { entries = es; accents = bs }) (record { entries = es'; accents = bs' })
same_map es es' bs bs' a b = cc

-- definitions put into the empty map one by one make the map of the last ones
pub puts_are : (ds : List Definition) → puts empty_map ds ≡ map_of ds
puts_are ds = same_map _ _ _ _
    (by_range _ _ (greatest slots_needed ds) undefined
    (length_after (λ m. length m.entries) slots_needed entries_put empty_map ds ∙ omega arith)
    (λ i h. entries_of empty_map ds i))
    (by_range _ _ (greatest accents_needed ds) blank
    (length_after (λ m. length m.accents) accents_needed accents_put empty_map ds ∙ omega arith)
    (λ i h. accents_of empty_map ds i))
