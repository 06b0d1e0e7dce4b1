-- A printed map spells the map.
use Rattle.keymap_text.proofs.Common.{◌≡◌, ℕ, zero, suc, ◌+◌, ◌<◌, ◌≤◌, ◌==◌, Bool, true, false, cond, max, List, rules}
use Rattle.keymap_text.proofs.Common.{[], ◌∷◌, ◌++◌, length, get_or, map, refl, sym, ◌∙◌, ap, ap₂, subst, arith, Ok}
use Rattle.keymap_text.proofs.Common.{Option, Some, None, append_assoc, append-nil, eqb-true, eq-eqb, ne_eqb}
use Rattle.keymap_text.proofs.Common.{All, flat_map, range_with_len, option_or, blank, MapValue, undefined}
use Rattle.keymap_text.proofs.Common.{name_of, Cell, Item, Value, Act, character, cell, tokens_after, Definition}
use Rattle.keymap_text.proofs.Common.{KeyDefinition, AccentDefinition, Defines, IsRow, no_definition, one_definition}
use Rattle.keymap_text.proofs.Common.{last, of_slot, of_index, greatest, slots_needed, accents_needed, or_default}
use Rattle.keymap_text.proofs.Common.{map_of, key_line, accent_line, printed, key_lines, accent_lines, Spells}
use Rattle.keymap_text.proofs.Common.{ending_of_tokens, list_of}
use Rattle.keymap_core.specs.declared.action.Action.TheVariants.{DeadKey}
use Rattle.keymap_core.specs.Bounds.{IsMap, IsCell, IsPair}
use Rattle.keymap_text.proofs.Splitting.{split_none}
use Rattle.keymap_text.proofs.Verdicts.{items_of}
use Rattle.keymap_text.proofs.Folded.{last_none, last_more, greatest_none, greatest_more, by_range, same_map}
use Rattle.keymap_text.proofs.Lexed.{Lexes, Any, lexes_none, lexes_both}
use Rattle.keymap_text.proofs.PrintedLines.{EachCell, EachPair, PrintsCell, PrintsName, PrintsCharacter, key_printed}
use Rattle.keymap_text.proofs.PrintedLines.{accent_printed}
use Rattle.keymap_text.proofs.Characters.{lexes_as, prints_character}
use Rattle.keymap_text.proofs.PrintedNames.{action_word, action_meaning}
use Rattle.keymap_core.specs.declared.entry.Cell.TheVariants as cells

-- a character is a cell
cell_of_character : (t : Item) (c : ℕ) → character t ≡ Ok c → cell t ≡ Ok (cells.Char c)
cell_of_character t c h = grind arith

-- a cell is printed as one token
prints_cell : (c : Cell) → IsCell c → PrintsCell c
prints_cell (cells.Char c) h = let p =
    prints_character c h in record { token = p.token; lexes = p.lexes; reads = cell_of_character p.token c p.reads }
prints_cell (cells.Act a) h =
    record {
      token = Value (Act a);
      lexes = lexes_as (name_of a) (Act a) (action_word a h) (action_meaning a h);
      reads = refl;
    }

-- each cell of a list is printed as one token
pub prints_cells : (cs : List Cell) → All IsCell cs → EachCell cs
prints_cells [] h = tt
prints_cells (c ∷ cs) h =
    (prints_cell c (h 0 c (omega arith)), prints_cells cs (λ k d l. h (suc k) d (omega (arith, l))))

-- the characters of pairs are printed as one token each
pub prints_pairs : (ps : List (ℕ × ℕ)) → All IsPair ps → EachPair ps
prints_pairs [] h = tt
prints_pairs (p ∷ ps) h = let one =
    h 0 p (omega arith) in (
      one.1,
      prints_character p.0 one.0,
      prints_character p.1 one.2,
      prints_pairs ps (λ k d l. h (suc k) d (omega (arith, l))),
    )

-- the name of an accent is printed as one token
pub prints_name : (i : ℕ) → i < 15 → PrintsName i
prints_name i h =
    record {
      action = DeadKey i;
      lexes = lexes_as (name_of (DeadKey i)) (Act (DeadKey i)) (action_word (DeadKey i) h)
          (action_meaning (DeadKey i) h);
      reads = refl;
    }

-- two rows are one
row_append : {ts us : List Item} {ds es : List Definition} → IsRow ts ds → IsRow us es → IsRow (ts ++ us) (ds ++ es)
row_append no_definition s = s
row_append {us = vs} {es = es} (one_definition {ts = ts} {us = us} {d = d} {ds = ds} k r) s =
    subst (λ (ts : List Item). IsRow ts (d ∷ (ds ++ es))) (sym (append_assoc ts us vs))
    (one_definition k (row_append r s))

-- lines, each of which is a definition
lines : (line : ℕ → List ℕ) (def : ℕ → Definition) (a n : ℕ)
    → ((s : ℕ) → a ≤ s → s < a + n → (ts : List Item) × Lexes Any (line s) ts × Defines ts (def s))
    → (ts : List Item) × Lexes Any (flat_map line (range_with_len a n)) ts × IsRow ts (map def (range_with_len a n))
lines line def a zero h = ([], lexes_none Any, no_definition)
lines line def a (suc n) h =
    let one = h a (omega arith) (omega arith) in
    let more = lines line def (a + 1) n (λ s l k. h s (omega (arith, l)) (omega (arith, k))) in
    (one.0 ++ more.0, lexes_both one.1 more.1 (λ y k. tt), one_definition one.2 more.2)

-- definitions of greater numbers
beyond : {A : Type 0} (says : Definition → Option A) (def : ℕ → Definition) (value : ℕ → A) (i b k : ℕ)
    → ((s : ℕ) → says (def s) ≡ cond (s == i) (Some (value s)) None) → i < b
    → last says (map def (range_with_len b k)) ≡ None
beyond says def value i b zero e g = last_none says
beyond says def value i b (suc k) e g =
    grind (arith, last_more, ne_eqb, (beyond says def value i (b + 1) k e (omega (arith, g))))

-- the last of definitions one of which is of each number from a on
last_of : {A : Type 0} (says : Definition → Option A) (def : ℕ → Definition) (value : ℕ → A) (i a n : ℕ)
    → ((s : ℕ) → says (def s) ≡ cond (s == i) (Some (value s)) None) → a ≤ i → i < a + n
    → last says (map def (range_with_len a n)) ≡ Some (value i)
last_of says def value i a zero e l h = absurd (omega (arith, l, h))
last_of says def value i a (suc n) e l h =
    last_more says (def a) (map def (range_with_len (a + 1) n))
    ∙ go (a == i) refl (λ k. last_of says def value i (a + 1) n e k (omega (arith, h)))
  where
    go : (t : Bool) → (a == i) ≡ t → (a + 1 ≤ i → last says (map def (range_with_len (a + 1) n)) ≡ Some (value i))
        → option_or (last says (map def (range_with_len (a + 1) n))) (says (def a)) ≡ Some (value i)
    go true t ih =
        ap₂ option_or (beyond says def value i (a + 1) n e (omega (arith, eqb-true a i t)))
        (e a ∙ ap (λ b. cond b (Some (value a)) None) t ∙ ap (λ k. Some (value k)) (eqb-true a i t))
    go false t ih = search (rules, eq-eqb)

-- none of the definitions says anything
last_not : {A : Type 0} (says : Definition → Option A) (def : ℕ → Definition) (a n : ℕ)
    → ((s : ℕ) → a ≤ s → s < a + n → says (def s) ≡ None) → last says (map def (range_with_len a n)) ≡ None
last_not says def a zero e = last_none says
last_not says def a (suc n) e =
    grind (arith, last_more, (last_not says def (a + 1) n (λ s l h. e s (omega (arith, l)) (omega (arith, h)))))

-- what the last says in two rows
last_append : {A : Type 0} (says : Definition → Option A) (ds es : List Definition)
    → last says (ds ++ es) ≡ option_or (last says es) (last says ds)
last_append {A = A} says [] es = grind (arith, last_none)
last_append says (d ∷ ds) es = grind (arith, last_more, (last_append says ds es))

-- the greatest in two rows
greatest_append : (f : Definition → ℕ) (ds es : List Definition)
    → greatest f (ds ++ es) ≡ max (greatest f ds) (greatest f es)
greatest_append f [] es = rw greatest_none (omega arith)
greatest_append f (d ∷ ds) es = grind (arith, greatest_more, (greatest_append f ds es))

-- definitions of the other kind
greatest_zero : (f : Definition → ℕ) (def : ℕ → Definition) (a n : ℕ) → ((s : ℕ) → f (def s) ≡ 0)
    → greatest f (map def (range_with_len a n)) ≡ 0
greatest_zero f def a zero e = greatest_none f
greatest_zero f def a (suc n) e = grind (arith, greatest_more, (greatest_zero f def (a + 1) n e))

-- definitions of all numbers from one on
greatest_of : (f : Definition → ℕ) (def : ℕ → Definition) (a n : ℕ) → ((s : ℕ) → f (def s) ≡ s + 1)
    → greatest f (map def (range_with_len a (suc n))) ≡ a + suc n
greatest_of f def a zero e = greatest_more f (def a) [] ∙ omega (arith, e a, greatest_none f)
greatest_of f def a (suc n) e = grind (arith, greatest_more, (greatest_of f def (a + 1) n e))

-- definitions of all numbers below one
greatest_to : (f : Definition → ℕ) (def : ℕ → Definition) (n : ℕ) → ((s : ℕ) → f (def s) ≡ s + 1)
    → greatest f (map def (range_with_len 0 n)) ≡ n
greatest_to f def n e = grind (arith, greatest_none, greatest_of)

-- no bytes have no tokens
pub no_items : (q : ℕ) → items_of (tokens_after 0 q []) ≡ []
unfolding list_of
no_items q = ap items_of (split_none q)

module _ (m : MapValue) (h : IsMap m) where
  key : ℕ → Definition
  key s = KeyDefinition s (get_or m.entries s undefined)

  dead_key : ℕ → Definition
  dead_key i = AccentDefinition i (get_or m.accents i blank)

  keys : List Definition
  keys = map key (range_with_len 0 (length m.entries))

  dead_keys : List Definition
  dead_keys = map dead_key (range_with_len 0 (length m.accents))

  key_rows : (ts : List Item) × Lexes Any (key_lines m) ts × IsRow ts keys
  unfolding keys key
  key_rows = lines (λ s. key_line s (get_or m.entries s undefined))
      (λ s. KeyDefinition s (get_or m.entries s undefined)) 0 (length m.entries)
      (λ s l k. let lt : s < length m.entries = omega (arith, k) in let p = h.entries s undefined lt in
      key_printed s (get_or m.entries s undefined) (omega (arith, lt, h.few_entries)) p.eight
      (prints_cells (get_or m.entries s undefined).cells p.cells))

  dead_key_rows : (ts : List Item) × Lexes Any (accent_lines m) ts × IsRow ts dead_keys
  unfolding dead_keys dead_key
  dead_key_rows =
      lines (λ i. accent_line i (get_or m.accents i blank)) (λ i. AccentDefinition i (get_or m.accents i blank)) 0
      (length m.accents)
      (λ i l k. let lt : i < length m.accents = omega (arith, k) in let p = h.accents i blank lt in
      accent_printed i (get_or m.accents i blank) (prints_name i (omega (arith, lt, h.few_accents)))
      (prints_character (get_or m.accents i blank).own p.own) p.few
      (prints_pairs (get_or m.accents i blank).pairs p.pairs))

  both : (ts : List Item) × Lexes Any (printed m) ts × IsRow ts (keys ++ dead_keys)
  both = let k = key_rows in let d = dead_key_rows in (k.0 ++ d.0, lexes_both k.1 d.1 (λ y e. tt), row_append k.2 d.2)

  keys_are : greatest slots_needed (keys ++ dead_keys) ≡ length m.entries
  unfolding keys dead_keys key dead_key
  keys_are =
      let some = greatest_to slots_needed key (length m.entries) (λ s. refl) in
      let none = greatest_zero slots_needed dead_key 0 (length m.accents) (λ i. refl) in
      greatest_append slots_needed keys dead_keys ∙ omega arith

  accents_are : greatest accents_needed (keys ++ dead_keys) ≡ length m.accents
  unfolding keys dead_keys key dead_key
  accents_are =
      let some = greatest_to accents_needed dead_key (length m.accents) (λ s. refl) in
      let none = greatest_zero accents_needed key 0 (length m.entries) (λ i. refl) in
      greatest_append accents_needed keys dead_keys ∙ omega arith

  entry_is : (s : ℕ) → s < length m.entries
      → get_or m.entries s undefined ≡ or_default (last (of_slot s) (keys ++ dead_keys)) undefined
  unfolding keys dead_keys key dead_key
  entry_is s l =
      sym (ap (λ o. or_default o undefined) (last_append (of_slot s) keys dead_keys
      ∙ ap (λ p. option_or p (last (of_slot s) keys)) accents ∙ found))
    where
      accents : last (of_slot s) dead_keys ≡ None
      accents = last_not (of_slot s) dead_key 0 (length m.accents) (λ i a b. refl)

      found : last (of_slot s) keys ≡ Some (get_or m.entries s undefined)
      found = last_of (of_slot s) key (λ s. get_or m.entries s undefined) s 0 (length m.entries) (λ k. refl)
          (omega arith) (omega (arith, l))

  accent_is : (i : ℕ) → i < length m.accents
      → get_or m.accents i blank ≡ or_default (last (of_index i) (keys ++ dead_keys)) blank
  unfolding keys dead_keys key dead_key
  accent_is i l =
      sym (ap (λ o. or_default o blank) (last_append (of_index i) keys dead_keys
      ∙ ap (λ p. option_or p (last (of_index i) keys)) found))
    where
      found : last (of_index i) dead_keys ≡ Some (get_or m.accents i blank)
      found = last_of (of_index i) dead_key (λ i. get_or m.accents i blank) i 0 (length m.accents) (λ k. refl)
          (omega arith) (omega (arith, l))

  same : m ≡ map_of (keys ++ dead_keys)
  same = same_map _ _ _ _ (by_range m.entries _ _ undefined (sym keys_are)
      (λ i k. entry_is i (omega (arith, k, keys_are))))
      (by_range m.accents _ _ blank (sym accents_are) (λ i k. accent_is i (omega (arith, k, accents_are))))

  ends : (q : ℕ) → ending_of_tokens (tokens_after 0 q []) ≡ Ok q
  unfolding ending_of_tokens
  ends q = ap ending_of_tokens (split_none q)

  pub printed_spells : Spells (printed m) m
  printed_spells = record {
    definitions = keys ++ dead_keys;
    row = subst (λ (ts : List Item). IsRow ts (keys ++ dead_keys))
        (sym (ap (λ t. items_of (tokens_after 0 0 t)) (sym (append-nil (printed m))) ∙ both.1.items 0 [] tt
        ∙ ap (λ (r : List Item). both.0 ++ r) (no_items _) ∙ append-nil both.0)) both.2;
    end = 0 + length (printed m);
    whole = ap (λ t. ending_of_tokens (tokens_after 0 0 t)) (sym (append-nil (printed m))) ∙ both.1.end 0 [] tt
        ∙ ends _;
    map = same;
  }
