-- Rows that are filled one by one.
use Rattle.keymap_tables.proofs.Common.{common_steps, rules, ◌≡◌, ℕ, ◌+◌, ◌-◌, ◌<◌, ◌≤◌, List, [], ◌∷◌, ◌++◌, length}
use Rattle.keymap_tables.proofs.Common.{replicate, set, refl, sym, ap, ◌∙◌, arith, append_assoc, length-append, All}
use Rattle.keymap_tables.proofs.Common.{replicate-append-replicate, length-replicate, All-append, All-replicate}
use Rattle.keymap_tables.proofs.Common.{flat_map, AccentValue, blank, IsEntry, IsAccent, MapValue, placed, undefined}
use Rattle.keymap_tables.proofs.Common.{Entry, Layout, image_in, slot_bytes, accent_bytes, count_at, count_bytes}
use Rattle.keymap_tables.proofs.Common.{rows_bytes, slot_size, accent_size}
use Rattle.std.proofs.Common.{max, map, ap₂}
use Rattle.std.proofs.lemmas.List.{map-set, set-append_left}
use Rattle.std.proofs.lemmas.List.Elements.{All-set}
use Rattle.keymap_core.specs.Maps.{with_entry, with_accent}
use Rattle.keymap_tables.specs.Files.{joined}
use Rattle.keymap_tables.specs.Filled.{Filled, rows}
use Rattle.keymap_tables.proofs.AtPlaces.{undefined-known, blank-known}
use Rattle.keymap_tables.proofs.AccentImages.{accents-are}
use Rattle.keymap_tables.proofs.Rows.{filled, flat_map-filled}
use Rattle.keymap_tables.proofs.SlotImages.{slots-are}
use Rattle.keymap_tables.proofs.Images.{image-parts}

-- a list reaches at least to what was placed
placed-length : {X : Type 0} (x : X) (xs : List X) (i : ℕ) (y : X) → length (placed x xs i y) ≡ max (length xs) (i + 1)
placed-length x xs i y = grind (arith, common_steps)

-- a row that is placed is set among those that are filled up
filled-placed : {X : Type 0} (x : X) (n : ℕ) (xs : List X) (i : ℕ) (y : X) → length xs ≤ n → i < n
    → placed x xs i y ++ replicate (n - length (placed x xs i y)) x ≡ set (xs ++ replicate (n - length xs) x) i y
filled-placed {X = X} x n xs i y few inside =
    let a = i + 1 - length xs in
    let b = n - length (placed x xs i y) in
    let long : length (placed x xs i y) ≡ max (length xs) (i + 1) = placed-length x xs i y in
    let sum : a + b ≡ n - length xs = omega (arith, long, few, inside) in
    let front : length (xs ++ replicate a x) ≡ length xs + a =
    length-append xs (replicate a x) ∙ ap (λ k. length xs + k) (length-replicate a x) in
    let below : i < length (xs ++ replicate a x) = omega (arith, front) in
    sym (set-append_left (xs ++ replicate a x) (replicate b x) i y below)
    ∙ ap (λ (v : List X). set v i y)
    (append_assoc xs (replicate a x) (replicate b x)
    ∙ ap (λ (v : List X). xs ++ v) (replicate-append-replicate a b x ∙ ap (λ k. replicate k x) sum))

rows-placed : {X : Type 0} (f : X → List ℕ) (x : X) (n : ℕ) (xs : List X) (i : ℕ) (y : X) (row : List ℕ)
    (old : List (List ℕ)) → length xs ≤ n → i < n → row ≡ f y → old ≡ rows f x n xs
    → set old i row ≡ rows f x n (placed x xs i y)
rows-placed f x n xs i y row old few inside is was = search (rules, ap₂, map-set, filled-placed)

-- what is known of a list, and of what was placed
placed-known : {X : Type 0} (P : X → Type 0) (x : X) (n : ℕ) (xs : List X) (i : ℕ) (y : X) → P x → length xs ≤ n
    → All P xs → i < n → P y → (length (placed x xs i y) ≤ n) × All P (placed x xs i y)
placed-known P x n xs i y is_blank few all inside is =
    search (rules, placed-length, All-set, All-append, All-replicate)

-- a count, read from its bytes
pub count-back : (l : Layout) (n : ℕ) → n < 257 → count_at (count_bytes l n) 0 ≡ n
count-back l n few = grind arith

-- a count reaches to what was placed
count-placed : {X : Type 0} (l : Layout) (x : X) (xs : List X) (i : ℕ) (y : X) (most : ℕ) (old new : List ℕ)
    → length xs ≤ most → most < 257 → old ≡ count_bytes l (length xs)
    → ((n : ℕ) → n < 257 → old ≡ count_bytes l n → new ≡ count_bytes l (max n (i + 1)))
    → new ≡ count_bytes l (length (placed x xs i y))
count-placed l x xs i y most old new few small was raised =
    raised (length xs) (omega (arith, few, small)) was ∙ ap (count_bytes l) (sym (placed-length x xs i y))

module _ (l : Layout) (n_keys n_accs : List ℕ) (slots accents : List (List ℕ)) (m : MapValue)
    (s : Filled l n_keys slots n_accs accents m) where
  -- a slot is defined
  pub shows-entry : (slot : ℕ) (e : Entry) (row n : List ℕ) → slot < 256 → IsEntry e → row ≡ slot_bytes l e
      → ((k : ℕ) → k < 257 → n_keys ≡ count_bytes l k → n ≡ count_bytes l (max k (slot + 1)))
      → Filled l n (set slots slot row) n_accs accents (with_entry m slot e)
  shows-entry slot e row n inside known is raised =
      let was = s.known in
      let now =
      placed-known IsEntry undefined 256 m.entries slot e undefined-known was.few_entries was.entries inside known in
      record {
        known = search rules;
        n_keys_are =
            count-placed l undefined m.entries slot e 256 n_keys n was.few_entries (omega arith) s.n_keys_are raised;
        slots_are = search (rules, rows-placed);
        n_accs_are = s.n_accs_are;
        accents_are = s.accents_are;
      }

  -- an accent is
  pub shows-accent : (i : ℕ) (a : AccentValue) (row n : List ℕ) → i < 15 → IsAccent a → row ≡ accent_bytes l a
      → ((k : ℕ) → k < 257 → n_accs ≡ count_bytes l k → n ≡ count_bytes l (max k (i + 1)))
      → Filled l n_keys slots n (set accents i row) (with_accent m i a)
  shows-accent i a row n inside known is raised =
      let was = s.known in
      let now = placed-known IsAccent blank 15 m.accents i a blank-known was.few_accents was.accents inside known in
      record {
        known = search rules;
        n_keys_are = s.n_keys_are;
        slots_are = s.slots_are;
        n_accs_are =
            count-placed l blank m.accents i a 15 n_accs n was.few_accents (omega arith) s.n_accs_are raised;
        accents_are = search (rules, rows-placed);
      }

-- rows, joined
joined-map : {X : Type 0} (f : X → List ℕ) (xs : List X) → joined (map f xs) ≡ flat_map f xs
joined-map f [] = refl
joined-map f (x ∷ xs) = ap (λ (v : List ℕ). f x ++ v) (joined-map f xs)

-- the file of what is shown
pub file-of : (l : Layout) (n_keys n_accs : List ℕ) (slots accents : List (List ℕ)) (m : MapValue)
    → Filled l n_keys slots n_accs accents m → n_keys ++ joined slots ++ n_accs ++ joined accents ≡ image_in l m
file-of l n_keys n_accs slots accents m s =
    let keys : joined slots ≡ rows_bytes (slot_bytes l) (slot_size l) 256 m.entries =
    ap joined s.slots_are ∙ joined-map (slot_bytes l) (filled undefined 256 m.entries)
    ∙ flat_map-filled (slot_bytes l) (slot_size l) undefined 256 m.entries (slots-are l).empty in
    let accs : joined accents ≡ rows_bytes (accent_bytes l) (accent_size l) 15 m.accents =
    ap joined s.accents_are ∙ joined-map (accent_bytes l) (filled blank 15 m.accents)
    ∙ flat_map-filled (accent_bytes l) (accent_size l) blank 15 m.accents (accents-are l).empty in
    append_assoc (n_keys ++ joined slots) n_accs (joined accents)
    ∙ rw (s.n_keys_are, keys, s.n_accs_are, accs) (sym (image-parts l m))
