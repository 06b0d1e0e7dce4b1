-- The tables of the last definitions.
use Rattle.keymap_places.proofs.Common.{◌≡◌, ◌≢◌, ℕ, ◌<◌, ◌≤◌, ◌==◌, true, false, cond, List, [], ◌∷◌, ◌++◌, length}
use Rattle.keymap_places.proofs.Common.{set}
use Rattle.keymap_places.proofs.Common.{get_or, map, refl, sym, ◌∙◌, ap, arith, Option, Some, None, length-set, ne_eqb}
use Rattle.keymap_places.proofs.Common.{replicate, get_or-set_same, get_or-set_other, ext_get_or, get_or-replicate}
use Rattle.keymap_places.proofs.Common.{length-map-range_with_len, get_or-map-range_with_len, range_with_len, option_or}
use Rattle.keymap_places.proofs.Common.{Defined, Slot, Accent, Placed, is_same, last_of, HasLast}
use Rattle.keymap_places.specs.declared.last.LastDefinitions.{LastDefinitions}

-- with a definition in front, the last one is that of the others, or else the one in front
last_more : (what : Defined) (p : Placed) (ps : List Placed)
    → last_of what (p ∷ ps) ≡ option_or (last_of what ps) (cond (is_same p.what what) (Some p) None)
unfolding last_of
last_more what p ps = refl

last_nothing : (what : Defined) → last_of what [] ≡ None
unfolding last_of
last_nothing what = refl

or_none : (o : Option Placed) → option_or o None ≡ o
or_none o = grind arith

or_assoc : (a b c : Option Placed) → option_or (option_or a b) c ≡ option_or a (option_or b c)
or_assoc a b c = grind arith

-- with a definition behind, the last one is that one, or else that of the others
pub last_push : (what : Defined) (ps : List Placed) (p : Placed)
    → last_of what (ps ++ p ∷ []) ≡ option_or (cond (is_same p.what what) (Some p) None) (last_of what ps)
last_push what [] p = grind (arith, last_more, last_nothing, or_none)
last_push what (q ∷ ps) p = grind (arith, last_more, or_assoc, (last_push what ps p))

-- a definition behind the others is the last one of what it defines
last_same : (what : Defined) (ps : List Placed) (p : Placed) → is_same p.what what ≡ true
    → last_of what (ps ++ p ∷ []) ≡ Some p
last_same what ps p h = last_push what ps p ∙ ap (λ b. option_or (cond b (Some p) None) (last_of what ps)) h

last_other : (what : Defined) (ps : List Placed) (p : Placed) → is_same p.what what ≡ false
    → last_of what (ps ++ p ∷ []) ≡ last_of what ps
last_other what ps p h = last_push what ps p ∙ ap (λ b. option_or (cond b (Some p) None) (last_of what ps)) h

-- A table with one entry for each number, and a definition of number n behind the others.
pub table_gets : (what : ℕ → Defined) (table : List (Option Placed)) (ps : List Placed) (p : Placed) (n : ℕ)
    → ((m : ℕ) → is_same p.what (what m) ≡ (n == m)) → n < length table
    → ((m : ℕ) → m < length table → get_or table m None ≡ last_of (what m) ps) → (m : ℕ) → m < length table
    → get_or (set table n (Some p)) m None ≡ last_of (what m) (ps ++ p ∷ [])
table_gets what table ps p n same fits h m l =
    grind (arith, get_or-set_other, get_or-set_same, last_other, last_same)

-- A definition of something else behind the others.
pub table_stays : (what : ℕ → Defined) (table : List (Option Placed)) (ps : List Placed) (p : Placed) (n : ℕ)
    → ((m : ℕ) → m < n → is_same p.what (what m) ≡ false)
    → ((m : ℕ) → m < n → get_or table m None ≡ last_of (what m) ps) → (m : ℕ) → m < n
    → get_or table m None ≡ last_of (what m) (ps ++ p ∷ [])
table_stays what table ps p n other h m l = h m l ∙ sym (last_other (what m) ps p (other m l))

-- a definition of a slot behind the others
pub slot_put : (last : LastDefinitions) (ds : List Placed) (p : Placed) (slot : ℕ) → p.what ≡ Slot slot → slot < 256
    → HasLast last ds
    → HasLast (record { slots = set last.slots slot (Some p); accents = last.accents }) (ds ++ p ∷ [])
slot_put last ds p slot is fits h =
    let long : length last.slots ≡ 256 = h.slots_length in
    record {
      slots_length = length-set last.slots slot (Some p) ∙ long;
      accents_length = h.accents_length;
      slots = λ s l.
          table_gets (λ m. Slot m) last.slots ds p slot (λ m. ap (λ w. is_same w (Slot m)) is)
          (omega (arith, long, fits)) (λ m k. h.slots m (omega (arith, long, k))) s (omega (arith, long, l));
      accents = table_stays (λ m. Accent m) last.accents ds p 15 (λ m k. ap (λ w. is_same w (Accent m)) is) h.accents;
    }

-- a definition of an accent behind the others
pub accent_put : (last : LastDefinitions) (ds : List Placed) (p : Placed) (i : ℕ) → p.what ≡ Accent i → i < 15
    → HasLast last ds
    → HasLast (record { slots = last.slots; accents = set last.accents i (Some p) }) (ds ++ p ∷ [])
accent_put last ds p i is fits h =
    let long : length last.accents ≡ 15 = h.accents_length in
    record {
      slots_length = h.slots_length;
      accents_length = length-set last.accents i (Some p) ∙ long;
      slots = table_stays (λ m. Slot m) last.slots ds p 256 (λ m k. ap (λ w. is_same w (Slot m)) is) h.slots;
      accents = λ s l.
          table_gets (λ m. Accent m) last.accents ds p i (λ m. ap (λ w. is_same w (Accent m)) is)
          (omega (arith, long, fits)) (λ m k. h.accents m (omega (arith, long, k))) s (omega (arith, long, l));
    }

-- an index past the accents is none of theirs
past : (i m : ℕ) → 15 ≤ i → m < 15 → i ≢ m
past i m l k = omega (arith, l, k)

pub accent_left : (last : LastDefinitions) (ds : List Placed) (p : Placed) (i : ℕ) → p.what ≡ Accent i → 15 ≤ i
    → HasLast last ds → HasLast last (ds ++ p ∷ [])
accent_left last ds p i is out h = record {
  slots_length = h.slots_length;
  accents_length = h.accents_length;
  slots = table_stays (λ m. Slot m) last.slots ds p 256 (λ m k. ap (λ w. is_same w (Slot m)) is) h.slots;
  accents =
      table_stays (λ m. Accent m) last.accents ds p 15
      (λ m k. ap (λ w. is_same w (Accent m)) is ∙ ne_eqb i m (past i m out k)) h.accents;
}

-- no definition yet
nothing_yet : (n s : ℕ) → s < n → get_or {A = Option Placed} (replicate n None) s None ≡ None
nothing_yet n s l = get_or-replicate n s None None l

pub none_yet : (last : LastDefinitions) → last.slots ≡ replicate 256 None → last.accents ≡ replicate 15 None
    → HasLast last []
none_yet last h k = record {
  slots_length = ap length h;
  accents_length = ap length k;
  slots = λ s l. ap (λ t. get_or t s None) h ∙ nothing_yet 256 s l ∙ sym (last_nothing (Slot s));
  accents = λ i l. ap (λ t. get_or t i None) k ∙ nothing_yet 15 i l ∙ sym (last_nothing (Accent i));
}

-- a table as a list
whole : (what : ℕ → Defined) (table : List (Option Placed)) (ds : List Placed) (n : ℕ) → length table ≡ n
    → ((m : ℕ) → m < n → get_or table m None ≡ last_of (what m) ds)
    → table ≡ map (λ m. last_of (what m) ds) (range_with_len 0 n)
whole what table ds n long h =
    ext_get_or None table (map (λ m. last_of (what m) ds) (range_with_len 0 n))
    (long ∙ sym (length-map-range_with_len (λ m. last_of (what m) ds) 0 n))
    (λ m l. h m (omega (arith, long, l))
    ∙ sym (get_or-map-range_with_len (λ m. last_of (what m) ds) 0 n m m None (omega (arith, long, l)) (omega arith)))

pub all_slots : (last : LastDefinitions) (ds : List Placed) → HasLast last ds
    → last.slots ≡ map (λ s. last_of (Slot s) ds) (range_with_len 0 256)
all_slots last ds h = whole (λ m. Slot m) last.slots ds 256 h.slots_length h.slots

pub all_accents : (last : LastDefinitions) (ds : List Placed) → HasLast last ds
    → last.accents ≡ map (λ i. last_of (Accent i) ds) (range_with_len 0 15)
all_accents last ds h = whole (λ m. Accent m) last.accents ds 15 h.accents_length h.accents
