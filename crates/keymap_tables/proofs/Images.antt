-- Tables of rows, and the image of a map that fits: it has no fault, and gives the map.
use Rattle.keymap_tables.proofs.Common.{rules, common_steps, nat_tests, ◌≡◌, ℕ, ◌+◌, ◌-◌, ◌*◌, ◌^◌, ◌<◌, ◌≤◌, ◌==◌}
use Rattle.keymap_tables.proofs.Common.{List, ◌++◌, length, take, drop, get_or, None, Some, cond, refl, sym, ap, ◌∙◌}
use Rattle.keymap_tables.proofs.Common.{arith, inl, inr, length-append, All, flat_map, from_le_bytes, w16, cases_lt}
use Rattle.keymap_tables.proofs.Common.{lt-ltb, le-ltb, take_at, drop_at, drop-drop, All-get_or, All-weaker}
use Rattle.keymap_tables.proofs.Common.{AccentValue, IsEntry, IsAccent, IsMap, MapValue, entry_at, accent_or_blank}
use Rattle.keymap_tables.proofs.Common.{Entry, Layout, BadPad, NotEmpty, TableFault, FaultOf, IsFirstFault}
use Rattle.keymap_tables.proofs.Common.{number_fault, zero_fault, count_at, count_fault, used_fault, table_fault}
use Rattle.keymap_tables.proofs.Common.{slot_fault, accent_fault, fault_at, EntryFits, AccentFits, FitsIn, count_bytes}
use Rattle.keymap_tables.proofs.Common.{rows_bytes, table_bytes, slot_bytes, accent_bytes, image_in, zeros, HasNoFault}
use Rattle.keymap_tables.proofs.Common.{AreRows, IsEntryIn, IsAccentIn, part, count_size, slot_size, slots_place}
use Rattle.keymap_tables.proofs.Common.{accent_size, n_accs_place}
use Rattle.std.proofs.lemmas.List.{take-take, drop-take}
use Rattle.keymap_tables.specs.Types.{Short, Long}
use Rattle.keymap_tables.specs.Faults.{count_over, content_fault}
use Rattle.keymap_tables.specs.Layouts.{accents_place, file_size}
use Rattle.keymap_tables.proofs.AccentImages.{accents-are}
use Rattle.keymap_tables.proofs.Lifting.{row-past, split-passes}
use Rattle.keymap_tables.proofs.Numbers.{zero-none, zeros-behind}
use Rattle.keymap_tables.proofs.Rows.{length-rows, length-all, filled-row, rows-clean, same-rows}
use Rattle.keymap_tables.proofs.Sizes.{length-count, row-inside}
use Rattle.keymap_tables.proofs.SlotImages.{slots-are}

-- a part of a part
pub part-part : (bytes : List ℕ) (a n b k : ℕ) → b + k ≤ n → part (part bytes a n) b k ≡ part bytes (a + b) k
part-part bytes a n b k inside =
    grind (arith, take-take k (n - b) (drop b (drop a bytes)), drop-take b (n - b) (drop a bytes), drop-drop b a bytes)

-- The places of a count.
module _ (most : ℕ) (bytes : List ℕ) where
  pub count-pad : (p : ℕ) → 2 ≤ p → count_fault most bytes p ≡ zero_fault BadPad bytes p
  count-pad p past =
      row-past (λ i. number_fault w16 (count_over most)) 2 1 (zero_fault BadPad bytes) bytes p (omega arith) past

  pub count-front : count_at bytes 0 ≤ most → HasNoFault (count_fault most bytes) 2
  count-front few = grind arith

-- a count in its part
pub count-part : (bytes : List ℕ) (at n : ℕ) → 2 ≤ n → count_at (part bytes at n) 0 ≡ count_at bytes at
count-part bytes at n whole = ap (from_le_bytes w16) (take-take 2 n (drop at bytes) whole)

-- the bytes of a count within its bound have no fault
pub count-sound : (l : Layout) (most n : ℕ) → n ≤ most → n < 2 ^ 16
    → HasNoFault (count_fault most (count_bytes l n)) (count_size l)
count-sound l most n few small = grind arith

-- A table of rows.
module _ {X : Type 0} {f : X → List ℕ} {size : ℕ} {fault_in : List ℕ → FaultOf} {Is : X → Type 0} {d : X}
    (rows : AreRows f size fault_in Is d) (l : Layout) (most : ℕ) (small : most < 2 ^ 16) where
  sized : (xs : List X) → All Is xs → All (λ x. length (f x) ≡ size) xs
  sized xs known = All-weaker Is (λ x. length (f x) ≡ size) rows.whole xs known

  pub length-table : (xs : List X) → All Is xs → length xs ≤ most
      → length (table_bytes l f size most xs) ≡ count_size l + most * size
  length-table xs known few = search (rules, length-append, length-count, length-all, sized)

  pub table-front : (xs : List X) → take (count_size l) (table_bytes l f size most xs) ≡ count_bytes l (length xs)
  table-front xs =
      take_at (count_bytes l (length xs)) (rows_bytes f size most xs) (count_size l) (length-count l (length xs))

  pub table-back : (xs : List X) → drop (count_size l) (table_bytes l f size most xs) ≡ rows_bytes f size most xs
  table-back xs =
      drop_at (count_bytes l (length xs)) (rows_bytes f size most xs) (count_size l) (length-count l (length xs))

  pub table-count : (xs : List X) → length xs ≤ most → count_at (table_bytes l f size most xs) 0 ≡ length xs
  table-count xs few = grind arith

  -- each row stands at its place, and blank ones behind them
  pub table-row : (xs : List X) → All Is xs → length xs ≤ most → (i : ℕ) → i < most
      → part (table_bytes l f size most xs) (count_size l + size * i) size ≡ f (get_or xs i d)
  table-row xs known few i below =
      ap (take size) (sym (drop-drop (size * i) (count_size l) (table_bytes l f size most xs))
      ∙ ap (drop (size * i)) (table-back xs))
      ∙ filled-row f size d most xs i (sized xs known) rows.empty few below

  -- rows have no fault
  pub rows-sound : (xs : List X) → All Is xs → (q : ℕ)
      → used_fault fault_in size (length xs) (rows_bytes f size most xs) q ≡ None
  rows-sound xs known q =
      let bytes = rows_bytes f size most xs in
      let rest = size * (most - length xs) in
      elim (cases_lt q (size * length xs)) [
        | inl inside ↦
            rows-clean f size (λ i. fault_in) (length xs) (zero_fault NotEmpty bytes) xs (zeros rest) d rows.some refl
            (sized xs known)
            (λ i below. rows.sound (get_or xs i d) (All-get_or Is xs i d below known)) q inside
        | inr past ↦
            row-past (λ i. fault_in) size (length xs) (zero_fault NotEmpty bytes) bytes q rows.some past
            ∙ zero-none NotEmpty bytes q
            (zeros-behind (flat_map f xs) rest q (omega (arith, length-rows f size xs (sized xs known), past)))
      ]

  -- a table has no fault
  pub table-sound : (xs : List X) → All Is xs → length xs ≤ most → (p : ℕ)
      → table_fault l fault_in size most (table_bytes l f size most xs) p ≡ None
  table-sound xs known few = search (rules, split-passes, table-front, count-sound, table-count, table-back, rows-sound)

  -- a table gives its rows
  pub same-table : (xs ys : List X) → All Is xs → All Is ys → length xs ≤ most → length ys ≤ most
      → table_bytes l f size most xs ≡ table_bytes l f size most ys → xs ≡ ys
  same-table xs ys known too few also same =
      let counted : length xs ≡ length ys =
      sym (table-count xs few) ∙ ap (λ (v : List ℕ). count_at v 0) same ∙ table-count ys also in
      same-rows f size Is xs ys (zeros (size * (most - length xs))) (zeros (size * (most - length ys))) rows.one
      (sized xs known) (sized ys too) known too counted
      (sym (table-back xs) ∙ ap (drop (count_size l)) same ∙ table-back ys)

-- what is known of all elements in two ways
both : {X : Type 0} (P Q : X → Type 0) (xs : List X) → All P xs → All Q xs → All (λ x. P x × Q x) xs
both P Q xs one other k d below = (All-get_or P xs k d below one, All-get_or Q xs k d below other)

-- an image is its two tables
pub image-parts : (l : Layout) (m : MapValue)
    → image_in l m
    ≡ table_bytes l (slot_bytes l) (slot_size l) 256 m.entries
    ++ table_bytes l (accent_bytes l) (accent_size l) 15 m.accents
unfolding image_in
image-parts l m = refl

-- The faults of a file of the right length.
pub fault-content : (l : Layout) (bytes : List ℕ) (p : ℕ) → length bytes ≡ file_size l
    → fault_at l bytes p ≡ content_fault l bytes p
unfolding fault_at
fault-content l bytes p whole =
    rw (le-ltb (length bytes) (file_size l) (omega arith), le-ltb (file_size l) (length bytes) (omega arith)) refl

-- in a file of the right size the first fault of the content is the first fault
pub first-content : (l : Layout) (bytes : List ℕ) (f : TableFault) → length bytes ≡ file_size l
    → IsFirstFault (content_fault l bytes) f → IsFirstFault (fault_at l bytes) f
first-content l bytes f whole first = record {
  here = fault-content l bytes f.offset whole ∙ first.here;
  before = λ p below. fault-content l bytes p whole ∙ first.before p below;
}

-- A wrong length.
-- a short file has one fault, at its end
short-here : (l : Layout) (bytes : List ℕ) (p : ℕ) → length bytes < file_size l
    → fault_at l bytes p ≡ cond (p == length bytes) (Some Short) None
unfolding fault_at
short-here l bytes p short = rw (lt-ltb (length bytes) (file_size l) short) refl

-- a long file has one fault, behind the size of a table
long-here : (l : Layout) (bytes : List ℕ) (p : ℕ) → file_size l < length bytes
    → fault_at l bytes p ≡ cond (p == file_size l) (Some Long) None
unfolding fault_at
long-here l bytes p long =
    rw (le-ltb (length bytes) (file_size l) (omega arith), lt-ltb (file_size l) (length bytes) long) refl

-- the first fault of a short file is at its end
pub first-short : (l : Layout) (bytes : List ℕ) (f : TableFault) → length bytes < file_size l → f.offset ≡ length bytes
    → f.kind ≡ Short → IsFirstFault (fault_at l bytes) f
first-short l bytes f short at kind = grind (arith, nat_tests, short-here l bytes)

-- the first fault of a long file is where a table would end
pub first-long : (l : Layout) (bytes : List ℕ) (f : TableFault) → file_size l < length bytes → f.offset ≡ file_size l
    → f.kind ≡ Long → IsFirstFault (fault_at l bytes) f
first-long l bytes f long at kind = grind (arith, nat_tests, long-here l bytes)

-- The image of a map.
module _ (l : Layout) (m : MapValue) (is : IsMap m) (fits : FitsIn l m) where
  pub entries-in : All (IsEntryIn l) m.entries
  entries-in = both IsEntry (EntryFits l) m.entries is.entries fits.entries

  pub accents-in : All (IsAccentIn l) m.accents
  accents-in = both IsAccent (AccentFits l) m.accents is.accents fits.accents

  length-slots : length (table_bytes l (slot_bytes l) (slot_size l) 256 m.entries) ≡ n_accs_place l
  length-slots =
      length-table (slots-are l) l 256 (omega arith)
      m.entries entries-in is.few_entries

  pub image-front : take (n_accs_place l) (image_in l m) ≡ table_bytes l (slot_bytes l) (slot_size l) 256 m.entries
  image-front = search (rules, image-parts, take_at, length-slots)

  pub image-back : drop (n_accs_place l) (image_in l m) ≡ table_bytes l (accent_bytes l) (accent_size l) 15 m.accents
  image-back = search (rules, image-parts, drop_at, length-slots)

  pub length-image : length (image_in l m) ≡ file_size l
  length-image =
      let accents = length-table (accents-are l) l 15 (omega arith) m.accents accents-in is.few_accents in
      grind (arith, common_steps, image-parts l m, length-slots, accents)

  -- the image of a map has no fault
  pub image-sound : (p : ℕ) → fault_at l (image_in l m) p ≡ None
  image-sound p =
      fault-content l (image_in l m) p length-image
      ∙ split-passes (n_accs_place l) (table_fault l (slot_fault l) (slot_size l) 256)
      (table_fault l (accent_fault l) (accent_size l) 15) (image_in l m)
      (λ q below. ap (λ (v : List ℕ). table_fault l (slot_fault l) (slot_size l) 256 v q) image-front
      ∙ table-sound (slots-are l) l 256 (omega arith)
      m.entries entries-in is.few_entries q)
      (λ q. ap (λ (v : List ℕ). table_fault l (accent_fault l) (accent_size l) 15 v q) image-back
      ∙ table-sound (accents-are l) l 15 (omega arith) m.accents accents-in is.few_accents q) p

  -- the counts
  pub n_keys-of : count_at (image_in l m) 0 ≡ length m.entries
  n_keys-of =
      sym (count-part (image_in l m) 0 (n_accs_place l) (omega arith)) ∙ ap (λ (v : List ℕ). count_at v 0) image-front
      ∙ table-count (slots-are l) l 256 (omega arith)
      m.entries is.few_entries

  pub n_accs-of : count_at (image_in l m) (n_accs_place l) ≡ length m.accents
  n_accs-of = search (rules, image-back, table-count, accents-are)

  pub image-n_keys : part (image_in l m) 0 (count_size l) ≡ count_bytes l (length m.entries)
  image-n_keys =
      sym (part-part (image_in l m) 0 (n_accs_place l) 0 (count_size l) (omega arith))
      ∙ ap (take (count_size l)) image-front
      ∙ table-front (slots-are l) l 256 (omega arith)
      m.entries

  pub image-n_accs : part (image_in l m) (n_accs_place l) (count_size l) ≡ count_bytes l (length m.accents)
  image-n_accs = search (rules, image-back, table-front, accents-are)

  -- each slot and accent
  pub slot-part : (s : ℕ) → s < 256
      → part (image_in l m) (slots_place l + slot_size l * s) (slot_size l) ≡ slot_bytes l (entry_at m s)
  slot-part s below =
      let row = table-row (slots-are l) l 256 (omega arith) m.entries entries-in is.few_entries s below in
      let at = slots_place l + slot_size l * s in
      let inside = row-inside (slot_size l) 256 s below in
      let cut = part-part (image_in l m) 0 (n_accs_place l) at (slot_size l) (omega (arith, inside)) in
      grind (arith, cut, image-front, row)

  pub accent-part : (i : ℕ) → i < 15
      → part (image_in l m) (accents_place l + accent_size l * i) (accent_size l) ≡ accent_bytes l (accent_or_blank m i)
  accent-part i below =
      let row = table-row (accents-are l) l 15 (omega arith) m.accents accents-in is.few_accents i below in
      grind (arith, drop-drop (count_size l + accent_size l * i) (n_accs_place l) (image_in l m), image-back, row)

-- maps that fit are the same where their images are
pub same-map : (l : Layout) (m n : MapValue) → IsMap m → FitsIn l m → IsMap n → FitsIn l n → image_in l m ≡ image_in l n
    → m ≡ n
same-map l m n is fits also too same =
    let entries =
    same-table (slots-are l) l 256 (omega arith)
    m.entries n.entries (entries-in l m is fits) (entries-in l n also too) is.few_entries also.few_entries
    (sym (image-front l m is fits) ∙ ap (take (n_accs_place l)) same ∙ image-front l n also too) in
    let accents =
    same-table (accents-are l) l 15 (omega arith)
    m.accents n.accents (accents-in l m is fits) (accents-in l n also too) is.few_accents also.few_accents
    (sym (image-back l m is fits) ∙ ap (drop (n_accs_place l)) same ∙ image-back l n also too) in
    ap (λ (v : List Entry). record m { entries = v }) entries
    ∙ ap (λ (v : List AccentValue). record n { accents = v }) accents
