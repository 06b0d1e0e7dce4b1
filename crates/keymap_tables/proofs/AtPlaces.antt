-- What is read at the places of a map's image.
use Rattle.keymap_tables.proofs.Common.{common_steps, ◌≡◌, ℕ, ◌+◌, ◌-◌, ◌*◌, ◌<◌, ◌≤◌, List, [], length, drop, take}
use Rattle.keymap_tables.proofs.Common.{refl, sym, ap, All-cons, All-nil, AccentFits, IsEntryIn, IsAccentIn}
use Rattle.keymap_tables.proofs.Common.{number_limit}
use Rattle.keymap_tables.proofs.Common.{count_size, n_accs_place}
use Rattle.keymap_tables.proofs.Common.{◌∙◌, arith, rules, subst, slice_index, get_or-take, get_or-drop}
use Rattle.keymap_tables.proofs.Common.{get_or-replicate, blank, MapValue, undefined, entry_at, accent_or_blank, IsCell}
use Rattle.keymap_tables.proofs.Common.{IsEntry, IsAccent, IsMap, Char, Layout, TableFault, FaultOf, IsFirstFault}
use Rattle.keymap_tables.proofs.Common.{number_at, is_marked_at, count_at, CellFits, EntryFits, FitsIn, image_in}
use Rattle.keymap_tables.proofs.Common.{number_of, is_act, flag_number, AreRows, narrow, part, number_size}
use Rattle.keymap_tables.proofs.Common.{slot_size, slots_place}
use Rattle.keymap_core.specs.Maps.{cell_at}
use Rattle.keymap_tables.proofs.Images.{count-part, n_keys-of, n_accs-of, part-part, slot-part}
use Rattle.keymap_tables.proofs.Rows.{cut-rest}
use Rattle.keymap_tables.proofs.Sizes.{zero-fits, All-at}
use Rattle.keymap_tables.proofs.SlotImages.{number-in, mark-in, flag-in}

-- the count of slots
pub keys-counted : (l : Layout) (bytes : List ℕ) (size n : ℕ) → size ≡ count_size l → n ≡ count_at (take size bytes) 0
    → (m : MapValue) → IsMap m → FitsIn l m → bytes ≡ image_in l m → n ≡ length m.entries
keys-counted l bytes size n whole read m is fits same =
    read ∙ count-part bytes 0 size (omega (arith, whole)) ∙ ap (λ (v : List ℕ). count_at v 0) same
    ∙ n_keys-of l m is fits

-- the count of accents
pub accents-counted : (l : Layout) (bytes : List ℕ) (at n : ℕ) → at ≡ n_accs_place l
    → n ≡ count_at (take (length bytes - at) (drop at bytes)) 0
    → (m : MapValue) → IsMap m → FitsIn l m → bytes ≡ image_in l m → n ≡ length m.accents
accents-counted l bytes at n place read m is fits same =
    read ∙ ap (λ (v : List ℕ). count_at v 0) (cut-rest bytes (n_accs_place l) at place)
    ∙ ap (λ (v : List ℕ). count_at v (n_accs_place l)) same ∙ n_accs-of l m is fits

-- the image of a row has no fault
pub faultless : {X : Type 0} {f : X → List ℕ} {size : ℕ} {fault_in : List ℕ → FaultOf} {Is : X → Type 0} {d : X}
    → AreRows f size fault_in Is d → (x : X) (bytes : List ℕ) (g : TableFault) → Is x → bytes ≡ f x
    → IsFirstFault (fault_in bytes) g × (g.offset < size) → ⊥
faultless {fault_in = fault_in} rows x bytes g is same fault = grind arith

-- a blank accent is known
pub blank-known : IsAccent blank
blank-known = record { own = refl; few = omega arith; pairs = λ k d below. absurd (omega (arith, below)) }

-- each accent of a map is known, and so is a blank one
pub accent-known : (m : MapValue) → IsMap m → (i : ℕ) → IsAccent (accent_or_blank m i)
accent-known m is i = All-at IsAccent m.accents blank i blank-known is.accents

-- a byte of a part is the byte of the whole at the part's place
pub byte-in-part : (bytes : List ℕ) (a n i : ℕ) → i < n → slice_index (part bytes a n) i ≡ slice_index bytes (a + i)
byte-in-part bytes a n i inside = get_or-take n (drop a bytes) i 0 inside ∙ get_or-drop a bytes i 0

zero-known : IsCell (Char 0)
zero-known = search rules

-- an undefined entry is known
pub undefined-known : IsEntry undefined
undefined-known = search (rules, get_or-replicate, zero-known)

-- an undefined entry fits
pub undefined-fits : (l : Layout) → EntryFits l undefined
undefined-fits l k d below = subst (CellFits l) (sym (get_or-replicate 8 k (Char 0) d below)) (zero-fits l)

-- each entry of a map is known
pub entry-known : (m : MapValue) → IsMap m → (s : ℕ) → IsEntry (entry_at m s)
entry-known m is s = All-at IsEntry m.entries undefined s undefined-known is.entries

-- each entry of a map that fits, fits
pub entry-fits : (l : Layout) (m : MapValue) → FitsIn l m → (s : ℕ) → EntryFits l (entry_at m s)
entry-fits l m fits s = All-at (EntryFits l) m.entries undefined s (undefined-fits l) fits.entries

-- a blank accent fits
blank-fits : (l : Layout) → AccentFits l blank
blank-fits l = All-cons (λ n. n < number_limit l) 0 [] (zero-fits l) (All-nil (λ n. n < number_limit l))

-- each entry and each accent of a map that fits can stand in a file
pub entry-in : (l : Layout) (m : MapValue) → IsMap m → FitsIn l m → (s : ℕ) → IsEntryIn l (entry_at m s)
entry-in l m is fits s = (entry-known m is s, entry-fits l m fits s)

pub accent-in : (l : Layout) (m : MapValue) → IsMap m → FitsIn l m → (i : ℕ) → IsAccentIn l (accent_or_blank m i)
accent-in l m is fits i =
    (accent-known m is i, All-at (AccentFits l) m.accents blank i (blank-fits l) fits.accents)

-- the number and the mark of a cell, and the flag
pub cell-number : (l : Layout) (m : MapValue) → IsMap m → FitsIn l m → (s column : ℕ) → s < 256 → column < 8
    → number_at l (image_in l m) (slots_place l + slot_size l * s + number_size l * column)
    ≡ number_of (cell_at m s column)
cell-number l m is fits s column below inside =
    let at = slots_place l + slot_size l * s in
    let row = slot-part l m is fits s below in
    let number = number-in l (entry_at m s) (Char 0) column (entry-known m is s) (entry-fits l m fits s) inside in
    grind (arith, part-part (image_in l m) at (slot_size l) (number_size l * column) (number_size l), row, number)

-- the mark read at a slot's place tells whether the cell is an action
pub cell-mark : (l : Layout) (m : MapValue) → IsMap m → FitsIn l m → (s column : ℕ) → s < 256 → column < 8
    → is_marked_at l (part (image_in l m) (slots_place l + slot_size l * s) (slot_size l)) column
    ≡ is_act (cell_at m s column)
cell-mark l m is fits s column below inside = search (rules, slot-part, mark-in, entry-known)

-- the flag read at a slot's place is the entry's
pub slot-flag-at : (l : Layout) (m : MapValue) → IsMap m → FitsIn l m → (s : ℕ) → s < 256
    → slice_index (image_in l m) (slots_place l + slot_size l * s + (8 * number_size l + 1))
    ≡ flag_number (entry_at m s).flag
slot-flag-at l m is fits s below =
    sym (byte-in-part (image_in l m) (slots_place l + slot_size l * s) (slot_size l) (8 * number_size l + 1)
    (omega arith))
    ∙ ap (λ (v : List ℕ). slice_index v (8 * number_size l + 1)) (slot-part l m is fits s below)
    ∙ flag-in l (entry_at m s) (entry-known m is s)

-- a narrow number is one byte
pub number-byte : (bytes : List ℕ) (at : ℕ) → number_at narrow bytes at ≡ slice_index bytes at
number-byte bytes at = grind (arith, common_steps)
