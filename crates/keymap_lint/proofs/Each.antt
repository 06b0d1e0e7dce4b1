-- What holds of each diagnostic that a text may have holds of all that it has.
use Rattle.keymap_lint.proofs.Common.{◌≡◌, ℕ, ◌+◌, Bool, true, false, ◌&&◌, not, cond, List, [], ◌∷◌, ◌++◌, length}
use Rattle.keymap_lint.proofs.Common.{refl, Option, Some, None, find, flat_map, Slot, Placed, Diagnostic, gathered}
use Rattle.keymap_lint.proofs.Common.{last_of, mixed_key, selects, again, is_missing, rules, is_defined, zero_accent}
use Rattle.keymap_lint.proofs.Common.{pair_again, accent_pairs, has_base, is_above_in_force, digit, Spelled}
use Rattle.std.proofs.Common.{◌-◌, ◌<◌, All, ◌==◌}
use Rattle.std.specs.Option.{option_to_list}
use Rattle.std.proofs.lemmas.Bool.{and_parts, eqb-true}
use Rattle.std.proofs.lemmas.List.Elements.{All-nil, All-cons, All-head, All-tail, All-append, Contains-get_or}
use Rattle.std.specs.Prelude.{Contains}
use Rattle.keymap_lint.specs.Types.{Holding, Cell, Char, Act, Finding, Accent, CellInForce, Span}
use Rattle.keymap_core.specs.Accents.{AccentValue, own_of}
use Rattle.keymap_core.specs.Below.{first_below}
use Rattle.keymap_core.proofs.Shared.{first_below-some}
use Rattle.keymap_core.specs.Borne.{is_upper_live, any_below}
use Rattle.keymap_core.specs.Maps.{accent_at, cell_at}
use Rattle.keymap_lint.proofs.Lists.{all_gathered}
use Rattle.keymap_lint.specs.Kinds.{at, nowhere, no_key, no_shift, has_keys, has_shift, mixed_keys, character_of}
use Rattle.keymap_lint.specs.Kinds.{half_at, half_defined, selector, is_some_in, missing_slots, nul_keys, defined_again}
use Rattle.keymap_lint.specs.Kinds.{dead_key, dead_key_by, zero_accents, pair_by, pairs_by, pairs_again, base_at, paren}
use Rattle.keymap_lint.specs.Kinds.{bare_digits, digit_by, is_zero, unused_by, unused_half}
use Rattle.keymap_lint.specs.Alphabets.{all_twice, column_of, first_of, holders, is_above, is_concerned, later}
use Rattle.keymap_lint.specs.Alphabets.{lost_letters, no_control, no_control_by, twice, twice_at}
use Rattle.keymap_lint.specs.Alphabets.{twice_in, twice_of}
use Rattle.keymap_lint.specs.declared.alphabet.Alphabet.{Alphabet}
use Rattle.keymap_lint.specs.declared.alphabet.Alphabet.TheVariants.{Small, Capital}
use Rattle.keymap_lint.specs.Typed.{cannot_type}
use Rattle.keymap_lint.specs.Octal.{all_octal, looks_octal, octal_accent, octal_at, octal_by, octal_cell}
use Rattle.keymap_lint.specs.Octal.{octal_in, octal_of, octal_pair}
use Rattle.keymap_lint.specs.Letters.{gap, gap_before, gap_by, gaps, is_behind}
use Rattle.keymap_lint.specs.Lists.{all_of, of_keys, of_letters, of_definitions, of_rest}
use Rattle.keymap_lint.specs.Shifted.{all_exchanged, exchanged, exchanged_by, is_exchanged, is_small_in_force, no_caps}
use Rattle.keymap_lint.specs.Shifted.{no_caps_by, small_slots}
use Rattle.keymap_lint.specs.Spelled.{bytes_at, offset_at, content}
use Rattle.keymap_lint.specs.declared.diagnostic.Kind.TheVariants as kinds

-- ---- lists

pub all_flat : {X Y : Type 0} (P : Y → Type 0) (Q : X → Type 0) (f : X → List Y) → ((x : X) → Q x → All P (f x))
    → (xs : List X) → All Q xs → All P (flat_map f xs)
all_flat P Q f h [] all = All-nil P
all_flat P Q f h (x ∷ xs) all =
    All-append P (f x) (flat_map f xs) (h x (All-head Q x xs all)) (all_flat P Q f h xs (All-tail Q x xs all))

pub all_one : {Y : Type 0} (P : Y → Type 0) (y : Y) → P y → All P (y ∷ [])
all_one P y h = All-cons P y [] h (All-nil P)

pub all_either : {X : Type 0} (P : X → Type 0) (b : Bool) (x y : X) → P x → P y → P (cond b x y)
all_either P true x y h k = h
all_either P false x y h k = k

-- what is said only if the test says so
all_if_so : {Y : Type 0} (P : Y → Type 0) (b : Bool) (y : Y) → (b ≡ true → P y)
    → All P (option_to_list (cond b (Some y) None))
all_if_so P true y h = all_one P y (h refl)
all_if_so P false y h = All-nil P

all_if : {Y : Type 0} (P : Y → Type 0) (b : Bool) (y : Y) → P y → All P (option_to_list (cond b (Some y) None))
all_if P b y h = all_either (λ o. All P (option_to_list o)) b (Some y) None (all_one P y h) (All-nil P)

-- what is said unless the test says so
all_unless : {Y : Type 0} (P : Y → Type 0) (b : Bool) (y : Y) → (b ≡ false → P y)
    → All P (option_to_list (cond b None (Some y)))
all_unless P true y h = All-nil P
all_unless P false y h = all_one P y (h refl)

-- ---- diagnostics

-- The property holds of each diagnostic that a text with these cells and findings may have.
pub record OfEach (P : Diagnostic → Type 0) (t : Spelled) (cells : List CellInForce) (fs : List Finding) : Type 0 where
  pub no_key : P (nowhere kinds.NoKey)
  pub cannot_type : P (nowhere kinds.CannotType)
  pub no_shift : P (nowhere kinds.NoShift)
  pub mixed : All (λ f. (p : Placed) → last_of (Slot f.holding_at.slot) t.definitions ≡ Some p
      → P (at (offset_at t (p.first + (1 + f.holding_at.column))) (kinds.MixedKey f
      (character_of (cell_at t.map f.character_at.slot f.character_at.column))))) fs
  pub half : (c : CellInForce) (s : Holding) → find (selects t) cells ≡ Some c → selector t c ≡ Some s
      → P (at c.span.start (kinds.HalfDefined s (is_some_in (nul_keys t fs))))
  pub again : (p q : Placed) → Contains t.definitions p → last_of p.what t.definitions ≡ Some q
      → (q.first == p.first) ≡ false → P (at (offset_at t p.first) (kinds.DefinedAgain p.what (offset_at t q.first)))
  pub gap : (first : ℕ) (p : Placed) → find (is_behind t first) t.definitions ≡ Some p
      → P (at (offset_at t p.first) kinds.Gap)
  pub exchanged : (slot : ℕ) (p : Placed) → last_of (Slot slot) t.definitions ≡ Some p → is_exchanged t slot ≡ true
      → P (at (offset_at t (p.first + 1)) (kinds.Exchanged slot (character_of (cell_at t.map slot 0))
      (character_of (cell_at t.map slot 1))))
  pub twice : (a : Alphabet) (i missing one other : ℕ) (p q : Placed) → holders t a i ≡ one ∷ other ∷ []
      → last_of (Slot one) t.definitions ≡ Some p → last_of (Slot other) t.definitions ≡ Some q
      → P (at (offset_at t (later p q + (1 + column_of a)))
      (kinds.Twice one other (column_of a) (i + first_of a) (missing + first_of a)))
  pub control : (c : CellInForce) → find (is_concerned t (lost_letters t) (is_above t)) cells ≡ Some c
      → P (at c.span.start (kinds.NoControl (is_above t)))
  pub caps : (p : Placed) → find (is_small_in_force t) t.definitions ≡ Some p
      → P (at (offset_at t (p.first + 9)) kinds.NoCaps)
  pub octal : (s : Span) (c : ℕ) → looks_octal (bytes_at t.text s) ≡ true
      → P (at s.start (kinds.OctalLike c s.start (octal_of c)))
  pub dead : (c : CellInForce) → find (is_missing t) cells ≡ Some c
      → P (at c.span.start (kinds.DeadKey (any_below (is_defined t) 15)))
  pub zero : (i : ℕ) (p : Placed) → last_of (Accent i) t.definitions ≡ Some p
      → is_zero (own_of (accent_at t.map i)) ≡ true → P (at (offset_at t (p.first + 1)) (kinds.ZeroAccent i))
  pub pair : (i : ℕ) (p : Placed) (a : AccentValue) → last_of (Accent i) t.definitions ≡ Some p
      → accent_at t.map i ≡ Some a → (j k : ℕ) → j < length a.pairs → k < j
      → base_at a.pairs k ≡ base_at a.pairs j
      → P (at (paren t p.first j) (kinds.PairAgain i (base_at a.pairs j) (paren t p.first k)))
  pub unused : (p : Placed) → find (is_above_in_force t) t.definitions ≡ Some p
      → P (at (offset_at t p.first) kinds.UnusedHalf)
  pub digit : All (λ c. (n : ℕ) → content t c ≡ Char n → c.span.end - c.span.start ≡ 1
      → P (at c.span.start (kinds.BareDigit n))) cells

-- by whether there is one
all_some : {X Y : Type 0} (P : Y → Type 0) (f : Option X → List Y) (o : Option X) → All P (f None)
    → ((x : X) → o ≡ Some x → All P (f (Some x))) → All P (f o)
all_some P f None h k = h
all_some P f (Some x) h k = k x refl

-- What holds of each kind of diagnostic holds of all that a text has.
pub of_all : (P : Diagnostic → Type 0) (t : Spelled) (cells : List CellInForce) (fs : List Finding) (untyped : List ℕ)
    → OfEach P t cells fs → All P (all_of t cells fs untyped)
of_all P t cells fs untyped h =
    join (of_keys t cells fs untyped ++ of_definitions t cells) (of_rest t cells)
    (join (of_keys t cells fs untyped) (of_definitions t cells)
    (join (((no_key t.map ++ cannot_type untyped) ++ no_shift t.map) ++ mixed_keys t fs) (half_defined t cells fs)
    (join ((no_key t.map ++ cannot_type untyped) ++ no_shift t.map) (mixed_keys t fs)
    (join (no_key t.map ++ cannot_type untyped) (no_shift t.map)
    (join (no_key t.map) (cannot_type untyped)
    (all_either (All P) (has_keys t.map) [] (nowhere kinds.NoKey ∷ []) none (all_one P _ h.no_key))
    (all_either (All P) (is_some_in untyped) (nowhere kinds.CannotType ∷ []) [] (all_one P _ h.cannot_type) none))
    (all_either (All P) (has_keys t.map && not (has_shift t.map)) (nowhere kinds.NoShift ∷ []) []
    (all_one P _ h.no_shift) none))
    (all_flat P _ (mixed_key t) mixed fs h.mixed))
    (all_either (λ o. All P (option_to_list o)) (is_some_in (missing_slots t)) (half_at t _ (find (selects t) cells))
    None halves none))
    (join ((defined_again t ++ of_letters t cells) ++ dead_key t cells) (zero_accents t cells)
    (join (defined_again t ++ of_letters t cells) (dead_key t cells)
    (join (defined_again t) (of_letters t cells)
    (all_flat P (Contains t.definitions) (again t) againby t.definitions (λ k d l. Contains-get_or t.definitions k d l))
    lettered)
    (all_some P (dead_key_by t) (find (is_missing t) cells) none (λ c e. all_one P _ (h.dead c e))))
    (all_gathered P (zero_accent t cells) 15 zero)))
    (join (pairs_again t ++ unused_half t) (bare_digits t cells)
    (join (pairs_again t) (unused_half t) (all_gathered P (accent_pairs t) 15 pairs)
    (all_either (All P) (is_upper_live t.map) [] (unused_by t (find (is_above_in_force t) t.definitions)) none
    (all_some P (unused_by t) (find (is_above_in_force t) t.definitions) none (λ p e. all_one P _ (h.unused p e)))))
    (all_flat P _ (digit t) (λ c g. digits c (content t c) g) cells h.digit))
  where
    none : All P []
    none = All-nil P

    join : (xs ys : List Diagnostic) → All P xs → All P ys → All P (xs ++ ys)
    join = All-append P

    mixed : (f : Finding) → ((p : Placed) → last_of (Slot f.holding_at.slot) t.definitions ≡ Some p
        → P (at (offset_at t (p.first + (1 + f.holding_at.column))) (kinds.MixedKey f
        (character_of (cell_at t.map f.character_at.slot f.character_at.column)))))
        → All P (mixed_key t f)
    mixed f g = search (rules, all_some, none, all_if)

    halves : All P (option_to_list (half_at t (is_some_in (nul_keys t fs)) (find (selects t) cells)))
    halves = search (rules, all_some, none, all_one)

    againby : (p : Placed) → Contains t.definitions p → All P (again t p)
    againby p among = search (rules, all_some, none, all_unless)

    gapped : (slots : List ℕ) → All P (gap_before t slots)
    gapped [] = none
    gapped (first ∷ rest) =
        all_some P (gap_by t) (find (is_behind t first) t.definitions) none (λ p e. all_one P _ (h.gap first p e))

    exchange : (slot : ℕ) → All P (exchanged t slot)
    exchange slot =
        all_some P (λ o. option_to_list (exchanged_by t slot o)) (last_of (Slot slot) t.definitions) none
        (λ p e. all_if_so P (is_exchanged t slot) _ (h.exchanged slot p e))

    by_two : (a : Alphabet) (i missing one other : ℕ) (o q : Option Placed) → last_of (Slot one) t.definitions ≡ o
        → last_of (Slot other) t.definitions ≡ q → holders t a i ≡ one ∷ other ∷ []
        → All P (option_to_list (twice_at t a i missing one other o q))
    by_two a i missing one other (Some p) (Some q) f g e = all_one P _ (h.twice a i missing one other p q e f g)
    by_two a i missing one other _ _ f g e = none

    in_two : (a : Alphabet) (i missing : ℕ) (slots : List ℕ) → holders t a i ≡ slots
        → All P (option_to_list (twice_in t a i missing slots))
    in_two a i missing (one ∷ other ∷ []) e =
        by_two a i missing one other (last_of (Slot one) t.definitions) (last_of (Slot other) t.definitions) refl refl e
    in_two a i missing _ e = none

    of_two : (a : Alphabet) (two lacking : List ℕ) → All P (option_to_list (twice_of t a two lacking))
    of_two a (i ∷ []) (missing ∷ []) = in_two a i missing (holders t a i) refl
    of_two a _ _ = none

    twices : (a : Alphabet) → All P (twice t a)
    twices a = search (rules, all_either, of_two, none)

    octal : (s : Span) (c : ℕ) → All P (octal_at t s c)
    octal s c = all_if_so P (looks_octal (bytes_at t.text s)) _ (h.octal s c)

    octal_cells : (c : CellInForce) (x : Cell) → All P (octal_by t c x)
    octal_cells c (Char n) = octal c.span n
    octal_cells c (Act a) = none

    pair : (first : ℕ) (xs : List (ℕ × ℕ)) (j : ℕ) → j < length xs → All P (octal_pair t first xs j)
    pair first xs j low = search (rules, join, octal)

    octals : (o : Option Placed) (a : Option AccentValue) → All P (octal_in t o a)
    octals (Some p) (Some a) = search (rules, join, octal, all_gathered, pair)
    octals _ _ = none

    lettered : All P (of_letters t cells)
    lettered =
        join ((((gap t ++ all_exchanged t) ++ all_twice t) ++ no_control t cells) ++ no_caps t) (all_octal t cells)
        (join (((gap t ++ all_exchanged t) ++ all_twice t) ++ no_control t cells) (no_caps t)
        (join ((gap t ++ all_exchanged t) ++ all_twice t) (no_control t cells)
        (join (gap t ++ all_exchanged t) (all_twice t)
        (join (gap t) (all_exchanged t) (gapped (gaps t))
        (all_gathered P (exchanged t) 256 (λ slot low. exchange slot)))
        (join (twice t Small) (twice t Capital) (twices Small) (twices Capital)))
        (all_some P (no_control_by (is_above t)) (find (is_concerned t (lost_letters t) (is_above t)) cells) none
        (λ c e. all_one P _ (h.control c e))))
        (all_either (All P) (is_some_in (small_slots t)) (no_caps_by t (find (is_small_in_force t) t.definitions)) []
        (all_some P (no_caps_by t) (find (is_small_in_force t) t.definitions) none
        (λ p e. all_one P _ (h.caps p e))) none))
        (join (flat_map (octal_cell t) cells) (gathered (octal_accent t) 15)
        (all_flat P (Contains cells) (octal_cell t) (λ c among. octal_cells c (content t c)) cells
        (λ k d l. Contains-get_or cells k d l))
        (all_gathered P (octal_accent t) 15 (λ i low. octals (last_of (Accent i) t.definitions) (accent_at t.map i))))

    zero : (i : ℕ) → i < 15 → All P (zero_accent t cells i)
    zero i low = search (rules, all_some, none, all_if_so, and_parts)

    pairs : (i : ℕ) → i < 15 → All P (accent_pairs t i)
    pairs i low =
        all_some P (λ o. pairs_by t i o (accent_at t.map i)) (last_of (Accent i) t.definitions) none (λ p e.
        all_some P (pairs_by t i (Some p)) (accent_at t.map i) none (λ a f.
        all_gathered P (pair_again t i p.first a.pairs) (length a.pairs) (λ j few.
        all_some P (λ o. option_to_list (pair_by t i p.first (base_at a.pairs j) j o))
        (first_below (has_base a.pairs j) j) none (λ k g.
        let first = first_below-some (has_base a.pairs j) j k g in
        all_one P _ (h.pair i p a e f j k few first.0 (eqb-true (base_at a.pairs k) (base_at a.pairs j) first.1))))))

    digits : (c : CellInForce) (x : Cell) → ((n : ℕ) → x ≡ Char n → c.span.end - c.span.start ≡ 1
        → P (at c.span.start (kinds.BareDigit n))) → All P (option_to_list (digit_by c x))
    digits c (Act a) g = none
    digits c (Char n) g =
        all_if_so P (c.span.end - c.span.start == 1) _ (λ e. g n refl (eqb-true (c.span.end - c.span.start) 1 e))
