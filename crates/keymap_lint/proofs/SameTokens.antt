-- What is said of two texts with the same tokens, before directives, is the same but for places.
use Rattle.keymap_lint.proofs.Common.{◌≡◌, ℕ, ◌+◌, ◌<◌, Bool, true, false, ◌&&◌, not, cond, List, [], ◌∷◌, length}
use Rattle.keymap_lint.proofs.Common.{refl, sym, ap, subst, arith, Option, Some, None, find, gathered}
use Rattle.keymap_lint.proofs.Common.{get_or, true≢false, Slot, Placed, Diagnostic, MapValue, Spelled, last_of}
use Rattle.keymap_lint.proofs.Common.{cell_in, cells_of, mixed_key, selects, again, is_missing, zero_accent, pair_again}
use Rattle.keymap_lint.proofs.Common.{accent_pairs, has_base, is_above_in_force, digit, range_with_len, is_given}
use Rattle.std.proofs.Common.{◌*◌, ◌-◌, All, ◌==◌, ◌||◌, nat_lt}
use Rattle.std.specs.Prelude.{Contains}
use Rattle.std.specs.Option.{option_to_list}
use Rattle.std.proofs.lemmas.Bool.{and_parts, eqb-true}
use Rattle.std.proofs.lemmas.List.Elements.{All-contains, Contains-get_or}
use Rattle.std.proofs.lemmas.List.FromFn.{get_or-range_with_len, length-range_with_len}
use Rattle.std.proofs.lemmas.Option.{get_or_from_slice_get}
use Rattle.keymap_core.specs.Accents.{AccentValue, blank, own_of}
use Rattle.keymap_core.specs.Below.{first_below, passed}
use Rattle.keymap_core.proofs.Shared.{find-true, first_below-some}
use Rattle.keymap_core.specs.Borne.{is_borne, is_upper_live}
use Rattle.keymap_core.specs.Maps.{accent_at, cell_at, entry_at}
use Rattle.keymap_core.specs.declared.action.Holding.TheVariants as holding
use Rattle.keymap_core.specs.declared.action.Lock.TheVariants as lock
use Rattle.keymap_check.specs.Findings.{IsFinding}
use Rattle.keymap_lint.specs.Types.{Cell, Char, Act, Finding, Accent, CellInForce, Defined, Span}
use Rattle.keymap_lint.specs.declared.alphabet.Alphabet.{Alphabet}
use Rattle.keymap_lint.specs.declared.alphabet.Alphabet.TheVariants.{Small, Capital, Control, UpperControl}
use Rattle.keymap_lint.specs.Alphabets.{column_of, holders, is_above, is_concerned, later, letters}
use Rattle.keymap_lint.specs.Alphabets.{lost_letters, no_control, no_control_by, standing, twice, twice_at}
use Rattle.keymap_lint.specs.Alphabets.{twice_in, twice_of}
use Rattle.keymap_lint.specs.Capitals.{is_ascii, is_capital_of, is_sure}
use Rattle.keymap_lint.specs.Kinds.{is_defined, missing_accents}
use Rattle.keymap_lint.specs.Kinds.{again_by, base_at, dead_key, dead_key_by}
use Rattle.keymap_lint.specs.Kinds.{digit_by, half_at, half_by, has_keys, has_shift}
use Rattle.keymap_lint.specs.Kinds.{is_mixed, is_some_in, is_the, is_zero, live_accent, missing_slots, mixed_by}
use Rattle.keymap_lint.specs.Kinds.{nul_keys, pair_by, pairs_by}
use Rattle.keymap_lint.specs.Kinds.{selector, unused_by, unused_half, zero_by}
use Rattle.keymap_lint.specs.Letters.{gap_before, gap_by, gaps, is_behind, is_whole}
use Rattle.keymap_lint.specs.Lists.{all_of, of_definitions, of_keys, of_letters, of_rest}
use Rattle.keymap_lint.specs.Octal.{looks_octal, octal_accent, octal_at, octal_by, octal_cell, octal_in}
use Rattle.keymap_lint.specs.Octal.{octal_pair, result_at}
use Rattle.keymap_lint.specs.Same.{IsSame, Pairwise, no_pair, one_pair}
use Rattle.keymap_lint.specs.Shifted.{exchanged, exchanged_by, is_exchanged, is_left_small, is_pair}
use Rattle.keymap_lint.specs.Shifted.{is_small, is_small_in_force, is_small_slot, no_caps, no_caps_by}
use Rattle.keymap_lint.specs.Shifted.{small_slots}
use Rattle.keymap_lint.specs.Spelled.{bytes_at, cells_defined, cells_in_force, is_in_force, is_last, is_live}
use Rattle.keymap_lint.specs.Spelled.{offset_at, span_at}
use Rattle.keymap_lint.proofs.InForce.{last_there}
use Rattle.keymap_lint.proofs.Standing.{found_in}
use Rattle.keymap_lint.proofs.Pairs.{pairs_any, pairs_append, pairs_either, pairs_find, pairs_flat, pairs_flat_related}
use Rattle.keymap_lint.proofs.Pairs.{pairs_gathered, pairs_if, pairs_if_some, pairs_map, pairs_one, pairs_some}
use Rattle.keymap_lint.proofs.Pairs.{pairs_unless}

-- Two texts of this map with the same definitions, by what their tokens have in common; the tokens that are told of are
-- there, and two with the same number begin at places that P relates.
pub record Match (P : ℕ → ℕ → Type 0) (text other : List ℕ) (definitions : List Placed) (spans others : List Span)
    (m : MapValue) : Type 0 where
  pub place : (n : ℕ) → n < length spans → P (span_at spans n).start (span_at others n).start
  pub octal : (n : ℕ) → looks_octal (bytes_at text (span_at spans n)) ≡ true → n < length spans
  pub bytes : (n : ℕ) → bytes_at text (span_at spans n) ≡ bytes_at other (span_at others n)
  pub width : (n : ℕ)
      → (span_at spans n).end - (span_at spans n).start ≡ (span_at others n).end - (span_at others n).start
  pub sure : is_sure m text ≡ is_sure m other
  pub definition : All (λ (p : Placed). p.first < length spans) definitions
  pub slot : (slot : ℕ) (p : Placed) → last_of (Slot slot) definitions ≡ Some p → (n : ℕ) → n < 10
      → p.first + n < length spans
  pub accent : (i : ℕ) (p : Placed) → last_of (Accent i) definitions ≡ Some p → (n : ℕ)
      → n < 4 * length (get_or m.accents i blank).pairs + 2 → p.first + n < length spans

-- a cell in force, which is the token with the same number
data SameCell (spans others : List Span) : CellInForce → CellInForce → Type 0 where
  same_cell : (slot column n : ℕ) → n < length spans
      → SameCell spans others (record { slot = slot; column = column; span = span_at spans n })
      (record { slot = slot; column = column; span = span_at others n })

-- the cells of the last definition of a slot are those of the first token with its number
last_is : (p : Placed) (o : Option Placed) → is_last p o ≡ true → (q : Placed) × (o ≡ Some q) × (q.first ≡ p.first)
last_is p (Some q) f = (q, refl, eqb-true q.first p.first f)
last_is p None f = absurd (true≢false (sym f))

-- by either branch
cond_either : {X : Type 0} (b : Bool) (x y : X) (Q : X → Type 0) → Q x → Q y → Q (cond b x y)
cond_either true x y Q h k = h
cond_either false x y Q h k = k

module _ (P : ℕ → ℕ → Type 0) (text other : List ℕ) (definitions : List Placed) (spans others : List Span)
    (m : MapValue) (h : Match P text other definitions spans others m) where
  abbrev t : Spelled
  t = record { text = text; definitions = definitions; spans = spans; map = m }

  abbrev u : Spelled
  u = record { text = other; definitions = definitions; spans = others; map = m }

  abbrev R : Diagnostic → Diagnostic → Type 0
  R = IsSame P

  abbrev C : CellInForce → CellInForce → Type 0
  C = SameCell spans others

  -- ---- cells in force

  column_below : All (λ k. k < 8) (range_with_len 0 8)
  column_below k d l =
      let few : k < 8 = omega (arith, l, length-range_with_len 0 8) in
      subst (λ n. n < 8) (sym (get_or-range_with_len 0 8 k d few)) (omega (arith, few))

  cells_by : (what : Defined) (p : Placed) → is_last p (last_of what definitions) ≡ true
      → Pairwise C (cells_defined t what p.first) (cells_defined u what p.first)
  cells_by (Slot slot) p e =
      let (q, is, same) = last_is p (last_of (Slot slot) definitions) e in
      pairs_map C (λ k. k < 8) (cell_in t slot p.first) (cell_in u slot p.first)
      (λ k low. same_cell slot k (p.first + (1 + k))
      (omega (arith, same, h.slot slot q is (1 + k) (omega (arith, low))))) (range_with_len 0 8) column_below
  cells_by (Accent i) p e = no_pair

  cells_same : Pairwise C (cells_in_force t) (cells_in_force u)
  cells_same =
      pairs_flat C (λ p. Unit {0}) (cells_of t) (cells_of u) (λ p x. of_one p (is_in_force t p) refl) definitions
      (λ k d l. tt)
    where
      of_one : (p : Placed) (b : Bool) → is_in_force t p ≡ b
          → Pairwise C (cond b (cells_defined t p.what p.first) []) (cond b (cells_defined u p.what p.first) [])
      of_one p true e = cells_by p.what p e
      of_one p false e = no_pair

  -- ---- places

  one_place : (n : ℕ) → n < length spans → Pairwise P (offset_at t n ∷ []) (offset_at u n ∷ [])
  one_place n low = one_pair (h.place n low) no_pair

  defined_low : (p : Placed) → Contains definitions p → p.first < length spans
  defined_low p among = All-contains (λ (q : Placed). q.first < length spans) definitions p h.definition among

  -- ---- of keys

  mixed : (f : Finding) → IsFinding m f → Pairwise R (mixed_key t f) (mixed_key u f)
  mixed f is =
      pairs_some R (λ o. option_to_list (mixed_by t f o)) (λ o. option_to_list (mixed_by u f o))
      (last_of (Slot f.holding_at.slot) definitions) no_pair (λ p e.
      pairs_if R (is_mixed t f) (is_mixed t f) refl _ _ (λ passes. record {
        kind = refl;
        place =
            one_place (p.first + (1 + f.holding_at.column))
            (h.slot f.holding_at.slot p e (1 + f.holding_at.column) (omega (arith, is.first_holding.0.0)));
        within = no_pair;
      }))

  halves : (b : Bool) → {cells ours : List CellInForce} → Pairwise C cells ours
      → Pairwise R (option_to_list (half_at t b (find (selects t) cells)))
      (option_to_list (half_at u b (find (selects u) ours)))
  halves b same =
      pairs_find R C (selects t) (selects u) alike (λ o. option_to_list (half_at t b o))
      (λ o. option_to_list (half_at u b o)) no_pair of_cell same
    where
      alike : (c d : CellInForce) → C c d → selects t c ≡ selects u d
      alike _ _ (same_cell slot column n low) = refl

      of_cell : (c d : CellInForce) → C c d
          → Pairwise R (option_to_list (half_by c b (selector t c))) (option_to_list (half_by d b (selector u d)))
      of_cell _ _ (same_cell slot column n low) =
          let c : CellInForce = record { slot = slot; column = column; span = span_at spans n } in
          let d : CellInForce = record { slot = slot; column = column; span = span_at others n } in
          pairs_some R (λ o. option_to_list (half_by c b o)) (λ o. option_to_list (half_by d b o)) (selector t c)
          no_pair
          (λ s e. pairs_one R _ _ (record { kind = refl; place = one_place n low; within = no_pair }))

  of_keys_same : (fs : List Finding) → All (IsFinding m) fs → (untyped : List ℕ) → {cells ours : List CellInForce}
      → Pairwise C cells ours → Pairwise R (of_keys t cells fs untyped) (of_keys u ours fs untyped)
  of_keys_same fs are untyped same =
      pairs_append R
      (pairs_append R
      (pairs_append R
      (pairs_append R
      (pairs_either R (has_keys m) _ _ _ _ no_pair
      (pairs_one R _ _ (record { kind = refl; place = no_pair; within = no_pair })))
      (pairs_either R (is_some_in untyped) _ _ _ _
      (pairs_one R _ _ (record { kind = refl; place = no_pair; within = no_pair })) no_pair))
      (pairs_either R (has_keys m && not (has_shift m)) _ _ _ _
      (pairs_one R _ _ (record { kind = refl; place = no_pair; within = no_pair })) no_pair))
      (pairs_flat R (IsFinding m) (mixed_key t) (mixed_key u) mixed fs are))
      (pairs_if_some R (is_some_in (missing_slots t)) _ _ (halves (is_some_in (nul_keys t fs)) same))

  -- ---- of definitions

  again_same : (p : Placed) → Contains definitions p → Pairwise R (again t p) (again u p)
  again_same p among =
      pairs_some R (λ o. option_to_list (again_by t p o)) (λ o. option_to_list (again_by u p o))
      (last_of p.what definitions) no_pair (λ q e. pairs_unless R (q.first == p.first) _ _ (record {
        kind = refl;
        place = one_place p.first (defined_low p among);
        within = one_place q.first (defined_low q (last_there p.what definitions q e).0);
      }))

  -- what is said at the first token of a definition that is looked for
  at_found : (test : Placed → Bool) (f g : Option Placed → List Diagnostic)
      → Pairwise R (f None) (g None)
      → ((p : Placed) → p.first < length spans → Pairwise R (f (Some p)) (g (Some p)))
      → Pairwise R (f (find test definitions)) (g (find test definitions))
  at_found test f g none some =
      pairs_some R f g (find test definitions) none
      (λ p e. some p (defined_low p (found_in test definitions p e)))

  gapped : (slots : List ℕ) → Pairwise R (gap_before t slots) (gap_before u slots)
  gapped [] = no_pair
  gapped (first ∷ rest) =
      at_found (is_behind t first) (gap_by t) (gap_by u) no_pair
      (λ p low. pairs_one R _ _ (record { kind = refl; place = one_place p.first low; within = no_pair }))

  unused : Pairwise R (unused_half t) (unused_half u)
  unused =
      pairs_either R (is_upper_live m) _ _ _ _ no_pair
      (at_found (is_above_in_force t) (unused_by t) (unused_by u) no_pair
      (λ p low. pairs_one R _ _ (record { kind = refl; place = one_place p.first low; within = no_pair })))

  -- ---- of letters

  pair_same : (x y : Cell) → is_pair t x y ≡ is_pair u x y
  pair_same (Char small) (Char capital) =
      ap (λ b. is_capital_of small capital && (is_ascii small && is_ascii capital || b)) h.sure
  pair_same (Char small) (Act a) = refl
  pair_same (Act a) y = refl

  exchange : (slot : ℕ) → Pairwise R (exchanged t slot) (exchanged u slot)
  exchange slot =
      pairs_some R (λ o. option_to_list (exchanged_by t slot o)) (λ o. option_to_list (exchanged_by u slot o))
      (last_of (Slot slot) definitions) no_pair (λ p e.
      pairs_if R (is_exchanged t slot) (is_exchanged u slot)
      (ap (λ b. is_live t slot && b) (pair_same (cell_at m slot 1) (cell_at m slot 0))) _ _ (λ passes. record {
        kind = refl;
        place = one_place (p.first + 1) (h.slot slot p e 1 (omega arith));
        within = no_pair;
      }))

  few_columns : (a : Alphabet) → 1 + column_of a < 10
  few_columns Small = omega arith
  few_columns Capital = omega arith
  few_columns Control = omega arith
  few_columns UpperControl = omega arith

  later_low : (a : Alphabet) (one other : ℕ) (p q : Placed) → last_of (Slot one) definitions ≡ Some p
      → last_of (Slot other) definitions ≡ Some q → later p q + (1 + column_of a) < length spans
  later_low a one other p q e f =
      cond_either (nat_lt p.first q.first) q.first p.first (λ n. n + (1 + column_of a) < length spans)
      (h.slot other q f (1 + column_of a) (few_columns a)) (h.slot one p e (1 + column_of a) (few_columns a))

  by_two : (a : Alphabet) (i missing one other : ℕ) (o q : Option Placed) → last_of (Slot one) definitions ≡ o
      → last_of (Slot other) definitions ≡ q
      → Pairwise R (option_to_list (twice_at t a i missing one other o q))
      (option_to_list (twice_at u a i missing one other o q))
  by_two a i missing one other (Some p) (Some q) e f =
      pairs_one R _ _ (record {
        kind = refl;
        place = one_place (later p q + (1 + column_of a)) (later_low a one other p q e f);
        within = no_pair;
      })
  by_two a i missing one other (Some p) None e f = no_pair
  by_two a i missing one other None q e f = no_pair

  in_two : (a : Alphabet) (i missing : ℕ) (slots : List ℕ)
      → Pairwise R (option_to_list (twice_in t a i missing slots)) (option_to_list (twice_in u a i missing slots))
  in_two a i missing (one ∷ other ∷ []) = by_two a i missing one other _ _ refl refl
  in_two a i missing _ = no_pair

  of_two : (a : Alphabet) (two lacking : List ℕ)
      → Pairwise R (option_to_list (twice_of t a two lacking)) (option_to_list (twice_of u a two lacking))
  of_two a (i ∷ []) (missing ∷ []) = in_two a i missing (holders t a i)
  of_two a _ _ = no_pair

  twices : (a : Alphabet) → Pairwise R (twice t a) (twice u a)
  twices a =
      pairs_either R (is_whole t) _ _ _ _
      (pairs_if_some R (length (standing (letters t a) 1) == 24) _ _
      (of_two a (standing (letters t a) 2) (standing (letters t a) 0))) no_pair

  -- what is said at the first cell that passes a test
  at_cell : (test ours : CellInForce → Bool) → ((c d : CellInForce) → C c d → test c ≡ ours d)
      → (f g : Option CellInForce → List Diagnostic) → Pairwise R (f None) (g None)
      → ((c d : CellInForce) → C c d → Pairwise R (f (Some c)) (g (Some d))) → {cells its : List CellInForce}
      → Pairwise C cells its → Pairwise R (f (find test cells)) (g (find ours its))
  at_cell test ours alike f g none some same = pairs_find R C test ours alike f g none some same

  controls : {cells ours : List CellInForce} → Pairwise C cells ours
      → Pairwise R (no_control t cells) (no_control u ours)
  controls same =
      at_cell (is_concerned t (lost_letters t) (is_above t)) (is_concerned u (lost_letters t) (is_above t)) alike
      (no_control_by (is_above t)) (no_control_by (is_above t)) no_pair of_cell same
    where
      alike : (c d : CellInForce) → C c d
          → is_concerned t (lost_letters t) (is_above t) c ≡ is_concerned u (lost_letters t) (is_above t) d
      alike _ _ (same_cell slot column n low) = refl

      of_cell : (c d : CellInForce) → C c d
          → Pairwise R (no_control_by (is_above t) (Some c)) (no_control_by (is_above t) (Some d))
      of_cell _ _ (same_cell slot column n low) =
          pairs_one R _ _ (record { kind = refl; place = one_place n low; within = no_pair })

  is_small_same : is_small t ≡ is_small u
  is_small_same =
      λ i slot. is_live t slot
      && is_left_small (entry_at m slot).flag && pair_same (cell_at m slot 0) (cell_at m slot 1) i

  pub small_slots_same : small_slots t ≡ small_slots u
  small_slots_same =
      ap (λ (test : ℕ → Bool). cond (is_borne m (holding.Lock lock.Caps))
      (gathered (λ slot. passed (test slot) slot) 256) []) is_small_same

  small_in_same : (p : Placed) (what : Defined) → is_small_slot t what ≡ is_small_slot u what
  small_in_same p (Slot slot) = ap (λ (test : ℕ → Bool). test slot) is_small_same
  small_in_same p (Accent i) = refl

  small_in_force_same : is_small_in_force t ≡ is_small_in_force u
  small_in_force_same = λ i p. is_in_force t p && small_in_same p p.what i

  caps_low : (p : Placed) → is_small_in_force t p ≡ true → p.first + 9 < length spans
  caps_low p passes =
      let both = and_parts (is_in_force t p) (is_small_slot t p.what) passes in go p.what both.1 both.0
    where
      go : (what : Defined) → is_small_slot t what ≡ true → is_last p (last_of what definitions) ≡ true
          → p.first + 9 < length spans
      go (Slot slot) small e =
          let (q, is, same) = last_is p (last_of (Slot slot) definitions) e in
          omega (arith, same, h.slot slot q is 9 (omega arith))
      go (Accent i) small e = absurd (true≢false (sym small))

  caps : Pairwise R (no_caps t) (no_caps u)
  caps =
      subst (λ (tests : Bool × (Placed → Bool)). Pairwise R (no_caps t)
      (cond tests.0 (no_caps_by u (find tests.1 definitions)) []))
      (λ i. (is_some_in (small_slots_same i), small_in_force_same i))
      (pairs_either R (is_some_in (small_slots t)) _ _ _ _
      (pairs_some R (no_caps_by t) (no_caps_by u) (find (is_small_in_force t) definitions) no_pair (λ p e.
      pairs_one R _ _ (record {
        kind = refl;
        place = one_place (p.first + 9) (caps_low p (find-true (is_small_in_force t) definitions p e));
        within = no_pair;
      }))) no_pair)

  octals : (n c : ℕ) → Pairwise R (octal_at t (span_at spans n) c) (octal_at u (span_at others n) c)
  octals n c =
      pairs_if R (looks_octal (bytes_at text (span_at spans n))) (looks_octal (bytes_at other (span_at others n)))
      (ap looks_octal (h.bytes n)) _ _ (λ looks. record {
        kind = refl;
        place = one_place n (h.octal n looks);
        within = one_place n (h.octal n looks);
      })

  octal_cells : (c d : CellInForce) → C c d → Pairwise R (octal_cell t c) (octal_cell u d)
  octal_cells _ _ (same_cell slot column n low) = go (cell_at m slot column)
    where
      go : (x : Cell)
          → Pairwise R (octal_by t (record { slot = slot; column = column; span = span_at spans n }) x)
          (octal_by u (record { slot = slot; column = column; span = span_at others n }) x)
      go (Char c) = octals n c
      go (Act a) = no_pair

  octal_pairs : (first : ℕ) (xs : List (ℕ × ℕ)) (j : ℕ) → Pairwise R (octal_pair t first xs j) (octal_pair u first xs j)
  octal_pairs first xs j =
      pairs_append R (octals (first + (4 * j + 3)) (base_at xs j)) (octals (first + (4 * j + 4)) (result_at xs j))

  octal_accents : (o : Option Placed) (a : Option AccentValue) → Pairwise R (octal_in t o a) (octal_in u o a)
  octal_accents (Some p) (Some a) =
      pairs_append R (octals (p.first + 1) a.own)
      (pairs_gathered R (octal_pair t p.first a.pairs) (octal_pair u p.first a.pairs) (length a.pairs)
      (λ j low. octal_pairs p.first a.pairs j))
  octal_accents (Some p) None = no_pair
  octal_accents None a = no_pair

  of_letters_same : {cells ours : List CellInForce} → Pairwise C cells ours
      → Pairwise R (of_letters t cells) (of_letters u ours)
  of_letters_same same =
      pairs_append R
      (pairs_append R
      (pairs_append R
      (pairs_append R
      (pairs_append R (gapped (gaps t))
      (pairs_gathered R (exchanged t) (exchanged u) 256 (λ slot low. exchange slot)))
      (pairs_append R (twices Small) (twices Capital))) (controls same)) caps)
      (pairs_append R (pairs_flat_related R C (octal_cell t) (octal_cell u) octal_cells same)
      (pairs_gathered R (octal_accent t) (octal_accent u) 15
      (λ i low. octal_accents (last_of (Accent i) definitions) (accent_at m i))))

  -- ---- of dead keys

  dead : {cells ours : List CellInForce} → Pairwise C cells ours → Pairwise R (dead_key t cells) (dead_key u ours)
  dead same =
      at_cell (is_missing t) (is_missing u) alike (dead_key_by t) (dead_key_by u) no_pair of_cell same
    where
      alike : (c d : CellInForce) → C c d → is_missing t c ≡ is_missing u d
      alike _ _ (same_cell slot column n low) = refl

      of_cell : (c d : CellInForce) → C c d → Pairwise R (dead_key_by t (Some c)) (dead_key_by u (Some d))
      of_cell _ _ (same_cell slot column n low) =
          pairs_one R _ _ (record { kind = refl; place = one_place n low; within = no_pair })

  given_same : {cells ours : List CellInForce} → Pairwise C cells ours → (i : ℕ)
      → is_given t cells i ≡ is_given u ours i
  given_same same i = pairs_any C (λ c. is_the i (live_accent t c)) (λ c. is_the i (live_accent u c)) alike same
    where
      alike : (c d : CellInForce) → C c d → is_the i (live_accent t c) ≡ is_the i (live_accent u d)
      alike _ _ (same_cell slot column n low) = refl

  pub missing_accents_same : missing_accents t (cells_in_force t) ≡ missing_accents u (cells_in_force u)
  missing_accents_same =
      λ i. gathered (λ accent. passed (given_same cells_same accent i && not (is_defined t accent)) accent) 15

  zero : {cells ours : List CellInForce} → Pairwise C cells ours → (i : ℕ)
      → Pairwise R (zero_accent t cells i) (zero_accent u ours i)
  zero {cells = cells} {ours = ours} same i =
      pairs_some R (λ o. option_to_list (zero_by t cells i o)) (λ o. option_to_list (zero_by u ours i o))
      (last_of (Accent i) definitions) no_pair (λ p e.
      pairs_if R (is_zero (own_of (accent_at m i)) && is_given t cells i)
      (is_zero (own_of (accent_at m i)) && is_given u ours i)
      (ap (λ b. is_zero (own_of (accent_at m i)) && b) (given_same same i)) _ _ (λ passes. record {
        kind = refl;
        place = one_place (p.first + 1) (h.accent i p e 1 (omega arith));
        within = no_pair;
      }))

  of_definitions_same : {cells ours : List CellInForce} → Pairwise C cells ours
      → Pairwise R (of_definitions t cells) (of_definitions u ours)
  of_definitions_same {cells = cells} {ours = ours} same =
      pairs_append R
      (pairs_append R
      (pairs_append R
      (pairs_flat R (Contains definitions) (again t) (again u) again_same definitions
      (λ k d l. Contains-get_or definitions k d l)) (of_letters_same same)) (dead same))
      (pairs_gathered R (zero_accent t cells) (zero_accent u ours) 15 (λ i low. zero same i))

  -- ---- of pairs and the rest

  pair_again_same : (i : ℕ) (p : Placed) (a : AccentValue) → last_of (Accent i) definitions ≡ Some p
      → accent_at m i ≡ Some a → (j : ℕ) → j < length a.pairs
      → Pairwise R (pair_again t i p.first a.pairs j) (pair_again u i p.first a.pairs j)
  pair_again_same i p a e f j low =
      pairs_some R (λ o. option_to_list (pair_by t i p.first (base_at a.pairs j) j o))
      (λ o. option_to_list (pair_by u i p.first (base_at a.pairs j) j o)) (first_below (has_base a.pairs j) j) no_pair
      (λ k g. let less = (first_below-some (has_base a.pairs j) j k g).0 in
      pairs_one R _ _ (record {
        kind = refl;
        place = one_place (p.first + (4 * j + 2)) (within j low);
        within = one_place (p.first + (4 * k + 2)) (within k (omega (arith, less, low)));
      }))
    where
      here : get_or m.accents i blank ≡ a
      here = get_or_from_slice_get m.accents i a blank f

      within : (k : ℕ) → k < length a.pairs → p.first + (4 * k + 2) < length spans
      within k few =
          let many : k < length (get_or m.accents i blank).pairs =
          subst (λ (b : AccentValue). k < length b.pairs) (sym here) few in
          h.accent i p e (4 * k + 2) (omega (arith, many))

  accent_pairs_same : (i : ℕ) → Pairwise R (accent_pairs t i) (accent_pairs u i)
  accent_pairs_same i =
      pairs_some R (λ o. pairs_by t i o (accent_at m i)) (λ o. pairs_by u i o (accent_at m i))
      (last_of (Accent i) definitions) no_pair (λ p e.
      pairs_some R (pairs_by t i (Some p)) (pairs_by u i (Some p)) (accent_at m i) no_pair (λ a f.
      pairs_gathered R (pair_again t i p.first a.pairs) (pair_again u i p.first a.pairs) (length a.pairs)
      (λ j low. pair_again_same i p a e f j low)))

  digits : (c d : CellInForce) → C c d → Pairwise R (digit t c) (digit u d)
  digits _ _ (same_cell slot column n low) = go (cell_at m slot column)
    where
      go : (x : Cell)
          → Pairwise R
          (option_to_list (digit_by (record { slot = slot; column = column; span = span_at spans n }) x))
          (option_to_list (digit_by (record { slot = slot; column = column; span = span_at others n }) x))
      go (Char c) =
          pairs_if R ((span_at spans n).end - (span_at spans n).start == 1)
          ((span_at others n).end - (span_at others n).start == 1) (ap (λ w. w == 1) (h.width n)) _ _
          (λ passes. record { kind = refl; place = one_place n low; within = no_pair })
      go (Act a) = no_pair

  of_rest_same : {cells ours : List CellInForce} → Pairwise C cells ours
      → Pairwise R (of_rest t cells) (of_rest u ours)
  of_rest_same same =
      pairs_append R
      (pairs_append R (pairs_gathered R (accent_pairs t) (accent_pairs u) 15 (λ i low. accent_pairs_same i)) unused)
      (pairs_flat_related R C (digit t) (digit u) digits same)

  pub all_of_same : (fs : List Finding) → All (IsFinding m) fs → (untyped : List ℕ)
      → Pairwise R (all_of t (cells_in_force t) fs untyped) (all_of u (cells_in_force u) fs untyped)
  all_of_same fs are untyped =
      pairs_append R
      (pairs_append R (of_keys_same fs are untyped cells_same) (of_definitions_same cells_same))
      (of_rest_same cells_same)
