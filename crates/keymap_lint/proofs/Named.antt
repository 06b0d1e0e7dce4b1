-- Some diagnostic names a key exactly if the check has findings.
use Rattle.keymap_lint.proofs.Common.{◌≡◌, ℕ, ◌+◌, ◌<◌, Bool, true, false, ◌&&◌, cond, List, [], ◌∷◌, length, map}
use Rattle.keymap_lint.proofs.Common.{get_or, refl, sym, ◌∙◌, ap, subst, arith, Option, Some, None, find, flat_map}
use Rattle.keymap_lint.proofs.Common.{range_with_len, true≢false, gathered, Faulty, Slot, Placed, Diagnostic, mixed_key}
use Rattle.keymap_lint.proofs.Common.{missing_slot, selects, get_or-map-range_with_len, MapValue, last_of, rules}
use Rattle.keymap_lint.proofs.Common.{Spelled, cell_in, cells_of}
use Rattle.std.proofs.Common.{All, inl, inr, ◌⊎◌}
use Rattle.std.specs.List.{filter}
use Rattle.std.specs.List.{list_any, Any}
use Rattle.std.specs.Option.{is_some, option_or, option_to_list}
use Rattle.std.specs.Prelude.{nat_lt}
use Rattle.std.proofs.lemmas.Bool.{or_cases, or_left, or_right, and_parts, lt-ltb, le-ltb, eqb-true, eq-eqb, cases_Bool}
use Rattle.std.proofs.lemmas.List.{get_or-replicate, length-append}
use Rattle.std.proofs.lemmas.List.Elements.{All-head, All-nil}
use Rattle.keymap_lint.proofs.Each.{of_all}
use Rattle.std.proofs.Math.Bool.{or-true}
use Rattle.std.proofs.lemmas.List.Sorted.{list_any-IsPermutation}
use Rattle.keymap_core.specs.Bearers.{IsCellOf, IsUpperLive}
use Rattle.keymap_check.specs.Findings.{AreFindings, IsFinding, IsPlaceOf}
use Rattle.console_core.specs.Headline.{IsSafe}
use Rattle.keymap_places.proofs.Shared.{no_slot}
use Rattle.keymap_text.proofs.Shared.{not_both, one_map}
use Rattle.keymap_lint.specs.Types.{Diagnostics, Spelled as OfSpelled, Holding, Cell, Char, Act, Finding, Defined}
use Rattle.keymap_lint.specs.Types.{Accent, CellInForce}
use Rattle.keymap_lint.specs.Kinds.{defines, is_mixed, nul_keys, other_slot, missing_slots}
use Rattle.keymap_lint.specs.Kinds.{selector, selector_of, half_by, half_defined, is_some_in}
use Rattle.keymap_lint.specs.Lists.{AreOf, spelled_by, all_of}
use Rattle.std.proofs.lemmas.List.Quantifiers.{position-Some}
use Rattle.std.specs.List.{position}
use Rattle.std.specs.Option.{is_none}
use Rattle.keymap_lint.specs.Directives.{definition_of, is_told, keeps, told, words, words_of}
use Rattle.keymap_lint.specs.Promises.{names_keys, KeysAreNamedExactlyIfRefused, NamesEachKey, names_a_key}
use Rattle.keymap_lint.specs.Severities.{is_error, never_sticks, severity_of}
use Rattle.keymap_lint.specs.declared.directives.Ignored.{Ignored}
use Rattle.keymap_lint.specs.declared.diagnostic.Kind.{Kind}
use Rattle.keymap_lint.specs.declared.diagnostic.Kind.TheVariants as kinds
use Rattle.keymap_lint.proofs.Told.{no_directives, of_told}
use Rattle.std.proofs.lemmas.List.Folds.{list_any-append, list_any_at, list_any_none}
use Rattle.keymap_core.specs.declared.action.Action.{Action}
use Rattle.keymap_core.specs.Actions.{holding_action}
use Rattle.keymap_core.specs.Borne.{is_upper_live}
use Rattle.keymap_core.specs.Maps.{cell_at, entry_at, undefined}
use Rattle.keymap_core.proofs.Shared.{gathered-le, gathered-more, upper-is_live}
use Rattle.keymap_check.specs.declared.finding.Place.{Place}
use Rattle.keymap_places.specs.Placed.{is_same}
use Rattle.keymap_lint.specs.Spelled.{cells_in_force}
use Rattle.keymap_core.specs.declared.action.Action.TheVariants as act
use Rattle.keymap_core.specs.declared.action.Modifier.TheVariants as modifier
use Rattle.keymap_core.specs.declared.action.Lock.TheVariants as lock
use Rattle.keymap_lint.proofs.FaultPlaces.{has_fault}

-- whether a diagnostic names a key
abbrev pub names : Diagnostic → Bool
names d = names_a_key d.kind

-- ---- lists

pub any_flat : {X Y : Type 0} (p : Y → Bool) (f : X → List Y) (xs : List X) → list_any (λ x. list_any p (f x)) xs ≡ true
    → list_any p (flat_map f xs) ≡ true
any_flat p f [] h = absurd (true≢false (sym h))
any_flat p f (x ∷ xs) h = elim (or_cases (list_any p (f x)) (list_any (λ x. list_any p (f x)) xs) h) [
  | inl e ↦ simp (list_any-append, e)
  | inr e ↦ simp (list_any-append, any_flat p f xs e, or-true)
]

-- an element that passes is found
find_some : {X : Type 0} (p : X → Bool) (xs : List X) → list_any p xs ≡ true
    → (x : X) × (find p xs ≡ Some x) × (p x ≡ true)
find_some p [] h = absurd (true≢false (sym h))
find_some {X} p (x ∷ xs) h = search (rules, find_some p xs)

-- what one number gives is among what is gathered
gathered_some : {Y : Type 0} (f : ℕ → List Y) (i n : ℕ) → i < n → 0 < length (f i) → 0 < length (gathered f n)
gathered_some f i n l h =
    let here = ap length (gathered-more f i) ∙ length-append (gathered f i) (f i) in
    omega (arith, gathered-le f (i + 1) n (omega arith))

-- ---- definitions

-- the slots without a definition are undefined
abbrev pub HasUndefined : Spelled → Type 0
HasUndefined t = (slot : ℕ) → last_of (Slot slot) t.definitions ≡ None → entry_at t.map slot ≡ undefined

-- an action stands in a slot that is defined
acting_defined : (t : Spelled) → HasUndefined t → (slot column : ℕ) → column < 8 → (a : Action)
    → cell_at t.map slot column ≡ Act a → (p : Placed) × (last_of (Slot slot) t.definitions ≡ Some p)
acting_defined t h slot column low a e = search (rules, get_or-replicate)

-- the last definition of what is defined defines it, and stands among the definitions
last_among : (what : Defined) (ds : List Placed) (q : Placed) → last_of what ds ≡ Some q
    → (is_same q.what what ≡ true) × ((p : Placed → Bool) → p q ≡ true → list_any p ds ≡ true)
unfolding last_of
last_among what [] q e = absurd (cc)
last_among what (d ∷ ds) q e = go (last_of what ds) (is_same d.what what) refl (last_among what ds q) e
  where
    Found : List Placed → Type 0
    Found xs = (is_same q.what what ≡ true) × ((p : Placed → Bool) → p q ≡ true → list_any p xs ≡ true)

    go : (o : Option Placed) (b : Bool) → is_same d.what what ≡ b → (o ≡ Some q → Found ds)
        → option_or o (cond b (Some d) None) ≡ Some q → Found (d ∷ ds)
    go (Some r) b s later e = ((later e).0, λ p h. or_right (p d) (list_any p ds) ((later e).1 p h))
    go None true s later e =
        let same : d ≡ q = cc in
        ((simp same at s), λ p h. or_left (p d) (list_any p ds) (ap p same ∙ h))
    go None false s later e = absurd (cc)

same_slot : (w : Defined) (slot : ℕ) → is_same w (Slot slot) ≡ true → w ≡ Slot slot
same_slot (Slot s) slot e = ap Slot (eqb-true s slot e)
same_slot (Accent i) slot e = absurd (true≢false (sym e))

-- ---- a finding names a key

-- both slots of the finding are defined
mixed_names : (t : Spelled) (f : Finding) → is_mixed t f ≡ true → list_any names (mixed_key t f) ≡ true
mixed_names t f h = search (rules, and_parts)

-- ashift or alock in a slot below 128 is a cell that selects
pub selecting : (t : Spelled) → HasUndefined t → IsUpperLive t.map
    → list_any (selects t) (cells_in_force t) ≡ true
selecting t h (slot, low, stands) = elim stands [
  | inl s ↦ by (act.Mod modifier.AltShift) s.0 s.1 s.2 (ap (λ x. is_some (selector_of x)) s.2)
  | inr s ↦ by (act.Lock lock.Alt) s.0 s.1 s.2 (ap (λ x. is_some (selector_of x)) s.2)
]
  where
    by : (a : Action) (column : ℕ) → column < 8 → cell_at t.map slot column ≡ Act a
        → is_some (selector_of (cell_at t.map slot column)) ≡ true
        → list_any (selects t) (cells_in_force t) ≡ true
    by a column few e selects_it =
        let d : (p : Placed) × (last_of (Slot slot) t.definitions ≡ Some p) = acting_defined t h slot column few a e in
        any_flat (selects t) (cells_of t) t.definitions
        ((last_among (Slot slot) t.definitions d.0 d.1).1 (λ p. list_any (selects t) (cells_of t p)) (of_it d.0 d.1))
      where
        row : ℕ → List CellInForce
        row first = map (cell_in t slot first) (range_with_len 0 8)

        in_row : (first : ℕ) → list_any (selects t) (row first) ≡ true
        in_row first =
            let d : CellInForce = cell_in t slot first column in
            let here : get_or (row first) column d ≡ d =
            get_or-map-range_with_len (cell_in t slot first) 0 8 column column d few (omega arith) in
            let lower : nat_lt slot 128 ≡ true = lt-ltb slot 128 low in
            let yes : selects t d ≡ true =
            ap (λ b. is_some (cond b (selector_of (cell_at t.map slot column)) None)) lower ∙ selects_it in
            list_any_at (selects t) (row first) column d few (ap (selects t) here ∙ yes)

        -- the definition in force defines the slot
        of_it : (p : Placed) → last_of (Slot slot) t.definitions ≡ Some p
            → list_any (selects t) (cells_of t p) ≡ true
        of_it p e =
            let what = same_slot p.what slot (last_among (Slot slot) t.definitions p e).0 in
            simp (what, e, eq-eqb p.first p.first refl) (in_row p.first)

-- the character's slot is the other one of the key, and isn't defined
other_is : (m : MapValue) (k : ℕ) (p q : Place) → k < 128 → IsPlaceOf m k p → IsPlaceOf m k q → (p.slot ≡ q.slot → ⊥)
    → IsUpperLive m × (q.slot < 256) × (other_slot q.slot ≡ p.slot)
other_is m k p q low (few, inl a) (many, inl b) ne = absurd (ne (a ∙ sym b))
other_is m k p q low (few, inl a) (many, inr (live, b)) ne = search (rules, le-ltb)
other_is m k p q low (few, inr (live, a)) (many, inl b) ne = search (rules, lt-ltb)
other_is m k p q low (few, inr (live, a)) (many, inr (alive, b)) ne = absurd (ne (a ∙ sym b))

-- a slot of the finding isn't defined
half_names : (t : Spelled) → HasUndefined t → (f : Finding) (fs : List Finding) → IsFinding t.map f
    → is_mixed t f ≡ false → list_any names (half_defined t (cells_in_force t) (f ∷ fs)) ≡ true
half_names t h f fs is mixed =
    let p = acting_defined t h f.holding_at.slot f.holding_at.column is.first_holding.0.0 (holding_action f.holding)
    is.holding in
    let held : defines t f.holding_at.slot ≡ true = ap is_some p.1 in
    let nul : defines t f.character_at.slot ≡ false =
    sym (ap (λ b. b && defines t f.character_at.slot) held) ∙ mixed in
    let ne : f.holding_at.slot ≡ f.character_at.slot → ⊥ =
    λ e. true≢false (sym held ∙ ap (defines t) e ∙ nul) in
    let other = other_is t.map f.key f.holding_at f.character_at is.key is.first_holding.0 is.first_character.0 ne in
    let live : is_upper_live t.map ≡ true = upper-is_live t.map other.0 in
    let missing : missing_slot t f.character_at.slot ≡ f.character_at.slot ∷ [] = simp (other.2, held, nul) in
    let some : 0 < length (gathered (missing_slot t) 256) =
    gathered_some (missing_slot t) f.character_at.slot 256 other.1
    (subst (λ (xs : List ℕ). 0 < length xs) (sym missing) (omega arith)) in
    let slots : is_some_in (missing_slots t) ≡ true =
    simp live (lt-ltb 0 (length (gathered (missing_slot t) 256)) some) in
    let keys : is_some_in (nul_keys t (f ∷ fs)) ≡ true =
    simp mixed (lt-ltb 0 (length (f.key ∷ nul_keys t fs)) (omega arith)) in
    let c = find_some (selects t) (cells_in_force t) (selecting t h other.0) in
    simp (slots, keys, c.1) (go c.0 (selector t c.0) c.2)
  where
    go : (c : CellInForce) (o : Option Holding) → is_some o ≡ true
        → list_any names (option_to_list (half_by c true o)) ≡ true
    go c (Some s) e = refl
    go c None e = absurd (true≢false (sym e))

-- where the check has findings, a diagnostic names a key
pub finding_names : (t : Spelled) → HasUndefined t → (f : Finding) (fs : List Finding) → IsFinding t.map f
    → (untyped : List ℕ) → list_any names (all_of t (cells_in_force t) (f ∷ fs) untyped) ≡ true
finding_names t h f fs is untyped = elim (cases_Bool (is_mixed t f)) [
  | inl e ↦ let m = mixed_names t f e in simp (list_any-append, m, or-true)
  | inr e ↦ let m = half_names t h f fs is e in simp (list_any-append, m, or-true)
]

-- ---- without findings none does

none_names : (t : Spelled) (cells : List CellInForce) (untyped : List ℕ)
    → All (λ d. names d ≡ false) (all_of t cells [] untyped)
none_names t cells untyped =
    of_all (λ d. names d ≡ false) t cells [] untyped (record {
      no_key = refl;
      cannot_type = refl;
      no_shift = refl;
      mixed = All-nil _;
      half = λ c s e g. refl;
      again = λ p q among e ne. refl;
      gap = λ first p e. refl;
      exchanged = λ slot p e x. refl;
      twice = λ a i missing one other p q e f g. refl;
      control = λ c e. refl;
      caps = λ p e. refl;
      octal = λ s c e. refl;
      dead = λ c e. refl;
      zero = λ i p e z. refl;
      pair = λ i p a e f j k low less same. refl;
      unused = λ p e. refl;
      digit = λ k c l n e f. refl;
    })

-- ---- behind directives

-- no name comes with what is said of directives
none_told : (text : List ℕ) (t : Spelled) (never : Bool) (said : List Diagnostic) → All (λ d. names d ≡ false) said
    → list_any names (told text t never said) ≡ false
none_told text t never said all = search (rules, list_any_none, of_told)

-- what names a key is an error, unless the search answers that no modifier sticks
pub named_is_error : (k : Kind) → names_a_key k ≡ true → is_error (severity_of false k) ≡ true
named_is_error kinds.NoKey h = refl
named_is_error (kinds.MixedKey f c) h = refl
named_is_error (kinds.HalfDefined s true) h = refl
named_is_error _ h = absurd (true≢false (sym h))

-- so no word keeps it back
none_keeps : {X : Type 0} (p : X → Bool) (xs : List X) → ((x : X) → p x ≡ false) → position p xs ≡ None
none_keeps p [] h = refl
none_keeps p (x ∷ xs) h = go (position p (x ∷ xs)) refl
  where
    go : (o : Option ℕ) → position p (x ∷ xs) ≡ o → position p (x ∷ xs) ≡ None
    go None e = e
    go (Some i) e = absurd (true≢false (sym (position-Some p (x ∷ xs) i x e).1 ∙ h (get_or (x ∷ xs) i x)))

named_is_told : (text : List ℕ) (t : Spelled) (never : Bool) (ws : List Ignored) → (never ≡ false) ⊎ (ws ≡ [])
    → (d : Diagnostic) → names d ≡ true → is_told text t never ws d ≡ true
unfolding keeps
named_is_told text t never ws (inr e) d h = ap (λ ws. is_told text t never ws d) e
named_is_told text t never ws (inl e) d h =
    ap is_none (none_keeps (keeps text never (definition_of t d) d.kind) ws no)
  where
    no : (w : Ignored) → keeps text never (definition_of t d) d.kind w ≡ false
    no w = rw (e, named_is_error d.kind h) refl

any_filter : {X : Type 0} (p q : X → Bool) → ((x : X) → p x ≡ true → q x ≡ true) → (xs : List X)
    → list_any p xs ≡ true → list_any p (filter q xs) ≡ true
any_filter p q h [] e = e
any_filter {X} p q h (x ∷ xs) e = search (rules, or_cases, or_left, or_right, any_filter p q h xs)

some_told : (text : List ℕ) (t : Spelled) (never : Bool) (said : List Diagnostic)
    → (never ≡ false) ⊎ (words text t ≡ []) → list_any names said ≡ true
    → list_any names (told text t never said) ≡ true
some_told text t never said keeps_none some =
    search (rules, any_filter, named_is_told, list_any-append)

-- ---- a text

-- what the findings say of the map
safe_if_none : (m : MapValue) (fs : List Finding) → AreFindings m fs → fs ≡ [] → IsSafe m
safe_if_none m fs are none k low a bears c is =
    let f : Any (λ (f : Finding). f.key ≡ k) fs = are.complete k low (a, bears, (c, is)) in
    let l : f.0 < 0 = subst (λ (xs : List Finding). f.0 < length xs) none f.2 in absurd (omega (arith, l))

unsafe_by : (m : MapValue) (f : Finding) → IsFinding m f → IsSafe m → ⊥
unsafe_by m f is safe =
    let c = is.first_character.1 in
    safe f.key is.key f.holding (cell_of_key f.holding_at (Act
    (holding_action f.holding)) is.first_holding.0 is.holding)
    c.0 (cell_of_key f.character_at (Char c.0) is.first_character.0 c.1)
  where
    cell_of_key : (p : Place) (x : Cell) → IsPlaceOf m f.key p → cell_at m p.slot p.column ≡ x → IsCellOf m f.key x
    cell_of_key p x (few, inl a) e = inl (p.column, few, ap (λ s. cell_at m s p.column) (sym a) ∙ e)
    cell_of_key p x (few, inr (live, a)) e =
        inr (live, (p.column, few, ap (λ s. cell_at m s p.column) (sym a) ∙ e))

-- of a text's map with these findings
pub named_exactly : (t : Spelled) → HasUndefined t → (fs : List Finding) → AreFindings t.map fs → (l : Diagnostics)
    → AreOf t (cells_in_force t) fs l
    → (IsSafe t.map → names_keys (OfSpelled l) ≡ false)
    × ((never_sticks l.sticking ≡ false) ⊎ (words t.text t ≡ []) → names_keys (OfSpelled l) ≡ false → IsSafe t.map)
named_exactly t h fs are l is =
    go fs are (sym (list_any-IsPermutation names (all fs) l.list.items is.list.same))
  where
    said : List Finding → List Diagnostic
    said fs = all_of t (cells_in_force t) fs l.untyped.items

    all : List Finding → List Diagnostic
    all fs = told t.text t (never_sticks l.sticking) (said fs)

    go : (fs : List Finding) → AreFindings t.map fs → names_keys (OfSpelled l) ≡ list_any names (all fs)
        → (IsSafe t.map → names_keys (OfSpelled l) ≡ false)
        × ((never_sticks l.sticking ≡ false) ⊎ (words t.text t ≡ []) → names_keys (OfSpelled l) ≡ false → IsSafe t.map)
    go [] are same = (
      λ safe. same ∙ none_told t.text t (never_sticks l.sticking) (said [])
          (none_names t (cells_in_force t) l.untyped.items),
      λ each e. safe_if_none t.map [] are refl,
    )
    go (f ∷ fs) are same =
        let is : IsFinding t.map f = All-head (IsFinding t.map) f fs are.each in (
          λ safe. absurd (unsafe_by t.map f is safe),
          λ each e. absurd (true≢false (sym (some_told t.text t (never_sticks l.sticking) (said (f ∷ fs)) each
              (finding_names t h f fs is l.untyped.items)) ∙ sym same ∙ e)),
        )

-- where the text has no directive, no word keeps anything back
no_words : (text : List ℕ) (t : Spelled) (l : Diagnostics) → NamesEachKey text (OfSpelled l)
    → (never_sticks l.sticking ≡ false) ⊎ (words text t ≡ [])
no_words text t l (inl e) = inl e
no_words text t l (inr h) = inr (ap (flat_map (words_of text)) (no_directives text t h))

pub keys_are_named_exactly_if_refused : KeysAreNamedExactlyIfRefused
keys_are_named_exactly_if_refused text m (OfSpelled l) spells (n, spelled, (rows, by, (fs, are, is))) =
    let t : Spelled = spelled_by text n rows in
    let both = named_exactly t (no_slot text n rows by) fs are l is in
    subst (λ m. (IsSafe m → names_keys (OfSpelled l) ≡ false)
    × (NamesEachKey text (OfSpelled l) → names_keys (OfSpelled l) ≡ false → IsSafe m))
    (one_map text n m spelled spells) (both.0, (λ each. both.1 (no_words text t l each)))
keys_are_named_exactly_if_refused text m (Faulty faults) spells (some, are) =
    let faulty = has_fault 21 text faults.items some are in absurd (not_both text m faulty.0 spells faulty.1)
