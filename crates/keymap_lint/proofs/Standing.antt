-- The diagnostics stand in the text, at what they tell of.
use Rattle.keymap_lint.proofs.Common.{◌≡◌, ℕ, ◌+◌, ◌<◌, ◌≤◌, Bool, true, false, not, cond, List, length, get_or, refl}
use Rattle.keymap_lint.proofs.Common.{sym, ◌∙◌, ap, arith, Option, Some, None, find, true≢false, Slot, Placed}
use Rattle.keymap_lint.proofs.Common.{Faulty, MapValue, last_of, selects, is_missing, rules, Spelled, cell_in}
use Rattle.std.proofs.Common.{◌*◌, All, nat_le, nat_lt}
use Rattle.std.proofs.Common.{◌-◌, drop, length-drop}
use Rattle.std.proofs.lemmas.List.{length-take}
use Rattle.keymap_lint.proofs.Common.{[], ◌∷◌, subst, take}
use Rattle.keymap_lint.proofs.Lists.{all_passing}
use Rattle.keymap_lint.specs.Kinds.{is_the}
use Rattle.keymap_lint.specs.Alphabets.{column_of, first_of, holders, is_above, is_concerned, later}
use Rattle.keymap_lint.specs.Alphabets.{letter_at, letter_of, lost_letters}
use Rattle.keymap_lint.specs.declared.alphabet.Alphabet.{Alphabet}
use Rattle.keymap_lint.specs.declared.alphabet.Alphabet.TheVariants.{Small, Capital, Control, UpperControl}
use Rattle.keymap_lint.specs.Octal.{looks_octal}
use Rattle.std.proofs.lemmas.List.Elements.{All-head, All-tail, All-weaker, All-contains, Contains-get_or}
use Rattle.std.specs.Prelude.{Contains}
use Rattle.std.specs.Option.{is_some}
use Rattle.std.proofs.lemmas.Bool.{and_parts, cond_both, eqb-true}
use Rattle.std.proofs.lemmas.Bool.Decides.{nat_tests}
use Rattle.std.proofs.lemmas.List.Folds.{find_at}
use Rattle.std.proofs.lemmas.Option.{get_or_from_slice_get, slice_get_within}
use Rattle.keymap_core.proofs.Shared.{find-true}
use Rattle.std.proofs.lemmas.List.Sorted.{All-permutation}
use Rattle.keymap_lint.specs.Types.{Holding, Cell, Char, Act, Finding, CellInForce, Lint, Spelled as OfSpelled}
use Rattle.keymap_core.specs.Actions.{holding_action}
use Rattle.keymap_core.specs.Maps.{cell_at}
use Rattle.keymap_check.specs.Findings.{IsFinding}
use Rattle.keymap_places.specs.Placed.{Row, IsSpelledBy}
use Rattle.keymap_places.proofs.Shared.{tokens_are_placed}
use Rattle.keymap_lint.specs.Kinds.{character_of, selector_of, dead_key_of, live_accent, is_missing_of}
use Rattle.keymap_lint.specs.Letters.{is_behind}
use Rattle.keymap_lint.specs.Lists.{spelled_by, all_of, IsLint}
use Rattle.keymap_lint.specs.Positions.{SpellsCell, StandsWithin, DiagnosticsStandInTheText, IsWithin, LiesWithin}
use Rattle.keymap_lint.specs.Positions.{IsCharacterIn, IsControlIn}
use Rattle.keymap_lint.specs.Positions.{StandsAt, StandsInText, IsHoldingOf, IsExchangedIn, IsMissingDeadKey}
use Rattle.keymap_lint.specs.Shifted.{is_pair, is_small_in_force}
use Rattle.keymap_lint.specs.Spelled.{offset_at, cells_in_force, content, is_live}
use Rattle.keymap_core.specs.declared.action.Action.TheVariants as act
use Rattle.keymap_core.specs.declared.action.Modifier.TheVariants as modifier
use Rattle.keymap_core.specs.declared.action.Lock.TheVariants as lock
use Rattle.keymap_core.specs.declared.action.Holding.TheVariants as holding
use Rattle.keymap_lint.proofs.Begun.{again_there, behind_there, replaced, small_there, unused_there, zero_there}
use Rattle.keymap_lint.proofs.Each.{of_all}
use Rattle.keymap_lint.proofs.Told.{OfDirectives, of_told}
use Rattle.keymap_lint.specs.Directives.{told}
use Rattle.keymap_lint.specs.Types.{Diagnostic}
use Rattle.keymap_lint.proofs.FaultPlaces.{all_lie_within}
use Rattle.keymap_lint.proofs.InForce.{cells_in_force_are_spelled, in_force_there, spelled_at, within}

-- a cell that selects the slots from 128 on is what is told of it
holds_selector : (b : Bool) (x : Cell) (s : Holding) → cond b (selector_of x) None ≡ Some s
    → x ≡ Act (holding_action s)
holds_selector true (Act (act.Mod modifier.AltShift)) s e =
    let same : holding.Mod modifier.AltShift ≡ s = cc in ap (λ h. Act (holding_action h)) same
holds_selector true (Act (act.Lock lock.Alt)) s e =
    let same : holding.Lock lock.Alt ≡ s = cc in ap (λ h. Act (holding_action h)) same
holds_selector _ _ s e = absurd (cc)

-- a cell that is a dead key is what is told of it
holds_dead_key : (b : Bool) (x : Cell) (i : ℕ) → cond b (dead_key_of x) None ≡ Some i → x ≡ Act (act.DeadKey i)
holds_dead_key true (Act (act.DeadKey j)) i e = let same : j ≡ i = cc in ap (λ n. Act (act.DeadKey n)) same
holds_dead_key _ _ i e = absurd (cc)

-- a letter and its capital are characters
pair_characters : (t : Spelled) (x y : Cell) → is_pair t x y ≡ true
    → (x ≡ Char (character_of x)) × (y ≡ Char (character_of y))
pair_characters t (Char small) (Char capital) e = (refl, refl)
pair_characters t _ _ e = absurd (true≢false (sym e))

-- a letter's cell is its character
letter_is : (first i : ℕ) (x : Cell) → is_the i (letter_of first x) ≡ true → x ≡ Char (i + first)
letter_is first i (Char c) e = search (rules, nat_tests)
letter_is first i (Act a) e = absurd (true≢false (sym e))

letter_there : (t : Spelled) (a : Alphabet) (i slot : ℕ) → is_the i (letter_at t a slot) ≡ true
    → cell_at t.map slot (column_of a) ≡ Char (i + first_of a)
letter_there t a i slot e = search (rules, letter_is)

both_there : (t : Spelled) (a : Alphabet) (i one other : ℕ) → holders t a i ≡ one ∷ other ∷ []
    → (cell_at t.map one (column_of a) ≡ Char (i + first_of a))
    × (cell_at t.map other (column_of a) ≡ Char (i + first_of a))
both_there t a i one other e =
    let P : ℕ → Type 0 = λ slot. is_the i (letter_at t a slot) ≡ true in
    let all : All P (one ∷ other ∷ []) =
    subst (All P) e (all_passing P (λ slot. is_the i (letter_at t a slot)) 256 (λ k low e. e)) in (
      letter_there t a i one (All-head P one (other ∷ []) all),
      letter_there t a i other (All-head P other [] (All-tail P one (other ∷ []) all)),
    )

few_columns : (a : Alphabet) → column_of a < 8
few_columns Small = omega arith
few_columns Capital = omega arith
few_columns Control = omega arith
few_columns UpperControl = omega arith

control_in : (t : Spelled) (ls : List ℕ) (above : Bool) (c : CellInForce) → is_concerned t ls above c ≡ true
    → IsControlIn above c
control_in t ls above c e =
    let both = and_parts _ _ e in (eqb-true c.column 2 both.0, (and_parts _ _ both.1).0)

-- where digits stand, there is a text
digits_within : (text : List ℕ) (n place : ℕ) → looks_octal (take n (drop place text)) ≡ true → place ≤ length text
digits_within text n place e =
    search (rules, nat_le, and_parts, length-take, nat_tests, length-drop)

-- what holds of all elements holds of the one that is found
found_has : {X : Type 0} (P : X → Type 0) (p : X → Bool) (xs : List X) → All P xs → (x : X) → find p xs ≡ Some x → P x
found_has P p xs all x e = search (rules, find_at, get_or_from_slice_get, slice_get_within)

pub found_in : {X : Type 0} (p : X → Bool) (xs : List X) (x : X) → find p xs ≡ Some x → Contains xs x
found_in p xs x e = found_has (Contains xs) p xs (λ k d l. Contains-get_or xs k d l) x e

-- what is chosen only if a test passes, where something is chosen
passed : {X : Type 0} (b : Bool) (o : Option X) (x : X) → cond b o None ≡ Some x → b ≡ true
passed true o x e = refl
passed false o x e = absurd (cc)

not_some : {X : Type 0} (o : Option X) → not (is_some o) ≡ true → o ≡ None
not_some None e = refl
not_some (Some x) e = absurd (true≢false (sym e))

all_of_text : (text : List ℕ) (m : MapValue) (rows : List Row) → IsSpelledBy text m rows → (fs : List Finding)
    → All (IsFinding m) fs → (untyped : List ℕ)
    → All (StandsWithin text (spelled_by text m rows))
    (all_of (spelled_by text m rows) (cells_in_force (spelled_by text m rows)) fs untyped)
all_of_text text m rows by fs are untyped =
    of_all (StandsWithin text t) t cells fs untyped (record {
      no_key = ((tt, tt), tt);
      cannot_type = ((tt, tt), tt);
      no_shift = ((tt, tt), tt);
      mixed = λ k d l p e.
          ((w (p.first + (1 + (get_or fs k d).holding_at.column)), tt), mixed (get_or fs k d) (are k d l) p e);
      half = λ c s e g.
          let its : SpellsCell text c.span.start (content t c) = found_has IsThere (selects t) cells there c e in (
            (low c.span.start (content t c) its, tt),
            record {
              cell = c;
              in_force = found_in (selects t) cells c e;
              start = refl;
              spelled = its;
              one = (
                lower c.slot (passed (nat_lt c.slot 128) (selector_of (content t c)) s g),
                holds_selector (nat_lt c.slot 128) (content t c) s g,
              );
            },
          );
      again = λ p q among e ne. ((w p.first, w q.first), replaced text m rows by p q among e ne);
      gap = λ first p e. (
        (w p.first, tt),
        behind_there text m rows by first p (found_in (is_behind t first) t.definitions p e)
            (find-true (is_behind t first) t.definitions p e),
      );
      exchanged = λ slot p e x. ((w (p.first + 1), tt), exchanged slot p e (and_parts (is_live t slot) _ x).1);
      twice = λ a i missing one other p q e f g. twice a i one other p q (both_there t a i one other e) f g;
      control = λ c e.
          let its : SpellsCell text c.span.start (content t c) =
          found_has IsThere (is_concerned t (lost_letters t) (is_above t)) cells there c e in (
            (low c.span.start (content t c) its, tt),
            record {
              cell = c;
              in_force = found_in (is_concerned t (lost_letters t) (is_above t)) cells c e;
              start = refl;
              spelled = its;
              one =
                  control_in t (lost_letters t) (is_above t) c
                  (find-true (is_concerned t (lost_letters t) (is_above t)) cells c e);
            },
          );
      caps = λ p e. (
        (w (p.first + 9), tt),
        small_there text m rows by p (find-true (is_small_in_force t) t.definitions p e),
      );
      octal = λ s c e.
          let low = digits_within text (s.end - s.start) s.start e in ((low, low), (refl, (s.end - s.start, e)));
      dead = λ c e.
          let its : SpellsCell text c.span.start (content t c) = found_has IsThere (is_missing t) cells there c e in (
            (low c.span.start (content t c) its, tt),
            record {
              cell = c;
              in_force = found_in (is_missing t) cells c e;
              start = refl;
              spelled = its;
              one = dead_key_there c (live_accent t c) refl (find-true (is_missing t) cells c e);
            },
          );
      zero = λ i p e z. ((w (p.first + 1), tt), zero_there text m rows by i p e z);
      pair = λ i p a e f j k low less same. (
        (w (p.first + (4 * j + 2)), w (p.first + (4 * k + 2))),
        again_there text m rows by i p a e f j k low less same,
      );
      unused = λ p e. ((w p.first, tt), unused_there text m rows by p e);
      digit = λ k d l n e f.
          let c : CellInForce = get_or cells k d in (
            (low c.span.start (content t c) (there k d l), tt),
            record {
              cell = c;
              in_force = Contains-get_or cells k d l;
              start = refl;
              spelled = there k d l;
              one = (e, f);
            },
          );
    })
  where
    t : Spelled
    t = spelled_by text m rows

    cells : List CellInForce
    cells = cells_in_force t

    w : (n : ℕ) → offset_at t n ≤ length text
    w = within text m rows

    IsThere : CellInForce → Type 0
    IsThere c = SpellsCell text c.span.start (content t c)

    there : All IsThere cells
    there = cells_in_force_are_spelled text m rows by

    -- the place of a cell lies in the text
    low : (place : ℕ) (x : Cell) → SpellsCell text place x → place ≤ length text
    low place x h = search (rules, All-contains, tokens_are_placed)

    lower : (slot : ℕ) → nat_lt slot 128 ≡ true → slot < 128
    lower slot e = grind (arith, nat_tests, e)

    twice : (a : Alphabet) (i one other : ℕ) (p q : Placed)
        → (cell_at m one (column_of a) ≡ Char (i + first_of a))
        × (cell_at m other (column_of a) ≡ Char (i + first_of a))
        → last_of (Slot one) t.definitions ≡ Some p → last_of (Slot other) t.definitions ≡ Some q
        → (offset_at t (later p q + (1 + column_of a)) ≤ length text × Unit {0})
        × StandsAt text t (offset_at t (later p q + (1 + column_of a)))
        (IsCharacterIn t (column_of a) (i + first_of a))
    twice a i one other p q are f g =
        cond_both (nat_lt p.first q.first) q.first p.first
        (λ n. (offset_at t (n + (1 + column_of a)) ≤ length text × Unit {0})
        × StandsAt text t (offset_at t (n + (1 + column_of a))) (IsCharacterIn t (column_of a) (i + first_of a)))
        (λ h. ((w (q.first + (1 + column_of a)), tt), at_slot other q g are.1))
        (λ h. ((w (p.first + (1 + column_of a)), tt), at_slot one p f are.0))
      where
        at_slot : (slot : ℕ) (p : Placed) → last_of (Slot slot) t.definitions ≡ Some p
            → cell_at m slot (column_of a) ≡ Char (i + first_of a)
            → StandsAt text t (offset_at t (p.first + (1 + column_of a)))
            (IsCharacterIn t (column_of a) (i + first_of a))
        at_slot slot p e is = record {
          cell = cell_in t slot p.first (column_of a);
          in_force = in_force_there t slot p e (column_of a) (few_columns a);
          start = refl;
          spelled = spelled_at text m rows by slot p e (column_of a) (few_columns a);
          one = (refl, is);
        }

    exchanged : (slot : ℕ) (p : Placed) → last_of (Slot slot) t.definitions ≡ Some p
        → is_pair t (cell_at m slot 1) (cell_at m slot 0) ≡ true
        → StandsAt text t (offset_at t (p.first + 1))
        (IsExchangedIn t slot (character_of (cell_at m slot 0)) (character_of (cell_at m slot 1)))
    exchanged slot p e both =
        let are = pair_characters t (cell_at m slot 1) (cell_at m slot 0) both in record {
          cell = cell_in t slot p.first 0;
          in_force = in_force_there t slot p e 0 (omega arith);
          start = refl;
          spelled = spelled_at text m rows by slot p e 0 (omega arith);
          one = (refl, refl, are.1, are.0);
        }

    mixed : (f : Finding) → IsFinding m f → (p : Placed) → last_of (Slot f.holding_at.slot) t.definitions ≡ Some p
        → StandsAt text t (offset_at t (p.first + (1 + f.holding_at.column)))
        (IsHoldingOf t f (character_of (cell_at m f.character_at.slot f.character_at.column)))
    mixed f is p e =
        let column = f.holding_at.column in
        let few = is.first_holding.0.0 in
        let character = is.first_character.1 in record {
          cell = cell_in t f.holding_at.slot p.first column;
          in_force = in_force_there t f.holding_at.slot p e column few;
          start = refl;
          spelled = spelled_at text m rows by f.holding_at.slot p e column few;
          one = (
            refl,
            refl,
            is.holding,
            character.1 ∙ ap (λ x. Char (character_of x)) (sym character.1),
          );
        }

    dead_key_there : (c : CellInForce) (o : Option ℕ) → live_accent t c ≡ o → is_missing_of t o ≡ true
        → IsMissingDeadKey t c
    dead_key_there c (Some i) g h = search (rules, passed, t, holds_dead_key, not_some)
    dead_key_there c None g h = absurd (true≢false (sym h))

-- what is said of directives stands at a `#` or at a word of the text
of_directives_there : (text : List ℕ) (t : Spelled) → OfDirectives (StandsWithin text t) text
of_directives_there text t = search rules

pub diagnostics_stand_in_the_text : DiagnosticsStandInTheText
diagnostics_stand_in_the_text text (OfSpelled l) (m, spells, (rows, by, (fs, are, is))) =
    (m, rows, (spells, by, go))
  where
    t : Spelled
    t = spelled_by text m rows

    said : List Diagnostic
    said = all_of t (cells_in_force t) fs l.untyped.items

    go : All (StandsWithin text t) l.list.items
    go = search (rules, All-permutation, t, said, of_told, of_directives_there, all_of_text)
diagnostics_stand_in_the_text text (Faulty faults) (some, are) = all_lie_within 21 text 0 faults.items are

-- what lies within a text
pub lies_within : (text : List ℕ) (l : Lint) → IsLint text l → LiesWithin text l
lies_within text (OfSpelled l) is = go (diagnostics_stand_in_the_text text (OfSpelled l) is)
  where
    go : StandsInText text (OfSpelled l) → LiesWithin text (OfSpelled l)
    go (m, rows, (spells, by, all)) =
        All-weaker (StandsWithin text (spelled_by text m rows)) (IsWithin text) (λ d h. h.0) l.list.items all
lies_within text (Faulty faults) is = diagnostics_stand_in_the_text text (Faulty faults) is
