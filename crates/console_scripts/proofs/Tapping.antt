-- Sets of symbols, characters and codes to which more are added, and what they are in the end: all that can be tapped
-- or typed, or that a tap gives.
use Rattle.std.proofs.Common.{rules}
use Rattle.console_scripts.proofs.Common.{◌≡◌, ◌⊎◌, ◌<◌, ◌+◌, ◌++◌, ◌∷◌, [], ℕ, Bool, true, false, List, Some, inl, inr}
use Rattle.console_scripts.proofs.Common.{slice_get, subst, sym, ◌∙◌, ap, cases_Bool, true≢false, Contains, arith}
use Rattle.console_scripts.proofs.Common.{same_Some, refl, length, take, take_more, get_or, Act, Action, Cell, Meta}
use Rattle.console_scripts.proofs.Common.{Move, None, MapValue, Symbol, State, alone, state_after, key_count, is_held}
use Rattle.console_scripts.proofs.Common.{look_in, look_selected, selection_of, IsIdle, IsPath, ComesHome, CanType}
use Rattle.console_scripts.proofs.Common.{ReachesMoreThan, state_limit, accent_at, one_map, Contains-push_cases}
use Rattle.console_scripts.proofs.Common.{Contains-append_left, Contains-push, cell_of, composed_of, usable}
use Rattle.keymap_core.specs.declared.action.Action.TheVariants as act
use Rattle.std.specs.Prelude.{◌↔◌}
use Rattle.console_scripts.specs.declared.typed.Tapped.{Tapped}
use Rattle.std.specs.BTreeSet.{BTreeSet, contains, Updates}
use Rattle.std.proofs.lemmas.Cmp.{nat_cmp_total}
use Rattle.std.specs.Ordering.{nat_cmp}
use Rattle.std.proofs.lemmas.Map.Lookups.{exact_unsigned}
use Rattle.std.proofs.lemmas.Map.Views.{tells_apart, btree_set_contains_iff}
use Rattle.keymap_core.specs.Accents.{AccentValue}
use Rattle.console_states.specs.Sights.{Lists}
use Rattle.console_scripts.proofs.Bases.{no-base, usable-below}
use Rattle.console_scripts.proofs.Marking.{gains-none, gains-same, gains-next, looked-place}
use Rattle.console_scripts.specs.Inner.Places.{ArePlaces, Gains, IsMarked, cell_of_place, gives_cell}
use Rattle.console_scripts.specs.Inner.Places.{place_count, place_in}
use Rattle.console_scripts.specs.Inner.Tapped.{AreMarkedSymbols, AreTapped, Composes, GivesAt, HasCharacter, HasCode}
use Rattle.console_scripts.specs.Inner.Tapped.{HasSymbol, IsComposed, TellsTyped}
use Rattle.console_scripts.specs.Typing.{AreGiven, is_giving}
use Rattle.console_scripts.specs.declared.explored.Symbol.TheVariants as symbol

-- ---- characters

pub gains-insert : (s n : BTreeSet ℕ) (k : ℕ) → Updates nat_cmp s n k true
    → Gains (HasCharacter s) (HasCharacter n) (λ x. x ≡ k)
gains-insert s n k (at, here, others, kept) x =
    search (rules, cases_Bool, tells_apart, exact_unsigned)

-- the same of a set with the same keys
pub gains-from : (s n set : BTreeSet ℕ) (P : ℕ → Type 0) → n.keys ≡ s.keys
    → Gains (HasCharacter n) (HasCharacter set) P
    → Gains (HasCharacter s) (HasCharacter set) P
gains-from s n set P e more x = search rules

-- ---- symbols

pub gains-character : (s n d : BTreeSet ℕ) (c : ℕ) → Updates nat_cmp s n c true
    → Gains (HasSymbol (record { characters = s; dead_keys = d }))
    (HasSymbol (record { characters = n; dead_keys = d }))
    (λ x. x ≡ symbol.Character c)
gains-character s n d c up (symbol.Character b) = search (rules, gains-same, gains-insert)
gains-character s n d c up (symbol.DeadKey i) = search rules

pub gains-dead : (s n d : BTreeSet ℕ) (i : ℕ) → Updates nat_cmp s n i true
    → Gains (HasSymbol (record { characters = d; dead_keys = s }))
    (HasSymbol (record { characters = d; dead_keys = n }))
    (λ x. x ≡ symbol.DeadKey i)
gains-dead s n d i up (symbol.Character c) = search rules
gains-dead s n d i up (symbol.DeadKey j) = search (rules, gains-same, gains-insert)

-- ---- what stands at marked places

-- what a key looks up in a state is what is selected
looks-selected : (m : MapValue) (s : State) (k : ℕ) → look_in (alone m) s k ≡ look_selected m (selection_of s) k
looks-selected m s k = ap (λ n. look_selected n (selection_of s) k) (one_map m s.is_second)

gives-symbol : (x : Symbol) → gives_cell (cell_of x) ≡ true
gives-symbol (symbol.Character c) = refl
gives-symbol (symbol.DeadKey i) = refl

-- a marked place has the cell
abbrev HasMarked : MapValue → List Bool → Cell → Type 0
HasMarked m marks x = (p : ℕ) × (p < place_count) × IsMarked marks p × (cell_of_place m p ≡ x)

-- moves from the start lead to where a tap of some key looks up the cell, and more of them lead home
abbrev CanTapCell : MapValue → Bool → Cell → Type 0
CanTapCell m plain x =
    (path : List Move) × IsPath (alone m) path × ComesHome (alone m) (state_after (alone m) path)
    × ((k : ℕ) × ((k < key_count) × IsIdle (state_after (alone m) path) k
    × (look_in (alone m) (state_after (alone m) path) k ≡ x)
    × (plain ≡ true → is_held (state_after (alone m) path) Meta ≡ false)))

-- what stands at places that taps look up can be tapped, and is all that can if the places are
marked-cells : (m : MapValue) (plain complete : Bool) (marks : List Bool) → ArePlaces m plain complete marks
    → (x : Cell) → gives_cell x ≡ true
    → (HasMarked m marks x → CanTapCell m plain x) × (complete ≡ true → CanTapCell m plain x → HasMarked m marks x)
marked-cells m plain complete marks are x gives = (
  (λ (p, lt, marked, at).
      let (path, is, comes, (k, (below, idle, (place, shows), off))) = (are p).0 marked in
      let s : State = state_after (alone m) path in
      let looks =
      looks-selected m s k ∙ sym (looked-place m (selection_of s) k below).1 ∙ ap (λ z. cell_of_place m z) place
      ∙ at in
      (path, is, comes, (k, (below, idle, looks, off)))),
  λ done (path, is, comes, (k, (below, idle, looks, off))).
      let s : State = state_after (alone m) path in
      let seen : look_selected m (selection_of s) k ≡ x = sym (looks-selected m s k) ∙ looks in
      let p = place_in m (selection_of s) k in
      let (lt, at) = looked-place m (selection_of s) k below in
      (p, lt, (are p).1 done (path, is, comes, (k, (below, idle, (refl, ap gives_cell seen ∙ gives), off))), at ∙ seen),
)

-- so are the symbols there
pub marked-tapped : (m : MapValue) (plain complete : Bool) (marks : List Bool) (t : Tapped)
    → ArePlaces m plain complete marks → AreMarkedSymbols m marks t
    → AreTapped m plain complete t
marked-tapped m plain complete marks t are symbols x =
    let cells = marked-cells m plain complete marks are (cell_of x) (gives-symbol x) in (
      (λ has. let (p, lt, (marked, at)) = (symbols x).0 has in cells.0 (p, lt, marked, at)),
      λ done can. let (p, lt, marked, at) = cells.1 done can in (symbols x).1 (p, lt, (marked, at)),
    )

gives-action : (m : MapValue) (a : Action) → is_giving m a ≡ true → gives_cell (Act a) ≡ true
gives-action m act.Nop is = absurd (true≢false (sym is))
gives-action m (act.Mod i) is = absurd (true≢false (sym is))
gives-action m (act.Lock l) is = absurd (true≢false (sym is))
gives-action m _ is = refl

-- the codes at the places that taps look up are those of the actions that a tap gives
pub marked-given : (m : MapValue) (marks given : List Bool) → ArePlaces m false true marks
    → ((c : ℕ) → HasCode given c ↔ ((p : ℕ) × (p < place_count) × GivesAt m marks p c))
    → AreGiven m given
marked-given m marks given are codes c = (
  (λ has.
      let (p, lt, (marked, (a, at, known, giving, code))) = (codes c).0 has in
      let (path, is, comes, (k, (below, idle, looks, off))) = (cells a giving).0 (p, lt, marked, at) in
      (a, known, code, (giving, (path, is, comes, (k, below, idle, looks))))),
  λ (a, known, code, (giving, (path, is, comes, (k, below, idle, looks)))).
      let off : false ≡ true → is_held (state_after (alone m) path) Meta ≡ false =
      λ no. absurd (true≢false (sym no)) in
      let (p, lt, marked, at) = (cells a giving).1 refl (path, is, comes, (k, (below, idle, looks, off))) in
      (codes c).1 (p, lt, (marked, (a, at, known, giving, code))),
)
  where
    cells : (a : Action) → is_giving m a ≡ true
        → (HasMarked m marks (Act a) → CanTapCell m false (Act a))
        × (true ≡ true → CanTapCell m false (Act a) → HasMarked m marks (Act a))
    cells a giving = marked-cells m false true marks are (Act a) (gives-action m a giving)

-- ---- what an accent makes

-- all that are typed while an accent is pending are what the bases of its pairs, the blank and its dead key type
abbrev MadeBy : MapValue → Tapped → ℕ → AccentValue → ℕ → Type 0
MadeBy m t i a c =
    (((p : ℕ × ℕ) × Contains a.pairs p × Composes m t i c (symbol.Character p.0))
    ⊎ Composes m t i c (symbol.Character 32)) ⊎ Composes m t i c (symbol.DeadKey i)

some-base : (m : MapValue) (t : Tapped) (i : ℕ) (a : AccentValue) (c : ℕ) → MadeBy m t i a c
    → (x : Symbol) × Composes m t i c x
some-base m t i a c (inl (inl (p, has, made))) = (symbol.Character p.0, made)
some-base m t i a c (inl (inr made)) = (symbol.Character 32, made)
some-base m t i a c (inr made) = (symbol.DeadKey i, made)

pub all-bases : (m : MapValue) (t plain : Tapped) (i : ℕ) (a : AccentValue) (old set : BTreeSet ℕ)
    → accent_at m i ≡ Some a → usable m i ≡ true → HasSymbol t (symbol.DeadKey i)
    → Gains (HasCharacter old) (HasCharacter set) (MadeBy m plain i a)
    → Gains (HasCharacter old) (HasCharacter set) (λ c. (x : Symbol) × IsComposed m t plain i c x)
all-bases m t plain i a old set is can_use dead more c = (
  (λ has. elim ((more c).0 has) [
    | inl before ↦ inl before
    | inr made ↦ let (x, base) = some-base m plain i a c made in inr (x, (can_use, dead, base))
  ]),
  λ s. elim s [
    | inl before ↦ (more c).1 (inl before)
    | inr base ↦ elim (cases_Bool (contains nat_cmp set c)) [
      | inl has ↦ has
      | inr other ↦
          let (x, (can, there, made)) = base in
          let lacks : MadeBy m plain i a c → ⊥ = λ by. true≢false (sym ((more c).1 (inr by)) ∙ other) in
          absurd (no-base m (HasSymbol plain) i c a is (λ p has by. lacks (inl (inl (p, has, by))))
          (λ by. lacks (inl (inr by))) (λ by. lacks (inr by)) x made)
    ]
  ],
)

-- no accent at all, and no further one
abbrev pub MadeBelow : MapValue → Tapped → Tapped → ℕ → ℕ → Type 0
MadeBelow m t plain n c = (i : ℕ) × (i < n) × ((x : Symbol) × IsComposed m t plain i c x)

pub accents-none : (m : MapValue) (t plain : Tapped) (old : BTreeSet ℕ)
    → Gains (HasCharacter old) (HasCharacter old) (MadeBelow m t plain 0)
accents-none m t plain old =
    gains-none (HasCharacter old) (MadeBelow m t plain 0) (λ c made. let lt = made.1 in omega (arith, lt))

pub accents-all : (m : MapValue) (t plain : Tapped) (n : ℕ) (old set : BTreeSet ℕ) → slice_get m.accents n ≡ None
    → Gains (HasCharacter old) (HasCharacter set) (MadeBelow m t plain n)
    → Gains (HasCharacter old) (HasCharacter set) (λ c. (i : ℕ) × (x : Symbol) × IsComposed m t plain i c x)
accents-all m t plain n old set end more = search (rules, gains-same, usable-below)

-- what a tap of the symbol makes
pub made-none : (m : MapValue) (t : Tapped) (i : ℕ) (x : Symbol) (old : BTreeSet ℕ)
    → ((c : ℕ) → Composes m t i c x → ⊥)
    → Gains (HasCharacter old) (HasCharacter old) (λ c. Composes m t i c x)
made-none m t i x old none = gains-none (HasCharacter old) (λ c. Composes m t i c x) none

pub made-one : (m : MapValue) (t : Tapped) (i : ℕ) (x : Symbol) (made : ℕ) (old set : BTreeSet ℕ)
    → composed_of m i x ≡ Some made → HasSymbol t x → Updates nat_cmp old set made true
    → Gains (HasCharacter old) (HasCharacter set) (λ c. Composes m t i c x)
made-one m t i x made old set is has up = search (rules, gains-same, same_Some, gains-insert)

-- one more pair
abbrev pub MadeByPairs : MapValue → Tapped → ℕ → List (ℕ × ℕ) → ℕ → Type 0
MadeByPairs m t i pairs c = (p : ℕ × ℕ) × Contains pairs p × Composes m t i c (symbol.Character p.0)

pub pairs-more : (m : MapValue) (t : Tapped) (i n : ℕ) (pairs : List (ℕ × ℕ)) (old mid set : BTreeSet ℕ)
    → n < length pairs → Gains (HasCharacter old) (HasCharacter mid) (MadeByPairs m t i (take n pairs))
    → Gains (HasCharacter mid) (HasCharacter set)
    (λ c. Composes m t i c (symbol.Character (get_or pairs n (0, 0)).0))
    → Gains (HasCharacter old) (HasCharacter set) (MadeByPairs m t i (take (n + 1) pairs))
pairs-more m t i n pairs old mid set lt first next =
    gains-same (HasCharacter old) (HasCharacter set)
    (λ c. MadeByPairs m t i (take n pairs) c ⊎ Composes m t i c (symbol.Character (get_or pairs n (0, 0)).0))
    (MadeByPairs m t i (take (n + 1) pairs)) both
    (gains-next (HasCharacter old) (HasCharacter mid) (HasCharacter set) (MadeByPairs m t i (take n pairs))
    (λ c. Composes m t i c (symbol.Character (get_or pairs n (0, 0)).0)) first next)
  where
    longer : take (n + 1) pairs ≡ take n pairs ++ get_or pairs n (0, 0) ∷ []
    longer = take_more pairs n (0, 0) lt

    more : (c : ℕ) → MadeByPairs m t i (take n pairs) c ⊎ Composes m t i c (symbol.Character (get_or pairs n (0, 0)).0)
        → MadeByPairs m t i (take (n + 1) pairs) c
    more c (inl (p, has, made)) = (
      p,
      subst (λ z. Contains z p) (sym longer)
          (Contains-append_left (take n pairs) (get_or pairs n (0, 0) ∷ []) p has),
      made,
    )
    more c (inr made) = (
      get_or pairs n (0, 0),
      subst (λ z. Contains z (get_or pairs n (0, 0))) (sym longer)
          (Contains-push (take n pairs) (get_or pairs n (0, 0))),
      made,
    )

    less : (c : ℕ) → MadeByPairs m t i (take (n + 1) pairs) c
        → MadeByPairs m t i (take n pairs) c ⊎ Composes m t i c (symbol.Character (get_or pairs n (0, 0)).0)
    less c (p, has, made) =
        elim (Contains-push_cases (take n pairs) (get_or pairs n (0, 0)) p (subst (λ z. Contains z p) longer has)) [
          | inl before ↦ inl (p, before, made)
          | inr f ↦ inr (subst (λ (q : ℕ × ℕ). Composes m t i c (symbol.Character q.0)) (sym f) made)
        ]

    both : (c : ℕ)
        → (MadeByPairs m t i (take n pairs) c ⊎ Composes m t i c (symbol.Character (get_or pairs n (0, 0)).0))
        ↔ MadeByPairs m t i (take (n + 1) pairs) c
    both c = (more c, less c)

pub pairs-none : (m : MapValue) (t : Tapped) (i : ℕ) (pairs : List (ℕ × ℕ)) (old : BTreeSet ℕ)
    → Gains (HasCharacter old) (HasCharacter old) (MadeByPairs m t i (take 0 pairs))
pairs-none m t i pairs old = search (rules, gains-none)

-- ---- all that are typed

-- those that can be tapped plainly, and those behind a dead key, are what keys can type
pub all-typed : (m : MapValue) (complete : Bool) (t plain : Tapped) (set : BTreeSet ℕ) → AreTapped m false complete t
    → AreTapped m true complete plain
    → Gains (HasCharacter plain.characters) (HasCharacter set)
    (λ c. (i : ℕ) × (x : Symbol) × IsComposed m t plain i c x)
    → (complete ≡ false → (p : ℕ) × ReachesMoreThan (alone m) state_limit p)
    → TellsTyped m complete set
all-typed m complete t plain set are are_plain more many = record {
  found = λ c. ((λ has. types c ((more c).0 has)), λ done can. (more c).1 (found done c can));
  many = many;
}
  where
    found : complete ≡ true → (c : ℕ) → CanType m c
        → HasCharacter plain.characters c ⊎ ((i : ℕ) × (x : Symbol) × IsComposed m t plain i c x)
    found done c (inl can) = inl ((are_plain (symbol.Character c)).1 done can)
    found done c (inr (i, x, can_use, made, dead, tap)) =
        inr (i, x, (can_use, (are (symbol.DeadKey i)).1 done dead, (made, (are_plain x).1 done tap)))

    types : (c : ℕ) → HasCharacter plain.characters c ⊎ ((i : ℕ) × (x : Symbol) × IsComposed m t plain i c x)
        → CanType m c
    types c (inl has) = inl ((are_plain (symbol.Character c)).0 has)
    types c (inr (i, x, (can_use, dead, (made, tap)))) =
        inr (i, x, can_use, made, (are (symbol.DeadKey i)).0 dead, (are_plain x).0 tap)

-- where they are complete, the set is their list
pub lists-typed : (m : MapValue) (set : BTreeSet ℕ) → TellsTyped m true set → Lists (CanType m) set.keys
lists-typed m set tells = record {
  all = λ c can. (btree_set_contains_iff nat_cmp_total exact_unsigned set c).0 ((tells.found c).1 refl can);
  only = λ c has. (tells.found c).0 ((btree_set_contains_iff nat_cmp_total exact_unsigned set c).1 has);
}
