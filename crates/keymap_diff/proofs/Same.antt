-- Nothing differs exactly if the keymaps are the same.
use Rattle.std.proofs.Common.{◌≡◌, ℕ, ◌<◌, ◌==◌, ◌&&◌, inl, inr, Bool, true, false, List, [], ◌∷◌, Option, Some, None}
use Rattle.std.proofs.Common.{length, refl, ap, subst, sym, ◌∙◌, arith, rules}
use Rattle.std.proofs.lemmas.Bool.{eqb-true, eq-eqb, true≢false}
use Rattle.std.proofs.lemmas.List.{ext_get_or}
use Rattle.std.specs.Bool.{Decides}
use Rattle.std.specs.Cmp.Lexicographic.{pointwise, pointwise_decides}
use Rattle.keymap_core.specs.contracts.action.ActionPartialEq.TheImpl as action
use Rattle.keymap_core.specs.contracts.entry.CellPartialEq.TheImpl as cell
use Rattle.keymap_core.specs.contracts.entry.LockFlagPartialEq.TheImpl as flag
use Rattle.keymap_core.specs.Accents.{blank}
use Rattle.keymap_core.specs.Bounds.{IsMap}
use Rattle.keymap_core.specs.Maps.{MapValue, n_keys_of, n_accs_of, entry_at, cell_at, accent_or_blank, undefined}
use Rattle.keymap_core.specs.declared.action.Action.{Action}
use Rattle.keymap_core.specs.declared.entry.Cell.{Cell as CellValue}
use Rattle.keymap_core.specs.declared.entry.Cell.TheVariants.{Act, Char}
use Rattle.keymap_diff.specs.Changes.{AreChanges, IsChange, IsMark, NothingIfSame, MeetsCell, MeetsDeadKey}
use Rattle.keymap_diff.specs.Changes.{MeetsLetters, MeetsPair, pairs_of, result_at, HaveSameResults}
use Rattle.keymap_diff.specs.Types.{Change, Slots, Cell, Letter, Accents, Accent, Pair, ListedOtherwise, LockFlag}

-- what can't be false is so, where a test decides it
pub stable : (P : Type 0) (b : Bool) → Decides b P → ((P → ⊥) → ⊥) → P
stable P true d not_not = d.0 refl
stable P false d not_not = absurd (not_not (λ p. true≢false (sym (d.1 p))))

-- `==` decides whether two actions are the same, two cells and two letters
pub action-same : (a b : Action) → Decides (action.eq-value.it a b) (a ≡ b)
action-same a b = search rules

pub cell-same : (a b : CellValue) → Decides (cell.eq-value.it a b) (a ≡ b)
cell-same (Char c) (Char d) = (λ e. ap (λ z. Char z) (eqb-true c d e), λ e. eq-eqb c d (cc))
cell-same (Act a) (Act b) = let d = action-same a b in (λ e. ap (λ z. Act z) (d.0 e), λ e. d.1 (cc))
cell-same a b = (λ e. absurd (true≢false (sym e)), λ e. cc)

pub flag-same : (a b : LockFlag) → Decides (flag.eq-value.it a b) (a ≡ b)
flag-same a b = search rules

abbrev is_same_pair : ℕ × ℕ → ℕ × ℕ → Bool
is_same_pair a b = (a.0 == b.0) && (a.1 == b.1)

pair-same : (a b : ℕ × ℕ) → Decides (is_same_pair a b) (a ≡ b)
pair-same a b = search rules

number-same : (a b : ℕ) → Decides (a == b) (a ≡ b)
number-same a b = (eqb-true a b, eq-eqb a b)

-- the test of the pairs of two accents
pub same_pairs : (ps qs : List (ℕ × ℕ)) (t : Bool) → t ≡ pointwise is_same_pair ps qs → t ≡ true → ps ≡ qs
same_pairs ps qs t e f = (pointwise_decides pair-same ps qs).0 (sym e ∙ f)

pub other_pairs : (ps qs : List (ℕ × ℕ)) (t : Bool) → t ≡ pointwise is_same_pair ps qs → t ≡ false → ps ≡ qs → ⊥
other_pairs ps qs t e f same = true≢false (sym ((pointwise_decides pair-same ps qs).1 same) ∙ sym e ∙ f)

result-stable : (a b : Option ℕ) → ((a ≡ b → ⊥) → ⊥) → a ≡ b
result-stable None None not_not = refl
result-stable None (Some y) not_not = absurd (not_not (λ e. cc))
result-stable (Some x) None not_not = absurd (not_not (λ e. cc))
result-stable (Some x) (Some y) not_not = search (rules, stable, number-same)

-- one of the marks is right
marked : (known : Bool) (m n : MapValue) (Meets : MapValue → Type 0) → ((u : Bool) → IsMark known m n Meets u → ⊥)
    → ⊥
marked false m n Meets none = none false refl
marked true m n Meets none = none true ((λ is. none false (inl is)), (λ is. none false (inr is)))

-- ---- where nothing differs

-- each cell and letter
entries-same : (known : Bool) (m n : MapValue) → IsMap m → IsMap n → ((x : Change) → IsChange known m n x → ⊥)
    → m.entries ≡ n.entries
entries-same known m n bounds also none = ext_get_or undefined m.entries n.entries slots entry
  where
    slots : length m.entries ≡ length n.entries
    slots =
        stable (n_keys_of m ≡ n_keys_of n) (n_keys_of m == n_keys_of n) (number-same (n_keys_of m) (n_keys_of n))
        (λ ne. none (Slots (n_keys_of m) (n_keys_of n)) (refl, refl, ne))

    cell-at : (s c : ℕ) → s < 256 → c < 8 → cell_at m s c ≡ cell_at n s c
    cell-at s c few eight =
        stable (cell_at m s c ≡ cell_at n s c) (cell.eq-value.it (cell_at m s c) (cell_at n s c))
        (cell-same (cell_at m s c) (cell_at n s c))
        (λ ne. marked known m n (MeetsCell s c)
        (λ u mark. none (Cell s c (cell_at m s c) (cell_at n s c) u) (few, eight, refl, refl, ne, mark)))

    letter-at : (s : ℕ) → s < 256 → (entry_at m s).flag ≡ (entry_at n s).flag
    letter-at s few =
        let f = (entry_at m s).flag in
        let g = (entry_at n s).flag in
        stable (f ≡ g) (flag.eq-value.it f g) (flag-same f g)
        (λ ne. marked known m n (MeetsLetters s f g) (λ u mark. none (Letter s f g u) (few, refl, refl, ne, mark)))

    entry : (k : ℕ) → k < length m.entries → entry_at m k ≡ entry_at n k
    entry k lt =
        let few = bounds.few_entries in
        let small : k < 256 = omega (arith, lt, few) in
        let eight = (bounds.entries k undefined lt).eight in
        let other = (also.entries k undefined (omega (arith, lt, slots))).eight in
        let cells =
        ext_get_or (Char 0) (entry_at m k).cells (entry_at n k).cells (eight ∙ sym other)
        (λ c below. cell-at k c small (omega (arith, below, eight))) in
        let letters = letter-at k small in
        λ i. record { cells = cells i; flag = letters i }

-- each accent
accents-same : (known : Bool) (m n : MapValue) → IsMap m → IsMap n → ((x : Change) → IsChange known m n x → ⊥)
    → m.accents ≡ n.accents
accents-same known m n bounds also none = ext_get_or blank m.accents n.accents count accent-at
  where
    count : length m.accents ≡ length n.accents
    count =
        stable (n_accs_of m ≡ n_accs_of n) (n_accs_of m == n_accs_of n) (number-same (n_accs_of m) (n_accs_of n))
        (λ ne. none (Accents (n_accs_of m) (n_accs_of n)) (refl, refl, ne))

    own-at : (i : ℕ) → i < 15 → (accent_or_blank m i).own ≡ (accent_or_blank n i).own
    own-at i few =
        let a = (accent_or_blank m i).own in
        let b = (accent_or_blank n i).own in
        stable (a ≡ b) (a == b) (number-same a b)
        (λ ne. marked known m n (MeetsDeadKey i) (λ u mark. none (Accent i a b u) (few, refl, refl, ne, mark)))

    results-at : (i : ℕ) → i < 15 → HaveSameResults (pairs_of m i) (pairs_of n i)
    results-at i few base =
        result-stable (result_at m i base) (result_at n i base)
        (λ ne. marked known m n (MeetsPair i base)
        (λ u mark. none (Pair i base (result_at m i base) (result_at n i base) u) (few, refl, refl, ne, mark)))

    accent-at : (k : ℕ) → k < length m.accents → accent_or_blank m k ≡ accent_or_blank n k
    accent-at k lt =
        let few = bounds.few_accents in
        let small : k < 15 = omega (arith, lt, few) in
        let own = own-at k small in
        let pairs =
        stable (pairs_of m k ≡ pairs_of n k) (pointwise is_same_pair (pairs_of m k) (pairs_of n k))
        (pointwise_decides pair-same (pairs_of m k) (pairs_of n k))
        (λ ne. none (ListedOtherwise k) (small, results-at k small, ne)) in
        λ i. record { own = own i; pairs = pairs i }

-- ---- where the keymaps are the same

none-same : (known : Bool) (m : MapValue) (x : Change) → IsChange known m m x → ⊥
none-same known m (Slots a b) is = is.2 (sym is.0 ∙ is.1)
none-same known m (Cell s c a b u) is = is.4 (sym is.2 ∙ is.3)
none-same known m (Letter s a b u) is = is.3 (sym is.1 ∙ is.2)
none-same known m (Accents a b) is = is.2 (sym is.0 ∙ is.1)
none-same known m (Accent i a b u) is = is.3 (sym is.1 ∙ is.2)
none-same known m (Pair i c a b u) is = is.3 (sym is.1 ∙ is.2)
none-same known m (ListedOtherwise i) is = is.2 refl

pub nothing_if_same : NothingIfSame
nothing_if_same m n found bounds also (known, reason, are) = ((λ e. same (none e)), nothing found are)
  where
    none : found ≡ [] → (x : Change) → IsChange known m n x → ⊥
    none e x is = search rules

    same : ((x : Change) → IsChange known m n x → ⊥) → m ≡ n
    same nothing_differs =
        let entries = entries-same known m n bounds also nothing_differs in
        let accents = accents-same known m n bounds also nothing_differs in
        λ i. record { entries = entries i; accents = accents i }

    nothing : (xs : List Change) → AreChanges known m n xs → m ≡ n → xs ≡ []
    nothing [] is e = refl
    nothing (x ∷ xs) is e =
        absurd (none-same known m x (subst (λ z. IsChange known m z x) (sym e) (is.each.only x (0, omega arith, refl))))
