-- The searches of two texts with the same tokens answer the same, so the diagnostics are the same but for places.
use Rattle.std.proofs.Common.{rules}
use Rattle.keymap_lint.proofs.Common.{◌≡◌, ℕ, ◌+◌, ◌<◌, ◌≤◌, Bool, true, false, List, [], ◌∷◌, length, refl, sym}
use Rattle.keymap_lint.proofs.Common.{◌∙◌, ap, subst, arith, cond, true≢false, Option, Some, None, MapValue}
use Prim.Native.Nat.{suc}
use Rattle.std.proofs.Common.{inl, inr, All, count_by}
use Rattle.std.specs.Prelude.{Contains}
use Rattle.std.specs.List.{filter}
use Rattle.std.specs.List.Sorted.{IsStrictlyIncreasing}
use Rattle.std.proofs.lemmas.Bool.{cases_eq}
use Rattle.std.proofs.lemmas.Bool.Decides.{nat_tests}
use Rattle.std.proofs.lemmas.List.Elements.{All-cons, All-contains, All-nil, All-weaker}
use Rattle.std.proofs.lemmas.List.Kept.{IsStrictlyIncreasing-filter}
use Rattle.std.proofs.lemmas.List.Sums.{length-filter}
use Rattle.std.proofs.lemmas.Map.Made.{Contains-tail}
use Rattle.console_core.specs.declared.event.Event.{Event}
use Rattle.console_core.specs.History.{HasNoLoads}
use Rattle.console_states.specs.Moves.{alone}
use Rattle.console_states.specs.Sticking.{IsAnswer, IsSent, LeavesOn, NeverSticks}
use Rattle.console_states.specs.declared.outcome.Sticking.TheVariants.{Sticks, Never, Undecided}
use Rattle.console_scripts.specs.Typing.{CanType}
use Rattle.keymap_check.specs.Findings.{AreFindings}
use Rattle.keymap_lint.specs.Types.{Finding, Sticking}
use Rattle.keymap_lint.specs.Lists.{IsSearched}
use Rattle.keymap_lint.specs.Same.{IsSameToken, Pairwise, SameTokensSameAnswers, SameTokensSameDiagnostics, no_pair}
use Rattle.keymap_lint.specs.Severities.{never_sticks}
use Rattle.keymap_lint.specs.Typed.{AreTold, AreToldOfFew, AreUntyped, LacksLetters, has_most_letters, is_letter, is_seen}
use Rattle.keymap_lint.proofs.OneFindings.{one_list_of_findings}
use Rattle.keymap_lint.proofs.SameTexts.{in_order, one_map_of_both, same_diagnostics, same_token_begins}
use Rattle.keymap_lint.proofs.SameKept.{IsSameDirective}
use Rattle.keymap_lint.proofs.Told.{no_directives}
use Rattle.keymap_lint.specs.declared.directives.Directive.{Directive}
use Rattle.keymap_lint.specs.Lists.{spelled_by}
use Rattle.keymap_lint.proofs.Untyped.{rising_tail}

-- ---- lists in ascending order

behind : (x : ℕ) (xs : List ℕ) → IsStrictlyIncreasing (x ∷ xs) → All (λ c. x < c) xs
behind x [] rise = All-nil (λ c. x < c)
behind x (y ∷ ys) rise =
    let first : x < y = rise 0 (omega arith) in
    All-cons (λ c. x < c) y ys first
    (All-weaker (λ c. y < c) (λ c. x < c) (λ c l. omega (arith, first, l)) ys
    (behind y ys (rising_tail x (y ∷ ys) rise)))

-- the first is the least
least : (x : ℕ) (xs : List ℕ) (c : ℕ) → IsStrictlyIncreasing (x ∷ xs) → Contains (x ∷ xs) c → x ≤ c
least x xs c rise has = elim (cases_eq x c) [
  | inl same ↦ omega (arith, same)
  | inr other ↦
      let l : x < c = All-contains (λ c. x < c) xs c (behind x xs rise) (Contains-tail x xs c other has) in
      omega (arith, l)
]

head_there : (x : ℕ) (xs : List ℕ) → Contains (x ∷ xs) x
head_there x xs = (0, omega arith, refl)

tail_there : (x : ℕ) (xs : List ℕ) (c : ℕ) → Contains xs c → Contains (x ∷ xs) c
tail_there x xs c (k, few, is) = (suc k, omega (arith, few), is)

-- what stands behind the first of one list stands behind that of another
later : (x y : ℕ) (xs ys : List ℕ) → IsStrictlyIncreasing (x ∷ xs) → y ≤ x
    → ((c : ℕ) → Contains (x ∷ xs) c → Contains (y ∷ ys) c) → (c : ℕ) → Contains xs c → Contains ys c
later x y xs ys rise low among c has =
    let l : x < c = All-contains (λ c. x < c) xs c (behind x xs rise) has in
    Contains-tail y ys c (λ e. absurd (omega (arith, low, l, e))) (among c (tail_there x xs c has))

one_list : (xs ys : List ℕ) → IsStrictlyIncreasing xs → IsStrictlyIncreasing ys
    → ((c : ℕ) → Contains xs c → Contains ys c) → ((c : ℕ) → Contains ys c → Contains xs c) → xs ≡ ys
one_list [] [] rise up among back = refl
one_list [] (y ∷ ys) rise up among back = absurd (omega (arith, (back y (head_there y ys)).1))
one_list (x ∷ xs) [] rise up among back = absurd (omega (arith, (among x (head_there x xs)).1))
one_list (x ∷ xs) (y ∷ ys) rise up among back =
    let low : y ≤ x = least y ys x up (among x (head_there x xs)) in
    let high : x ≤ y = least x xs y rise (back y (head_there y ys)) in
    let same : x ≡ y = omega (arith, low, high) in
    let rest = one_list xs ys (rising_tail x xs rise) (rising_tail y ys up) (later x y xs ys rise low among)
    (later y x ys xs up high back) in
    λ i. same i ∷ rest i

-- no more stand in a list than in one that has them all
fewer : (xs ys : List ℕ) → IsStrictlyIncreasing xs → IsStrictlyIncreasing ys
    → ((c : ℕ) → Contains xs c → Contains ys c) → length xs ≤ length ys
fewer [] ys rise up among = omega arith
fewer (x ∷ xs) [] rise up among = absurd (omega (arith, (among x (head_there x xs)).1))
fewer (x ∷ xs) (y ∷ ys) rise up among =
    let low : y ≤ x = least y ys x up (among x (head_there x xs)) in
    let rest = fewer xs ys (rising_tail x xs rise) (rising_tail y ys up) (later x y xs ys rise low among) in
    omega (arith, rest)

-- ---- what no keys type

-- of these characters most letters have keys, so not many letters have none
not_lacking : (m : MapValue) (cs : List ℕ) → AreUntyped m cs → has_most_letters cs ≡ true → LacksLetters m → ⊥
not_lacking m cs are most lacks =
    let few : length lacks.letters ≤ length (filter is_letter cs) =
    fewer lacks.letters (filter is_letter cs) lacks.ascending (IsStrictlyIncreasing-filter is_letter cs are.ascending)
    (λ c has. let one = All-contains IsOne lacks.letters c lacks.untyped has in
    kept cs c one.0 ((are.exactly c).1 (seen c one.0, one.1))) in
    let most : count_by is_letter cs ≤ 12 = grind (arith, nat_tests, most) in
    omega (arith, lacks.many, few, length-filter is_letter cs, most)
  where
    IsOne : ℕ → Type 0
    IsOne c = (is_letter c ≡ true) × (CanType m c → ⊥)

    seen : (c : ℕ) → is_letter c ≡ true → is_seen c ≡ true
    seen c e = grind (arith, nat_tests, e)

    kept : (cs : List ℕ) (c : ℕ) → is_letter c ≡ true → Contains cs c → Contains (filter is_letter cs) c
    kept [] c e has = absurd (omega (arith, has.1))
    kept (x ∷ xs) c e has = elim (cases_eq x c) [
      | inl same ↦
          subst (Contains (filter is_letter (x ∷ xs))) same (here (is_letter x) (ap is_letter same ∙ e))
      | inr other ↦ there (is_letter x) (kept xs c e (Contains-tail x xs c other has))
    ]
      where
        here : (b : Bool) → b ≡ true → Contains (cond b (x ∷ filter is_letter xs) (filter is_letter xs)) x
        here true f = head_there x (filter is_letter xs)
        here false f = absurd (true≢false (sym f))

        there : (b : Bool) → Contains (filter is_letter xs) c
            → Contains (cond b (x ∷ filter is_letter xs) (filter is_letter xs)) c
        there true more = tail_there x (filter is_letter xs) c more
        there false more = more

one_of_few : (m : MapValue) (cs ds : List ℕ) → AreToldOfFew m cs → AreToldOfFew m ds → cs ≡ ds
one_of_few m cs ds (inl (are, most)) (inl (its, also)) =
    one_list cs ds are.ascending its.ascending (λ c has. (its.exactly c).1 ((are.exactly c).0 has))
    (λ c has. (are.exactly c).1 ((its.exactly c).0 has))
one_of_few m cs ds (inr (none, lacks)) (inr (neither, also)) = none ∙ sym neither
one_of_few m cs ds (inl (are, most)) (inr (none, lacks)) = absurd (not_lacking m cs are most lacks)
one_of_few m cs ds (inr (none, lacks)) (inl (are, most)) = absurd (not_lacking m ds are most lacks)

one_told : (m : MapValue) (cs ds : List ℕ) → AreTold m cs → AreTold m ds → cs ≡ ds
one_told m cs ds (inl (are, beyond)) (inl (its, too)) = one_of_few m cs ds are its
one_told m cs ds (inl (are, beyond)) (inr (none, many)) = beyond many ∙ sym none
one_told m cs ds (inr (none, many)) (inl (are, beyond)) = none ∙ sym (beyond many)
one_told m cs ds (inr (none, many)) (inr (neither, more)) = none ∙ sym neither

-- ---- whether a modifier may stay on

no_loads : (h : List Event) → All (IsSent false) h → HasNoLoads h
no_loads h all = search (rules, All-weaker)

-- a modifier that sticks doesn't never do so
not_both : (m : MapValue) (h : List Event) → LeavesOn m h → NeverSticks m → ⊥
not_both m h (keys, sent, (i, (quiet, on))) never =
    let u = alone m in
    let off = (never u.maps h (refl, λ loads. refl) keys (λ e. no_loads h sent, λ later before k e. refl)).1 quiet i in
    true≢false (sym (on u.maps (refl, λ loads. refl)) ∙ off)

one_answer : (m : MapValue) (fs : List Finding) → (o p : Option Sticking) → IsSearched m fs o → IsSearched m fs p
    → never_sticks o ≡ never_sticks p
one_answer m fs None None is its = refl
one_answer m fs None (Some b) is its = absurd (omega (arith, is, its.0))
one_answer m fs (Some a) None is its = absurd (omega (arith, is.0, its))
one_answer m fs (Some a) (Some b) is its = go a b is.1 its.1
  where
    go : (a b : Sticking) → IsAnswer m a → IsAnswer m b → never_sticks (Some a) ≡ never_sticks (Some b)
    go Never Never is its = refl
    go (Sticks events on) (Sticks others off) is its = refl
    go (Sticks events on) (Undecided p) is its = refl
    go (Undecided p) (Sticks events on) is its = refl
    go (Undecided p) (Undecided q) is its = refl
    go (Sticks events on) Never is its = absurd (not_both m _ is.0 its.0)
    go Never (Sticks events on) is its = absurd (not_both m _ its.0 is.0)
    go Never (Undecided p) is its = absurd (is.1 p its.0)
    go (Undecided p) Never is its = absurd (its.1 p is.0)

pub same_tokens_same_answers : SameTokensSameAnswers
same_tokens_same_answers text other same l k (m, spells, (rows, by, (fs, are, is)))
    (n, spelled, (others, its, (gs, findings, of))) = record {
      untyped =
          one_told m l.untyped.items k.untyped.items is.untyped (subst (λ v. AreTold v k.untyped.items) one of.untyped);
      never =
          one_answer m fs l.sticking k.sticking is.sticking
          (subst (λ (x : MapValue × List Finding). IsSearched x.0 x.1 k.sticking) (λ i. (one i, lists i)) of.sticking);
    }
  where
    one : n ≡ m
    one = one_map_of_both text other m n same spells spelled

    lists : gs ≡ fs
    lists = one_list_of_findings m gs fs (subst (λ v. AreFindings v gs) one findings) are

-- ---- their diagnostics

pub same_tokens_same_diagnostics : SameTokensSameDiagnostics
same_tokens_same_diagnostics text other same none neither l k is of =
    same_diagnostics (IsSameToken text other) (in_order text other same) text other same
    (same_token_begins text other same) (λ m n rows others spells spelled by its.
    subst (λ (sides : List Directive × List Directive).
    Pairwise (IsSameDirective (IsSameToken text other) text other) sides.0 sides.1)
    (λ i. (
      sym (no_directives text (spelled_by text m rows) none) i,
      sym (no_directives other (spelled_by other n others) neither) i,
    )) no_pair) l k is of (same_tokens_same_answers text other same l k is of)
