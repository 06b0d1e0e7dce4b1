-- Where places of two texts are related in order, and tokens begin at related ones, directives at related ones are for
-- the same definitions.
use Rattle.std.proofs.Common.{rules}
use Rattle.keymap_lint.proofs.Common.{◌≡◌, ℕ, ◌+◌, ◌<◌, ◌≤◌, Bool, true, false, cond, List, [], ◌∷◌, length, refl, sym}
use Rattle.keymap_lint.proofs.Common.{◌∙◌, ap, subst, arith, Option, Some, None, Placed, Spelled, get_or}
use Rattle.keymap_lint.proofs.Common.{take}
use Rattle.std.proofs.Common.{◌-◌, drop, inl, inr, All, count_by, nat_le, nat_lt}
use Rattle.std.specs.Option.{option_to_list, unwrap_or}
use Rattle.keymap_core.specs.Below.{first_below}
use Rattle.std.proofs.lemmas.Bool.{cases_lt}
use Rattle.std.proofs.lemmas.Bool.Decides.{nat_tests}
use Rattle.std.proofs.lemmas.List.{get_or-drop, get_or-take, length-drop, length-take}
use Rattle.std.proofs.lemmas.List.Elements.{All-head, All-tail}
use Rattle.std.proofs.lemmas.List.Sums.{sum_by-cons}
use Rattle.keymap_lint.specs.Types.{Span}
use Rattle.keymap_lint.specs.Directives.{before_dashes, comment_at, definition_at, directive_at, directive_behind}
use Rattle.keymap_lint.specs.Directives.{directive_by, directive_saying, is_between, is_dashes, is_for_text, said_from}
use Rattle.keymap_lint.specs.Directives.{scope_by}
use Rattle.keymap_lint.specs.Directives.{next_definition, stands_at, target, tokens_before, verb, verb_end}
use Rattle.keymap_lint.specs.Same.{Pairwise, no_pair, one_pair}
use Rattle.keymap_lint.specs.Spelled.{bytes_at, offset_at}
use Rattle.keymap_lint.specs.declared.directives.Directive.{Directive}
use Rattle.keymap_lint.specs.declared.directives.Scope.TheVariants as scopes
use Rattle.keymap_lint.specs.declared.directives.Standing.{Standing}
use Rattle.keymap_lint.specs.declared.directives.Standing.TheVariants as standings
use Rattle.keymap_lint.proofs.Pairs.{pairs_at, pairs_length, pairs_one}
use Rattle.keymap_lint.proofs.SameKept.{IsSameDirective, part_there}
use Rattle.keymap_lint.proofs.Told.{comment_there}

-- ---- tests

same_truth : (a b : Bool) → (a ≡ true → b ≡ true) → (b ≡ true → a ≡ true) → a ≡ b
same_truth true b f g = sym (f refl)
same_truth false true f g = g refl
same_truth false false f g = refl

lt_same : (a b k n : ℕ) → (a < b → k < n) → (k < n → a < b) → nat_lt a b ≡ nat_lt k n
lt_same a b k n f g = search (rules, same_truth, nat_tests)

le_same : (a b k n : ℕ) → (a ≤ b → k ≤ n) → (k ≤ n → a ≤ b) → nat_le a b ≡ nat_le k n
le_same a b k n f g = search (rules, same_truth, nat_le, nat_tests)

count_same : {X : Type 0} (p q : X → Bool) (xs : List X) → All (λ x. p x ≡ q x) xs → count_by p xs ≡ count_by q xs
count_same p q [] all = refl
count_same p q (x ∷ xs) all =
    let first : p x ≡ q x = All-head (λ x. p x ≡ q x) x xs all in
    let rest = count_same p q xs (All-tail (λ x. p x ≡ q x) x xs all) in
    sum_by-cons (λ x. cond (p x) 1 0) x xs ∙ (λ i. cond (first i) 1 0 + rest i)
    ∙ sym (sum_by-cons (λ x. cond (q x) 1 0) x xs)

pairs_count : {X Y : Type 0} (R : X → Y → Type 0) (p : X → Bool) (q : Y → Bool)
    → ((x : X) (y : Y) → R x y → p x ≡ q y) → {xs : List X} {ys : List Y} → Pairwise R xs ys
    → count_by p xs ≡ count_by q ys
pairs_count R p q same no_pair = refl
pairs_count R p q same (one_pair {x = x} {y = y} {xs = xs} {ys = ys} r rest) =
    sum_by-cons (λ x. cond (p x) 1 0) x xs ∙ (λ i. cond (same x y r i) 1 0 + pairs_count R p q same rest i)
    ∙ sym (sum_by-cons (λ y. cond (q y) 1 0) y ys)

-- what is said before two hyphens is no longer
dashes_fit : (bytes : List ℕ) → length (before_dashes bytes) ≤ length bytes
unfolding before_dashes
dashes_fit bytes =
    omega (arith, length-take (unwrap_or (first_below (is_dashes bytes) (length bytes)) (length bytes)) bytes)

-- ---- places

-- places are related in order
abbrev pub AreInOrder : (ℕ → ℕ → Type 0) → Type 0
AreInOrder P = (p k q l : ℕ) → P p q → P k l → (p < k → q < l) × (q < l → p < k)

-- the spans begin at related places
abbrev pub BeginAlike : (ℕ → ℕ → Type 0) → Span → Span → Type 0
BeginAlike P s r = P s.start r.start

module _ (P : ℕ → ℕ → Type 0) (order : AreInOrder P) (text other : List ℕ) (t u : Spelled)
    (starts : Pairwise (BeginAlike P) t.spans u.spans) (same : t.definitions ≡ u.definitions)
    (low : All (λ (d : Placed). d.first < length t.spans) t.definitions) where
  start_at : (n : ℕ) → n < length t.spans → P (offset_at t n) (offset_at u n)
  start_at n l = pairs_at (BeginAlike P) starts n (record { start = 0; end = 0 }) (record { start = 0; end = 0 }) l

  pub definition_same : (p q : ℕ) → P p q → definition_at t p ≡ definition_at u q
  definition_same p q r =
      count_same (λ (d : Placed). nat_le (offset_at t d.first) p) (λ (d : Placed). nat_le (offset_at u d.first) q)
      t.definitions (λ k x l. one (get_or t.definitions k x) (low k x l))
      ∙ ap (count_by (λ (d : Placed). nat_le (offset_at u d.first) q)) same
    where
      one : (d : Placed) → d.first < length t.spans
          → nat_le (offset_at t d.first) p ≡ nat_le (offset_at u d.first) q
      one d l =
          let its = order p (offset_at t d.first) q (offset_at u d.first) r (start_at d.first l) in
          le_same (offset_at t d.first) p (offset_at u d.first) q (λ here. elim (cases_lt q (offset_at u d.first)) [
            | inl less ↦ absurd (omega (arith, here, its.1 less))
            | inr up ↦ up
          ]) (λ there. elim (cases_lt p (offset_at t d.first)) [
            | inl less ↦ absurd (omega (arith, there, its.0 less))
            | inr up ↦ up
          ])

  before_same : (p q : ℕ) → P p q → tokens_before t.spans p ≡ tokens_before u.spans q
  before_same p q r =
      pairs_count (BeginAlike P) (λ (s : Span). nat_lt s.start p) (λ (s : Span). nat_lt s.start q)
      (λ s k b. let its = order s.start p k.start q b r in lt_same s.start p k.start q its.0 its.1) starts

  next_same : (p q : ℕ) → P p q
      → next_definition t (tokens_before t.spans p) ≡ next_definition u (tokens_before u.spans q)
  next_same p q r =
      subst (λ n. next_definition t (tokens_before t.spans p) ≡ next_definition u n) (before_same p q r)
      (subst (λ n. next_definition t (tokens_before t.spans p)
      ≡ cond (nat_lt (tokens_before t.spans p) n) (definition_at u (offset_at u (tokens_before t.spans p))) 0)
      (pairs_length (BeginAlike P) starts) (go (tokens_before t.spans p) (nat_lt _ _) refl))
    where
      go : (n : ℕ) (b : Bool) → nat_lt n (length t.spans) ≡ b
          → cond b (definition_at t (offset_at t n)) 0 ≡ cond b (definition_at u (offset_at u n)) 0
      go n false e = refl
      go n true e = definition_same (offset_at t n) (offset_at u n) (start_at n (grind (arith, nat_tests, e)))

  target_same : (p q : ℕ) → P p q → (s : Standing) → target t p s ≡ target u q s
  target_same p q r standings.Beside = definition_same p q r
  target_same p q r standings.Alone = next_same p q r
  target_same p q r standings.Within = next_same p q r

  scope_same : (p q : ℕ) → P p q → (s : Standing) (o : Option Bool) → scope_by t p s o ≡ scope_by u q s o
  scope_same p q r s None = refl
  scope_same p q r s (Some true) = refl
  scope_same p q r s (Some false) = ap (λ n. Some (scopes.Definition n)) (target_same p q r s)

  abbrev D : Directive → Directive → Type 0
  D = IsSameDirective P text other

  -- the comments begin at related places, and so do their words
  pub directive_same : (p q : ℕ) → P p q → stands_at text t p ≡ stands_at other u q
      → comment_at text p ≡ comment_at other q
      → ((k : ℕ) → k < length (comment_at text p) → is_between (get_or (comment_at text p) k 0) ≡ false
      → P (p + k) (q + k))
      → Pairwise D (directive_at text t p) (directive_at other u q)
  unfolding directive_at
  directive_same p q r stands is along =
      subst (λ its. Pairwise D (option_to_list (directive_behind text t p comment (said_from comment)))
      (option_to_list (directive_behind other u q its (said_from its)))) is (go (said_from comment))
    where
      comment : List ℕ
      comment = comment_at text p

      there : take (length comment) (drop q other) ≡ comment
      there = subst (λ (bytes : List ℕ). take (length bytes) (drop q other) ≡ bytes) (sym is) (comment_there other q)

      saying : (s : Standing) (n : ℕ)
          → D (directive_saying t p s (p + n) (before_dashes (drop n comment)))
          (directive_saying u q s (q + n) (before_dashes (drop n comment)))
      saying s n = record {
        place = r;
        scope = scope_same p q r s (is_for_text (verb said));
        kinds = here ∙ sym its;
        words = λ k low nonblank.
            let far : v + k < length comment =
            omega (arith, low, ap length here, length-take m (drop v comment), few) in
            let byte : get_or (bytes_at text (record { start = p + n + verb_end said; end = p + n + length said })) k 0
            ≡ get_or comment (v + k) 0 =
            ap (λ bytes. get_or bytes k 0) here
            ∙ get_or-take m (drop v comment) k 0 (omega (arith, low, ap length here, length-take m (drop v comment)))
            ∙ get_or-drop v comment k 0 in
            let one : p + (v + k) ≡ p + n + verb_end said + k = omega arith in
            let two : q + (v + k) ≡ q + n + verb_end said + k = omega arith in
            subst (λ (sides : ℕ × ℕ). P sides.0 sides.1) (λ i. (one i, two i))
            (along (v + k) far (ap is_between (sym byte) ∙ nonblank));
      }
        where
          said : List ℕ
          said = before_dashes (drop n comment)

          v : ℕ
          v = n + verb_end said

          m : ℕ
          m = length said - verb_end said

          few : m ≤ length comment - v
          few = omega (arith, dashes_fit (drop n comment), length-drop n comment)

          at : (bytes : List ℕ) (s : ℕ) → take (length comment) (drop s bytes) ≡ comment
              → bytes_at bytes (record { start = s + n + verb_end said; end = s + n + length said })
              ≡ take m (drop v comment)
          at bytes s e =
              let size : s + n + length said - (s + n + verb_end said) ≡ m = omega arith in
              let place : s + n + verb_end said ≡ s + v = omega arith in
              (λ i. take (size i) (drop (place i) bytes)) ∙ part_there bytes comment s v m e few

          here : bytes_at text (record { start = p + n + verb_end said; end = p + n + length said })
              ≡ take m (drop v comment)
          here = at text p (comment_there text p)

          its : bytes_at other (record { start = q + n + verb_end said; end = q + n + length said })
              ≡ take m (drop v comment)
          its = at other q there

      by : (s : Standing) (n : ℕ)
          → Pairwise D (option_to_list (directive_by t p s (p + n) (before_dashes (drop n comment))))
          (option_to_list (directive_by u q s (q + n) (before_dashes (drop n comment))))
      by standings.Within n = no_pair
      by standings.Beside n = pairs_one D _ _ (saying standings.Beside n)
      by standings.Alone n = pairs_one D _ _ (saying standings.Alone n)

      go : (o : Option ℕ) → Pairwise D (option_to_list (directive_behind text t p comment o))
          (option_to_list (directive_behind other u q comment o))
      go None = no_pair
      go (Some n) =
          subst (λ s. Pairwise D
          (option_to_list (directive_by t p (stands_at text t p) (p + n) (before_dashes (drop n comment))))
          (option_to_list (directive_by u q s (q + n) (before_dashes (drop n comment))))) stands
          (by (stands_at text t p) n)
