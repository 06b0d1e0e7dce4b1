-- What holds of all that would be said, and of what may be said of directives, holds of all that is told.
use Rattle.std.proofs.Common.{rules}
use Rattle.keymap_lint.proofs.Common.{◌≡◌, ℕ, ◌+◌, ◌<◌, ◌≤◌, Bool, true, false, not, cond, List, [], ◌∷◌, ◌++◌}
use Rattle.keymap_lint.proofs.Common.{length, map, get_or, take, refl, sym, ◌∙◌, ap, arith, Option, Some, None}
use Rattle.keymap_lint.proofs.Common.{Diagnostic, Spelled, gathered, flat_map, true≢false, ◌&&◌}
use Prim.Native.Nat.{zero, suc}
use Rattle.std.proofs.Common.{◌-◌, ◌==◌, All, drop, nat_eq, codes}
use Rattle.std.specs.Prelude.{slice_index_or}
use Rattle.std.specs.List.{filter, list_any, starts_with, suffix_len}
use Rattle.std.proofs.lemmas.Bool.Decides.{nat_tests}
use Rattle.std.proofs.lemmas.List.Sums.{prefix_len-le-length, prefix_len_passes}
use Rattle.std.proofs.lemmas.Slice.Eq.{bytes_eq-Decides}
use Rattle.bstr.specs.Find.{OccursAt}
use Rattle.std.specs.Option.{option_to_list, unwrap_or}
use Rattle.std.proofs.lemmas.Bool.{and_parts, cases_lt, eqb-true}
use Rattle.std.proofs.lemmas.List.{length-drop, length-take, length-take-le, get_or-take, get_or-drop, take_all}
use Rattle.std.proofs.lemmas.List.{take_min}
use Rattle.std.proofs.lemmas.List.Elements.{All-nil, All-append, All-filter}
use Rattle.keymap_lint.specs.Types.{Span}
use Rattle.keymap_places.specs.LineOf.{rest_of_line}
use Rattle.keymap_text.specs.Lexical.{is_space, leading, stays_on_line}
use Rattle.keymap_lint.specs.Directives.{HasNoMark, before_dashes, comment_at, lead, trimmed}
use Rattle.keymap_lint.specs.Directives.{directive_at, directive_behind, directive_by, directive_saying, directives}
use Rattle.keymap_lint.specs.Directives.{is_between, word_in}
use Rattle.keymap_lint.specs.Directives.{is_told, keeper, of_number, of_word, of_words, said_from, told}
use Rattle.keymap_lint.specs.Directives.{word_at, word_length, word_span, words, words_by, words_in}
use Rattle.keymap_lint.specs.Directives.{words_of}
use Rattle.keymap_lint.specs.Directives.{wrong, stands_at}
use Rattle.keymap_lint.specs.KindNames.{is_never_ignored, may_be_ignored}
use Rattle.keymap_lint.specs.Kinds.{at, is_the}
use Rattle.keymap_lint.specs.Positions.{is_no_kind}
use Rattle.keymap_lint.specs.declared.diagnostic.BadIgnore.TheVariants as bad
use Rattle.keymap_lint.specs.declared.diagnostic.Kind.TheVariants as kinds
use Rattle.keymap_lint.specs.declared.directives.Directive.{Directive}
use Rattle.keymap_lint.specs.declared.directives.Ignored.{Ignored}
use Rattle.keymap_lint.specs.declared.directives.Scope.{Scope}
use Rattle.keymap_lint.specs.declared.directives.Scope.TheVariants as scopes
use Rattle.keymap_lint.specs.declared.directives.Standing.{Standing}
use Rattle.keymap_lint.specs.declared.directives.Standing.TheVariants as standings
use Rattle.keymap_lint.proofs.Each.{all_either, all_flat, all_one}
use Rattle.keymap_lint.proofs.Lists.{all_gathered}
use Rattle.keymap_lint.specs.Spelled.{bytes_at}

-- the property holds of what may be said of a `#` and of a word of the text
pub record OfDirectives (P : Diagnostic → Type 0) (text : List ℕ) : Type 0 where
  pub no_word : (p : ℕ) → p < length text → get_or text p 0 ≡ 35 → P (at p (kinds.BadIgnore bad.NoWord))
  pub no_kinds : (p : ℕ) → p < length text → get_or text p 0 ≡ 35 → P (at p (kinds.BadIgnore bad.NoKinds))
  pub unused : (w : Span) → w.start ≤ w.end → w.end ≤ length text → may_be_ignored (bytes_at text w) ≡ true
      → P (at w.start (kinds.UnusedIgnore w))
  pub not_ignored : (w : Span) → w.start ≤ w.end → w.end ≤ length text → is_never_ignored (bytes_at text w) ≡ true
      → P (at w.start (kinds.BadIgnore (bad.NotIgnored w)))
  pub no_kind : (w : Span) → w.start ≤ w.end → w.end ≤ length text → is_no_kind (bytes_at text w) ≡ true
      → P (at w.start (kinds.BadIgnore (bad.NoKind w)))

-- a directive's `#` stands in the text
abbrev IsHash : List ℕ → Directive → Type 0
IsHash text d = (d.place < length text) × (get_or text d.place 0 ≡ 35)

-- ---- bytes at the front of others

pub take_take : {X : Type 0} (i j : ℕ) (xs : List X) → i ≤ j → take i (take j xs) ≡ take i xs
take_take zero j xs low = refl
take_take (suc i) zero xs low = absurd (omega (arith, low))
take_take (suc i) (suc j) [] low = refl
take_take (suc i) (suc j) (x ∷ xs) low = ap (λ ys. x ∷ ys) (take_take i j xs (omega (arith, low)))

front_of_front : {X : Type 0} (n : ℕ) (w xs : List X) → take (length w) xs ≡ w
    → take (length (take n w)) xs ≡ take n w
front_of_front n w xs e = search (rules, cases_lt, length-take-le, take_take, take_all)

pub front_there : {X : Type 0} (n : ℕ) (xs : List X) → take (length (take n xs)) xs ≡ take n xs
front_there n xs = ap (λ k. take k xs) (length-take n xs) ∙ take_min n xs

-- a comment stands in the text at its place
pub comment_there : (text : List ℕ) (p : ℕ)
    → take (length (comment_at text p)) (drop p text) ≡ comment_at text p
unfolding trimmed
comment_there text p =
    let line = rest_of_line text p in
    front_of_front (length line - suffix_len is_space line) line (drop p text)
    (front_there (leading stays_on_line (drop p text)) (drop p text))

pub comment_fits : (text : List ℕ) (p : ℕ) → length (comment_at text p) ≤ length text - p
comment_fits text p =
    let c = comment_at text p in
    omega (arith, ap length (comment_there text p), length-take (length c) (drop p text), length-drop p text)

comment_reads : (text : List ℕ) (p i : ℕ) → i < length (comment_at text p)
    → get_or (comment_at text p) i 0 ≡ get_or text (p + i) 0
comment_reads text p i low =
    sym (ap (λ xs. get_or xs i 0) (comment_there text p))
    ∙ get_or-take (length (comment_at text p)) (drop p text) i 0 low
    ∙ get_or-drop p text i 0

-- a comment stands in one line
pub comment_on_line : (text : List ℕ) (p k : ℕ) → k < length (comment_at text p)
    → (get_or (comment_at text p) k 0 == 10) ≡ false
unfolding trimmed
comment_on_line text p k low =
    let line = rest_of_line text p in
    let few : k < leading stays_on_line (drop p text) =
    omega (
      arith,
      low,
      length-take (length line - suffix_len is_space line) line,
      length-take (leading stays_on_line (drop p text)) (drop p text),
    ) in
    ap (λ c. c == 10) (comment_reads text p k low ∙ sym (get_or-drop p text k 0))
    ∙ stays (get_or (drop p text) k 0) (prefix_len_passes stays_on_line (drop p text) k 0 few)
  where
    stays : (c : ℕ) → stays_on_line c ≡ true → (c == 10) ≡ false
    stays c e = grind (arith, nat_tests, e)

-- what is no `#` where the bytes end
some_hash : (xs : List ℕ) → get_or xs 0 0 ≡ 35 → 0 < length xs
some_hash [] h = absurd (cc)
some_hash (x ∷ xs) h = omega arith

hash_there : (text : List ℕ) (p : ℕ) → get_or (comment_at text p) 0 0 ≡ 35
    → (p < length text) × (get_or text p 0 ≡ 35)
hash_there text p e = search (rules, some_hash, comment_fits, comment_reads)

-- a comment of which something is said is marked
marked : (b : Bool) (n m : ℕ) → cond b (Some m) None ≡ Some n → b ≡ true
marked true n m e = refl
marked false n m e = absurd (cc)

is_marked_by : (comment : List ℕ) (n : ℕ) → said_from comment ≡ Some n
    → ((get_or comment 0 0 == 35) ≡ true)
    × (starts_with nat_eq (drop (lead comment) comment) (codes "kmap:") ≡ true)
is_marked_by comment n e = search (rules, and_parts, nat_eq, marked)

of_directive : (text : List ℕ) (t : Spelled) (p : ℕ) → All (IsHash text) (directive_at text t p)
unfolding directive_at
of_directive text t p = go (said_from comment) refl
  where
    comment : List ℕ
    comment = comment_at text p

    by : (s : Standing) (from : ℕ) (said : List ℕ) → (p < length text) × (get_or text p 0 ≡ 35)
        → All (IsHash text) (option_to_list (directive_by t p s from said))
    by standings.Within from said h = All-nil (IsHash text)
    by standings.Beside from said h = all_one (IsHash text) (directive_saying t p standings.Beside from said) h
    by standings.Alone from said h = all_one (IsHash text) (directive_saying t p standings.Alone from said) h

    go : (o : Option ℕ) → said_from comment ≡ o
        → All (IsHash text) (option_to_list (directive_behind text t p comment o))
    go None e = All-nil (IsHash text)
    go (Some n) e =
        by (stands_at text t p) (p + n) (before_dashes (drop n comment))
        (hash_there text p (eqb-true (get_or comment 0 0) 35 (is_marked_by comment n e).0))

-- how a directive stands, behind a token of its line or not, and how a `#` does that begins none
abbrev pub stands_so : Bool → Standing
stands_so beside = cond beside standings.Beside standings.Alone

abbrev pub stands_inside : Standing
stands_inside = standings.Within

pub no_hash_no_directive : (text : List ℕ) (t : Spelled) (p : ℕ) → (get_or text p 0 == 35) ≡ false
    → directive_at text t p ≡ []
unfolding directive_at
no_hash_no_directive text t p e =
    ap (λ o. option_to_list (directive_behind text t p comment o))
    (ap (λ b. cond b (Some (lead comment + 5)) None) (none (get_or comment 0 0 == 35) refl))
  where
    comment : List ℕ
    comment = comment_at text p

    none : (b : Bool) → (get_or comment 0 0 == 35) ≡ b
        → (b && starts_with nat_eq (drop (lead comment) comment) (codes "kmap:")) ≡ false
    none false f = refl
    none true f =
        let hash = (hash_there text p (eqb-true (get_or comment 0 0) 35 f)).1 in
        absurd (true≢false (sym (ap (λ c. c == 35) hash) ∙ e))

pub inside_no_directive : (text : List ℕ) (t : Spelled) (p : ℕ) → stands_at text t p ≡ stands_inside
    → directive_at text t p ≡ []
unfolding directive_at
inside_no_directive text t p e = go (said_from (comment_at text p))
  where
    go : (o : Option ℕ) → option_to_list (directive_behind text t p (comment_at text p) o) ≡ []
    go None = refl
    go (Some n) =
        ap (λ s. option_to_list (directive_by t p s (p + n) (before_dashes (drop n (comment_at text p))))) e

-- a word lies in the text
abbrev IsWord : List ℕ → Ignored → Type 0
IsWord text w = (w.word.start ≤ w.word.end) × (w.word.end ≤ length text)

either_fits : (b : Bool) (n l : ℕ) → n ≤ l → unwrap_or (cond b (Some n) None) l ≤ l
either_fits true n l h = h
either_fits false n l h = omega arith

pub word_fits : (bytes : List ℕ) → word_length bytes ≤ length bytes
word_fits bytes = either_fits _ _ (length bytes) (prefix_len-le-length (λ c. not (is_between c)) bytes)

of_words_in : (text : List ℕ) (s : Span) (scope : Scope)
    → All (IsWord text) (words_in (bytes_at text s) scope s.start)
of_words_in text s scope = all_gathered (IsWord text) (word_at bytes scope s.start) (length bytes) here
  where
    bytes : List ℕ
    bytes = bytes_at text s

    is_word : (k : ℕ) → k < length bytes → IsWord text (word_in bytes scope s.start k)
    is_word k low = search (rules, length-take, length-drop, bytes, word_fits)

    here : (k : ℕ) → k < length bytes → All (IsWord text) (word_at bytes scope s.start k)
    here k low = search (rules, all_either, bytes, all_one, is_word, All-nil)

of_words_of : (text : List ℕ) (d : Directive) → All (IsWord text) (words_of text d)
unfolding words_of
of_words_of text d = go d.scope
  where
    go : (o : Option Scope) → All (IsWord text) (words_by text d.kinds o)
    go None = All-nil (IsWord text)
    go (Some scope) = of_words_in text d.kinds scope

-- what holds of all that may be said of directives, and of all that would be said, holds of all that is told
pub of_told : (P : Diagnostic → Type 0) (text : List ℕ) (t : Spelled) (never : Bool) (said : List Diagnostic)
    → OfDirectives P text → All P said → All P (told text t never said)
of_told P text t never said h all =
    All-append P (filter (is_told text t never ws) said ++ flat_map (wrong text) ds) (of_words text ws ks)
    (All-append P (filter (is_told text t never ws) said) (flat_map (wrong text) ds)
    (All-filter (is_told text t never ws) P said all)
    (all_flat P (IsHash text) (wrong text) wrongs ds of_ds))
    (all_gathered P (of_number text ws ks) (length ws) (λ j low.
    judged (word_span ws j) (here j low) (list_any (is_the j) ks)))
  where
    ds : List Directive
    ds = directives text t

    ws : List Ignored
    ws = words text t

    of_ds : All (IsHash text) ds
    of_ds = all_gathered (IsHash text) (directive_at text t) (length text) (λ p low. of_directive text t p)

    nowhere : Ignored
    nowhere = record { scope = scopes.Text; word = record { start = 0; end = 0 } }

    ks : List (Option ℕ)
    ks = map (keeper text t never ws) said

    wrongs : (d : Directive) → IsHash text d → All P (wrong text d)
    wrongs d (low, e) = search (rules, all_one, all_either, All-nil)

    here : (j : ℕ) → j < length ws → IsWord text (slice_index_or ws j nowhere)
    here j low =
        all_flat (IsWord text) (IsHash text) (words_of text) (λ d e. of_words_of text d) ds of_ds j nowhere low

    judged : (w : Span) → (w.start ≤ w.end) × (w.end ≤ length text) → (b : Bool)
        → All P (option_to_list (of_word w (bytes_at text w) b))
    judged w (l, r) = search (rules, All-nil, all_one)

-- ---- a text in which `kmap:` stands nowhere

none_gathered : {X : Type 0} (f : ℕ → List X) (n : ℕ) → ((k : ℕ) → k < n → f k ≡ []) → gathered f n ≡ []
unfolding gathered
none_gathered f zero h = refl
none_gathered f (suc n) h = rw (none_gathered f n (λ k low. h k (omega (arith, low))), h n (omega arith)) refl

-- where a comment is marked, `kmap:` stands in the text
mark_there : (text : List ℕ) (p : ℕ) → starts_with nat_eq (drop (lead (comment_at text p)) (comment_at text p))
    (codes "kmap:") ≡ true → OccursAt text (codes "kmap:") (p + lead (comment_at text p))
mark_there text p e = record {
  fits = omega (arith, whole, length-take 5 rest, length-drop n comment, comment_fits text p);
  reads = λ j low.
      let inside : n + j < length comment = omega (arith, low, whole, length-take 5 rest, length-drop n comment) in
      let place : p + (n + j) ≡ p + n + j = omega arith in
      sym (ap (λ i. get_or text i 0) place) ∙ sym (comment_reads text p (n + j) inside)
      ∙ sym (get_or-drop n comment j 0)
      ∙ sym (get_or-take 5 rest j 0 low) ∙ ap (λ xs. get_or xs j 0) (sym same);
}
  where
    comment : List ℕ
    comment = comment_at text p

    n : ℕ
    n = lead comment

    rest : List ℕ
    rest = drop n comment

    same : codes "kmap:" ≡ take 5 rest
    same = (bytes_eq-Decides (codes "kmap:") (take 5 rest)).0 e

    whole : 5 ≡ length (take 5 rest)
    whole = ap length same

pub no_directives : (text : List ℕ) (t : Spelled) → HasNoMark text → directives text t ≡ []
unfolding directive_at
no_directives text t none =
    none_gathered (directive_at text t) (length text) (λ p low. go p low (said_from (comment_at text p)) refl)
  where
    go : (p : ℕ) → p < length text → (o : Option ℕ) → said_from (comment_at text p) ≡ o → directive_at text t p ≡ []
    go p low None e = ap (λ o. option_to_list (directive_behind text t p (comment_at text p) o)) e
    go p low (Some n) e =
        let there : OccursAt text (codes "kmap:") (p + lead (comment_at text p)) =
        mark_there text p (is_marked_by (comment_at text p) n e).1 in
        absurd (none (p + lead (comment_at text p)) (omega arith) (omega (arith, there.fits)) there)
