-- The pieces of a text that is tokens to its end, with their places: its tokens are among them, and its directives.
use Rattle.layout_lint.proofs.Common.{Bool, List, None, Ok, Option, Some, [], All, ap, arith, cond, drop, false, get_or}
use Rattle.layout_lint.proofs.Common.{inl, inr}
use Rattle.layout_lint.proofs.Common.{length, map, nat_lt, not, refl, subst, suc, sym, take, true, zero, ℕ, ◌++◌, ◌+◌}
use Rattle.layout_lint.proofs.Common.{◌-◌, ◌<◌}
use Rattle.layout_lint.proofs.Common.{◌==◌, ◌∙◌, ◌∷◌, ◌≡◌, ◌≤◌, ◌⊎◌, true≢false}
use Rattle.std.specs.List.{flat_map}
use Rattle.std.proofs.Common.{Err, Result, add-one, ◌&&◌}
use Rattle.std.proofs.Math.Seq.{get_or-append_seam}
use Rattle.std.proofs.lemmas.Bool.{cases_lt, eqb-true}
use Rattle.std.proofs.lemmas.Bool.Decides.{nat_tests}
use Rattle.std.proofs.lemmas.List.{append-nil, drop-drop, get_or-drop, length-append, length-drop, length-take-le}
use Rattle.std.proofs.lemmas.List.{get_or_past, take_all, take_more}
use Rattle.std.proofs.Common.{append_assoc}
use Rattle.std.proofs.lemmas.List.Elements.{All-append, All-cons, All-head, All-nil, All-tail, All-weaker}
use Rattle.std.proofs.lemmas.List.Sums.{prefix_len_passes, prefix_len_stops, sum_by-cons}
use Rattle.keymap_core.specs.Below.{gathered}
use Rattle.keymap_places.specs.Placed.{span_of}
use Rattle.keymap_text.specs.Lexical.{Found, Front, Refused, Skipped, Stops, Then, Tokens, Unfinished, front_of}
use Rattle.keymap_text.specs.Lexical.{is_blank, is_space}
use Rattle.keymap_text.specs.Lexical.{leading, stays_on_line, token_before, TokenValue, tokens_after}
use Rattle.keymap_text.specs.Meaning.{ending_of_tokens, list_of}
use Rattle.keymap_text.specs.declared.fault.TextFaultKind.{TextFaultKind}
use Rattle.keymap_text.specs.declared.token.TokenKind.{TokenKind}
use Rattle.keymap_text.specs.declared.token.Span.{Span}
use Rattle.keymap_text.proofs.Shared.{front_blank, front_comment, front_fits, leading_pass, list_ends}
use Rattle.keymap_text.proofs.Shared.{list_stops, list_then, skipped_by, split_blank, split_comment, split_found}
use Rattle.keymap_text.proofs.Shared.{split_nil, split_one, split_refused, split_skipped, split_unfinished}
use Rattle.keymap_fmt.specs.Pieces.{trimmed as trimmed_piece}
use Rattle.keymap_fmt.proofs.Shared.{IsCut, Line, line_passed, lines_after, lines_blank, lines_hash, lines_nil}
use Rattle.keymap_fmt.proofs.Shared.{lines_one, lines_token, trim_first}
use Rattle.keymap_lint.specs.Directives.{comment_at, end_before, last_other, standing_behind, standing_by, stands_at}
use Rattle.keymap_lint.specs.Directives.{tokens_before, trimmed}
use Rattle.keymap_lint.specs.Spelled.{Spelled, span_at}
use Rattle.keymap_lint.proofs.Shared.{comment_there, stands_inside, stands_so}
use Rattle.layout_lint.specs.Layouts.{is_nonblank, nonblank_before}
use Rattle.layout_lint.proofs.Gaps.{gap, gap_line, gap_space, inside_stands, nonblanks, nonblanks-append}
use Rattle.layout_lint.proofs.Gaps.{nonblanks_on, nonblanks_trimmed, tokens_split}

-- A token or comment and its place; of a comment, whether it stands behind a token in its line.
pub record Entry : Type 0 where
  pub place : ℕ
  pub bytes : List ℕ
  pub line : Option Bool

abbrev pub line_of : Entry → Line
line_of e = (e.bytes, e.line)

-- where it begins, if it is a token
abbrev pub start_in : Option Bool → ℕ → List ℕ
start_in (Some beside) place = []
start_in None place = place ∷ []

abbrev pub start_of : Entry → List ℕ
start_of e = start_in e.line e.place

-- what is found at it, if it is a comment
abbrev pub found_in : {X : Type 0} → (ℕ → List X) → Option Bool → ℕ → List X
found_in f (Some beside) place = f place
found_in f None place = []

abbrev pub found_at : {X : Type 0} → (ℕ → List X) → Entry → List X
found_at f e = found_in f e.line e.place

-- The piece stands in the text, and begins with no blank. A comment stands there as it does for directives.
pub record StandsIn (text : List ℕ) (t : Spelled) (e : Entry) : Type 0 where
  pub within : e.place < length text
  pub reads : take (length e.bytes) (drop e.place text) ≡ e.bytes
  pub some : 0 < length e.bytes
  pub nonblank : is_blank (get_or e.bytes 0 0) ≡ false
  pub comment : (beside : Bool) → e.line ≡ Some beside
      → (stands_at text t e.place ≡ stands_so beside) × (comment_at text e.place ≡ e.bytes)

-- so many bytes that are no blanks stand before each piece
abbrev pub Counted : List ℕ → ℕ → List Entry → Type 0
Counted text v [] = Unit {0}
Counted text v (e ∷ es) = (nonblank_before text e.place ≡ v) × Counted text (v + nonblanks e.bytes) es

-- the same is cut at an end
one_trim : (bytes : List ℕ) → trimmed bytes ≡ trimmed_piece bytes
unfolding trimmed trimmed_piece
one_trim bytes = refl

-- ---- tokens

no_tokens : (k q : ℕ) → list_of (tokens_after k q []) ≡ []
no_tokens k q = ap list_of (split_nil k q) ∙ list_ends q

comment_passed : (q c : ℕ) (bytes : List ℕ) → c ≡ 35
    → tokens_after 0 q (c ∷ bytes) ≡ tokens_after (suc (leading stays_on_line bytes)) (q + 1) bytes
comment_passed q c bytes e = split_comment q c bytes e ∙ line_passed (q + 1) bytes

abbrev BeginsFrom : ℕ → TokenValue → Type 0
BeginsFrom n t = n ≤ t.start

none_begins : (n : ℕ) (ts : Tokens) → list_of ts ≡ [] → All (BeginsFrom n) (list_of ts)
none_begins n ts e = subst (All (BeginsFrom n)) (sym e) (All-nil (BeginsFrom n))

-- no token begins among bytes that are passed
begin_behind : (bytes : List ℕ) (k q : ℕ) → All (BeginsFrom (q + k)) (list_of (tokens_after k q bytes))
begin_behind [] k q = none_begins (q + k) (tokens_after k q []) (no_tokens k q)
begin_behind (c ∷ bytes) (suc k) q =
    subst (λ ts. All (BeginsFrom (q + suc k)) (list_of ts)) (sym (split_one k q c bytes))
    (All-weaker (BeginsFrom (q + 1 + k)) (BeginsFrom (q + suc k)) (λ t l. omega (arith, l)) _
    (begin_behind bytes k (q + 1)))
begin_behind (c ∷ bytes) zero q = go (front_of c bytes) refl (λ n. begin_behind bytes n (q + 1))
  where
    later : (n : ℕ) → All (BeginsFrom (q + 1 + n)) (list_of (tokens_after n (q + 1) bytes))
        → All (BeginsFrom (q + 0)) (list_of (tokens_after n (q + 1) bytes))
    later n h = All-weaker (BeginsFrom (q + 1 + n)) (BeginsFrom (q + 0)) (λ t l. omega (arith, l)) _ h

    go : (f : Front) → front_of c bytes ≡ f
        → ((n : ℕ) → All (BeginsFrom (q + 1 + n)) (list_of (tokens_after n (q + 1) bytes)))
        → All (BeginsFrom (q + 0)) (list_of (tokens_after 0 q (c ∷ bytes)))
    go (Skipped n) e more =
        subst (λ ts. All (BeginsFrom (q + 0)) (list_of ts)) (sym (split_skipped q c n bytes e)) (later n (more n))
    go (Found kind n) e more =
        let t : TokenValue = token_before kind (c ∷ take n bytes) q (drop n bytes) in
        subst (All (BeginsFrom (q + 0)))
        (sym (ap list_of (split_found q c n kind bytes e) ∙ list_then t (tokens_after n (q + 1) bytes)))
        (All-cons (BeginsFrom (q + 0)) t _ (omega arith) (later n (more n)))
    go (Refused f) e more =
        none_begins (q + 0) _ (ap list_of (split_refused q c f bytes e) ∙ list_stops f q)
    go Unfinished e more =
        none_begins (q + 0) _ (ap list_of (split_unfinished q c bytes e) ∙ list_stops _ _)

ending_then : (t : TokenValue) (ts : Tokens) → ending_of_tokens (Then t ts) ≡ ending_of_tokens ts
unfolding ending_of_tokens
ending_then t ts = refl

not_found : {n m : ℕ} {kind : TokenKind} → Skipped n ≡ Found kind m → ⊥
not_found e = cc

-- a fault is no end
not_whole : (g : TextFaultKind) (p : ℕ) (ts : Tokens) → ts ≡ Stops g p → (end : ℕ) × (ending_of_tokens ts ≡ Ok end) → ⊥
unfolding ending_of_tokens
not_whole g p ts e (end, whole) = true≢false (sym (ap ends whole) ∙ ap (λ ts. ends (ending_of_tokens ts)) e)
  where
    ends : Result ℕ (TextFaultKind × ℕ) → Bool
    ends (Ok end) = true
    ends (Err at) = false

not_zero : (n : ℕ) → (suc n == 0) ≡ false
not_zero n = grind (arith, nat_tests)

end_behind : (spans : List Span) (n : ℕ) → end_before spans (suc n) ≡ (span_at spans n).end
end_behind spans n =
    ap (λ b. cond b 0 (span_at spans (suc n - 1)).end) (not_zero n) ∙ ap (λ i. (span_at spans i).end) less
  where
    less : suc n - 1 ≡ n
    less = omega arith

-- ---- what is gathered

gathered_first : {X : Type 0} (f : ℕ → List X) (n : ℕ)
    → gathered f (suc n) ≡ f 0 ++ gathered (λ i. f (suc i)) n
unfolding gathered
gathered_first f zero = sym (append-nil (f 0))
gathered_first f (suc n) =
    ap (λ xs. xs ++ f (suc n)) (gathered_first f n) ∙ append_assoc (f 0) (gathered (λ i. f (suc i)) n) (f (suc n))

-- what is gathered from a place on
gathered_from : {X : Type 0} (f : ℕ → List X) (q n : ℕ)
    → gathered (λ i. f (q + i)) (suc n) ≡ f q ++ gathered (λ i. f (q + 1 + i)) n
gathered_from f q n =
    let here : q + 0 ≡ q = omega arith in
    gathered_first (λ i. f (q + i)) n ∙ (λ j. f (here j) ++ gathered (λ i. f (next i j)) n)
  where
    next : (i : ℕ) → q + suc i ≡ q + 1 + i
    next i = omega arith

-- ---- the walk

module _ {X : Type 0} (text : List ℕ) (t : Spelled) (f : ℕ → List X)
    (no_hash : (p : ℕ) → ((get_or text p 0 == 35) ≡ false) → f p ≡ [])
    (within : (p : ℕ) → stands_at text t p ≡ stands_inside → f p ≡ []) where
  -- Here the walk stands: behind so many tokens, and k bytes are to be passed, among which nothing is found.
  pub record Here (k q : ℕ) (s : Bool) (v : ℕ) (bytes : List ℕ) : Type 0 where
    pub rest : drop q text ≡ bytes
    pub passed : (i : ℕ) → i < k → f (q + i) ≡ []
    pub done : List Span
    pub spans : t.spans ≡ done ++ map span_of (list_of (tokens_after k q bytes))
    pub before : All (λ (s : Span). s.start < q + k) done
    pub ends : end_before t.spans (length done) ≤ q + k
    pub stands : q + k ≤ length text
        → standing_by (length done) (last_other (gap text (end_before t.spans (length done)) (q + k))) ≡ stands_so s
    pub counted : nonblank_before text (q + k) ≡ v
    pub whole : (end : ℕ) × (ending_of_tokens (tokens_after k q bytes) ≡ Ok end)

  -- The pieces of the bytes, with their places: with tokens among them, and what is found.
  pub record Walk (k q : ℕ) (s : Bool) (v : ℕ) (bytes : List ℕ) : Type 0 where
    pub entries : List Entry
    pub lines : map line_of entries ≡ lines_after k s bytes
    pub starts : flat_map start_of entries
        ≡ map (λ (s : Span). s.start) (map span_of (list_of (tokens_after k q bytes)))
    pub found : gathered (λ i. f (q + i)) (length bytes) ≡ flat_map (found_at f) entries
    pub all : All (StandsIn text t) entries
    pub counted : Counted text v entries

  none : (k q : ℕ) (s : Bool) (v : ℕ) → Walk k q s v []
  unfolding gathered
  none k q s v = record {
    entries = [];
    lines = sym (lines_nil k s);
    starts = sym (ap (λ ts. map (λ (s : Span). s.start) (map span_of ts)) (no_tokens k q));
    found = refl;
    all = All-nil (StandsIn text t);
    counted = tt;
  }

  behind : (q c : ℕ) (bytes : List ℕ) → drop q text ≡ c ∷ bytes → drop (q + 1) text ≡ bytes
  behind q c bytes e = sym (drop-drop 1 q text) ∙ ap (drop 1) e

  first_is : (q c : ℕ) (bytes : List ℕ) → drop q text ≡ c ∷ bytes → get_or text q 0 ≡ c
  first_is q c bytes e =
      let here : q + 0 ≡ q = omega arith in
      sym (ap (λ p. get_or text p 0) here) ∙ sym (get_or-drop q text 0 0) ∙ ap (λ xs. get_or xs 0 0) e

  room : (q c : ℕ) (bytes : List ℕ) → drop q text ≡ c ∷ bytes → q + suc (length bytes) ≡ length text
  room q c bytes e = omega (arith, ap length e, length-drop q text)

  -- a byte that is passed
  pass_next : (k q : ℕ) (s : Bool) (v c : ℕ) (bytes : List ℕ) → Here (suc k) q s v (c ∷ bytes)
      → Here k (q + 1) s v bytes
  pass_next k q s v c bytes h =
      let place : q + suc k ≡ q + 1 + k = omega arith in
      record {
        rest = behind q c bytes h.rest;
        passed = λ i low.
            let next : q + suc i ≡ q + 1 + i = omega arith in
            ap f (sym next) ∙ h.passed (suc i) (omega (arith, low));
        done = h.done;
        spans = h.spans ∙ ap (λ ts. h.done ++ map span_of (list_of ts)) (split_one k q c bytes);
        before = subst (λ n. All (λ (s : Span). s.start < n) h.done) place h.before;
        ends = subst (λ n. end_before t.spans (length h.done) ≤ n) place h.ends;
        stands =
            subst (λ n. n ≤ length text → standing_by (length h.done)
            (last_other (gap text (end_before t.spans (length h.done)) n)) ≡ stands_so s) place h.stands;
        counted = ap (nonblank_before text) (sym place) ∙ h.counted;
        whole = (h.whole.0, ap ending_of_tokens (sym (split_one k q c bytes)) ∙ h.whole.1);
      }

  pass : (k q : ℕ) (s : Bool) (v c : ℕ) (bytes : List ℕ) → Here (suc k) q s v (c ∷ bytes)
      → Walk k (q + 1) s v bytes → Walk (suc k) q s v (c ∷ bytes)
  pass k q s v c bytes h w = record {
    entries = w.entries;
    lines = w.lines ∙ sym (lines_one k s c bytes);
    starts =
        w.starts
        ∙ ap (λ ts. map (λ (s : Span). s.start) (map span_of (list_of ts))) (sym (split_one k q c bytes));
    found =
        let here : q + 0 ≡ q = omega arith in
        gathered_from f q (length bytes)
        ∙ ap (λ xs. xs ++ gathered (λ i. f (q + 1 + i)) (length bytes))
        (ap f (sym here) ∙ h.passed 0 (omega arith)) ∙ w.found;
    all = w.all;
    counted = w.counted;
  }

  -- ---- where a place stands

  -- so many tokens stand before a place that is none of theirs
  tokens_there : (k q p : ℕ) (s : Bool) (v : ℕ) (bytes : List ℕ) (h : Here k q s v bytes) → q + k ≤ p
      → All (λ (s : Span). p ≤ s.start) (map span_of (list_of (tokens_after k q bytes)))
      → tokens_before t.spans p ≡ length h.done
  tokens_there k q p s v bytes h up rest =
      ap (λ spans. tokens_before spans p) h.spans
      ∙ tokens_split h.done (map span_of (list_of (tokens_after k q bytes))) p
      (All-weaker (λ (s : Span). s.start < q + k) (λ (s : Span). s.start < p) (λ s l. omega (arith, l, up)) h.done
      h.before)
      rest

  spans_from : (n : ℕ) (ts : List TokenValue) → All (BeginsFrom n) ts → All (λ (s : Span). n ≤ s.start) (map span_of ts)
  spans_from n [] all = All-nil (λ (s : Span). n ≤ s.start)
  spans_from n (x ∷ ts) all =
      All-cons (λ (s : Span). n ≤ s.start) (span_of x) (map span_of ts) (All-head (BeginsFrom n) x ts all)
      (spans_from n ts (All-tail (BeginsFrom n) x ts all))

  spans_behind : (p k q : ℕ) (bytes : List ℕ) → p ≤ q + k
      → All (λ (s : Span). p ≤ s.start) (map span_of (list_of (tokens_after k q bytes)))
  spans_behind p k q bytes low =
      spans_from p (list_of (tokens_after k q bytes))
      (All-weaker (BeginsFrom (q + k)) (BeginsFrom p) (λ t l. omega (arith, l, low)) _ (begin_behind bytes k q))

  -- how a `#` stands behind so many tokens
  stands_behind : (p n : ℕ) → tokens_before t.spans p ≡ n → end_before t.spans n ≤ p
      → stands_at text t p ≡ standing_by n (last_other (gap text (end_before t.spans n) p))
  unfolding stands_at
  stands_behind p n e up =
      ap (λ n. standing_behind text (end_before t.spans n) p n) e
      ∙ ap (λ b. cond b stands_inside (standing_by n (last_other (gap text (end_before t.spans n) p)))) not_less
    where
      not_less : nat_lt p (end_before t.spans n) ≡ false
      not_less = grind (arith, nat_tests, up)

  -- within a token
  stands_within : (p n : ℕ) → tokens_before t.spans p ≡ n → p < end_before t.spans n
      → stands_at text t p ≡ stands_inside
  unfolding stands_at
  stands_within p n e low =
      ap (λ n. standing_behind text (end_before t.spans n) p n) e
      ∙ ap (λ b. cond b stands_inside (standing_by n (last_other (gap text (end_before t.spans n) p)))) less
    where
      less : nat_lt p (end_before t.spans n) ≡ true
      less = grind (arith, nat_tests, low)

  -- ---- a blank

  blank_next : (q : ℕ) (s : Bool) (v c : ℕ) (bytes : List ℕ) → is_blank c ≡ true → Here 0 q s v (c ∷ bytes)
      → Here 0 (q + 1) (s && stays_on_line c) v bytes
  blank_next q s v c bytes blank h = record {
    rest = behind q c bytes h.rest;
    passed = λ i low. absurd (omega (arith, low));
    done = h.done;
    spans = h.spans ∙ ap (λ ts. h.done ++ map span_of (list_of ts)) (split_blank q c bytes blank);
    before =
        All-weaker (λ (s : Span). s.start < q + 0) (λ (s : Span). s.start < q + 1 + 0) (λ s l. omega (arith, l)) h.done
        h.before;
    ends = omega (arith, h.ends);
    stands = λ fits.
        let next : q + 1 ≡ q + 1 + 0 = omega arith in
        subst (λ p. standing_by (length h.done) (last_other (gap text from p)) ≡ stands_so (s && stays_on_line c)) next
        (go (c == 10) refl (h.stands (omega (arith, fits))));
    counted = counts;
    whole = (h.whole.0, ap ending_of_tokens (sym (split_blank q c bytes blank)) ∙ h.whole.1);
  }
    where
      from : ℕ
      from = end_before t.spans (length h.done)

      here : q + 0 ≡ q
      here = omega arith

      first : get_or text q 0 ≡ c
      first = first_is q c bytes h.rest

      inside : q < length text
      inside = omega (arith, room q c bytes h.rest)

      up : from ≤ q
      up = omega (arith, h.ends)

      space : (c == 10) ≡ false → is_space (get_or text q 0) ≡ true
      space e = ap is_space first ∙ grind (arith, nat_tests, e, blank)

      go : (b : Bool) → (c == 10) ≡ b
          → standing_by (length h.done) (last_other (gap text from (q + 0))) ≡ stands_so s
          → standing_by (length h.done) (last_other (gap text from (q + 1))) ≡ stands_so (s && stays_on_line c)
      go true e k =
          gap_line text from q up inside (first ∙ grind (arith, nat_tests, e)) (length h.done)
          ∙ sym (ap stands_so (ended s (stays_on_line c) (ap not e)))
        where
          ended : (a b : Bool) → b ≡ false → (a && b) ≡ false
          ended true b e = e
          ended false b e = refl
      go false e k =
          ap (standing_by (length h.done))
          (gap_space text from q up inside (space e) ∙ ap (λ p. last_other (gap text from p)) (sym here)) ∙ k
          ∙ ap stands_so (sym (same s (stays_on_line c) (ap not e)))
        where
          same : (a b : Bool) → b ≡ true → (a && b) ≡ a
          same true b e = e
          same false b e = refl

      counts : nonblank_before text (q + 1 + 0) ≡ v
      counts =
          let place : q + 1 + 0 ≡ q + 1 = omega arith in
          let none : nonblanks (take 1 (drop q text)) ≡ 0 =
          ap (λ xs. nonblanks (take 1 xs)) h.rest ∙ sum_by-cons (λ c. cond (is_nonblank c) 1 0) c []
          ∙ ap (λ b. cond (not b) 1 0 + 0) blank in
          ap (nonblank_before text) place
          ∙ omega (arith, nonblanks_on text q 1, none, ap (nonblank_before text) here, h.counted)

  no_entry : (q : ℕ) (s : Bool) (v c : ℕ) (bytes : List ℕ) → is_blank c ≡ true → Here 0 q s v (c ∷ bytes)
      → Walk 0 (q + 1) (s && stays_on_line c) v bytes → Walk 0 q s v (c ∷ bytes)
  no_entry q s v c bytes blank h w = record {
    entries = w.entries;
    lines = w.lines ∙ sym (lines_blank s c bytes blank);
    starts =
        w.starts
        ∙ ap (λ ts. map (λ (s : Span). s.start) (map span_of (list_of ts))) (sym (split_blank q c bytes blank));
    found =
        gathered_from f q (length bytes)
        ∙ ap (λ xs. xs ++ gathered (λ i. f (q + 1 + i)) (length bytes)) (no_hash q (other (first_is q c bytes h.rest)))
        ∙ w.found;
    all = w.all;
    counted = w.counted;
  }
    where
      other : get_or text q 0 ≡ c → (get_or text q 0 == 35) ≡ false
      other e = ap (λ c. c == 35) e ∙ grind (arith, nat_tests, blank)

  -- ---- a comment

  module _ (q : ℕ) (s : Bool) (v c : ℕ) (bytes : List ℕ) (hash : c ≡ 35) (h : Here 0 q s v (c ∷ bytes)) where
    abbrev words : List ℕ
    words = trimmed_piece (c ∷ take (leading stays_on_line bytes) bytes)

    abbrev from : ℕ
    from = end_before t.spans (length h.done)

    up : from ≤ q
    up = omega (arith, h.ends)

    hash_there : get_or text q 0 ≡ 35
    hash_there = first_is q c bytes h.rest ∙ hash

    inside : q < length text
    inside = omega (arith, room q c bytes h.rest)

    byte_is : (j : ℕ) → get_or text (q + 1 + j) 0 ≡ get_or bytes j 0
    byte_is j = sym (get_or-drop (q + 1) text j 0) ∙ ap (λ xs. get_or xs j 0) (behind q c bytes h.rest)

    on_line : (j : ℕ) → j < leading stays_on_line bytes → (get_or text (q + 1 + j) 0 == 10) ≡ false
    on_line j low =
        ap (λ c. c == 10) (byte_is j) ∙ not_ten (get_or bytes j 0) (prefix_len_passes stays_on_line bytes j 0 low)
      where
        not_ten : (c : ℕ) → stays_on_line c ≡ true → (c == 10) ≡ false
        not_ten c e = grind (arith, nat_tests, e)

    more_tokens : list_of (tokens_after 0 q (c ∷ bytes))
        ≡ list_of (tokens_after (suc (leading stays_on_line bytes)) (q + 1) bytes)
    more_tokens = ap list_of (comment_passed q c bytes hash)

    later : (p : ℕ) → p ≤ q + 1 + suc (leading stays_on_line bytes)
        → All (λ (s : Span). p ≤ s.start) (map span_of (list_of (tokens_after 0 q (c ∷ bytes))))
    later p low =
        subst (λ ts. All (λ (s : Span). p ≤ s.start) (map span_of ts)) (sym more_tokens)
        (spans_behind p (suc (leading stays_on_line bytes)) (q + 1) bytes low)

    nothing_within : (i : ℕ) → i < suc (leading stays_on_line bytes) → f (q + 1 + i) ≡ []
    nothing_within i low = elim (cases_lt (q + 1 + i) (length text)) [
      | inl few ↦
          let place : q + i + 1 ≡ q + 1 + i = omega arith in
          within (q + 1 + i)
          (stands_behind (q + 1 + i) (length h.done)
          (tokens_there 0 q (q + 1 + i) s v (c ∷ bytes) h (omega arith) (later (q + 1 + i) (omega (arith, low))))
          (omega (arith, up))
          ∙ ap (λ p. standing_by (length h.done) (last_other (gap text from p))) (sym place)
          ∙ inside_stands text from q up hash_there i (omega (arith, few))
          (λ j l. on_line j (omega (arith, l, low))) (length h.done))
      | inr many ↦
          no_hash (q + 1 + i) (ap (λ c. c == 35) (get_or_past text (q + 1 + i) 0 many))
    ]

    comment_is : comment_at text q ≡ words
    comment_is =
        ap trimmed (ap (λ xs. take (leading stays_on_line xs) xs) h.rest
        ∙ ap (λ n. take n (c ∷ bytes)) (leading_pass stays_on_line c bytes (on c hash) ∙ add-one _))
        ∙ one_trim (c ∷ take (leading stays_on_line bytes) bytes)
      where
        on : (c : ℕ) → c ≡ 35 → stays_on_line c ≡ true
        on c e = ap stays_on_line e

    counts : nonblank_before text (q + 1 + suc (leading stays_on_line bytes)) ≡ v + nonblanks words
    counts =
        let n : ℕ = leading stays_on_line bytes in
        let place : q + 1 + suc n ≡ q + (suc n + 1) = omega arith in
        let here : q + 0 ≡ q = omega arith in
        let more : take (suc n + 1) (drop q text) ≡ c ∷ take (suc n) bytes =
        ap (λ xs. take (suc n + 1) xs) h.rest ∙ ap (λ i. take i (c ∷ bytes)) (add-one (suc n)) in
        ap (nonblank_before text) place ∙ nonblanks_on text q (suc n + 1)
        ∙ (λ i. (ap (nonblank_before text) (sym here) ∙ h.counted) i
        + (ap nonblanks more ∙ line_counts ∙ sym trimmed_counts) i)
      where
        trimmed_counts : nonblanks words ≡ nonblanks (c ∷ take (leading stays_on_line bytes) bytes)
        trimmed_counts =
            ap nonblanks (sym (one_trim (c ∷ take (leading stays_on_line bytes) bytes)))
            ∙ nonblanks_trimmed (c ∷ take (leading stays_on_line bytes) bytes)

        line_counts : nonblanks (c ∷ take (suc (leading stays_on_line bytes)) bytes)
            ≡ nonblanks (c ∷ take (leading stays_on_line bytes) bytes)
        line_counts = elim (cases_lt (leading stays_on_line bytes) (length bytes)) [
          | inl low ↦
              let n : ℕ = leading stays_on_line bytes in
              let blank : is_blank (get_or bytes n 0) ≡ true =
              ends (get_or bytes n 0) (prefix_len_stops stays_on_line bytes 0 low) in
              let one : take (suc n) bytes ≡ take n bytes ++ get_or bytes n 0 ∷ [] =
              ap (λ i. take i bytes) (sym (add-one n)) ∙ take_more bytes n 0 low in
              ap (λ xs. nonblanks (c ∷ xs)) one ∙ nonblanks-append (c ∷ take n bytes) (get_or bytes n 0 ∷ [])
              ∙ ap (λ k. nonblanks (c ∷ take n bytes) + k)
              (sum_by-cons (λ c. cond (is_nonblank c) 1 0) (get_or bytes n 0) [] ∙ ap (λ b. cond (not b) 1 0 + 0) blank)
              ∙ omega arith
          | inr all ↦
              let n : ℕ = leading stays_on_line bytes in
              ap (λ xs. nonblanks (c ∷ xs)) (take_all (suc n) bytes (omega (arith, all)) ∙ sym (take_all n bytes all))
        ]
          where
            ends : (c : ℕ) → stays_on_line c ≡ false → is_blank c ≡ true
            ends c h = grind (arith, nat_tests)

    line_end_behind : q + 1 + suc (leading stays_on_line bytes) ≤ length text
        → standing_by (length h.done) (last_other (gap text from (q + 1 + suc (leading stays_on_line bytes))))
        ≡ stands_so false
    line_end_behind fits =
        let n : ℕ = leading stays_on_line bytes in
        let place : q + 1 + n + 1 ≡ q + 1 + suc n = omega arith in
        let low : n < length bytes = omega (arith, fits, room q c bytes h.rest) in
        ap (λ p. standing_by (length h.done) (last_other (gap text from p))) (sym place)
        ∙ gap_line text from (q + 1 + n) (omega (arith, up)) (omega (arith, fits))
        (byte_is n ∙ ten (get_or bytes n 0) (prefix_len_stops stays_on_line bytes 0 low)) (length h.done)
      where
        ten : (c : ℕ) → stays_on_line c ≡ false → c ≡ 10
        ten c e = grind (arith, nat_tests, e)

    comment_next : Here (suc (leading stays_on_line bytes)) (q + 1) false (v + nonblanks words) bytes
    comment_next = record {
      rest = behind q c bytes h.rest;
      passed = nothing_within;
      done = h.done;
      spans = h.spans ∙ ap (λ ts. h.done ++ map span_of ts) more_tokens;
      before =
          All-weaker (λ (s : Span). s.start < q + 0)
          (λ (s : Span). s.start < q + 1 + suc (leading stays_on_line bytes)) (λ s l. omega (arith, l)) h.done h.before;
      ends = omega (arith, up);
      stands = line_end_behind;
      counted = counts;
      whole = (h.whole.0, ap ending_of_tokens (sym (comment_passed q c bytes hash)) ∙ h.whole.1);
    }

    comment_entry : Walk (suc (leading stays_on_line bytes)) (q + 1) false (v + nonblanks words) bytes
        → Walk 0 q s v (c ∷ bytes)
    comment_entry w = record {
      entries = e ∷ w.entries;
      lines = ap (λ (ls : List Line). (words, Some s) ∷ ls) w.lines ∙ sym (lines_hash s c bytes hash);
      starts = w.starts ∙ ap (λ ts. map (λ (s : Span). s.start) (map span_of ts)) (sym more_tokens);
      found = gathered_from f q (length bytes) ∙ ap (λ xs. f q ++ xs) w.found;
      all = All-cons (StandsIn text t) e w.entries there w.all;
      counted = (ap (nonblank_before text) (sym here) ∙ h.counted, w.counted);
    }
      where
        e : Entry
        e = record { place = q; bytes = words; line = Some s }

        here : q + 0 ≡ q
        here = omega arith

        cut : (m : ℕ) × IsCut c m (take (leading stays_on_line bytes) bytes)
        cut = trim_first c (take (leading stays_on_line bytes) bytes) (ap is_space hash)

        stands : stands_at text t q ≡ stands_so s
        stands =
            stands_behind q (length h.done) (tokens_there 0 q q s v (c ∷ bytes) h (omega arith) (later q (omega arith)))
            up ∙ ap (λ p. standing_by (length h.done) (last_other (gap text from p))) (sym here)
            ∙ h.stands (omega (arith, inside))

        there : StandsIn text t e
        there = record {
          within = inside;
          reads = ap (λ w. take (length w) (drop q text)) (sym comment_is) ∙ comment_there text q ∙ comment_is;
          some = subst (λ (w : List ℕ). 0 < length w) (sym cut.1.is) (omega arith);
          nonblank = subst (λ (w : List ℕ). is_blank (get_or w 0 0) ≡ false) (sym cut.1.is) (ap is_blank hash);
          comment = λ beside e.
              let same : s ≡ beside = cc in (stands ∙ ap stands_so same, comment_is);
        }

  -- ---- a token

  module _ (q : ℕ) (s : Bool) (v c n : ℕ) (kind : TokenKind) (bytes : List ℕ) (front : front_of c bytes ≡ Found kind n)
      (h : Here 0 q s v (c ∷ bytes)) where
    abbrev token : TokenValue
    token = token_before kind (c ∷ take n bytes) q (drop n bytes)

    few : n ≤ length bytes
    few = (front_fits c bytes kind n front).within

    abbrev its : List ℕ
    its = c ∷ take n bytes

    its_size : length its ≡ suc n
    its_size = ap suc (length-take-le n bytes few)

    split : tokens_after 0 q (c ∷ bytes) ≡ Then token (tokens_after n (q + 1) bytes)
    split = split_found q c n kind bytes front

    tokens_are : list_of (tokens_after 0 q (c ∷ bytes)) ≡ token ∷ list_of (tokens_after n (q + 1) bytes)
    tokens_are = ap list_of split ∙ list_then token (tokens_after n (q + 1) bytes)

    abbrev done : List Span
    done = h.done ++ span_of token ∷ []

    spans_are : t.spans ≡ h.done ++ span_of token ∷ map span_of (list_of (tokens_after n (q + 1) bytes))
    spans_are = h.spans ∙ ap (λ ts. h.done ++ map span_of ts) tokens_are

    many : length done ≡ length h.done + 1
    many = length-append h.done (span_of token ∷ [])

    -- where the token ends
    end_is : end_before t.spans (length done) ≡ q + 1 + n
    end_is =
        ap (end_before t.spans) (many ∙ add-one (length h.done)) ∙ end_behind t.spans (length h.done)
        ∙ ap (λ spans. (span_at spans (length h.done)).end) spans_are
        ∙ ap (λ (s : Span). s.end)
        (get_or-append_seam h.done (span_of token) _ (record { start = 0; end = 0 }))
        ∙ ap (λ i. q + i) its_size ∙ omega arith

    before : All (λ (s : Span). s.start < q + 1 + n) done
    before =
        All-append (λ (s : Span). s.start < q + 1 + n) h.done (span_of token ∷ [])
        (All-weaker (λ (s : Span). s.start < q + 0) (λ (s : Span). s.start < q + 1 + n) (λ s l. omega (arith, l)) h.done
        h.before)
        (All-cons (λ (s : Span). s.start < q + 1 + n) (span_of token) [] (omega arith)
        (All-nil (λ (s : Span). s.start < q + 1 + n)))

    token_next : ((i : ℕ) → i < n → f (q + 1 + i) ≡ [])
        → Here n (q + 1) true (v + nonblanks its) bytes
    token_next nothing = record {
      rest = behind q c bytes h.rest;
      passed = nothing;
      done = done;
      spans = spans_are ∙ sym (append_assoc h.done (span_of token ∷ []) _);
      before = before;
      ends = omega (arith, end_is);
      stands = λ fits.
          ap (λ e. standing_by (length done) (last_other (gap text e (q + 1 + n)))) end_is
          ∙ ap (λ m. standing_by (length done) (last_other (take m (drop (q + 1 + n) text)))) nothing_between
          ∙ ap (λ n. standing_by n None) (many ∙ add-one (length h.done))
          ∙ ap (λ b. cond b (stands_so false) (stands_so true)) (not_zero (length h.done));
      counted =
          let place : q + 1 + n ≡ q + suc n = omega arith in
          let here : q + 0 ≡ q = omega arith in
          ap (nonblank_before text) place ∙ nonblanks_on text q (suc n)
          ∙ (λ i. (ap (nonblank_before text) (sym here) ∙ h.counted) i + nonblanks (take (suc n) (h.rest i)));
      whole = (
        h.whole.0,
        sym (ending_then token (tokens_after n (q + 1) bytes)) ∙ ap ending_of_tokens (sym split) ∙ h.whole.1,
      );
    }
      where
        nothing_between : q + 1 + n - (q + 1 + n) ≡ 0
        nothing_between = omega arith

    -- within the token
    token_within : (i : ℕ) → i < n → f (q + 1 + i) ≡ []
    token_within i low =
        within (q + 1 + i)
        (stands_within (q + 1 + i) (length done)
        (ap (λ spans. tokens_before spans (q + 1 + i)) (spans_are ∙ sym (append_assoc h.done (span_of token ∷ []) _))
        ∙ tokens_split done (map span_of (list_of (tokens_after n (q + 1) bytes))) (q + 1 + i) begun
        (spans_behind (q + 1 + i) n (q + 1) bytes (omega (arith, low)))) (omega (arith, end_is, low)))
      where
        begun : All (λ (s : Span). s.start < q + 1 + i) done
        begun =
            All-append (λ (s : Span). s.start < q + 1 + i) h.done (span_of token ∷ [])
            (All-weaker (λ (s : Span). s.start < q + 0) (λ (s : Span). s.start < q + 1 + i) (λ s l. omega (arith, l))
            h.done h.before)
            (All-cons (λ (s : Span). s.start < q + 1 + i) (span_of token) [] (omega arith)
            (All-nil (λ (s : Span). s.start < q + 1 + i)))

    token_entry : Walk n (q + 1) true (v + nonblanks its) bytes → Walk 0 q s v (c ∷ bytes)
    token_entry w = record {
      entries = e ∷ w.entries;
      lines = ap (λ (ls : List Line). (its, None) ∷ ls) w.lines ∙ sym (lines_token s c bytes kind n front);
      starts =
          ap (λ ps. q ∷ ps) w.starts ∙ sym (ap (λ ts. map (λ (s : Span). s.start) (map span_of ts)) tokens_are);
      found =
          gathered_from f q (length bytes)
          ∙ ap (λ xs. xs ++ gathered (λ i. f (q + 1 + i)) (length bytes))
          (no_hash q (ap (λ c. c == 35) (first_is q c bytes h.rest) ∙ other (c == 35) refl)) ∙ w.found;
      all = All-cons (StandsIn text t) e w.entries there w.all;
      counted = (ap (nonblank_before text) (sym here) ∙ h.counted, w.counted);
    }
      where
        e : Entry
        e = record { place = q; bytes = its; line = None }

        here : q + 0 ≡ q
        here = omega arith

        other : (b : Bool) → (c == 35) ≡ b → b ≡ false
        other false e = refl
        other true e = absurd (not_found (sym (front_comment c bytes (eqb-true c 35 e)) ∙ front))

        blank : (b : Bool) → is_blank c ≡ b → b ≡ false
        blank false e = refl
        blank true e = absurd (not_found (sym (front_blank c bytes e) ∙ front))

        there : StandsIn text t e
        there = record {
          within = omega (arith, room q c bytes h.rest);
          reads = (λ i. take (its_size i) (h.rest i));
          some = omega arith;
          nonblank = blank (is_blank c) refl;
          comment = λ beside e. absurd (cc);
        }

  -- ---- all of it

  pub walk : (bytes : List ℕ) (k q : ℕ) (s : Bool) (v : ℕ) → Here k q s v bytes → Walk k q s v bytes
  walk [] k q s v h = none k q s v
  walk (c ∷ bytes) (suc k) q s v h = pass k q s v c bytes h (walk bytes k (q + 1) s v (pass_next k q s v c bytes h))
  walk (c ∷ bytes) zero q s v h = go (front_of c bytes) refl (walk bytes)
    where
      skipped : ((k q : ℕ) (s : Bool) (v : ℕ) → Here k q s v bytes → Walk k q s v bytes)
          → (is_blank c ≡ true) ⊎ (c ≡ 35) → Walk 0 q s v (c ∷ bytes)
      skipped more (inl blank) = no_entry q s v c bytes blank h (more 0 (q + 1) _ v (blank_next q s v c bytes blank h))
      skipped more (inr hash) =
          comment_entry q s v c bytes hash h (more _ (q + 1) false _ (comment_next q s v c bytes hash h))

      go : (front : Front) → front_of c bytes ≡ front
          → ((k q : ℕ) (s : Bool) (v : ℕ) → Here k q s v bytes → Walk k q s v bytes) → Walk 0 q s v (c ∷ bytes)
      go (Skipped n) e more = skipped more (skipped_by c n bytes e)
      go (Found kind n) e more =
          token_entry q s v c n kind bytes e h
          (more n (q + 1) true _ (token_next q s v c n kind bytes e h (token_within q s v c n kind bytes e h)))
      go (Refused g) e more = absurd (not_whole g q _ (split_refused q c g bytes e) h.whole)
      go Unfinished e more = absurd (not_whole _ _ _ (split_unfinished q c bytes e) h.whole)
