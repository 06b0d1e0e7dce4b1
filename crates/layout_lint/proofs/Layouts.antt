-- A text that spells a keymap and its layout have the same directives but for places, and so the same diagnostics.
use Rattle.layout_lint.proofs.Common.{Bool, List, None, Option, Some, [], ap, arith, false, get_or, length, map}
use Rattle.layout_lint.proofs.Common.{refl, subst, sym, ℕ, ◌+◌, ◌<◌, ◌==◌, ◌∙◌, ◌∷◌, ◌≡◌}
use Rattle.std.specs.List.{flat_map}
use Rattle.std.proofs.lemmas.Bool.Decides.{nat_tests}
use Rattle.std.proofs.lemmas.List.{length-map}
use Rattle.std.proofs.lemmas.List.Elements.{All-nil}
use Rattle.keymap_core.specs.Below.{gathered}
use Rattle.keymap_core.specs.Maps.{MapValue}
use Rattle.keymap_places.specs.Placed.{IsSpelledBy, Row, span_of}
use Rattle.keymap_places.specs.Same.{HaveSameTokens}
use Rattle.keymap_text.specs.Lexical.{is_blank}
use Rattle.keymap_text.specs.Meaning.{Spells, tokens}
use Rattle.keymap_text.specs.declared.token.Span.{Span}
use Rattle.keymap_fmt.specs.Formatted.{formatted}
use Rattle.keymap_fmt.proofs.Shared.{same_lines}
use Rattle.keymap_lint.specs.Directives.{comment_at, directive_at, directives, is_between}
use Rattle.keymap_lint.specs.Lists.{IsLint, spelled_by}
use Rattle.keymap_lint.specs.Same.{AnswerTheSame, IsSame, Pairwise, no_pair, one_pair}
use Rattle.keymap_lint.specs.Spelled.{Spelled}
use Rattle.keymap_lint.specs.declared.diagnostic.Diagnostics.{Diagnostics}
use Rattle.keymap_lint.specs.declared.diagnostic.Lint.TheVariants.{Spelled as OfSpelled}
use Rattle.keymap_lint.proofs.Shared.{AreInOrder, BeginAlike, IsSameDirective, comment_on_line, inside_no_directive}
use Rattle.keymap_lint.proofs.Shared.{no_hash_no_directive, pairs_at, pairs_flat_related, pairs_one, same_diagnostics}
use Rattle.keymap_lint.proofs.Shared.{same_directive, stands_so}
use Rattle.layout_lint.specs.Layouts.{IsSameByte, IsSamePlace, token_start}
use Rattle.layout_lint.proofs.Bytes.{SameEntry, bytes_in_order, one_place, same_byte, same_entries, same_first}
use Rattle.layout_lint.proofs.Walk.{Entry, Walk, found_at, found_in, start_in, start_of, walk}

-- ---- pairs

weaker : {A B : Type 0} (R S : A → B → Type 0) → ((x : A) (y : B) → R x y → S x y) → {xs : List A} {ys : List B}
    → Pairwise R xs ys → Pairwise S xs ys
weaker R S h no_pair = no_pair
weaker R S h (one_pair {x = x} {y = y} r rest) = one_pair (h x y r) (weaker R S h rest)

-- what is related of the elements of two lists
of_images : {A B : Type 0} (R : A → B → Type 0) {X Y : Type 0} (f : X → A) (g : Y → B) (xs : List X) (ys : List Y)
    → Pairwise R (map f xs) (map g ys) → Pairwise (λ x y. R (f x) (g y)) xs ys
of_images R f g [] [] no_pair = no_pair
of_images R f g [] (y ∷ ys) h = elim h [ ]
of_images R f g (x ∷ xs) [] h = elim h [ ]
of_images R f g (x ∷ xs) (y ∷ ys) (one_pair r rest) = one_pair r (of_images R f g xs ys rest)

-- ---- the walk over a text

abbrev Read : List ℕ → Spelled → Type 0
Read text t =
    Walk text t (directive_at text t) (no_hash_no_directive text t) (inside_no_directive text t) 0 0 false 0 text

read : (text : List ℕ) (m : MapValue) (rows : List Row) → Spells text m → Read text (spelled_by text m rows)
read text m rows spells =
    walk text t (directive_at text t) (no_hash_no_directive text t) (inside_no_directive text t) text 0 0 false 0
    (record {
      rest = refl;
      passed = λ i low. absurd (omega (arith, low));
      done = [];
      spans = refl;
      before = All-nil (λ (s : Span). s.start < 0 + 0);
      ends = omega arith;
      stands = λ fits. refl;
      counted = refl;
      whole = (spells.end, spells.whole);
    })
  where
    t : Spelled
    t = spelled_by text m rows

nonblank_word : (c : ℕ) → is_between c ≡ false → (c == 10) ≡ false → is_blank c ≡ false
nonblank_word c e f = grind (arith, nat_tests, e, f)

module _ (text : List ℕ) where
  abbrev other : List ℕ
  other = formatted text

  abbrev B : ℕ → ℕ → Type 0
  B = IsSameByte text (formatted text)

  abbrev P : ℕ → ℕ → Type 0
  P = IsSamePlace text (formatted text)

  -- ---- the tokens and comments of both

  module _ (m n : MapValue) (rows others : List Row) (spells : Spells text m)
      (spelled : Spells (formatted text) n) where
    abbrev t : Spelled
    t = spelled_by text m rows

    abbrev u : Spelled
    u = spelled_by (formatted text) n others

    abbrev S : Entry → Entry → Type 0
    S = SameEntry text (formatted text) t u

    abbrev first : Read text (spelled_by text m rows)
    first = read text m rows spells

    abbrev second : Read (formatted text) (spelled_by (formatted text) n others)
    second = read (formatted text) n others spelled

    pairs : Pairwise S first.entries second.entries
    pairs =
        same_entries text (formatted text) t u 0 first.entries second.entries
        (first.lines ∙ sym (same_lines text) ∙ sym second.lines) first.all second.all first.counted second.counted

    starts : Pairwise (BeginAlike B) (map span_of (tokens text)) (map span_of (tokens (formatted text)))
    starts =
        of_images B (λ (s : Span). s.start) (λ (s : Span). s.start) (map span_of (tokens text))
        (map span_of (tokens (formatted text)))
        (subst (λ (sides : List ℕ × List ℕ). Pairwise B sides.0 sides.1) (λ i. (first.starts i, second.starts i))
        (pairs_flat_related B S start_of start_of one pairs))
      where
        go : (o p : Option Bool) → o ≡ p → (e g : Entry) → S e g → Pairwise B (start_in o e.place) (start_in p g.place)
        go None None same e g s = pairs_one B e.place g.place (same_first text (formatted text) t u e g s)
        go (Some a) (Some b) same e g s = no_pair
        go None (Some b) same e g s = absurd (cc)
        go (Some a) None same e g s = absurd (cc)

        one : (e g : Entry) → S e g → Pairwise B (start_of e) (start_of g)
        one e g s = go e.line g.line s.line e g s

    -- what is found by the walks are the directives
    directives_found : directives text t ≡ flat_map (found_at (directive_at text t)) first.entries
    directives_found =
        (λ j. gathered (λ i. directive_at text t (zero i j)) (length text)) ∙ first.found
      where
        zero : (i : ℕ) → i ≡ 0 + i
        zero i = omega arith

    other_found : directives (formatted text) u
        ≡ flat_map (found_at (directive_at (formatted text) u)) second.entries
    other_found =
        (λ j. gathered (λ i. directive_at (formatted text) u (zero i j)) (length (formatted text))) ∙ second.found
      where
        zero : (i : ℕ) → i ≡ 0 + i
        zero i = omega arith

  -- ---- places

  module _ (same : HaveSameTokens text (formatted text))
      (alike : Pairwise (BeginAlike B) (map span_of (tokens text)) (map span_of (tokens (formatted text)))) where
    place : (p q : ℕ) → B p q → P p q
    place p q r = record {
      byte = r;
      token = λ n low e.
          let there : B (token_start text n) (token_start (formatted text) n) =
          pairs_at (BeginAlike B) alike n (record { start = 0; end = 0 }) (record { start = 0; end = 0 })
          (omega (arith, low, length-map (tokens text) span_of)) in
          one_place text (formatted text) p q (token_start (formatted text) n) r
          (subst (λ s. B s (token_start (formatted text) n)) (sym e) there);
    }

    order : AreInOrder P
    order p k q l r s = bytes_in_order text (formatted text) p k q l r.byte s.byte

    begins : Pairwise (BeginAlike P) (map span_of (tokens text)) (map span_of (tokens (formatted text)))
    begins = weaker (BeginAlike B) (BeginAlike P) (λ s r b. place s.start r.start b) alike

    -- ---- directives

    module _ (m n : MapValue) (rows others : List Row) (spells : Spells text m) (spelled : Spells (formatted text) n)
        (by : IsSpelledBy text m rows) (its : IsSpelledBy (formatted text) n others) where
      comment_same : (e g : Entry) → S m n rows others spells spelled e g → (a b : Bool) → e.line ≡ Some a
          → g.line ≡ Some b → a ≡ b
          → Pairwise (IsSameDirective P text (formatted text)) (directive_at text (spelled_by text m rows) e.place)
          (directive_at (formatted text) (spelled_by (formatted text) n others) g.place)
      comment_same e g s a b here there both =
          same_directive P order text (formatted text) same begins m n rows others by its e.place g.place
          (place e.place g.place (same_first text (formatted text) _ _ e g s))
          ((s.here.comment a here).0 ∙ ap stands_so both ∙ sym (s.there.comment b there).0)
          (said ∙ s.bytes ∙ sym (s.there.comment b there).1) (λ k low nonblank.
          place (e.place + k) (g.place + k)
          (same_byte text (formatted text) _ _ e g s k (omega (arith, low, ap length said))
          (ap (λ bytes. is_blank (get_or bytes k 0)) (sym said)
          ∙ nonblank_word (get_or (comment_at text e.place) k 0) nonblank (comment_on_line text e.place k low))))
        where
          said : comment_at text e.place ≡ e.bytes
          said = (s.here.comment a here).1

      entry_same : (e g : Entry) → S m n rows others spells spelled e g
          → Pairwise (IsSameDirective P text (formatted text))
          (found_at (directive_at text (spelled_by text m rows)) e)
          (found_at (directive_at (formatted text) (spelled_by (formatted text) n others)) g)
      entry_same e g s = go e.line g.line refl refl s.line
        where
          go : (o p : Option Bool) → e.line ≡ o → g.line ≡ p → o ≡ p
              → Pairwise (IsSameDirective P text (formatted text))
              (found_in (directive_at text (spelled_by text m rows)) o e.place)
              (found_in (directive_at (formatted text) (spelled_by (formatted text) n others)) p g.place)
          go None None here there both = no_pair
          go (Some a) (Some b) here there both = let one : a ≡ b = cc in comment_same e g s a b here there one
          go None (Some b) here there both = absurd (cc)
          go (Some a) None here there both = absurd (cc)

      directives_same : Pairwise (IsSameDirective P text (formatted text)) (directives text (spelled_by text m rows))
          (directives (formatted text) (spelled_by (formatted text) n others))
      directives_same =
          subst (λ ds. Pairwise (IsSameDirective P text (formatted text)) ds
          (directives (formatted text) (spelled_by (formatted text) n others)))
          (sym (directives_found m n rows others spells spelled))
          (subst (Pairwise (IsSameDirective P text (formatted text))
          (flat_map (found_at (directive_at text (spelled_by text m rows)))
          (first m n rows others spells spelled).entries)) (sym (other_found m n rows others spells spelled))
          (pairs_flat_related (IsSameDirective P text (formatted text)) (S m n rows others spells spelled)
          (found_at (directive_at text (spelled_by text m rows)))
          (found_at (directive_at (formatted text) (spelled_by (formatted text) n others))) entry_same
          (pairs m n rows others spells spelled)))

    all_same : (l k : Diagnostics) → IsLint text (OfSpelled l) → IsLint (formatted text) (OfSpelled k)
        → AnswerTheSame l k → Pairwise (IsSame P) l.list.items k.list.items
    all_same = same_diagnostics P order text (formatted text) same begins directives_same

  pub layouts_keep_diagnostics : HaveSameTokens text (formatted text) → (l k : Diagnostics)
      → IsLint text (OfSpelled l) → IsLint (formatted text) (OfSpelled k) → AnswerTheSame l k
      → Pairwise (IsSame P) l.list.items k.list.items
  layouts_keep_diagnostics same l k (m, spells, (rows, by, is)) (n, spelled, (others, its, of)) =
      all_same same (starts m n rows others spells spelled) l k (m, spells, (rows, by, is))
      (n, spelled, (others, its, of))
