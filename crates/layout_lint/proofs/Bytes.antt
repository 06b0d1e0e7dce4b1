-- The bytes of a text and of its layout that are no blanks are the same, in one order: those of each token and comment.
use Rattle.layout_lint.proofs.Common.{Bool, List, [], All, ap, arith, cond, drop, false, get_or, inl, inr}
use Rattle.layout_lint.proofs.Common.{length, map, not, subst, sym, take, ℕ, ◌+◌, ◌-◌, ◌<◌, ◌∙◌, ◌∷◌, ◌≡◌, ◌≤◌}
use Rattle.std.proofs.lemmas.Bool.{cases_lt}
use Rattle.std.proofs.lemmas.List.{get_or-drop, get_or-take, length-drop, length-take}
use Rattle.std.proofs.lemmas.List.Elements.{All-head, All-tail}
use Rattle.std.proofs.lemmas.List.Sums.{sum_by-cons}
use Rattle.keymap_text.specs.Lexical.{is_blank}
use Rattle.keymap_text.specs.declared.token.Span.{Span}
use Rattle.keymap_text.proofs.Shared.{same_head, same_tail}
use Rattle.keymap_fmt.proofs.Shared.{Line}
use Rattle.keymap_lint.specs.Same.{Pairwise, no_pair, one_pair}
use Rattle.keymap_lint.specs.Spelled.{Spelled}
use Rattle.keymap_lint.proofs.Shared.{take_take}
use Rattle.layout_lint.specs.Layouts.{IsSameByte, is_nonblank, nonblank_before}
use Rattle.layout_lint.proofs.Gaps.{nonblanks, nonblanks_on}
use Rattle.layout_lint.proofs.Walk.{Counted, Entry, StandsIn, line_of}

-- ---- places of one byte

no_more : (text : List ℕ) (p k : ℕ) → p ≤ k → nonblank_before text p ≤ nonblank_before text k
no_more text p k low =
    let place : p + (k - p) ≡ k = omega (arith, low) in
    omega (arith, ap (nonblank_before text) place, nonblanks_on text p (k - p))

-- a byte that is no blank counts behind it
counts : (text : List ℕ) (p k : ℕ) → p < k → p < length text → is_blank (get_or text p 0) ≡ false
    → nonblank_before text p < nonblank_before text k
counts text p k low within nonblank =
    let more = no_more text (p + 1) k (omega (arith, low)) in
    let first : is_blank (get_or (drop p text) 0 0) ≡ false =
    ap is_blank (get_or-drop p text 0 0 ∙ ap (λ p. get_or text p 0) here) ∙ nonblank in
    omega (arith, more, nonblanks_on text p 1, one (drop p text) room first)
  where
    here : p + 0 ≡ p
    here = omega arith

    room : 0 < length (drop p text)
    room = omega (arith, length-drop p text, within)

    one : (xs : List ℕ) → 0 < length xs → is_blank (get_or xs 0 0) ≡ false → nonblanks (take 1 xs) ≡ 1
    one [] low e = absurd (omega (arith, low))
    one (x ∷ xs) low e = sum_by-cons (λ c. cond (is_nonblank c) 1 0) x [] ∙ ap (λ b. cond (not b) 1 0 + 0) e

module _ (text other : List ℕ) where
  pub bytes_in_order : (p k q l : ℕ) → IsSameByte text other p q → IsSameByte text other k l
      → (p < k → q < l) × (q < l → p < k)
  bytes_in_order p k q l r s = (
    λ less. elim (cases_lt q l) [
      | inl low ↦ low
      | inr up ↦
          absurd (omega (arith, counts text p k less r.within r.nonblank, no_more other l q up, r.before, s.before))
    ],
    λ less. elim (cases_lt p k) [
      | inl low ↦ low
      | inr up ↦
          absurd (omega (
            arith,
            counts other q l less r.within_other (ap is_blank (sym r.byte) ∙ r.nonblank),
            no_more text k p up,
            r.before,
            s.before,
          ))
    ],
  )

  pub one_place : (p q l : ℕ) → IsSameByte text other p q → IsSameByte text other p l → q ≡ l
  one_place p q l r s = elim (cases_lt q l) [
    | inl less ↦ absurd (omega (arith, (bytes_in_order p p q l r s).1 less))
    | inr up ↦ elim (cases_lt l q) [
      | inl less ↦ absurd (omega (arith, (bytes_in_order p p l q s r).1 less))
      | inr none ↦ omega (arith, up, none)
    ]
  ]

  -- ---- entries of both

  module _ (t u : Spelled) where
    pub record SameEntry (e g : Entry) : Type 0 where
      pub bytes : e.bytes ≡ g.bytes
      pub line : e.line ≡ g.line
      pub before : nonblank_before text e.place ≡ nonblank_before other g.place
      pub here : StandsIn text t e
      pub there : StandsIn other u g

    pub same_entries : (v : ℕ) (es gs : List Entry) → map line_of es ≡ map line_of gs → All (StandsIn text t) es
        → All (StandsIn other u) gs → Counted text v es → Counted other v gs → Pairwise SameEntry es gs
    same_entries v [] [] same all its c d = no_pair
    same_entries v (e ∷ es) [] same all its c d = absurd (omega (arith, ap length same))
    same_entries v [] (g ∷ gs) same all its c d = absurd (omega (arith, ap length same))
    same_entries v (e ∷ es) (g ∷ gs) same all its (c, more) (d, rest) =
        let line : line_of e ≡ line_of g = same_head (line_of e) (line_of g) (map line_of es) (map line_of gs) same in
        let bytes : e.bytes ≡ g.bytes = ap (λ (l : Line). l.0) line in
        one_pair (record {
          bytes = bytes;
          line = ap (λ (l : Line). l.1) line;
          before = c ∙ sym d;
          here = All-head (StandsIn text t) e es all;
          there = All-head (StandsIn other u) g gs its;
        })
        (same_entries (v + nonblanks e.bytes) es gs
        (same_tail (line_of e) (line_of g) (map line_of es) (map line_of gs) same)
        (All-tail (StandsIn text t) e es all) (All-tail (StandsIn other u) g gs its) more
        (subst (λ bytes. Counted other (v + nonblanks bytes) gs) (sym bytes) rest))

  reads : (text : List ℕ) (t : Spelled) (e : Entry) → StandsIn text t e → (k : ℕ) → k < length e.bytes
      → get_or text (e.place + k) 0 ≡ get_or e.bytes k 0
  reads text t e h k low =
      sym (get_or-drop e.place text k 0) ∙ sym (get_or-take (length e.bytes) (drop e.place text) k 0 low)
      ∙ ap (λ xs. get_or xs k 0) h.reads

  fits : (text : List ℕ) (t : Spelled) (e : Entry) → StandsIn text t e → (k : ℕ) → k < length e.bytes
      → e.place + k < length text
  fits text t e h k low =
      omega (arith, low, ap length h.reads, length-take (length e.bytes) (drop e.place text), length-drop e.place text)

  counted_to : (text : List ℕ) (t : Spelled) (e : Entry) → StandsIn text t e → (k : ℕ) → k < length e.bytes
      → nonblank_before text (e.place + k) ≡ nonblank_before text e.place + nonblanks (take k e.bytes)
  counted_to text t e h k low =
      nonblanks_on text e.place k
      ∙ ap (λ xs. nonblank_before text e.place + nonblanks xs)
      (sym (take_take k (length e.bytes) (drop e.place text) (omega (arith, low))) ∙ ap (take k) h.reads)

  -- each byte of a token or comment that is no blank
  pub same_byte : (t u : Spelled) (e g : Entry) → SameEntry t u e g → (k : ℕ) → k < length e.bytes
      → is_blank (get_or e.bytes k 0) ≡ false → IsSameByte text other (e.place + k) (g.place + k)
  same_byte t u e g s k low nonblank =
      let few : k < length g.bytes = omega (arith, low, ap length s.bytes) in
      record {
        within = fits text t e s.here k low;
        within_other = fits other u g s.there k few;
        byte =
            reads text t e s.here k low ∙ ap (λ xs. get_or xs k 0) s.bytes ∙ sym (reads other u g s.there k few);
        nonblank = ap is_blank (reads text t e s.here k low) ∙ nonblank;
        before =
            counted_to text t e s.here k low ∙ (λ i. s.before i + nonblanks (take k (s.bytes i)))
            ∙ sym (counted_to other u g s.there k few);
      }

  pub same_first : (t u : Spelled) (e g : Entry) → SameEntry t u e g → IsSameByte text other e.place g.place
  same_first t u e g s =
      let here : e.place + 0 ≡ e.place = omega arith in
      let there : g.place + 0 ≡ g.place = omega arith in
      subst (λ (sides : ℕ × ℕ). IsSameByte text other sides.0 sides.1) (λ i. (here i, there i))
      (same_byte t u e g s 0 s.here.some s.here.nonblank)
