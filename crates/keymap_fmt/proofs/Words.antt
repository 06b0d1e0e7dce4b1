-- A word without blanks that stands nowhere in a text stands nowhere in its layout.
use Rattle.keymap_fmt.proofs.Common.{arith, ◌≡◌, ℕ, zero, suc, ◌+◌, ◌-◌, ◌<◌, ◌⊎◌, inl, inr, true, false}
use Rattle.keymap_fmt.proofs.Common.{true≢false, List, [], ◌∷◌, ◌++◌, length, get_or, take, refl, sym, ◌∙◌, ap, subst}
use Rattle.keymap_fmt.proofs.Common.{is_blank, stays_on_line, leading, front_of, Front, Skipped, Found}
use Rattle.keymap_fmt.proofs.Common.{Refused, Unfinished, skipped_by, Standing, AtTop, Part, Comment, Code}
use Rattle.keymap_fmt.proofs.Common.{PieceValue, State, pieces, pieces_after, trimmed, before, after, behind, ending}
use Rattle.keymap_fmt.proofs.Common.{start, rendered_from, Bool, if◌then◌else◌, ◌==◌}
use Rattle.std.proofs.Common.{All}
use Rattle.std.proofs.lemmas.Bool.{cases_lt}
use Rattle.std.proofs.lemmas.List.{get_or_append_left, get_or-append-add, get_or-take, length-append, length-take}
use Rattle.std.proofs.lemmas.List.Elements.{All-cons, All-head, All-nil, All-tail, All-weaker}
use Rattle.keymap_fmt.specs.Words.{LayoutsHaveNoNewWords, StandsIn}
use Rattle.keymap_fmt.proofs.Reading.{BeginsBlank, read_nil, read_one, read_blank, read_hash, read_token, read_refused}
use Rattle.keymap_fmt.proofs.Reading.{read_unfinished}
use Rattle.keymap_fmt.proofs.Texts.{ArePieces, no_piece, one_piece, text_pieces}
use Rattle.keymap_fmt.proofs.Written.{AreBlanks, after_at, before_blanks, rendered_blank}

-- ---- words of parts

behind_one : (c : ℕ) (bytes w : List ℕ) (k : ℕ) → StandsIn bytes w k → StandsIn (c ∷ bytes) w (suc k)
behind_one c bytes w k h = record {
  within = omega (arith, h.within);
  reads = λ j low. let e : suc k + j ≡ suc (k + j) = omega arith in ap (λ i. get_or (c ∷ bytes) i 0) e ∙ h.reads j low;
}

at_front : (bytes : List ℕ) (n : ℕ) → StandsIn bytes (take n bytes) 0
at_front bytes n = record {
  within = rw length-take (omega arith);
  reads = λ j low.
      let few : j < n = omega (arith, low, length-take n bytes) in
      let e : 0 + j ≡ j = omega arith in
      ap (λ i. get_or bytes i 0) e ∙ sym (get_or-take n bytes j 0 few);
}

of_part : (bytes part w : List ℕ) (i k : ℕ) → StandsIn bytes part i → StandsIn part w k → StandsIn bytes w (i + k)
of_part bytes part w i k h g = record {
  within = omega (arith, h.within, g.within);
  reads = λ j low.
      let e : i + k + j ≡ i + (k + j) = omega arith in
      ap (λ n. get_or bytes n 0) e ∙ h.reads (k + j) (omega (arith, g.within, low)) ∙ g.reads j low;
}

-- ---- the bytes of a piece stand in the text

comment_part : (c : ℕ) (bytes : List ℕ) (n : ℕ) → StandsIn (c ∷ bytes) (trimmed (c ∷ take n bytes)) 0
unfolding trimmed
comment_part c bytes n =
    of_part (c ∷ bytes) (c ∷ take n bytes) _ 0 0 (at_front (c ∷ bytes) (suc n)) (at_front (c ∷ take n bytes) _)

abbrev IsPart : List ℕ → PieceValue → Type 0
IsPart bytes p = (i : ℕ) × StandsIn bytes p.bytes i

all_parts : (bytes : List ℕ) (k : ℕ) (s : Standing) → All (IsPart bytes) (pieces_after k s bytes)
all_parts [] k s = subst (All (IsPart [])) (sym (read_nil k s)) (All-nil (IsPart []))
all_parts (c ∷ bytes) k s = go k s (all_parts bytes)
  where
    later : (ps : List PieceValue) → All (IsPart bytes) ps → All (IsPart (c ∷ bytes)) ps
    later ps all =
        All-weaker (IsPart bytes) (IsPart (c ∷ bytes)) (λ p h. (suc h.0, behind_one c bytes p.bytes h.0 h.1)) ps all

    skipped : ((k : ℕ) (s : Standing) → All (IsPart bytes) (pieces_after k s bytes)) → (s : Standing)
        → (is_blank c ≡ true) ⊎ (c ≡ 35) → All (IsPart (c ∷ bytes)) (pieces_after 0 s (c ∷ bytes))
    skipped more s (inl e) = subst (All (IsPart (c ∷ bytes))) (sym (read_blank s c bytes e)) (later _ (more 0 _))
    skipped more s (inr e) =
        subst (All (IsPart (c ∷ bytes))) (sym (read_hash s c bytes e))
        (All-cons (IsPart (c ∷ bytes)) _ _ (0, comment_part c bytes (leading stays_on_line bytes)) (later _ (more _ _)))

    at : ((k : ℕ) (s : Standing) → All (IsPart bytes) (pieces_after k s bytes)) → (s : Standing) (f : Front)
        → front_of c bytes ≡ f → All (IsPart (c ∷ bytes)) (pieces_after 0 s (c ∷ bytes))
    at more s (Skipped n) h = skipped more s (skipped_by c n bytes h)
    at more s (Found kind n) h =
        subst (All (IsPart (c ∷ bytes))) (sym (read_token s c bytes kind n h))
        (All-cons (IsPart (c ∷ bytes)) _ _ (0, at_front (c ∷ bytes) (suc n)) (later _ (more _ _)))
    at more s (Refused f) h =
        subst (All (IsPart (c ∷ bytes))) (sym (read_refused s c bytes f h)) (All-nil (IsPart (c ∷ bytes)))
    at more s Unfinished h =
        subst (All (IsPart (c ∷ bytes))) (sym (read_unfinished s c bytes h)) (All-nil (IsPart (c ∷ bytes)))

    go : (k : ℕ) (s : Standing) → ((k : ℕ) (s : Standing) → All (IsPart bytes) (pieces_after k s bytes))
        → All (IsPart (c ∷ bytes)) (pieces_after k s (c ∷ bytes))
    go zero s more = at more s (front_of c bytes) refl
    go (suc k) s more = subst (All (IsPart (c ∷ bytes))) (sym (read_one k s c bytes)) (later _ (more k s))

-- ---- what is written

-- the word has a byte, and none that is a blank
module _ (w : List ℕ) (some : 0 < length w) (solid : All (λ c. is_blank c ≡ false) w) where
  abbrev Nowhere : List ℕ → Type 0
  Nowhere bytes = (k : ℕ) → StandsIn bytes w k → ⊥

  no_blank : (j c : ℕ) → j < length w → is_blank c ≡ true → c ≡ get_or w j 0 → ⊥
  no_blank j c low blank e = true≢false (sym blank ∙ ap is_blank e ∙ solid j 0 low)

  nowhere_in_none : Nowhere []
  nowhere_in_none k h = omega (arith, h.within, some)

  behind_blank : (c : ℕ) (bytes : List ℕ) → is_blank c ≡ true → Nowhere bytes → Nowhere (c ∷ bytes)
  behind_blank c bytes blank none zero h = no_blank 0 c some blank (h.reads 0 some)
  behind_blank c bytes blank none (suc k) h =
      none k (record {
        within = omega (arith, h.within);
        reads = λ j low.
            let e : suc k + j ≡ suc (k + j) = omega arith in
            sym (ap (λ i. get_or (c ∷ bytes) i 0) e) ∙ h.reads j low;
      })

  behind_blanks : (g bytes : List ℕ) → AreBlanks g → Nowhere bytes → Nowhere (g ++ bytes)
  behind_blanks [] bytes blank none = none
  behind_blanks (c ∷ g) bytes blank none =
      behind_blank c (g ++ bytes) blank.0 (behind_blanks g bytes blank.1 none)

  -- between bytes and a blank no word stands
  in_front : (bytes rest : List ℕ) → BeginsBlank rest → Nowhere bytes → Nowhere rest → Nowhere (bytes ++ rest)
  in_front bytes rest begins none neither k h = elim (cases_lt k (length bytes)) [
    | inr past ↦
        let e : length bytes + (k - length bytes) ≡ k = omega (arith, past) in
        neither (k - length bytes) (record {
          within = omega (arith, h.within, past, length-append bytes rest);
          reads = λ j low.
              let f : length bytes + (k - length bytes + j) ≡ k + j = omega (arith, past) in
              sym (get_or-append-add bytes rest (k - length bytes + j) 0) ∙ ap (λ i. get_or (bytes ++ rest) i 0) f
              ∙ h.reads j low;
        })
    | inl low ↦ elim (cases_lt (length bytes) (k + length w)) [
      | inl over ↦
          let j = length bytes - k in
          let few : j < length w = omega (arith, low, over) in
          let e : length bytes + 0 ≡ k + j = omega (arith, low) in
          let first : get_or rest 0 0 ≡ begins.first = ap (λ xs. get_or xs 0 0) begins.is in
          no_blank j begins.first few begins.blank
          (sym first ∙ sym (get_or-append-add bytes rest 0 0) ∙ ap (λ i. get_or (bytes ++ rest) i 0) e ∙ h.reads j few)
      | inr whole ↦
          none k (record {
            within = omega (arith, whole);
            reads = λ j few.
                sym (get_or_append_left bytes rest 0 (k + j) (omega (arith, whole, few))) ∙ h.reads j few;
          })
    ]
  ]

  nowhere_written : (s : State) (u : Standing) (ps : List PieceValue) → ArePieces u ps
      → All (λ p. Nowhere p.bytes) ps → Nowhere (rendered_from s ps)
  unfolding rendered_from
  nowhere_written s u ps no_piece all = at_end (s.column == 0)
    where
      at_end : (b : Bool) → Nowhere (if b then [] else 10 ∷ [])
      at_end true = nowhere_in_none
      at_end false = behind_blank 10 [] refl nowhere_in_none
  nowhere_written s u qs (one_piece {ps = ps} p r h more) all =
      behind_blanks (before s p.part p.bytes p.standing) _ (before_blanks s p.part p.bytes p.standing)
      (written p.part (All-head (λ p. Nowhere p.bytes) p ps all)
      (nowhere_written (after s p.part p.bytes) (behind p.part) ps more (All-tail (λ p. Nowhere p.bytes) p ps all)))
    where
      written : (part : Part) → Nowhere p.bytes → Nowhere (rendered_from (after s part p.bytes) ps)
          → Nowhere (p.bytes ++ (ending part ++ rendered_from (after s part p.bytes) ps))
      written Comment none rest =
          in_front p.bytes _ (record { first = 10; rest = _; blank = refl; is = refl }) none
          (behind_blank 10 _ refl rest)
      written (Code kind) none rest =
          in_front p.bytes _ (rendered_blank (after s (Code kind) p.bytes) ps (after_at s (Code kind) p.bytes)) none
          rest

pub no_new_words : LayoutsHaveNoNewWords
no_new_words text w some solid none =
    nowhere_written w some solid start AtTop (pieces text) (text_pieces text 0 AtTop)
    (All-weaker (IsPart text) (λ p. (k : ℕ) → StandsIn p.bytes w k → ⊥)
    (λ p part k h. none (part.0 + k) (of_part text p.bytes w part.0 k part.1 h)) (pieces text)
    (all_parts text 0 AtTop))
