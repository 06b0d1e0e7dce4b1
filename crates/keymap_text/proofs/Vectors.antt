-- From the mask of sixteen bytes to the bytes in front that pass a test.
use Rattle.keymap_text.proofs.Common.{◌≡◌, ℕ, ◌+◌, ◌%◌, ◌^◌, ◌<◌, ◌≤◌, Bool, true, false, not, List, [], ◌∷◌, map}
use Rattle.keymap_text.proofs.Common.{length, get_or, replicate, Fits, w8, refl, sym, ap, ap₂, ◌∙◌, subst, arith}
use Rattle.keymap_text.proofs.Common.{agree_below, agree_below_at, not-true, not-false, map-map, mask_l-mod}
use Rattle.keymap_text.proofs.Common.{length-chunk, get_or-chunk, leading_from_mask_l, trailing_mask_l, length-map}
use Rattle.keymap_text.proofs.Common.{prefix_len-le-length, prefix_len_is, prefix_len_passes, prefix_len_stops}
use Rattle.keymap_text.proofs.Common.{prefix_len, leading, first_of_sixteen, ⊎_elim, cases_lt, true≢false}
use lib.Lanes.{chunk, zip2, mask_l, top}

-- vectors that were computed lane by lane from v
zip2-map : (h : ℕ → ℕ → ℕ) (f g : ℕ → ℕ) (v : List ℕ) → zip2 h (map f v) (map g v) ≡ map (λ x. h (f x) (g x)) v
zip2-map h f g [] = refl
zip2-map h f g (x ∷ v) = ap (λ r. h (f x) (g x) ∷ r) (zip2-map h f g v)

-- two masks of the same bytes, joined byte by byte
pub joined : (h : ℕ → ℕ → ℕ) (f g : ℕ → ℕ) (v : List ℕ) {a b : List ℕ} → a ≡ map f v → b ≡ map g v
    → zip2 h a b ≡ map (λ x. h (f x) (g x)) v
joined h f g v p q = ap₂ (zip2 h) p q ∙ zip2-map h f g v

-- a vector with the same byte in each place
pub splat_is : (v : List ℕ) (n y : ℕ) → length v ≡ n → replicate n y ≡ map (λ _. y) v
splat_is [] n y e = ap (λ k. replicate k y) (sym e)
splat_is (x ∷ v) n y e = ap (λ k. replicate k y) (sym e) ∙ ap (λ r. y ∷ r) (splat_is v (length v) y refl)

-- the place of the lowest bit is how many bytes pass
run_is : (p : ℕ → Bool) (v : List ℕ) → length v ≡ 16
    → first_of_sixteen (mask_l (map p v)) ≡ prefix_len (λ x. not (p x)) v
run_is p v long = grind (arith, leading_from_mask_l, trailing_mask_l)

-- the bytes of a vector are the first sixteen
in_chunk : (d : List ℕ) (k : ℕ) → k < 16 → get_or (chunk 0 16 d) k 0 ≡ get_or d k 0
in_chunk d k h =
    let same : 0 + k ≡ k = omega arith in
    get_or-chunk 0 16 d k 0 h ∙ ap (λ j. get_or d j 0) same

module _ (q : ℕ → Bool) (d : List ℕ) (r : ℕ) (z : List ℕ) (room : 16 ≤ length d)
    (fits : (k : ℕ) → Fits w8 (get_or d k 0)) (found : r ≡ first_of_sixteen (mask_l (map (top 7) z) % 2 ^ 64))
    (f : ℕ → ℕ) (lanes : z ≡ map f (chunk 0 16 d)) where
  abbrev stops : ℕ → Bool
  stops x = top 7 (f x)

  long : length (chunk 0 16 d) ≡ 16
  long = length-chunk 0 16 d room

  counted : r ≡ prefix_len (λ x. not (stops x)) (chunk 0 16 d)
  counted =
      let v = chunk 0 16 d in
      let mask = ap (λ l. mask_l l % 2 ^ 64) (ap (map (top 7)) lanes ∙ map-map (top 7) f v)
      ∙ mask_l-mod (map stops v) 64 (omega (arith, length-map v stops, long)) in
      found ∙ ap first_of_sixteen mask ∙ run_is stops v long

  goes_on : (k : ℕ) → k < r → stops (get_or d k 0) ≡ false
  goes_on k to =
      let bound = prefix_len-le-length (λ x. not (stops x)) (chunk 0 16 d) in
      let at = in_chunk d k (omega (arith, counted, long, bound, to)) in
      subst (λ x. stops x ≡ false) at (not-true _ (prefix_len_passes (λ x. not (stops x)) (chunk 0 16 d) k 0
      (omega (arith, counted, to))))

  -- all bytes before the lowest bit pass q
  pub run_at_most : agree_below stops (λ x. not (q x)) 256 ≡ true → r ≤ leading q d
  run_at_most all = ⊎_elim
      (λ l.
      let bound = prefix_len-le-length (λ x. not (stops x)) (chunk 0 16 d) in
      let stop = prefix_len_stops q d 0 (omega (arith, l, counted, long, room, bound)) in
      let same = agree_below_at stops (λ x. not (q x)) 256 (get_or d (leading q d) 0) all (fits (leading q d)).fits in
      absurd (true≢false (ap not (sym stop) ∙ sym same ∙ goes_on (leading q d) l)))
      (λ l. l)
      (cases_lt (leading q d) r)

  pub run_bound : r ≤ 16
  run_bound = omega (arith, counted, long, prefix_len-le-length (λ x. not (stops x)) (chunk 0 16 d))

  -- a lane stops just where q fails
  pub run_in : agree_below stops (λ x. not (q x)) 256 ≡ true → r < 16 → leading q d ≡ r
  run_in all short =
      prefix_len_is q d r 0 (omega (arith, room, short))
      (λ k to. not-false _ (sym (agree_below_at stops (λ x. not (q x)) 256 (get_or d k 0) all (fits k).fits)
      ∙ goes_on k to))
      (λ _.
      let at = ap (λ j. get_or (chunk 0 16 d) j 0) (sym counted) ∙ in_chunk d r short in
      let set = subst (λ x. stops x ≡ true) at
      (not-false _ (prefix_len_stops (λ x. not (stops x)) (chunk 0 16 d) 0
      (omega (arith, counted, long, short)))) in
      not-true _ (sym (agree_below_at stops (λ x. not (q x)) 256 (get_or d r 0) all (fits r).fits) ∙ set)
      )
