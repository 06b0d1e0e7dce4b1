-- Where lines begin, and the line of a place by them.
use Rattle.keymap_places.proofs.Common.{◌≡◌, ℕ, zero, suc, ◌+◌, ◌-◌, ◌≤◌, ◌<◌, ◌==◌, Bool, false, not, List, [], rules}
use Rattle.keymap_places.proofs.Common.{◌∷◌, ◌++◌, length, take, drop, get_or, refl, ◌∙◌, sym, ap, subst, arith}
use Rattle.keymap_places.proofs.Common.{count_by}
use Rattle.keymap_places.proofs.Common.{drop-cons, eqb-true, length-append, length-drop, suffix_len}
use Rattle.keymap_places.proofs.Common.{length-take, length-take-le, drop-drop, drop-take, get_or_append_left}
use Rattle.keymap_places.proofs.Common.{get_or-drop, get_or-take, suffix_len_is, prefix_len_passes, prefix_len_stops}
use Rattle.keymap_places.proofs.Common.{get_or-append_seam, leading, stays_on_line, before_in_line, line_end}
use Rattle.keymap_places.proofs.Common.{IsLineStart}
use Rattle.keymap_places.proofs.Common.{AreStarts, AreLines, line, cases_eq, inl, inr, ◌≢◌}
use Rattle.keymap_text.proofs.Shared.{feeds_run, leading_fail, leading_le, leading_pass, line_more}

-- bytes that stay on the line of those in front of them
leading_drop : (p : ℕ → Bool) (k : ℕ) (xs : List ℕ) → k ≤ leading p xs → k + leading p (drop k xs) ≡ leading p xs
leading_drop p zero xs h = omega arith
leading_drop p (suc k) [] h = absurd (omega (arith, h))
leading_drop p (suc k) (c ∷ xs) h = grind (arith, leading_fail, leading_pass, (leading_drop p k xs))

-- the end of a line is that of each later place on it
pub same_end : (b : List ℕ) (q p : ℕ) → q ≤ p → p ≤ line_end b q → line_end b p ≡ line_end b q
same_end b q p l h =
    let on : p - q + leading stays_on_line (drop (p - q) (drop q b)) ≡ leading stays_on_line (drop q b) =
    leading_drop stays_on_line (p - q) (drop q b) (omega (arith, l, h)) in
    let there : drop (p - q) (drop q b) ≡ drop p b =
    drop-drop (p - q) q b ∙ ap (λ k. drop k b) (omega (arith, l)) in
    omega (arith, l, on, ap (leading stays_on_line) there)

-- what stands between the beginning of a line and a place on it
pub before_is : (b : List ℕ) (start place : ℕ) → place ≤ length b
    → start + suffix_len stays_on_line (take place b) ≡ place
    → take (place - start) (drop start b) ≡ before_in_line b place
before_is b start place l e = grind (arith, drop-take, length-take)

-- a place on a line
pub on_line : (b : List ℕ) (n s place : ℕ) → IsLineStart b n s → s ≤ place → place ≤ line_end b s → place ≤ length b
    → s + suffix_len stays_on_line (take place b) ≡ place
on_line b n s place h l e w =
    let size : length (take place b) ≡ place = length-take-le place b w in
    let is = suffix_len_is stays_on_line (take place b) s 0 (omega (arith, size, l))
    (λ k k0 k1. ap stays_on_line (get_or-take place b k 0 (omega (arith, k1, size))
    ∙ ap (λ n. get_or b n 0) (behind k k0)
    ∙ sym (get_or-drop s b (k - s) 0)) ∙ prefix_len_passes stays_on_line (drop s b) (k - s) 0
    (omega (arith, k0, k1, size, e)))
    (λ z. ap stays_on_line (get_or-take place b (s - 1) 0 (omega (arith, z, l))) ∙ h.begins z) in
    omega (arith, is, size, l)
  where
    behind : (k : ℕ) → s ≤ k → k ≡ s + (k - s)
    behind k h = omega (arith, h)

-- a place from a line's start to its end has the line's number
pub same_number : (b : List ℕ) (n s place : ℕ) → IsLineStart b n s → s ≤ place → place ≤ line_end b s
    → line b place ≡ n
same_number b n s place h l e =
    let sum : place ≡ s + (place - s) = omega (arith, l) in
    let none : count_by (λ c. c == 10) (take (place - s) (drop s b)) ≡ 0 =
    feeds_run stays_on_line refl (place - s) (drop s b) (omega (arith, l, e)) in
    ap (line b) sum ∙ line_more b s (place - s) ∙ omega (arith, none, h.number)

-- where a text goes on behind a line, the next one begins
pub next_start : (b : List ℕ) (n s : ℕ) → IsLineStart b n s → line_end b s < length b
    → IsLineStart b (n + 1) (line_end b s + 1)
next_start b n s h l =
    let e = line_end b s in
    let stop : stays_on_line (get_or b e 0) ≡ false =
    ap stays_on_line (sym (get_or-drop s b (leading stays_on_line (drop s b)) 0))
    ∙ prefix_len_stops stays_on_line (drop s b) 0 (omega (arith, l, length-drop s b)) in
    let one : count_by (λ c. c == 10) (take 1 (drop e b)) ≡ 1 =
    ap (λ (t : List ℕ). count_by (λ c. c == 10) (take 1 t)) (drop-cons b e 0 l)
    ∙ feed (get_or b e 0) stop in
    record {
      inside = omega (arith, l);
      begins = λ _. ap (λ k. stays_on_line (get_or b k 0)) (less e) ∙ stop;
      number = line_more b e 1 ∙ omega (arith, one, same_number b n s e h (omega arith) (omega arith));
    }
  where
    less : (e : ℕ) → e + 1 - 1 ≡ e
    less e = omega arith

    feed : (c : ℕ) → not (c == 10) ≡ false → count_by (λ c. c == 10) (c ∷ []) ≡ 1
    feed c h = search (rules, eqb-true)

-- the first line
pub first_start : (b : List ℕ) → AreStarts b (0 ∷ [])
first_start b = grind arith

-- behind the LF of the last line that is known the next one starts
pub start_pushed : (b old new : List ℕ) (e : ℕ) → AreStarts b old
    → e ≡ line_end b (get_or old (length old - 1) 0) → e < length b → new ≡ old ++ (e + 1) ∷ [] → AreStarts b new
start_pushed b old new e h last l pushed = rw pushed (record {
  some = omega (arith, length-append old ((e + 1) ∷ []));
  first = get_or_append_left old ((e + 1) ∷ []) 0 0 h.some ∙ h.first;
  each = λ i k. elim (cases_eq i (length old)) [
    | inl z ↦ rw (z, seam) here
    | inr m ↦ rw (same i (below i k m)) (h.each i (below i k m))
  ];
  next = λ i k. elim (cases_eq (i + 1) (length old)) [
    | inl z ↦ let n : i ≡ length old - 1 = omega (arith, z) in rw (same i (omega (arith, z)), z, seam, n, ← last) refl
    | inr m ↦
        let n = below (i + 1) k m in rw (same i (omega (arith, n)), same (i + 1) n) (h.next i n)
  ];
})
  where
    below : (i : ℕ) → i < length (old ++ (e + 1) ∷ []) → i ≢ length old → i < length old
    below i k m = omega (arith, k, m, length-append old ((e + 1) ∷ []))

    same : (i : ℕ) → i < length old → get_or (old ++ (e + 1) ∷ []) i 0 ≡ get_or old i 0
    same i m = get_or_append_left old ((e + 1) ∷ []) 0 i m

    seam : get_or (old ++ (e + 1) ∷ []) (length old) 0 ≡ e + 1
    seam = get_or-append_seam old (e + 1) [] 0

    here : IsLineStart b (length old + 1) (e + 1)
    here =
        let k = length old - 1 in
        let n : k + 1 ≡ length old = omega (arith, h.some) in
        let s = next_start b (k + 1) (get_or old k 0) (h.each k (omega (arith, h.some))) (omega (arith, last, l)) in
        subst (λ n. IsLineStart b (n + 1) (e + 1)) n (subst (λ e. IsLineStart b (k + 1 + 1) (e + 1)) (sym last) s)

-- the end of the line that is found
pub found_end : (b ss : List ℕ) (i place : ℕ) → AreLines b ss → i < length ss → get_or ss i 0 ≤ place
    → (i + 1 < length ss → place < get_or ss (i + 1) 0) → place ≤ length b → place ≤ line_end b (get_or ss i 0)
found_end b ss i place h l s n w = grind arith

-- a line ends within the text
pub end_within : (b : List ℕ) (n s : ℕ) → IsLineStart b n s → line_end b s ≤ length b
end_within b n s h = omega (arith, h.inside, leading_le stays_on_line (drop s b), length-drop s b)

-- the end of the line of a place
pub end_of_place : (b ss : List ℕ) (i place : ℕ) → AreLines b ss → i < length ss → get_or ss i 0 ≤ place
    → (i + 1 < length ss → place < get_or ss (i + 1) 0) → place ≤ length b
    → line_end b place ≡ line_end b (get_or ss i 0)
end_of_place b ss i place h l s n w = same_end b (get_or ss i 0) place s (found_end b ss i place h l s n w)
