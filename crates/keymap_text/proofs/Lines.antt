-- Lines: one more than the line feeds before a place.
use Rattle.keymap_text.proofs.Common.{◌≡◌, ℕ, zero, suc, ◌+◌, ◌-◌, ◌≤◌, ◌==◌, Bool, false, cond, List, [], ◌∷◌, ◌++◌}
use Rattle.keymap_text.proofs.Common.{length, take, drop, refl, sym, ◌∙◌, ap, arith, count_by, length-drop}
use Rattle.keymap_text.proofs.Common.{length-append, drop-drop, drop-append-le, take-append-le, sum_by-append}
use Rattle.keymap_text.proofs.Common.{sum_by-cons, sum_by-take-drop, take-add, leading, TextFault, Reading, line}
use Rattle.keymap_text.proofs.Common.{IsFaultOfPending, Lined}
use Rattle.keymap_text.proofs.Leading.{leading_pass, leading_fail}

-- how many line feeds there are
abbrev pub feeds : List ℕ → ℕ
feeds b = count_by (λ c. c == 10) b

-- of two texts, one behind the other
pub feeds_append : (a b : List ℕ) → feeds (a ++ b) ≡ feeds a + feeds b
feeds_append a b = sum_by-append (λ c. cond (c == 10) 1 0) a b

-- before a place and from it on
pub feeds_split : (n : ℕ) (b : List ℕ) → feeds (take n b) + feeds (drop n b) ≡ feeds b
feeds_split n b = sum_by-take-drop (λ c. cond (c == 10) 1 0) b n

-- before a later place
pub feeds_more : (b : List ℕ) (n k : ℕ) → feeds (take (n + k) b) ≡ feeds (take n b) + feeds (take k (drop n b))
feeds_more b n k = ap feeds (take-add n k b) ∙ feeds_append (take n b) (take k (drop n b))

-- the line of a later place by the line feeds between
pub line_more : (b : List ℕ) (n k : ℕ) → line b (n + k) ≡ line b n + feeds (take k (drop n b))
line_more b n k = omega (arith, feeds_more b n k)

-- no line feed stands from a later place on, where none does from a place on
feeds_behind : (n m : ℕ) (b : List ℕ) → n ≤ m → feeds (drop n b) ≡ 0 → feeds (drop m b) ≡ 0
feeds_behind n m b l h =
    let e : drop (m - n) (drop n b) ≡ drop m b = drop-drop (m - n) n b ∙ ap (λ k. drop k b) (omega (arith, l)) in
    sym (ap feeds e) ∙ omega (arith, feeds_split (m - n) (drop n b), h)

-- all line feeds stand before
line_all : (b : List ℕ) (n : ℕ) → feeds (drop n b) ≡ 0 → line b n ≡ 1 + feeds b
line_all b n h = omega (arith, feeds_split n b, h)

-- another byte is no line feed
pub no_feed : (c : ℕ) (b : List ℕ) → (c == 10) ≡ false → feeds (c ∷ b) ≡ feeds b
no_feed c b h = sum_by-cons (λ c. cond (c == 10) 1 0) c b ∙ ap (λ t. cond t 1 0 + feeds b) h ∙ omega arith

-- the line of a reader, by all line feeds before the bytes to come
lined_line : (r : Reading) (b : List ℕ) → Lined r b → r.line ≡ 1 + feeds b
lined_line r b l = l.line ∙ line_all b r.offset l.none

-- bytes without a line feed in front of others add none
front_feeds : (n : ℕ) (p w : List ℕ) → feeds p ≡ 0 → feeds (take n (p ++ w)) ≡ feeds (take (n - length p) w)
front_feeds n [] w h = grind arith
front_feeds zero (c ∷ p) w h = grind arith
front_feeds (suc n) (c ∷ p) w h =
    let head = sum_by-cons (λ c. cond (c == 10) 1 0) c p in
    let more = sum_by-cons (λ c. cond (c == 10) 1 0) c (take n (p ++ w)) in
    let rest : n - length p ≡ suc n - length (c ∷ p) = omega arith in
    omega (arith, head, more, h, front_feeds n p w (omega (arith, head, h)), ap (λ k. feeds (take k w)) rest)

-- the line of a place in what is pending and the bytes behind it
pub window_line : (r : Reading) (b w : List ℕ) (n : ℕ) → Lined r b → feeds r.pending.items ≡ 0
    → r.line + feeds (take n (r.pending.items ++ w)) ≡ line (b ++ w) (r.offset + n)
window_line r b w n l z =
    let cut = drop-append-le r.offset b w (omega (arith, l.fed)) in
    let size : length (drop r.offset b) ≡ length r.pending.items = omega (arith, length-drop r.offset b, l.fed) in
    omega (
      arith,
      l.line,
      line_more (b ++ w) r.offset n,
      ap (λ (t : List ℕ). feeds (take n t)) cut,
      ap feeds (take-append-le r.offset b w (omega (arith, l.fed))),
      front_feeds n r.pending.items w z,
      front_feeds n (drop r.offset b) w l.none ∙ ap (λ k. feeds (take (n - k) w)) size,
    )

-- bytes were taken, of which the last, which no line feed is among, are pending
pub window_lined : (old new : Reading) (b w window : List ℕ) (n : ℕ) → Lined old b → feeds old.pending.items ≡ 0
    → window ≡ old.pending.items ++ w → feeds (drop n window) ≡ 0 → new.line ≡ old.line + feeds (take n window)
    → old.offset + n ≤ new.offset → new.offset + length new.pending.items ≡ old.offset + length window
    → Lined new (b ++ w)
window_lined old new b w window n l z e tail line from fed =
    let same = ap (λ (t : List ℕ). feeds (take n t)) e in
    let all = ap feeds e ∙ feeds_append old.pending.items w in
    let here : feeds (drop (old.offset + n) (b ++ w)) ≡ 0 =
    omega (
      arith,
      window_line old b w n l z,
      same,
      all,
      feeds_split n window,
      tail,
      z,
      lined_line old b l,
      feeds_append b w,
      feeds_split (old.offset + n) (b ++ w),
    ) in
    let behind = feeds_behind (old.offset + n) new.offset (b ++ w) from here in
    record {
      fed = omega (arith, fed, ap length e, length-append old.pending.items w, l.fed, length-append b w);
      line = omega (
        arith,
        line,
        same,
        window_line old b w n l z,
        line_all (b ++ w) (old.offset + n) here,
        line_all (b ++ w) new.offset behind,
      );
      none = behind;
    }

-- a fault at what is pending stands on the line of the reader
pub pending_line : (old : Reading) (b more : List ℕ) (e : TextFault) → Lined old b → IsFaultOfPending e old
    → e.line ≡ line (b ++ more) e.offset
pending_line old b more e l p = grind (arith, feeds_behind, line_all, lined_line, take-append-le)

-- bytes of a run that no line feed belongs to
pub feeds_run : (p : ℕ → Bool) → p 10 ≡ false → (n : ℕ) (xs : List ℕ) → n ≤ leading p xs → feeds (take n xs) ≡ 0
feeds_run p f zero xs h = refl
feeds_run p f (suc n) [] h = refl
feeds_run p f (suc n) (c ∷ xs) h = grind (arith, leading_fail, leading_pass, no_feed, (feeds_run p f n xs))
