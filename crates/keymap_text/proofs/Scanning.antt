-- What taking blanks, comments and whole tokens makes of the rest of a text.
use Rattle.keymap_text.proofs.Common.{◌≡◌, ℕ, zero, suc, ◌+◌, ◌-◌, ◌<◌, ◌≤◌, ◌==◌, true, false, List, [], ◌∷◌, ◌++◌}
use Rattle.keymap_text.proofs.Common.{length, take, drop, refl, get_or, sym, ◌∙◌, ap, subst, arith, Ok, Err, append-nil}
use Rattle.keymap_text.proofs.Common.{length-append, length-drop, nat_tests, drop-drop, drop-append-le}
use Rattle.keymap_text.proofs.Common.{MapValue, TextFaultKind, Item, Grammar, Stop, leading, is_blank, is_space}
use Rattle.keymap_text.proofs.Common.{stays_on_line, tokens_after, GrammarState, accept, at, step, judge, grammar_view}
use Rattle.keymap_text.proofs.Common.{Advances, Refuses, Takes, Fronts}
use Rattle.keymap_text.proofs.Leading.{leading_pass, leading_fail, leading_short}
use Rattle.keymap_text.proofs.Splitting.{split_blank, split_comment, split_after, to_end}
use Rattle.keymap_text.proofs.Steps.{judge_then, judge_refused}

-- blanks are passed
split_spaces : (n q : ℕ) (xs y : List ℕ) → n ≤ leading is_space xs
    → tokens_after 0 q (xs ++ y) ≡ tokens_after 0 (q + n) (drop n xs ++ y)
split_spaces zero q xs y h = ap (λ k. tokens_after 0 k (xs ++ y)) (omega arith)
split_spaces (suc n) q [] y h = absurd (omega (arith, h))
split_spaces (suc n) q (c ∷ xs) y h =
    grind (arith, leading_fail, leading_pass, split_blank, (split_spaces n (q + 1) xs y))

-- blanks at a place of a text
pub spaces_at : (text rest : List ℕ) (at n : ℕ) → rest ≡ take (length text - at) (drop at text)
    → n ≤ leading is_space rest → tokens_after 0 at (drop at text) ≡ tokens_after 0 (at + n) (drop (at + n) text)
spaces_at text rest at n e h =
    subst (λ (t : List ℕ). tokens_after 0 at t ≡ tokens_after 0 (at + n) (drop n t)) (e ∙ to_end text at)
    (ap (tokens_after 0 at) (sym (append-nil rest)) ∙ split_spaces n at rest [] h
    ∙ ap (tokens_after 0 (at + n)) (append-nil (drop n rest)))
    ∙ ap (tokens_after 0 (at + n)) (drop-drop n at text)

-- nothing is taken
pub stays : (s : GrammarState) (rest : List ℕ) → Advances s s rest 0
stays s rest = grind arith

-- blanks are taken
pub blanks_advance : (s : GrammarState) (n : ℕ) (rest : List ℕ) → n ≤ leading is_space rest → n ≤ length rest
    → Advances s s rest n
blanks_advance s n rest h l = record { takes = λ q x. ap (judge s) (split_spaces n q rest x h); inside = l }

-- a blank in front is taken, also the end of a line
pub blank_advances : (s : GrammarState) (rest : List ℕ) → 0 < length rest → is_blank (get_or rest 0 0) ≡ true
    → Advances s s rest 1
blank_advances s [] l h = absurd (omega (arith, l))
blank_advances s (c ∷ rest) l h = grind (arith, split_blank)

-- a comment is taken up to the end of its line
pub comment_advances : (s : GrammarState) (rest : List ℕ) (n : ℕ) → 0 < length rest → get_or rest 0 0 ≡ 35
    → n ≡ leading stays_on_line rest → n < length rest → Advances s s rest n
comment_advances s [] n l h e k = absurd (omega (arith, l))
comment_advances s (c ∷ rest) n l h e k =
    let size = e ∙ leading_pass stays_on_line c rest (ap stays_on_line h) in
    let m = leading stays_on_line rest in
    let whole : suc m ≡ n = omega (arith, size) in
    record {
      takes = λ q x.
          let place : q + 1 + m ≡ q + n = omega (arith, size) in
          ap (judge s) (split_comment q c (rest ++ x) h
          ∙ ap (λ m. tokens_after m (q + 1) (rest ++ x)) (leading_short stays_on_line rest x (omega (arith, size, k)))
          ∙ split_after m (q + 1) (rest ++ x) (rw length-append (omega (arith, size, k)))
          ∙ ap (λ p. tokens_after 0 p (drop m (rest ++ x))) place
          ∙ ap (tokens_after 0 (q + n)) (drop-append-le m rest x (omega (arith, size, k))
          ∙ ap (λ (j : ℕ). drop j (c ∷ rest) ++ x) whole));
      inside = omega (arith, k);
    }

-- a token that is accepted is taken
pub token_advances : (s s' : GrammarState) (rest : List ℕ) (i : Item) (n : ℕ) → Fronts rest i n → accept s i ≡ Ok s'
    → Advances s s' rest n
token_advances s s' rest i n f a = grind (arith, judge_then)

-- a token that is not accepted is refused
pub token_refuses : (s : GrammarState) (rest : List ℕ) (i : Item) (n : ℕ) (f : TextFaultKind) → Fronts rest i n
    → accept s i ≡ Err f → Refuses s rest f 0
token_refuses s rest i n e f a = grind (arith, judge_refused)

-- bytes are taken behind others
pub advances_on : (old mid new : GrammarState) (rest behind : List ℕ) (n m : ℕ) → Advances old mid rest n
    → behind ≡ take (length rest - n) (drop n rest) → Advances mid new behind m → Advances old new rest (n + m)
advances_on old mid new rest behind n m a e b0 = grind (arith, drop-drop, length-drop, to_end)

-- a fault behind bytes that were taken
pub refuses_on : (old mid : GrammarState) (rest behind : List ℕ) (n m k : ℕ) (f : TextFaultKind)
    → Advances old mid rest n
    → behind ≡ take (length rest - n) (drop n rest) → Refuses mid behind f m → k ≡ n + m → Refuses old rest f k
refuses_on old mid rest behind n m k f a e r0 size = grind (arith, length-drop, to_end)

-- a token behind blanks is taken
pub after_blanks : (s s' : GrammarState) (rest : List ℕ) (t : Item) (b n : ℕ) → b ≤ leading is_space rest
    → b ≤ length rest → Fronts (take (length rest - b) (drop b rest)) t n → accept s t ≡ Ok s'
    → Advances s s' rest (b + n)
after_blanks s s' rest t b n h l f a =
    advances_on s s s' rest _ b n (blanks_advance s b rest h l) refl (token_advances s s' _ t n f a)

-- what takes definitions was not touched, and the place was moved
pub takes_moved : {D : Type 0} {shows : D → MapValue → Type 0} {d : D} {g g' : Grammar} {rest : List ℕ} {n : ℕ}
    → ((m : MapValue) → Advances (at m (grammar_view g)) (at m (grammar_view g')) rest n)
    → Takes shows d d (Ok n) g g' rest
takes_moved a = record { took = λ m h. (m, h, a m) }

-- What takes definitions was not touched.
pub takes_same : {D : Type 0} {shows : D → MapValue → Type 0} {d : D} {g : Grammar} {rest : List ℕ} {n : ℕ}
    → ((s : GrammarState) → Advances s s rest n) → Takes shows d d (Ok n) g g rest
takes_same a = record { took = λ m h. (m, h, a _) }

-- a token was accepted
pub takes_token : {D : Type 0} {shows : D → MapValue → Type 0} {d d' : D} {g g' : Grammar} {rest : List ℕ} {i : Item}
    {n : ℕ} → Fronts rest i n
    → ((m : MapValue) → shows d m
    → (m' : MapValue) × shows d' m' × (step m (grammar_view g) i ≡ Ok (at m' (grammar_view g'))))
    → Takes shows d d' (Ok n) g g' rest
unfolding accept
takes_token {rest = rest} {i = i} {n = n} f s = record {
  took = λ m h. let t = s m h in (t.0, t.1, token_advances _ _ rest i n f t.2);
}

-- a token was refused
pub takes_fault : {D : Type 0} {shows : D → MapValue → Type 0} {d d' : D} {g g' : Grammar} {rest : List ℕ} {i : Item}
    {n : ℕ} {e : Stop} → Fronts rest i n → e.at ≡ 0
    → ((m : MapValue) → shows d m → step m (grammar_view g) i ≡ Err e.kind) → Takes shows d d' (Err e) g g' rest
unfolding accept
takes_fault {g = g} {rest = rest} {i = i} {n = n} {e = e} f z s = record {
  took = λ m h.
      subst (λ k. Refuses (at m (grammar_view g)) rest e.kind k) (sym z) (token_refuses _ rest i n e.kind f (s m h));
}

-- more was taken behind
pub takes_on : {D : Type 0} {shows : D → MapValue → Type 0} {d d1 d2 : D} {g g1 g2 : Grammar} {rest behind : List ℕ}
    {n k : ℕ} → Takes shows d d1 (Ok n) g g1 rest → behind ≡ take (length rest - n) (drop n rest)
    → Takes shows d1 d2 (Ok k) g1 g2 behind → Takes shows d d2 (Ok (n + k)) g g2 rest
takes_on {rest = rest} {behind = behind} {n = n} {k = k} a e b = record {
  took = λ m h.
      let s = a.took m h in
      let t = b.took s.0 s.1 in
      (t.0, t.1, advances_on _ _ _ rest behind n k s.2 e t.2);
}

-- a fault stands behind what was taken
pub faults_on : {D : Type 0} {shows : D → MapValue → Type 0} {d d1 d2 : D} {g g1 g2 : Grammar} {rest behind : List ℕ}
    {n : ℕ} {e e' : Stop} → Takes shows d d1 (Ok n) g g1 rest → behind ≡ take (length rest - n) (drop n rest)
    → Takes shows d1 d2 (Err e) g1 g2 behind → e'.kind ≡ e.kind → e'.at ≡ n + e.at
    → Takes shows d d2 (Err e') g g2 rest
faults_on {g = g} {rest = rest} {behind = behind} {n = n} {e = e} {e' = e'} a k b kind place = record {
  took = λ m h.
      let s = a.took m h in
      subst (λ f. Refuses (at m (grammar_view g)) rest f e'.at) (sym kind)
      (refuses_on _ _ rest behind n e.at e'.at e.kind s.2 k (b.took s.0 s.1) place);
}

-- some bytes are left where not none are
pub not_none : (n : ℕ) → (n == 0) ≡ false → 0 < n
not_none n h = grind (arith, nat_tests)
