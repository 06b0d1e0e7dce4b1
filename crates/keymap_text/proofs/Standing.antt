-- A reader that takes pieces.
use Rattle.keymap_text.proofs.Common.{◌≡◌, ℕ, ◌+◌, ◌<◌, ◌≤◌, ◌==◌, Bool, true, false, List, ◌∷◌, ◌++◌, length, take}
use Rattle.keymap_text.proofs.Common.{[], drop, get_or, refl, sym, ◌∙◌, ap, ap₂, subst, arith, Result, Ok, rules}
use Rattle.keymap_text.proofs.Common.{append_assoc, append-nil, length-append, take_all, eqb-true, inl, inr}
use Rattle.keymap_text.proofs.Common.{⊎_elim, ◌-◌, count_by-le-length, length-drop, length-take-le, take-append-le}
use Rattle.keymap_text.proofs.Common.{take-add, take-append-drop}
use Rattle.keymap_text.proofs.Common.{drop-append-add, IfErr, MapValue, TextFault, Reading, leading}
use Rattle.keymap_text.proofs.Common.{stays_on_line, tokens_after, literal, Unfinished, line, Early, Means}
use Rattle.keymap_text.proofs.Common.{GrammarState, GrammarPlace, at, judge, verdict, Faulty, resume, Says, IsReader}
use Rattle.keymap_text.proofs.Common.{IsFaultOfPending, Keeps, Lined, Moves, Breaks, Advances, Refuses, IsOpen}
use Rattle.keymap_text.proofs.Common.{state_view, IsPlace, StandsAfter, FedAfter, progress, grammar_view}
use Rattle.keymap_text.specs.declared.reader.MapReader.TheInside.{Inside}
use Rattle.keymap_text.proofs.InFront.{front_quote, word_found, is_quote}
use Rattle.keymap_text.proofs.Leading.{leading_pass, leading_append, leading_le}
use Rattle.keymap_text.proofs.Lines.{feeds, feeds_run, no_feed, pending_line, window_line, window_lined}
use Rattle.keymap_text.proofs.Literals.{literal_or, lf_closes}
use Rattle.keymap_text.proofs.Prefixes.{not_early}
use Rattle.keymap_text.proofs.Splitting.{split_comment, split_after}
use Rattle.keymap_text.proofs.Tails.{open_line}
use Rattle.keymap_text.proofs.Verdicts.{spells_from, fault_from, fault_to}

-- the bytes so far have no early fault
pub none_early : (r : Reading) (b : List ℕ) → IsReader r → ((x : List ℕ) → resume r x ≡ verdict (b ++ x))
    → (f : TextFault) → Early b f → ⊥
none_early r b k rest f e =
    not_early (state_view r) r.pending.items r.offset f.kind f.offset k.tail
    (ap (λ t. judge (state_view r) (tokens_after 0 r.offset t)) (sym (append-nil r.pending.items))
    ∙ rest [] ∙ ap verdict (append-nil b) ∙ fault_to b f.kind f.offset true e.0)

-- what the reader makes of the bytes to come, after a piece
pub rest_after : (old new : Reading) (b piece : List ℕ) → ((x : List ℕ) → resume old (piece ++ x) ≡ resume new x)
    → ((x : List ℕ) → resume old x ≡ verdict (b ++ x)) → (x : List ℕ) → resume new x ≡ verdict ((b ++ piece) ++ x)
rest_after old new b piece g rest x = sym (g x) ∙ rest (piece ++ x) ∙ ap verdict (sym (append_assoc b piece x))

-- a fault in a piece is an early fault of the bytes so far
pub early_after : (old : Reading) (b piece : List ℕ) (f : TextFault)
    → ((x : List ℕ) → resume old (piece ++ x) ≡ Faulty f.kind f.offset true)
    → ((x : List ℕ) → resume old x ≡ verdict (b ++ x)) → f.line ≡ line (b ++ piece) f.offset → Early (b ++ piece) f
early_after old b piece f g rest l = (
  fault_from (b ++ piece) f.kind f.offset true
      (ap verdict (sym (ap (λ p. b ++ p) (append-nil piece))) ∙ sym (rest (piece ++ [])) ∙ g []),
  l,
)

-- where the text ends
pub means_after : (result : Result MapValue TextFault) (old : Reading) (b : List ℕ) → Says result (resume old [])
    → IfErr result (λ e. IsFaultOfPending e old) → ((x : List ℕ) → resume old x ≡ verdict (b ++ x)) → Lined old b
    → Means result b
means_after result old b s p rest l = grind (arith, append-nil, fault_from, pending_line, spells_from)

-- the line facts of a reader
pub lined_of : (r : Inside) (b : List ℕ) → StandsAfter (progress r) b → Lined r.reading b
lined_of r b h = record { fed = h.pending; line = h.line; none = h.one_line }

-- a reader stands after one piece more, which has no early fault
pub fed_on : (r : Inside) (new : Reading) (b piece : List ℕ) → StandsAfter (progress r) b
    → Moves r.reading new piece
    → FedAfter (Ok tt) (progress (record { reading = new; fed = r.fed + length piece; fault = r.fault })) (b ++ piece)
fed_on r new b piece h g =
    let l = g.line b (lined_of r b h) in
    let rest = rest_after r.reading new b piece g.takes h.rest in (
      record {
        fault = h.fault;
        fed = ap (λ n. n + length piece) h.fed ∙ sym (length-append b piece);
        rest = rest;
        pending = l.fed;
        line = l.line;
        one_line = l.none;
      },
      none_early new (b ++ piece) g.reader rest,
    )

-- the bytes of a comment that is open, and of those behind it on its line, are passed
comment_on : (s : GrammarState) (q c : ℕ) (p y : List ℕ) → c ≡ 35 → leading stays_on_line p ≡ length p
    → judge s (tokens_after 0 q (c ∷ (p ++ y)))
    ≡ judge s (tokens_after 0 (q + 1 + (length p + leading stays_on_line y)) (drop (leading stays_on_line y) y))
comment_on s q c p y e h = grind (arith, drop-append-add, leading_append, leading_le, split_after, split_comment)

-- of an open comment only the first byte matters, and where it ends
comment_shift : (s : GrammarState) (q q' c c' : ℕ) (p p' y : List ℕ) → c ≡ 35 → c' ≡ 35
    → leading stays_on_line p ≡ length p → leading stays_on_line p' ≡ length p' → q + length p ≡ q' + length p'
    → judge s (tokens_after 0 q (c ∷ (p ++ y))) ≡ judge s (tokens_after 0 q' (c' ∷ (p' ++ y)))
comment_shift s q q' c c' p p' y e e' h h' k = grind (arith, comment_on)

-- no line feed stands in bytes on one line
on_line : (p : List ℕ) (t : ℕ → Bool) → t 10 ≡ false → leading t p ≡ length p → feeds p ≡ 0
on_line p t f h =
    ap feeds (sym (take_all (length p) p (omega arith))) ∙ feeds_run t f (length p) p (omega (arith, h))

-- what an unfinished quoted character begins with is unfinished
unfinished_front : (s x : List ℕ) → literal (s ++ x) ≡ Unfinished → literal s ≡ Unfinished
unfinished_front s x u = ⊎_elim (λ h. h) (λ e. sym (e x) ∙ u) (literal_or s)

-- no line feed stands in a quoted character that is unfinished
quoted_feeds : (s t : List ℕ) → literal (s ++ t) ≡ Unfinished → feeds t ≡ 0
quoted_feeds s [] u = refl
quoted_feeds s (c ∷ t) u = go (c == 10) refl (quoted_feeds (s ++ c ∷ []) t (ap literal (append_assoc s (c ∷ []) t) ∙ u))
  where
    closed : c ≡ 10 → ⊥
    closed e = lf_closes s (
        ap (λ c. literal (s ++ c ∷ [])) (sym e)
        ∙ unfinished_front (s ++ c ∷ []) t (ap literal (append_assoc s (c ∷ []) t) ∙ u)
        )

    go : (b : Bool) → (c == 10) ≡ b → feeds t ≡ 0 → feeds (c ∷ t) ≡ 0
    go true e k = absurd (closed (eqb-true c 10 e))
    go false e k = no_feed c t e ∙ k

-- no line feed stands in open bytes
pub open_feeds : (p : List ℕ) → IsOpen p → feeds p ≡ 0
open_feeds [] h = refl
open_feeds (c ∷ p) (inl h) = search (rules, on_line, leading_pass)
open_feeds (c ∷ p) (inr (inl h)) = search (rules, word_found, on_line, leading_pass)
open_feeds (c ∷ p) (inr (inr h)) =
    let quote = is_quote c p h in
    no_feed c p (ap (λ c. c == 10) quote) ∙ quoted_feeds [] p (sym (front_quote c p quote) ∙ h)

-- a comment is kept as its first byte
pub comment_kept : (s : GrammarState) (q q' : ℕ) (tail x : List ℕ) → 0 < length tail → get_or tail 0 0 ≡ 35
    → IsOpen tail
    → q' ≡ q + (length tail - 1) → judge s (tokens_after 0 q (tail ++ x)) ≡ judge s (tokens_after 0 q' (35 ∷ x))
comment_kept s q q' [] x some hash o p = absurd (omega (arith, some))
comment_kept s q q' (a ∷ t) x some hash o p =
    comment_shift s q q' a 35 t [] x hash refl (open_line a t hash o) refl (omega (arith, p))

-- bytes are kept, by its parts
pub keeps : {old new : Reading} {tail : List ℕ} → new.map ≡ old.map → new.grammar ≡ old.grammar → new.line ≡ old.line
    → old.offset ≤ new.offset → IsOpen new.pending.items
    → new.offset + length new.pending.items ≡ old.offset + length tail
    → ((s : GrammarState) (x : List ℕ) → judge s (tokens_after 0 old.offset (tail ++ x))
    ≡ judge s (tokens_after 0 new.offset (new.pending.items ++ x))) → Keeps old new tail
keeps m g l f o w s = record { map = m; grammar = g; line = l; from = f; still = o; fed = w; same = s }

-- bytes are kept as they are
pub kept : {old new : Reading} {tail : List ℕ} → new.map ≡ old.map → new.grammar ≡ old.grammar → new.line ≡ old.line
    → new.offset ≡ old.offset → IsOpen tail → new.pending.items ≡ tail → Keeps old new tail
kept {old = old} {tail = tail} m g l q o p = record {
  map = m;
  grammar = g;
  line = l;
  from = omega (arith, q);
  still = rw p o;
  fed = omega (arith, q, ap length p);
  same = λ s x. ap₂ (λ q (t : List ℕ). judge s (tokens_after 0 q (t ++ x))) (sym q) (sym p);
}

-- tokens were taken, of which the first begins with what was pending, and what they break off was kept
pub taken : (old mid new : Reading) (bytes window : List ℕ) (n : ℕ) → IsReader old → window ≡ old.pending.items ++ bytes
    → Advances (state_view old) (state_view mid) window n → IsPlace mid.grammar.place mid.grammar.accent
    → mid.offset ≡ old.offset + n → mid.line ≡ old.line + feeds (take n window) → IsOpen (drop n window)
    → Keeps mid new (drop n window) → Moves old new bytes
taken old mid new bytes window n r e a place o l tail k =
    let whole : new.offset + length new.pending.items ≡ old.offset + length window =
    omega (arith, k.fed, o, length-drop n window, a.inside) in
    record {
      takes = λ x.
          ap (λ t. judge (state_view old) (tokens_after 0 old.offset t)) (sym (append_assoc old.pending.items bytes x)
          ∙ ap (λ (t : List ℕ). t ++ x) (sym e))
          ∙ a.takes old.offset x
          ∙ ap (λ q. judge (state_view mid) (tokens_after 0 q (drop n window ++ x))) (sym o)
          ∙ k.same (state_view mid) x
          ∙ ap₂ (λ m g. judge (at m (grammar_view g)) (tokens_after 0 new.offset (new.pending.items ++ x)))
          (sym k.map) (sym k.grammar);
      reader = record {
        place = rw k.grammar place;
        tail = k.still;
        low = omega (
          arith,
          k.line,
          l,
          r.low,
          count_by-le-length (λ c. c == 10) (take n window),
          length-take-le n window a.inside,
          k.from,
          o,
        );
      };
      fed = omega (arith, whole, ap length e, length-append old.pending.items bytes);
      line = λ b h.
          window_lined old new b bytes window n h (open_feeds old.pending.items r.tail) e (open_feeds _ tail)
          (k.line ∙ l) (omega (arith, k.from, o)) whole;
    }

-- a fault in a window
pub broken : (old : Reading) (bytes window : List ℕ) (n : ℕ) (e : TextFault) → IsReader old
    → window ≡ old.pending.items ++ bytes → Refuses (state_view old) window e.kind n → e.offset ≡ old.offset + n
    → e.line ≡ old.line + feeds (take n window) → Breaks old bytes e
broken old bytes window n e r w f o l = record {
  takes = λ x.
      ap (λ t. judge (state_view old) (tokens_after 0 old.offset t)) (sym (append_assoc old.pending.items bytes x)
      ∙ ap (λ (t : List ℕ). t ++ x) (sym w))
      ∙ f.takes old.offset x ∙ ap (λ q. Faulty e.kind q true) (sym o);
  inside = omega (arith, o, f.inside, ap length w, length-append old.pending.items bytes);
  line = λ b h.
      l ∙ ap (λ (t : List ℕ). old.line + feeds (take n t)) w
      ∙ window_line old b bytes n h (open_feeds old.pending.items r.tail) ∙ ap (line (b ++ bytes)) (sym o);
}

-- bytes were taken behind others
pub moves_on : {old mid new : Reading} {w v : List ℕ} → Moves old mid w → Moves mid new v → Moves old new (w ++ v)
moves_on {old = old} {w = w} {v = v} a b = record {
  takes = λ x. ap (resume old) (append_assoc w v x) ∙ a.takes (v ++ x) ∙ b.takes x;
  reader = b.reader;
  fed = omega (arith, a.fed, b.fed, length-append w v);
  line = λ c h. subst (Lined _) (append_assoc c w v) (b.line (c ++ w) (a.line c h));
}

-- a fault stands behind bytes that were taken, whatever follows it
pub breaks_on : {old mid : Reading} {w v : List ℕ} {e : TextFault} (more : List ℕ) → Moves old mid w → Breaks mid v e
    → Breaks old (w ++ (v ++ more)) e
breaks_on {old = old} {mid = mid} {w = w} {v = v} {e = e} more a b = record {
  takes = λ x.
      ap (resume old) (append_assoc w (v ++ more) x) ∙ a.takes ((v ++ more) ++ x)
      ∙ ap (resume mid) (append_assoc v more x) ∙ b.takes (more ++ x);
  inside = omega (arith, a.fed, b.inside, length-append w (v ++ more), length-append v more);
  line = λ c h.
      let l = a.line c h in
      let whole : ((c ++ w) ++ v) ++ more ≡ c ++ (w ++ (v ++ more)) = simp append_assoc in
      b.line (c ++ w) l
      ∙ ap (λ (t : List ℕ). 1 + feeds t) (sym (take-append-le e.offset ((c ++ w) ++ v) more
      (omega (arith, b.inside, l.fed, length-append (c ++ w) v))))
      ∙ ap (λ (t : List ℕ). line t e.offset) whole;
}

-- more of a piece was taken
pub moves_piece : (old mid new : Reading) (piece : List ℕ) (at end : ℕ) → at ≤ end → Moves old mid (take at piece)
    → Moves mid new (take (end - at) (drop at piece)) → Moves old new (take end piece)
moves_piece old mid new piece at end h a b =
    subst (Moves old new) (sym (take-add at (end - at) piece) ∙ ap (λ n. take n piece) (omega arith)) (moves_on a b)

-- a fault stands in a piece behind what was taken of it
pub breaks_piece : (old mid : Reading) (piece : List ℕ) (at end : ℕ) (e : TextFault) → at ≤ end
    → Moves old mid (take at piece) → Breaks mid (take (end - at) (drop at piece)) e → Breaks old piece e
breaks_piece old mid piece at end e h a b =
    let whole : take (end - at) (drop at piece) ++ drop (end - at) (drop at piece) ≡ drop at piece =
    take-append-drop (end - at) (drop at piece) in
    subst (λ (t : List ℕ). Breaks old t e) (ap (λ (t : List ℕ). take at piece ++ t) whole ∙ take-append-drop at piece)
    (breaks_on (drop (end - at) (drop at piece)) a b)

-- a map shows itself
pub of_map : (s : GrammarState) (p : GrammarPlace) (d : MapValue) (bytes : List ℕ) (n : ℕ)
    → (m : MapValue) × (d ≡ m) × Advances s (at m p) bytes n → Advances s (at d p) bytes n
of_map s p d bytes n t = subst (λ m. Advances s (at m p) bytes n) (sym t.1) t.2

-- no bytes
pub is_nil : (xs : List ℕ) → length xs ≡ 0 → xs ≡ []
is_nil [] h = refl
is_nil (x ∷ xs) h = absurd (omega (arith, h))
