-- The pieces of a text as their bytes, and of comments whether they stand behind a token in their line: what a layout
-- keeps, read byte by byte.
use Rattle.keymap_fmt.proofs.Common.{◌≡◌, ◌⊎◌, inl, inr, ℕ, zero, suc, ◌==◌, ◌&&◌, Bool, true, false, List, []}
use Rattle.keymap_fmt.proofs.Common.{◌∷◌, take, map, refl, sym, ◌∙◌, ap, arith, nat_tests, None, Option, Some}
use Rattle.keymap_fmt.proofs.Common.{if◌then◌else◌, is_blank, leading, stays_on_line, front_of, Front, Found, Refused}
use Rattle.keymap_fmt.proofs.Common.{Skipped, Unfinished, TextFaultKind, TokenKind, Standing, AtTop, Beside, Below}
use Rattle.keymap_fmt.proofs.Common.{Apart, Part, Comment, Code, PieceValue, formatted, lower, lowered, pieces}
use Rattle.keymap_fmt.proofs.Common.{pieces_after, skipped_by, trimmed}
use Rattle.std.proofs.Common.{eq-eqb}
use Rattle.keymap_fmt.specs.Same.{is_beside, part_and_line}
use Rattle.keymap_text.proofs.Shared.{front_blank, front_comment}
use Rattle.keymap_fmt.proofs.Again.{lines_stay}
use Rattle.keymap_fmt.proofs.Reading.{read_blank, read_hash, read_nil, read_one, read_refused, read_token}
use Rattle.keymap_fmt.proofs.Reading.{read_unfinished}

-- the bytes of a token or comment, and of a comment whether it stands behind a token in its line
abbrev pub Line : Type 0
Line = List ℕ × Option Bool

-- The lines of the bytes behind the first k of them; what comes first would stand behind a token in its line, or not.
unfoldable pub lines_after : ℕ → Bool → List ℕ → List Line
lines_after k b [] = []
lines_after (suc k) b (c ∷ bytes) = lines_after k b bytes
lines_after zero b (c ∷ bytes) = elim (front_of c bytes) [
  | Skipped n ↦ if c == 35 then (trimmed (c ∷ take n bytes), Some b) ∷ lines_after (suc n) false bytes
      else lines_after n (b && stays_on_line c) bytes
  | Found kind n ↦ (c ∷ take n bytes, None) ∷ lines_after n true bytes
  | Refused f ↦ []
  | Unfinished ↦ []
]

-- ---- step by step

pub lines_nil : (k : ℕ) (b : Bool) → lines_after k b [] ≡ []
unfolding lines_after
lines_nil zero b = refl
lines_nil (suc k) b = refl

pub lines_one : (k : ℕ) (b : Bool) (c : ℕ) (bytes : List ℕ) → lines_after (suc k) b (c ∷ bytes) ≡ lines_after k b bytes
unfolding lines_after
lines_one k b c bytes = refl

pub lines_blank : (b : Bool) (c : ℕ) (bytes : List ℕ) → is_blank c ≡ true
    → lines_after 0 b (c ∷ bytes) ≡ lines_after 0 (b && stays_on_line c) bytes
unfolding lines_after
lines_blank b c bytes h = rw (front_blank c bytes h, no_hash c h, lines_after) refl
  where
    no_hash : (c : ℕ) → is_blank c ≡ true → (c == 35) ≡ false
    no_hash c h = grind (arith, nat_tests)

pub lines_hash : (b : Bool) (c : ℕ) (bytes : List ℕ) → c ≡ 35 → lines_after 0 b (c ∷ bytes)
    ≡ (trimmed (c ∷ take (leading stays_on_line bytes) bytes), Some b)
    ∷ lines_after (suc (leading stays_on_line bytes)) false bytes
unfolding lines_after
lines_hash b c bytes h = rw (front_comment c bytes h, eq-eqb c 35 h, lines_after) refl

pub lines_token : (b : Bool) (c : ℕ) (bytes : List ℕ) (kind : TokenKind) (n : ℕ) → front_of c bytes ≡ Found kind n
    → lines_after 0 b (c ∷ bytes) ≡ (c ∷ take n bytes, None) ∷ lines_after n true bytes
unfolding lines_after
lines_token b c bytes kind n h = rw (h, lines_after) refl

lines_refused : (b : Bool) (c : ℕ) (bytes : List ℕ) (f : TextFaultKind) → front_of c bytes ≡ Refused f
    → lines_after 0 b (c ∷ bytes) ≡ []
unfolding lines_after
lines_refused b c bytes f h = rw (h, lines_after) refl

lines_unfinished : (b : Bool) (c : ℕ) (bytes : List ℕ) → front_of c bytes ≡ Unfinished
    → lines_after 0 b (c ∷ bytes) ≡ []
unfolding lines_after
lines_unfinished b c bytes h = rw (h, lines_after) refl

-- ---- the pieces

line_in : Part → List ℕ → Bool → Line
line_in Comment bytes b = (bytes, Some b)
line_in (Code kind) bytes b = (bytes, None)

abbrev line_of : PieceValue → Line
line_of p = line_in p.part p.bytes (is_beside p.part p.standing)

-- a blank that ends a line leaves nothing behind a token
behind_blank : (c : ℕ) (s : Standing) → (is_beside Comment s && stays_on_line c) ≡ is_beside Comment (lowered c s)
behind_blank c s = go (c == 10) s refl
  where
    ended : (s : Standing) → (is_beside Comment s && false) ≡ is_beside Comment (lower s)
    ended AtTop = refl
    ended Beside = refl
    ended Below = refl
    ended Apart = refl

    same : (b : Bool) → (b && true) ≡ b
    same true = refl
    same false = refl

    go : (b : Bool) (s : Standing) → (c == 10) ≡ b
        → (is_beside Comment s && stays_on_line c) ≡ is_beside Comment (lowered c s)
    go true s e = rw e (ended s)
    go false s e = rw e (same (is_beside Comment s))

lines_are : (bytes : List ℕ) (k : ℕ) (s : Standing)
    → lines_after k (is_beside Comment s) bytes ≡ map line_of (pieces_after k s bytes)
unfolding line_in
lines_are [] k s = lines_nil k (is_beside Comment s) ∙ sym (ap (map line_of) (read_nil k s))
lines_are (c ∷ bytes) (suc k) s =
    lines_one k (is_beside Comment s) c bytes ∙ lines_are bytes k s ∙ sym (ap (map line_of) (read_one k s c bytes))
lines_are (c ∷ bytes) zero s = go (front_of c bytes) refl (lines_are bytes)
  where
    skipped : ((k : ℕ) (s : Standing)
        → lines_after k (is_beside Comment s) bytes ≡ map line_of (pieces_after k s bytes))
        → (is_blank c ≡ true) ⊎ (c ≡ 35)
        → lines_after 0 (is_beside Comment s) (c ∷ bytes) ≡ map line_of (pieces_after 0 s (c ∷ bytes))
    skipped more (inl e) =
        lines_blank (is_beside Comment s) c bytes e ∙ ap (λ b. lines_after 0 b bytes) (behind_blank c s)
        ∙ more 0 (lowered c s) ∙ sym (ap (map line_of) (read_blank s c bytes e))
    skipped more (inr e) =
        lines_hash (is_beside Comment s) c bytes e
        ∙ ap (λ (ls : List Line).
        (trimmed (c ∷ take (leading stays_on_line bytes) bytes), Some (is_beside Comment s)) ∷ ls)
        (more (suc (leading stays_on_line bytes)) Below)
        ∙ sym (ap (map line_of) (read_hash s c bytes e))

    go : (f : Front) → front_of c bytes ≡ f
        → ((k : ℕ) (s : Standing) → lines_after k (is_beside Comment s) bytes ≡ map line_of (pieces_after k s bytes))
        → lines_after 0 (is_beside Comment s) (c ∷ bytes) ≡ map line_of (pieces_after 0 s (c ∷ bytes))
    go (Skipped n) e more = skipped more (skipped_by c n bytes e)
    go (Found kind n) e more =
        lines_token (is_beside Comment s) c bytes kind n e ∙ ap (λ (ls : List Line). (c ∷ take n bytes, None) ∷ ls)
        (more n Beside)
        ∙ sym (ap (map line_of) (read_token s c bytes kind n e))
    go (Refused f) e more =
        lines_refused (is_beside Comment s) c bytes f e ∙ sym (ap (map line_of) (read_refused s c bytes f e))
    go Unfinished e more =
        lines_unfinished (is_beside Comment s) c bytes e ∙ sym (ap (map line_of) (read_unfinished s c bytes e))

in_lines : (ps : List PieceValue)
    → map (λ (l : Part × List ℕ × Bool). line_in l.0 l.1 l.2) (map part_and_line ps) ≡ map line_of ps
in_lines [] = refl
in_lines (p ∷ ps) = ap (λ (ls : List Line). line_of p ∷ ls) (in_lines ps)

-- a layout has the lines of the text
pub same_lines : (text : List ℕ) → lines_after 0 false (formatted text) ≡ lines_after 0 false text
same_lines text =
    lines_are (formatted text) 0 AtTop ∙ sym (in_lines (pieces (formatted text)))
    ∙ ap (map (λ (l : Part × List ℕ × Bool). line_in l.0 l.1 l.2)) (lines_stay text) ∙ in_lines (pieces text)
    ∙ sym (lines_are text 0 AtTop)
