-- What is written before a piece, and how it is read again.
use Rattle.keymap_fmt.proofs.Common.{rules, ◌≡◌, ℕ, zero, suc, ◌<◌, ◌==◌, true, false, List, []}
use Rattle.keymap_fmt.proofs.Common.{◌∷◌, ◌++◌, length, replicate, refl, sym, ◌∙◌, ap, subst, arith, nat_tests}
use Rattle.keymap_fmt.proofs.Common.{TokenKind, State, Standing, AtTop, Beside, Below, Apart, Part, Comment, Code}
use Rattle.keymap_fmt.proofs.Common.{is_blank, PieceValue, pieces_after, lowered, behind}
use Rattle.keymap_fmt.proofs.Common.{opened, lead, width, after, line_end, line_begun, lines_before}
use Rattle.keymap_fmt.proofs.Common.{comment_lead, before, rendered_from}
use Rattle.keymap_fmt.proofs.Reading.{BeginsBlank, read_blank, read_nil}
use Rattle.keymap_fmt.proofs.Texts.{reaches}

-- all bytes are blanks
abbrev pub AreBlanks : List ℕ → Type 0
AreBlanks [] = Unit {0}
AreBlanks (c ∷ cs) = (is_blank c ≡ true) × AreBlanks cs

-- where a piece stands behind these blanks
abbrev pub lowered_by : List ℕ → Standing → Standing
lowered_by [] s = s
lowered_by (c ∷ cs) s = lowered_by cs (lowered c s)

blanks_append : (g h : List ℕ) → AreBlanks g → AreBlanks h → AreBlanks (g ++ h)
blanks_append [] h a b = b
blanks_append (c ∷ g) h a b = (a.0, blanks_append g h a.1 b)

blanks_replicate : (n : ℕ) → AreBlanks (replicate n 32)
blanks_replicate zero = tt
blanks_replicate (suc n) = (refl, blanks_replicate n)

pub lowered_append : (g h : List ℕ) (s : Standing) → lowered_by (g ++ h) s ≡ lowered_by h (lowered_by g s)
lowered_append [] h s = refl
lowered_append (c ∷ g) h s = lowered_append g h (lowered c s)

lowered_replicate : (n : ℕ) (s : Standing) → lowered_by (replicate n 32) s ≡ s
lowered_replicate zero s = refl
lowered_replicate (suc n) s = lowered_replicate n s

-- blanks in front
pub read_blanks : (g y : List ℕ) (s : Standing) → AreBlanks g
    → pieces_after 0 s (g ++ y) ≡ pieces_after 0 (lowered_by g s) y
read_blanks [] y s h = refl
read_blanks (c ∷ g) y s h = read_blank s c (g ++ y) h.0 ∙ read_blanks g y (lowered c s) h.1

-- some blanks in front
pub begins_with : (g y : List ℕ) → AreBlanks g → 0 < length g → BeginsBlank (g ++ y)
begins_with [] y h l = absurd (omega (arith, l))
begins_with (c ∷ g) y h l = record { first = c; rest = g ++ y; blank = h.0; is = refl }

-- the ends of lines are blanks
line_end_blanks : (column : ℕ) → AreBlanks (line_end column)
line_end_blanks column = search rules

line_begun_blanks : (column : ℕ) (t : Standing) → AreBlanks (line_begun column t)
line_begun_blanks column t = search (rules, blanks_append, line_end_blanks)

comment_blanks : (column : ℕ) (t : Standing) → AreBlanks (comment_lead column t)
comment_blanks column Beside = (refl, (refl, tt))
comment_blanks column t = line_begun_blanks column t

lines_blanks : (s : State) (kind : TokenKind) (t : Standing) → AreBlanks (lines_before s kind t)
lines_blanks s kind t = search (rules, line_begun_blanks)

-- all that stands before a piece are blanks
pub before_blanks : (s : State) (part : Part) (bytes : List ℕ) (t : Standing) → AreBlanks (before s part bytes t)
unfolding before
before_blanks s Comment bytes t = comment_blanks s.column t
before_blanks s (Code kind) bytes t = search (rules, blanks_append, lines_blanks, blanks_replicate)

-- Where a piece stands if nothing is before it tells whether a line is open.
abbrev pub IsAt : Standing → ℕ → Type 0
IsAt AtTop column = column ≡ 0
IsAt Beside column = 0 < column
IsAt Below column = column ≡ 0
IsAt Apart column = ⊥

-- the open line ends
pub closed : (column : ℕ) → 0 < column → (column == 0) ≡ false
closed column h = grind (arith, nat_tests)

-- what begins a line begins it in the same way behind what stands before it
line_again : (column : ℕ) (s t : Standing) → IsAt s column → reaches s t ≡ true
    → line_begun column (lowered_by (line_begun column t) s) ≡ line_begun column t
line_again column AtTop AtTop h r = subst
    (λ n. line_begun n (lowered_by (line_begun n AtTop) AtTop) ≡ line_begun n AtTop) (sym h) refl
line_again column Below Below h r = subst
    (λ n. line_begun n (lowered_by (line_begun n Below) Below) ≡ line_begun n Below) (sym h) refl
line_again column Below Apart h r = subst
    (λ n. line_begun n (lowered_by (line_begun n Apart) Below) ≡ line_begun n Apart) (sym h) refl
line_again column Beside Apart h r = rw (closed column h) refl
line_again column Beside t h r = rw (closed column h) refl
line_again column Apart t h r = absurd h
line_again column s t h r = absurd (cc)

-- what stands behind the end of the open line
below_line : (column : ℕ) → 0 < column → lowered_by (line_begun column Below) Beside ≡ Below
below_line column h = rw (closed column h) refl

apart_line : (column : ℕ) → 0 < column → lowered_by (line_begun column Apart) Beside ≡ Apart
apart_line column h = rw (closed column h) refl

-- what stands before a comment stands there again where the comment is read behind it
comment_again : (column : ℕ) (s t : Standing) → IsAt s column → reaches s t ≡ true
    → comment_lead column (lowered_by (comment_lead column t) s) ≡ comment_lead column t
comment_again column AtTop AtTop h r = subst
    (λ n. comment_lead n (lowered_by (comment_lead n AtTop) AtTop) ≡ comment_lead n AtTop) (sym h) refl
comment_again column Below Below h r = subst
    (λ n. comment_lead n (lowered_by (comment_lead n Below) Below) ≡ comment_lead n Below) (sym h) refl
comment_again column Below Apart h r = subst
    (λ n. comment_lead n (lowered_by (comment_lead n Apart) Below) ≡ comment_lead n Apart) (sym h) refl
comment_again column Beside AtTop h r = ap (comment_lead column) (below_line column h)
comment_again column Beside Beside h r = refl
comment_again column Beside Below h r = ap (comment_lead column) (below_line column h)
comment_again column Beside Apart h r = ap (comment_lead column) (apart_line column h)
comment_again column Apart t h r = absurd h
comment_again column s t h r = absurd (cc)

-- the lines before a token stand there again where the token is read behind them
lines_again : (s : State) (kind : TokenKind) (u t : Standing) → IsAt u s.column → reaches u t ≡ true
    → lines_before s kind (lowered_by (lines_before s kind t) u) ≡ lines_before s kind t
lines_again s kind u t h r = search (rules, line_again)

-- What stands before a piece stands there again where it is read behind that.
pub before_again : (s : State) (part : Part) (bytes : List ℕ) (u t : Standing) → IsAt u s.column
    → reaches u t ≡ true → before s part bytes (lowered_by (before s part bytes t) u) ≡ before s part bytes t
unfolding before
before_again s Comment bytes u t h r = comment_again s.column u t h r
before_again s (Code kind) bytes u t h r = search (rules, lowered_append, lowered_replicate, lines_again)

-- a blank at least stands before a token
pub lead_some : (s : State) (n : ℕ) → 0 < lead s n
unfolding lead
lead_some s n = omega arith

-- a line is open exactly behind a token
pub after_at : (s : State) (part : Part) (bytes : List ℕ) → IsAt (behind part) (after s part bytes).column
unfolding after
after_at s Comment bytes = refl
after_at s (Code kind) bytes = omega (arith, lead_some (opened s kind bytes) (width kind bytes))

-- what begins behind an open line begins with a blank
line_end_some : (column : ℕ) → 0 < column → line_end column ≡ 10 ∷ []
line_end_some column h = rw (closed column h) refl

line_begun_some : (column : ℕ) (t : Standing) → 0 < column → 0 < length (line_begun column t)
line_begun_some column t h = rw (closed column h) (omega arith)

comment_some : (column : ℕ) (t : Standing) → 0 < column → 0 < length (comment_lead column t)
comment_some column Beside h = omega arith
comment_some column t h = line_begun_some column t h

some_behind : (g : List ℕ) (n : ℕ) → 0 < n → 0 < length (g ++ replicate n 32)
some_behind [] zero h = absurd (omega (arith, h))
some_behind [] (suc n) h = omega arith
some_behind (c ∷ g) n h = omega arith

before_some : (s : State) (part : Part) (bytes : List ℕ) (t : Standing) → 0 < s.column
    → 0 < length (before s part bytes t)
unfolding before
before_some s Comment bytes t h = comment_some s.column t h
before_some s (Code kind) bytes t h =
    some_behind (lines_before s kind t) _ (lead_some (opened s kind bytes) (width kind bytes))

-- what is written behind a token begins with a blank
pub rendered_blank : (s : State) (ps : List PieceValue) → 0 < s.column → BeginsBlank (rendered_from s ps)
unfolding rendered_from
rendered_blank s [] h = record { first = 10; rest = []; blank = refl; is = line_end_some s.column h }
rendered_blank s (p ∷ ps) h = search (rules, begins_with, before_blanks, before_some)

-- the end of the last line has no piece behind it
pub line_end_read : (column : ℕ) (u : Standing) → pieces_after 0 u (line_end column) ≡ []
line_end_read column u = search (rules, read_nil, read_blank)
