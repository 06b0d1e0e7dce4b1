-- Where comments stand, and which line ends of a text tell where a piece stands.
use Rattle.keymap_fmt.proofs.Common.{◌≡◌, ℕ, zero, suc, ◌+◌, ◌<◌, ◌==◌, Bool, true, false, List, [], ◌∷◌, ◌++◌}
use Rattle.keymap_fmt.proofs.Common.{refl, sym, ◌∙◌, ap, arith, append_assoc, is_blank, lower, lowered}
use Rattle.keymap_fmt.proofs.Common.{Standing, AtTop, Beside, Below, Apart, Code, PieceValue, pieces_after, comment}
use Rattle.keymap_fmt.proofs.Common.{TokenKind}
use Rattle.keymap_fmt.proofs.Common.{if◌then◌else◌}
use Rattle.keymap_fmt.proofs.Common.{State, before, after, ending, start, line_end, rendered_from, rendered}
use Rattle.keymap_fmt.proofs.Reading.{read_blank}
use Rattle.keymap_fmt.proofs.Separate.{rendered_both}
use Rattle.keymap_fmt.proofs.Written.{after_at, closed}
use Rattle.keymap_fmt.specs.Formatted.{state_behind}
use Rattle.keymap_fmt.specs.Pieces.{code, line_ends}
use Rattle.std.proofs.Common.{All, codes}
use Rattle.std.specs.Prelude.{cond}
use Rattle.std.proofs.lemmas.List.Elements.{All-head, All-tail}
use Rattle.std.proofs.lemmas.List.Sums.{sum_by-cons}

-- ---- line ends

-- where a piece stands behind so many line ends
abbrev lowered_times : ℕ → Standing → Standing
lowered_times zero s = s
lowered_times (suc n) s = lowered_times n (lower s)

abbrev is_blank_byte : ℕ → Type 0
is_blank_byte c = is_blank c ≡ true

one_more : (c n : ℕ) (s : Standing) → lowered_times n (lowered c s) ≡ lowered_times (cond (c == 10) 1 0 + n) s
one_more c n s = go (c == 10)
  where
    go : (b : Bool) → lowered_times n (if b then lower s else s) ≡ lowered_times (cond b 1 0 + n) s
    go true = let e : suc n ≡ 1 + n = omega arith in ap (λ m. lowered_times m s) e
    go false = let e : n ≡ 0 + n = omega arith in ap (λ m. lowered_times m s) e

read_gap : (s : Standing) (gap rest : List ℕ) → All is_blank_byte gap
    → pieces_after 0 s (gap ++ rest) ≡ pieces_after 0 (lowered_times (line_ends gap) s) rest
read_gap s [] rest h = refl
read_gap s (c ∷ gap) rest h =
    read_blank s c (gap ++ rest) (All-head is_blank_byte c gap h)
    ∙ read_gap (lowered c s) gap rest (All-tail is_blank_byte c gap h)
    ∙ ap (λ t. pieces_after 0 t rest) (one_more c (line_ends gap) s
    ∙ ap (λ n. lowered_times n s) (sym (sum_by-cons (λ x. cond (x == 10) 1 0) c gap)))

top_stays : (n : ℕ) → lowered_times n AtTop ≡ AtTop
top_stays zero = refl
top_stays (suc n) = top_stays n

apart_stays : (n : ℕ) → lowered_times n Apart ≡ Apart
apart_stays zero = refl
apart_stays (suc n) = apart_stays n

apart_of_two : (n : ℕ) → 1 < n → lowered_times n Beside ≡ Apart
apart_of_two zero h = absurd (omega (arith, h))
apart_of_two (suc zero) h = absurd (omega (arith, h))
apart_of_two (suc (suc n)) h = apart_stays n

apart_of_one : (n : ℕ) → 0 < n → lowered_times n Below ≡ Apart
apart_of_one zero h = absurd (omega (arith, h))
apart_of_one (suc n) h = apart_stays n

-- a gap behind which a piece stands at t
gap_to : (s t : Standing) (gap rest : List ℕ) → All is_blank_byte gap → lowered_times (line_ends gap) s ≡ t
    → pieces_after 0 s (gap ++ rest) ≡ pieces_after 0 t rest
gap_to s t gap rest h e = read_gap s gap rest h ∙ ap (λ t. pieces_after 0 t rest) e

pub standing_same : (s : Standing) (gap rest : List ℕ) → All is_blank_byte gap → line_ends gap ≡ 0
    → pieces_after 0 s (gap ++ rest) ≡ pieces_after 0 s rest
standing_same s gap rest h e = gap_to s s gap rest h (ap (λ n. lowered_times n s) e)

pub standing_first : (gap rest : List ℕ) → All is_blank_byte gap
    → pieces_after 0 AtTop (gap ++ rest) ≡ pieces_after 0 AtTop rest
standing_first gap rest h = gap_to AtTop AtTop gap rest h (top_stays (line_ends gap))

pub standing_next : (gap rest : List ℕ) → All is_blank_byte gap → line_ends gap ≡ 1
    → pieces_after 0 Beside (gap ++ rest) ≡ pieces_after 0 Below rest
standing_next gap rest h e = gap_to Beside Below gap rest h (ap (λ n. lowered_times n Beside) e)

pub standing_apart : (gap rest : List ℕ) → All is_blank_byte gap → 1 < line_ends gap
    → pieces_after 0 Beside (gap ++ rest) ≡ pieces_after 0 Apart rest
standing_apart gap rest h k = gap_to Beside Apart gap rest h (apart_of_two (line_ends gap) k)

pub standing_behind_comment : (gap rest : List ℕ) → All is_blank_byte gap → 0 < line_ends gap
    → pieces_after 0 Below (gap ++ rest) ≡ pieces_after 0 Apart rest
standing_behind_comment gap rest h k = gap_to Below Apart gap rest h (apart_of_one (line_ends gap) k)

-- ---- comments

-- the text of some pieces, without the end of the open line
abbrev laid_from : State → List PieceValue → List ℕ
laid_from s [] = []
laid_from s (p ∷ ps) =
    before s p.part p.bytes p.standing ++ (p.bytes ++ (ending p.part ++ laid_from (after s p.part p.bytes) ps))

laid_then : (s : State) (ps qs : List PieceValue)
    → rendered_from s (ps ++ qs) ≡ laid_from s ps ++ rendered_from (state_behind s ps) qs
unfolding rendered_from state_behind
laid_then s [] qs = refl
laid_then s (p ∷ ps) qs =
    let g = before s p.part p.bytes p.standing in
    let next = after s p.part p.bytes in
    ap (λ (x : List ℕ). g ++ (p.bytes ++ (ending p.part ++ x))) (laid_then next ps qs)
    ∙ regroup g p.bytes (ending p.part) (laid_from next ps) (rendered_from (state_behind next ps) qs)
  where
    regroup : (a b c d e : List ℕ) → a ++ (b ++ (c ++ (d ++ e))) ≡ (a ++ (b ++ (c ++ d))) ++ e
    regroup a b c d e = sym (simp append_assoc)

-- a token, with what stands before it, in the state behind other pieces
abbrev token_laid : State → TokenKind → List ℕ → Standing → List ℕ
token_laid s kind word t = before s (Code kind) word t ++ word

token_then : (s : State) (kind : TokenKind) (word : List ℕ) (t : Standing) (qs : List PieceValue)
    → rendered_from s (code kind word t ∷ qs)
    ≡ token_laid s kind word t ++ rendered_from (after s (Code kind) word) qs
unfolding rendered_from
token_then s kind word t qs = sym (append_assoc (before s (Code kind) word t) word _)

line_closed : (s : State) (kind : TokenKind) (word : List ℕ)
    → rendered_from (after s (Code kind) word) [] ≡ codes "\n"
unfolding rendered_from
line_closed s kind word = rw (closed (after s (Code kind) word).column (after_at s (Code kind) word)) refl

comment_beside : (s : State) (bytes : List ℕ)
    → rendered_from s (comment bytes Beside ∷ []) ≡ codes "  " ++ (bytes ++ codes "\n")
unfolding rendered_from before after
comment_beside s bytes = refl

pub beside_token : (ps : List PieceValue) (kind : TokenKind) (word : List ℕ) (t : Standing) (bytes : List ℕ)
    → (line : List ℕ) × (rendered (ps ++ code kind word t ∷ []) ≡ line ++ codes "\n")
    × (rendered (ps ++ code kind word t ∷ (comment bytes Beside ∷ []))
    ≡ line ++ (codes "  " ++ (bytes ++ codes "\n")))
beside_token ps kind word t bytes =
    let s = state_behind start ps in
    let line = laid_from start ps ++ token_laid s kind word t in
    let all : (qs : List PieceValue) (text : List ℕ) → rendered_from (after s (Code kind) word) qs ≡ text
    → rendered (ps ++ code kind word t ∷ qs) ≡ line ++ text =
    λ qs text e. laid_then start ps (code kind word t ∷ qs)
    ∙ ap (λ l. laid_from start ps ++ l) (token_then s kind word t qs ∙ ap (λ l. token_laid s kind word t ++ l) e)
    ∙ sym (append_assoc (laid_from start ps) (token_laid s kind word t) text) in
    (line, all [] _ (line_closed s kind word), all (comment bytes Beside ∷ []) _ (comment_beside _ bytes))

-- any other comment, behind the end of the open line
own_begun : (s : State) (bytes : List ℕ)
    → rendered_from s (comment bytes Below ∷ []) ≡ line_end s.column ++ (bytes ++ codes "\n")
unfolding rendered_from before after
own_begun s bytes = append_assoc (line_end s.column) [] (bytes ++ codes "\n")

own_apart : (s : State) (bytes : List ℕ)
    → rendered_from s (comment bytes Apart ∷ []) ≡ line_end s.column ++ (codes "\n" ++ (bytes ++ codes "\n"))
unfolding rendered_from before after
own_apart s bytes = append_assoc (line_end s.column) (codes "\n") (bytes ++ codes "\n")

pub own_line : (ps : List PieceValue) (bytes : List ℕ)
    → rendered (ps ++ comment bytes Below ∷ []) ≡ rendered ps ++ (bytes ++ codes "\n")
own_line ps bytes = rendered_both start ps _ _ (own_begun (state_behind start ps) bytes)

pub own_line_apart : (ps : List PieceValue) (bytes : List ℕ)
    → rendered (ps ++ comment bytes Apart ∷ []) ≡ rendered ps ++ (codes "\n" ++ (bytes ++ codes "\n"))
own_line_apart ps bytes = rendered_both start ps _ _ (own_apart (state_behind start ps) bytes)

pub first_line : (bytes : List ℕ) → rendered (comment bytes AtTop ∷ []) ≡ bytes ++ codes "\n"
unfolding rendered_from before after
first_line bytes = refl

-- a comment ends its line
ended : (s : State) (ps : List PieceValue) (bytes : List ℕ) (t : Standing)
    → (state_behind s (ps ++ comment bytes t ∷ [])).column ≡ 0
unfolding state_behind after
ended s [] bytes t = refl
ended s (p ∷ ps) bytes t = ended (after s p.part p.bytes) ps bytes t

pub line_ended : (ps qs : List PieceValue) (bytes : List ℕ) (t : Standing)
    → rendered (ps ++ comment bytes t ∷ qs) ≡ rendered (ps ++ comment bytes t ∷ [])
    ++ rendered_from (state_behind start (ps ++ comment bytes t ∷ [])) qs
line_ended ps qs bytes t =
    let front = ps ++ comment bytes t ∷ [] in
    let s = state_behind start front in
    ap rendered (sym (append_assoc ps (comment bytes t ∷ []) qs))
    ∙ rendered_both start front qs (rendered_from s qs)
    (sym (ap (λ n. line_end n ++ rendered_from s qs) (ended start ps bytes t)))
