-- The pieces of what is written, and what is written of these.
use Rattle.keymap_fmt.proofs.Common.{common_steps, rules, arith, ◌≡◌, ℕ, List, [], ◌∷◌, ◌++◌, map, refl, ◌∙◌, ap, State}
use Rattle.keymap_fmt.proofs.Common.{Standing, AtTop, Part, Comment, Code, PieceValue, pieces_after, pieces, behind}
use Rattle.keymap_fmt.proofs.Common.{before, after, ending, start, rendered_from, formatted, part_and_bytes}
use Rattle.keymap_fmt.proofs.Common.{Beside, Below, Apart, Bool, true, false, true≢false, sym, ◌==◌, if◌then◌else◌}
use Rattle.keymap_fmt.proofs.Common.{comment_lead, line_end, lower}
use Rattle.std.proofs.lemmas.List.{append-nil}
use Rattle.keymap_fmt.specs.Same.{is_beside, part_and_line}
use Rattle.keymap_fmt.proofs.Reading.{token_read, comment_read}
use Rattle.keymap_fmt.proofs.Texts.{ArePieces, no_piece, one_piece, Reads, reaches, text_pieces}
use Rattle.keymap_fmt.proofs.Written.{IsAt, lowered_by, read_blanks, before_blanks, before_again, after_at}
use Rattle.keymap_fmt.proofs.Written.{rendered_blank, line_end_read, closed, lowered_append}

-- a piece is read again
piece_read : (s : State) (part : Part) (bytes : List ℕ) (t : Standing) (ps : List PieceValue) → Reads part bytes
    → pieces_after 0 t (bytes ++ (ending part ++ rendered_from (after s part bytes) ps))
    ≡ record { part = part; bytes = bytes; standing = t }
    ∷ pieces_after 0 (behind part) (rendered_from (after s part bytes) ps)
piece_read s Comment bytes t ps r = comment_read bytes _ t r
piece_read s (Code kind) bytes t ps r =
    token_read kind bytes _ t r (rendered_blank (after s (Code kind) bytes) ps (after_at s (Code kind) bytes))

-- where a piece stands in what is written
abbrev stands : State → PieceValue → Standing → Standing
stands s p u = lowered_by (before s p.part p.bytes p.standing) u

-- the pieces of what is written, one by one
step : (s : State) (u : Standing) (p : PieceValue) (ps : List PieceValue) → Reads p.part p.bytes
    → pieces_after 0 u (rendered_from s (p ∷ ps))
    ≡ record { part = p.part; bytes = p.bytes; standing = stands s p u }
    ∷ pieces_after 0 (behind p.part) (rendered_from (after s p.part p.bytes) ps)
unfolding rendered_from
step s u p ps r = search (rules, read_blanks, before_blanks, piece_read)

-- no piece stands behind the last
none : (s : State) (u : Standing) → pieces_after 0 u (rendered_from s []) ≡ []
unfolding rendered_from
none s u = line_end_read s.column u

-- the parts stay
pub parts_from : (s : State) (u : Standing) (ps : List PieceValue) → ArePieces u ps
    → map part_and_bytes (pieces_after 0 u (rendered_from s ps)) ≡ map part_and_bytes ps
parts_from s u ps no_piece = ap (map part_and_bytes) (none s u)
parts_from s u qs (one_piece {ps = ps} p r h more) =
    search (rules, step, parts_from (after s p.part p.bytes) (behind p.part) ps more)

-- a piece that is read again is written as before
written_again : (s : State) (p : PieceValue) (t : Standing) (qs ps : List PieceValue)
    → before s p.part p.bytes t ≡ before s p.part p.bytes p.standing
    → rendered_from (after s p.part p.bytes) qs ≡ rendered_from (after s p.part p.bytes) ps
    → rendered_from s (record { part = p.part; bytes = p.bytes; standing = t } ∷ qs) ≡ rendered_from s (p ∷ ps)
unfolding rendered_from
written_again s p t qs ps e f = grind (arith, common_steps)

-- the bytes of pieces that are read again are the same
pub again_from : (s : State) (u : Standing) (ps : List PieceValue) → IsAt u s.column → ArePieces u ps
    → rendered_from s (pieces_after 0 u (rendered_from s ps)) ≡ rendered_from s ps
again_from s u ps a no_piece = ap (rendered_from s) (none s u)
again_from s u qs a (one_piece {ps = ps} p r h more) =
    ap (rendered_from s) (step s u p ps r)
    ∙ written_again s p (stands s p u) _ ps (before_again s p.part p.bytes u p.standing a h)
    (again_from (after s p.part p.bytes) (behind p.part) ps (after_at s p.part p.bytes) more)

pub parts_stay : (text : List ℕ)
    → map part_and_bytes (pieces (formatted text)) ≡ map part_and_bytes (pieces text)
parts_stay text = parts_from start AtTop (pieces text) (text_pieces text 0 AtTop)

pub formatted_again : (text : List ℕ) → formatted (formatted text) ≡ formatted text
formatted_again text = again_from start AtTop (pieces text) refl (text_pieces text 0 AtTop)

-- ---- comments and their lines

not_beside : (s : Standing) → is_beside Comment (lower s) ≡ false
not_beside AtTop = refl
not_beside Beside = refl
not_beside Below = refl
not_beside Apart = refl

-- behind the end of the open line none stands beside a token
line_ended : (column : ℕ) (u : Standing) → IsAt u column → is_beside Comment (lowered_by (line_end column) u) ≡ false
line_ended column u a = go (column == 0) refl u a
  where
    go : (b : Bool) → (column == 0) ≡ b → (u : Standing) → IsAt u column
        → is_beside Comment (lowered_by (if b then [] else 10 ∷ []) u) ≡ false
    go false e u a = not_beside u
    go true e Beside a = absurd (true≢false (sym e ∙ closed column a))
    go true e AtTop a = refl
    go true e Below a = refl
    go true e Apart a = refl

comment_kept : (column : ℕ) (u t : Standing) → IsAt u column → reaches u t ≡ true
    → is_beside Comment (lowered_by (comment_lead column t) u) ≡ is_beside Comment t
comment_kept column Beside Beside a h = refl
comment_kept column AtTop Beside a h = absurd (true≢false (sym h))
comment_kept column Below Beside a h = absurd (true≢false (sym h))
comment_kept column Apart Beside a h = absurd (true≢false (sym h))
comment_kept column u AtTop a h =
    ap (λ g. is_beside Comment (lowered_by g u)) (append-nil (line_end column)) ∙ line_ended column u a
comment_kept column u Below a h =
    ap (λ g. is_beside Comment (lowered_by g u)) (append-nil (line_end column)) ∙ line_ended column u a
comment_kept column u Apart a h =
    ap (is_beside Comment) (lowered_append (line_end column) (10 ∷ []) u) ∙ not_beside (lowered_by (line_end column) u)

line_kept : (s : State) (u : Standing) (part : Part) (bytes : List ℕ) (t : Standing) → IsAt u s.column
    → reaches u t ≡ true → is_beside part (lowered_by (before s part bytes t) u) ≡ is_beside part t
unfolding before
line_kept s u Comment bytes t a h = comment_kept s.column u t a h
line_kept s u (Code kind) bytes t a h = refl

lines_from : (s : State) (u : Standing) (ps : List PieceValue) → IsAt u s.column → ArePieces u ps
    → map part_and_line (pieces_after 0 u (rendered_from s ps)) ≡ map part_and_line ps
lines_from s u ps a no_piece = ap (map part_and_line) (none s u)
lines_from s u qs a (one_piece {ps = ps} p r h more) =
    let line = line_kept s u p.part p.bytes p.standing a h in
    let rest = lines_from (after s p.part p.bytes) (behind p.part) ps (after_at s p.part p.bytes) more in
    ap (map part_and_line) (step s u p ps r) ∙ (λ i. (p.part, p.bytes, line i) ∷ rest i)

pub lines_stay : (text : List ℕ) → map part_and_line (pieces (formatted text)) ≡ map part_and_line (pieces text)
lines_stay text = lines_from start AtTop (pieces text) refl (text_pieces text 0 AtTop)
