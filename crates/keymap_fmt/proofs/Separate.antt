-- A definition is written in the same way whatever stands before it.
use Rattle.keymap_fmt.proofs.Common.{common_steps, rules, arith, ◌≡◌, ℕ, Bool, true, false, if◌then◌else◌, List}
use Rattle.keymap_fmt.proofs.Common.{[], ◌∷◌, ◌++◌, refl, sym, ◌∙◌, ap, append_assoc}
use Rattle.keymap_fmt.proofs.Common.{TokenKind, State, Standing, Code, Row, Slot, Accent, PieceValue, is_open, is_over}
use Rattle.keymap_fmt.proofs.Common.{row_of, opened, lead, advanced, before, after, ending, line_end}
use Rattle.keymap_fmt.proofs.Common.{line_begun, lines_before, start, rendered_from, rendered}
use Rattle.keymap_fmt.specs.Formatted.{state_behind}

-- the state in which the first token of a definition is written
abbrev begun_at : ℕ → Row → State
begun_at pairs_at row = record { column = 0; row = row; taken = 0; pairs_at = pairs_at; pairs = 0 }

first_opened : (s : State) (kind : TokenKind) (bytes : List ℕ) → is_over s ≡ true → is_open kind ≡ false
    → opened s kind bytes ≡ begun_at s.pairs_at (row_of bytes)
unfolding opened
first_opened s kind bytes h k = rw (h, k) refl

-- where a token is written, and what follows, is seen in no earlier token
lead_of : (a b n : ℕ) (t : Bool) → lead (begun_at a (if t then Slot else Accent)) n
    ≡ lead (begun_at b (if t then Slot else Accent)) n
unfolding lead
lead_of a b n true = refl
lead_of a b n false = refl

advanced_of : (a b n : ℕ) (t : Bool) → advanced (begun_at a (if t then Slot else Accent)) n
    ≡ advanced (begun_at b (if t then Slot else Accent)) n
unfolding lead
advanced_of a b n true = refl
advanced_of a b n false = refl

first_lead : (s : State) (kind : TokenKind) (bytes : List ℕ) (n : ℕ) → is_over s ≡ true → is_open kind ≡ false
    → lead (opened s kind bytes) n ≡ lead (opened start kind bytes) n
first_lead s kind bytes n h k = search (rules, first_opened, lead_of)

first_after : (s : State) (kind : TokenKind) (bytes : List ℕ) → is_over s ≡ true → is_open kind ≡ false
    → after s (Code kind) bytes ≡ after start (Code kind) bytes
unfolding after
first_after s kind bytes h k = search (rules, first_opened, advanced_of)

-- a line that is over ends before a token
first_lines : (s : State) (kind : TokenKind) (t : Standing) → is_over s ≡ true → is_open kind ≡ false
    → lines_before s kind t ≡ line_begun s.column t
first_lines s kind t h k = grind (arith, common_steps)

first_before : (s : State) (kind : TokenKind) (bytes : List ℕ) (t : Standing) → is_over s ≡ true
    → is_open kind ≡ false → before s (Code kind) bytes t ≡ line_end s.column ++ before start (Code kind) bytes t
unfolding before
first_before s kind bytes t h k = search (rules, first_lines, first_lead, append_assoc)

-- where the line is over, a token is written behind its end as it is at the top
first_rendered : (s : State) (kind : TokenKind) (bytes : List ℕ) (t : Standing) (ps : List PieceValue)
    → is_over s ≡ true → is_open kind ≡ false
    → rendered_from s (record { part = Code kind; bytes = bytes; standing = t } ∷ ps)
    ≡ line_end s.column ++ rendered (record { part = Code kind; bytes = bytes; standing = t } ∷ ps)
unfolding rendered_from
first_rendered s kind bytes t ps h k = search (rules, first_before, first_after, append_assoc)

-- pieces before it
pub rendered_both : (s : State) (ps qs : List PieceValue) (r : List ℕ)
    → rendered_from (state_behind s ps) qs ≡ line_end (state_behind s ps).column ++ r
    → rendered_from s (ps ++ qs) ≡ rendered_from s ps ++ r
unfolding rendered_from state_behind
rendered_both s [] qs r h = h
rendered_both s (p ∷ ps) qs r h =
    let g = before s p.part p.bytes p.standing in
    let y = rendered_from (after s p.part p.bytes) ps in
    ap (λ (x : List ℕ). g ++ (p.bytes ++ (ending p.part ++ x))) (rendered_both (after s p.part p.bytes) ps qs r h)
    ∙ regroup g p.bytes (ending p.part) y r
  where
    regroup : (a b c d e : List ℕ) → a ++ (b ++ (c ++ (d ++ e))) ≡ (a ++ (b ++ (c ++ d))) ++ e
    regroup a b c d e = sym (simp append_assoc)

pub definition_apart : (ps : List PieceValue) (kind : TokenKind) (bytes : List ℕ) (t : Standing) (qs : List PieceValue)
    → is_over (state_behind start ps) ≡ true → is_open kind ≡ false
    → rendered (ps ++ record { part = Code kind; bytes = bytes; standing = t } ∷ qs)
    ≡ rendered ps ++ rendered (record { part = Code kind; bytes = bytes; standing = t } ∷ qs)
definition_apart ps kind bytes t qs h k = search (rules, rendered_both, first_rendered)
