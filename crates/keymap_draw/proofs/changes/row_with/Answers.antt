use Rattle.keymap_draw.proofs.Common.{◌≡◌, ◌++◌, ◌∷◌, [], ◌∙◌, ℕ, List, ap, append_assoc, length, refl, sym, true, false}
unfoldable use Rattle.keymap_draw.specs.Changes.{rows_behind}
use Rattle.keymap_draw.specs.Changes.{ends_row, indent}
use Rattle.keymap_draw.proofs.changes.row_with.Goals as goal

ended : (rows : List (List ℕ)) (row : List ℕ) (c : ℕ) (cs : List ℕ) → ends_row (length row) c cs ≡ true
    → (rows ++ row ∷ []) ++ rows_behind indent cs ≡ rows ++ rows_behind row (c ∷ cs)
unfolding rows_behind
ended rows row c cs h = rw h (append_assoc rows (row ∷ []) (rows_behind indent cs))

longer : (rows : List (List ℕ)) (row : List ℕ) (c : ℕ) (cs : List ℕ) → ends_row (length row) c cs ≡ false
    → rows ++ rows_behind (row ++ c ∷ []) cs ≡ rows ++ rows_behind row (c ∷ cs)
unfolding rows_behind
longer rows row c cs h = rw h refl

pub returns-in_ok-next-clause-rows : goal.returns-in_ok-next-clause-rows
returns-in_ok-next-clause-rows c =
    ap (λ l. l ++ rows_behind c.in_ok-next.next.items c.args.behind.now)
    (c.in_ok-push.ensures.items ∙ ap (λ row. c.args.rows.now.items ++ row ∷ []) c.new.ensures)
    ∙ ap (λ next. (c.args.rows.now.items ++ c.args.row.items ∷ []) ++ rows_behind next c.args.behind.now)
    c.in_ok-next.ensures
    ∙ ended c.args.rows.now.items c.args.row.items c.args.c c.args.behind.now
    (ap (λ before. ends_row (length before) c.args.c c.args.behind.now) (sym c.as_slice.ensures.value) ∙ sym c.ends_row.ensures
    ∙ c.if-ends_row.true)

pub returns-in_ok-push-2-clause-rows : goal.returns-in_ok-push-2-clause-rows
returns-in_ok-push-2-clause-rows c =
    ap (λ row. c.args.rows.now.items ++ rows_behind row c.args.behind.now) c.in_ok-push-2.ensures.items
    ∙ longer c.args.rows.now.items c.args.row.items c.args.c c.args.behind.now
    (ap (λ before. ends_row (length before) c.args.c c.args.behind.now) (sym c.as_slice.ensures.value) ∙ sym c.ends_row.ensures
    ∙ c.if-ends_row.false)
