use Rattle.keymap_tables.proofs.Common.{arith, ◌∙◌, ◌*◌, ◌/◌, ◌%◌, ◌-◌, ◌^◌, ◌==◌, ap, List, ℕ, get_or, All-get_or}
use Rattle.keymap_tables.proofs.Common.{Char, IsCell, number_at, is_marked_at, number_size, slice_index}
use Rattle.keymap_tables.proofs.ReadingLaws.{some_none}
use Rattle.keymap_tables.proofs.SlotImages.{number-in, mark-in, cell-sound, same-cell}
use Rattle.keymap_tables.proofs.tables.cell_in.Goals as goal

pub returns-in-Ok : goal.returns-in-Ok
returns-in-Ok c =
    λ e known same. let i = c.args.column in
    let l = c.args.layout in
    let cell = get_or e.cells i (Char 0) in
    let is = All-get_or IsCell e.cells i (Char 0) (omega (arith, known.0.eight, c.requires.inside)) known.0.cells in
    let number =
    ap (λ (v : List ℕ). number_at l v (number_size l * i)) same
    ∙ number-in l e (Char 0) i known.0 known.1 c.requires.inside in
    let mark =
    ap (λ (at : ℕ). (slice_index c.args.bytes.now at / 2 ^ (7 - i)) % 2 == 1) c.cells.ensures
    ∙ ap (λ (v : List ℕ). is_marked_at l v i) same ∙ mark-in l e (Char 0) i known.0 c.requires.inside in
    same-cell c.in-Ok.cell cell c.in-Ok.ensures.known is (c.in-Ok.ensures.number ∙ c.read_number.ensures ∙ number)
    (c.in-Ok.ensures.mark ∙ mark)

pub returns-in-Err : goal.returns-in-Err
returns-in-Err c =
    λ e known same. let i = c.args.column in
    let l = c.args.layout in
    let cell = get_or e.cells i (Char 0) in
    let is = All-get_or IsCell e.cells i (Char 0) (omega (arith, known.0.eight, c.requires.inside)) known.0.cells in
    let number =
    ap (λ (v : List ℕ). number_at l v (number_size l * i)) same
    ∙ number-in l e (Char 0) i known.0 known.1 c.requires.inside in
    let mark =
    ap (λ (at : ℕ). (slice_index c.args.bytes.now at / 2 ^ (7 - i)) % 2 == 1) c.cells.ensures
    ∙ ap (λ (v : List ℕ). is_marked_at l v i) same ∙ mark-in l e (Char 0) i known.0 c.requires.inside in
    absurd (some_none _ _ c.in-Err.ensures.fault (rw (c.read_number.ensures, number, mark) (cell-sound cell is)))
