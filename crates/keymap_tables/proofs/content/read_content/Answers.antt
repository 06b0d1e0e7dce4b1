use Rattle.keymap_tables.proofs.Common.{arith, ◌∙◌, ◌++◌, [], ℕ, List, take, drop, refl, sym, ap, take-append-drop}
use Rattle.keymap_tables.proofs.Common.{IsMap, slot_fault, accent_fault, table_fault, slot_bytes, table_bytes}
use Rattle.keymap_tables.proofs.Common.{HasNoFault, made_of, slot_size, accent_size, n_accs_place}
use Rattle.keymap_tables.proofs.AccentImages.{accents-are}
use Rattle.keymap_tables.proofs.Images.{image-parts, table-sound}
use Rattle.keymap_tables.proofs.Lifting.{split-fails, split-fails_behind}
use Rattle.keymap_tables.proofs.Outcomes.{err_passed}
use Rattle.keymap_tables.proofs.Rows.{cut-rest}
use Rattle.keymap_tables.proofs.SlotImages.{slots-are}
use Rattle.keymap_tables.proofs.content.read_content.Goals as goal

pub read_table-requires-clause-rows : goal.read_table-requires-clause-rows
read_table-requires-clause-rows g c = slots-are c.args.layout

pub read_table-requires-2-clause-rows : goal.read_table-requires-2-clause-rows
read_table-requires-2-clause-rows g c = accents-are c.args.layout

pub returns-in_err-read_table-clause-fault : goal.returns-in_err-read_table-clause-fault
returns-in_err-read_table-clause-fault g c =
    let l = c.args.layout in
    let head = ap (λ (n : ℕ). take n c.args.bytes.now) c.n_accs_at-n_accs_at.ensures in
    let fault =
    split-fails (n_accs_place l) (table_fault l (slot_fault l) (slot_size l) 256)
    (table_fault l (accent_fault l) (accent_size l) 15) c.args.bytes.now _ (n_accs_place l) _ head (omega arith)
    c.in_err-read_table.ensures.fault in
    err_passed _ _ _ c.from_residual.ensures.1 fault.0

pub returns-in-Err-clause-fault : goal.returns-in-Err-clause-fault
returns-in-Err-clause-fault g c =
    let l = c.args.layout in
    let bytes = c.args.bytes.now in
    let taken = c.in_ok-read_table.ensures.taken in
    let head = ap (λ (n : ℕ). take n c.args.bytes.now) c.n_accs_at-n_accs_at.ensures in
    let sound =
    table-sound (slots-are l) l 256 (omega arith)
    taken.0 taken.3 taken.1 in
    let front : HasNoFault (table_fault c.args.layout (slot_fault c.args.layout) (slot_size c.args.layout) 256
    (take (n_accs_place c.args.layout) c.args.bytes.now)) (n_accs_place c.args.layout) =
    λ p below.
    ap (λ (v : List ℕ). table_fault c.args.layout (slot_fault c.args.layout) (slot_size c.args.layout) 256 v p)
    (sym head ∙ taken.2) ∙ sound p in
    split-fails_behind (n_accs_place l) (table_fault l (slot_fault l) (slot_size l) 256)
    (table_fault l (accent_fault l) (accent_size l) 15) bytes _ _ c.in-Err.fault _
    (cut-rest bytes (n_accs_place l) _ c.n_accs_at-n_accs_at.ensures) c.n_accs_at-n_accs_at.ensures front
    c.in-Err.ensures.fault.0 c.after.ensures

pub returns-in-Ok-clause-taken : goal.returns-in-Ok-clause-taken
returns-in-Ok-clause-taken g c =
    let l = c.args.layout in
    let bytes = c.args.bytes.now in
    let slots = c.in_ok-read_table.ensures.taken in
    let accents = c.in-Ok.ensures.taken in
    let m = made_of slots.0 accents.0 in
    let known : IsMap (made_of slots.0 accents.0) = record {
      few_entries = slots.1;
      entries = λ k d low. (slots.3 k d low).0;
      few_accents = accents.1;
      accents = λ k d low. (accents.3 k d low).0;
    } in (
      m,
      known,
      record {
        entries = λ k d low. (slots.3 k d low).1;
        accents = λ k d low. (accents.3 k d low).1;
      },
      sym (take-append-drop c.n_accs_at-n_accs_at.result bytes)
          ∙ ap (λ (v : List ℕ). v ++ drop c.n_accs_at-n_accs_at.result c.args.bytes.now) slots.2
          ∙ ap (λ (v : List ℕ). table_bytes c.args.layout (slot_bytes c.args.layout) (slot_size c.args.layout) 256
          slots.0 ++ v)
          (sym (cut-rest bytes c.n_accs_at-n_accs_at.result c.n_accs_at-n_accs_at.result refl) ∙ accents.2)
          ∙ sym (image-parts l m),
      λ start. accents.4 (made_of slots.0 []) (slots.4 (made_of [] []) start),
    )
