use Rattle.keymap_draw.proofs.Common.{◌≡◌, ℕ, List, [], ◌∷◌, ◌++◌, arith, refl, subst, true, IfOk}
use Rattle.keymap_draw.proofs.Common.{Number, Shape, Content, Plain, Bytes}
use Rattle.keymap_draw.proofs.Caps.{Words, Reads, letter_known, told, read}
use Rattle.std.proofs.lemmas.List.{nil_from_length}
use Rattle.keymap_draw.specs.Boards.{letter}
use Rattle.keymap_draw.specs.Keys.{titled_cap}
use Rattle.keymap_draw.specs.Sheets.{ids}
use Rattle.keymap_draw.specs.WellFormed.{is_among}
use Rattle.keymap_draw.specs.declared.words.TheConstants as words
use Rattle.keymap_draw.proofs.key.push_group.Goals as goal

abbrev group : ℕ → ℕ → Words → Words → Words → Words → List Content
group x y finding feed title shape =
    Number x ∷ Number y ∷ Plain finding ∷ Plain feed ∷ Bytes title ∷ Plain shape ∷ []

-- the words without a class and those with one
both : (class finding feed title shape : Words) (x y : ℕ) (s : Shape) (said printed : List ℕ) → finding.now ≡ said
    → title.now ≡ printed → shape.now ≡ letter s ∷ []
    → Reads words.KEY.now (group x y finding feed title shape) (titled_cap ((said ++ feed.now) ++ printed) [] x y s)
    × Reads words.KEY_OF.now (Plain class ∷ group x y finding feed title shape)
    (titled_cap ((said ++ feed.now) ++ printed) class.now x y s)
both class finding feed title shape x y s said printed e f g =
    let known : is_among ids shape.now ≡ true = rw g (letter_known s) in
    (record { all = λ fs. rw (e, f, known, g) refl }, record { all = λ fs. rw (e, f, known, g) refl })

pub tell-requires-clause-read : goal.tell-requires-clause-read
tell-requires-clause-read c =
    read (both c.args.class c.as_slice.result c.args.title.now.feed c.as_slice-2.result c.letter.result c.args.cap.x
    c.args.cap.y c.args.cap.shape _ _ c.as_slice.ensures.value c.as_slice-2.ensures.value c.letter.ensures.value).0

pub returns-in-empty : goal.returns-in-empty
returns-in-empty c =
    let none : c.args.class.now ≡ [] = nil_from_length c.args.class.now (omega (arith, c.in-empty.len_below)) in
    rw none (subst (λ fs. IfOk c.tell.result (λ s. s ≡ c.args.sheet ++ fs))
    (told (both c.args.class c.as_slice.result c.args.title.now.feed c.as_slice-2.result c.letter.result c.args.cap.x
    c.args.cap.y c.args.cap.shape _ _ c.as_slice.ensures.value c.as_slice-2.ensures.value c.letter.ensures.value).0)
    c.tell.ensures)

pub tell-requires-in_default-clause-read : goal.tell-requires-in_default-clause-read
tell-requires-in_default-clause-read c =
    read (both c.args.class c.as_slice.result c.args.title.now.feed c.as_slice-2.result c.letter.result c.args.cap.x
    c.args.cap.y c.args.cap.shape _ _ c.as_slice.ensures.value c.as_slice-2.ensures.value c.letter.ensures.value).1

pub returns-in_default : goal.returns-in_default
returns-in_default c =
    subst (λ fs. IfOk c.tell-in_default.result (λ s. s ≡ c.args.sheet ++ fs))
    (told (both c.args.class c.as_slice.result c.args.title.now.feed c.as_slice-2.result c.letter.result c.args.cap.x
    c.args.cap.y c.args.cap.shape _ _ c.as_slice.ensures.value c.as_slice-2.ensures.value c.letter.ensures.value).1)
    c.tell-in_default.ensures
