use Rattle.keymap_draw.proofs.Common.{◌≡◌, ℕ, List, [], ◌∷◌, ◌++◌, codes, refl, subst, true, IfOk}
use Rattle.keymap_draw.proofs.Common.{Number, Shape, Content, Plain, Bytes}
use Rattle.keymap_draw.proofs.Caps.{Words, Reads, letter_known, told, read}
use Rattle.keymap_draw.specs.declared.sheet.Content.TheVariants.{Characters}
use Rattle.keymap_draw.specs.Boards.{letter}
use Rattle.keymap_draw.specs.Keys.{titled_cap}
use Rattle.keymap_draw.specs.Sheets.{ids}
use Rattle.keymap_draw.specs.WellFormed.{is_among}
use Rattle.keymap_draw.specs.declared.words.TheConstants as words
use Rattle.keymap_draw.proofs.key.push_changed_group.Goals as goal

abbrev group : Words → ℕ → ℕ → Words → Words → Words → Words → Words → List Content
group classes x y finding feed title line shape =
    Plain classes ∷ Number x ∷ Number y ∷ Plain finding ∷ Plain feed ∷ Bytes title ∷ Characters line ∷ Plain shape ∷ []

words_read : (classes finding feed title line shape : Words) (x y : ℕ) (s : Shape) (said printed : List ℕ)
    → finding.now ≡ said → title.now ≡ printed → shape.now ≡ letter s ∷ []
    → Reads words.CHANGED_KEY.now (group classes x y finding feed title line shape)
    (titled_cap ((((said ++ feed.now) ++ printed) ++ codes "\n") ++ line.now) classes.now x y s)
words_read classes finding feed title line shape x y s said printed e f g =
    let known : is_among ids shape.now ≡ true = rw g (letter_known s) in
    record { all = λ fs. rw (e, f, known, g) refl }

pub tell-requires-clause-read : goal.tell-requires-clause-read
tell-requires-clause-read c =
    read (words_read c.args.classes c.as_slice.result c.args.title.now.feed c.as_slice-2.result c.args.line
    c.letter.result c.args.cap.x c.args.cap.y c.args.cap.shape _ _ c.as_slice.ensures.value c.as_slice-2.ensures.value
    c.letter.ensures.value)

pub returns : goal.returns
returns c =
    subst (λ fs. IfOk c.tell.result (λ s. s ≡ c.args.sheet ++ fs))
    (told (words_read c.args.classes c.as_slice.result c.args.title.now.feed c.as_slice-2.result c.args.line
    c.letter.result c.args.cap.x c.args.cap.y c.args.cap.shape _ _ c.as_slice.ensures.value c.as_slice-2.ensures.value
    c.letter.ensures.value))
    c.tell.ensures
