use Rattle.keymap_draw.proofs.Common.{◌≡◌, ◌==◌, Bool, true, false, [], ◌∷◌, ◌++◌, refl, ap, Some, codes, reverse}
use Rattle.keymap_draw.proofs.Common.{Number, Plain, ReadAs, in_svg, within, is_inner, State, at, start, scan, Text}
use Rattle.keymap_draw.proofs.Common.{◌∙◌, Fact, List, ℕ, head, if◌then◌else◌, list_all}
use Rattle.keymap_draw.specs.Pictures.{begin as svg, description, heading}
use Rattle.keymap_draw.specs.Facts.Fact.{Text as Said}
use Rattle.keymap_draw.specs.Sheets.{facts_from, opened}
use Rattle.keymap_draw.specs.declared.sheet.Content.TheVariants.{Characters}
use Rattle.keymap_draw.specs.declared.constants.TheConstants.{STYLE, SHAPES}
use Rattle.std.proofs.lemmas.List.{reverse-reverse}
use Rattle.keymap_draw.proofs.Names.{one_by_one, all_behind}
use Rattle.keymap_draw.proofs.Parts.{behind}
use Rattle.keymap_draw.proofs.Scans.{told, is_within, further}
use Rattle.keymap_draw.specs.declared.words.TheConstants as words
use Rattle.keymap_draw.proofs.sheet.begin.Goals as goal

verdict_inner : (b : Bool) → list_all is_inner (if b then words.ACCEPTED.now else words.REFUSED.now) ≡ true
verdict_inner true = refl
verdict_inner false = refl

-- behind the begin with these ids and these facts, the last first
abbrev begun : List (List ℕ) → List Fact → State
begun ids fs = at Text (record { begun = in_svg; ids = ids; facts = fs })

abbrev title : List (List ℕ)
title = codes "title" ∷ []

abbrev opening : ℕ → List Fact
opening high = svg high ∷ []

-- the title of the whole, whose words are read one after the other
all_said : (name verdict : List ℕ) (fs : List Fact)
    → Some (begun title (Said (codes "title") [] ((codes "id", codes "title") ∷ [])
    (one_by_one name (codes ", ") ++ verdict) ∷ fs))
    ≡ Some (begun title (Said (codes "title") [] ((codes "id", codes "title") ∷ [])
    ((name ++ codes ", ") ++ verdict) ∷ fs))
all_said name verdict fs =
    ap (λ said. Some (begun title (Said (codes "title") [] ((codes "id", codes "title") ∷ []) (said ++ verdict) ∷ fs)))
    (all_behind name (codes ", "))

abbrev titled : List ℕ → ℕ → ℕ → List Fact
titled name count high = heading name count ∷ opening high

abbrev described : List ℕ → ℕ → ℕ → List Fact
described name count high = description ∷ titled name count high

abbrev styled : List ℕ → ℕ → ℕ → List Fact
styled name count high = reverse (facts_from opened STYLE []) ++ described name count high

abbrev shaped : List ℕ → ℕ → ℕ → List Fact
shaped name count high = reverse (facts_from opened SHAPES []) ++ styled name count high

read : (c : goal.In_ok-push_filled-3)
    → ReadAs (within in_svg (reverse (head c.args.name.now c.args.count c.args.height))) c.push_filled-3.new.text.items
unfolding head
read c =
    let name = c.args.name.now in
    let n = c.args.count in
    let high = c.args.height in
    let empty : ReadAs start c.new-text.result.items =
    record { scanned = ap (scan (Some start)) c.new-text.ensures.items } in
    let opens : ReadAs (begun [] (opening high)) c.push_filled.new.text.items =
    behind words.BEGIN.now (Number high ∷ Number high ∷ []) empty c.in_ok-push_filled.ensures refl refl in
    let named : ReadAs (begun title (titled name n high)) c.push_filled-2.new.text.items =
    behind words.TITLE.now (Characters c.args.name ∷ Plain c.either.result ∷ []) opens c.in_ok-push_filled-2.ensures
    (rw (c.requires, c.either.ensures, verdict_inner (n == 0)) refl)
    (rw c.either.ensures (all_said name _ (opening high))) in
    let told_what : ReadAs (begun (codes "desc" ∷ title) (described name n high)) c.extend_from_slice.new.self.items =
    further {t = begun (codes "desc" ∷ title) (described name n high)} words.DESCRIPTION.now named
    c.in_ok-extend_from_slice.ensures.items refl in
    let with_style : ReadAs (begun (codes "desc" ∷ title) (styled name n high)) c.extend_from_slice-2.new.self.items =
    further {t = begun (codes "desc" ∷ title) (styled name n high)} STYLE told_what
    c.in_ok-extend_from_slice-2.ensures.items refl in
    let with_shapes : ReadAs (within in_svg (shaped name n high)) c.extend_from_slice-3.new.self.items =
    further {t = within in_svg (shaped name n high)} SHAPES with_style
    c.in_ok-extend_from_slice-3.ensures.items refl in
    behind words.PAGE.now (Number high ∷ []) with_shapes c.in_ok-push_filled-3.ensures refl refl

pub invariant_of-result : goal.invariant_of-result
invariant_of-result c = is_within (read c)

pub returns : goal.returns
returns c = told (read c) ∙ reverse-reverse _
