-- The boards are keyboards.
use Rattle.keymap_draw.proofs.Common.{zero, suc, ◌≡◌, Bool, true, ◌&&◌, not, List, [], ◌∷◌, refl, arith, ◌==◌, list_all}
use Rattle.keymap_draw.proofs.Common.{and_parts, not-true, Board, Iso, Ansi, Row, keys_of, each}
use Rattle.std.proofs.Common.{AllPairs}
use Rattle.std.proofs.lemmas.Bool.{eqb-false}
unfoldable use Rattle.keyboard.specs.Boards.{is_on}
use Rattle.keymap_draw.specs.Keyboards.{BoardsAreKeyboards, EachKeyOnce, NoTwoOverlap, AllLieOnThePanel, are_apart}
use Rattle.keymap_draw.specs.Keyboards.{is_on_panel}

-- each with each behind it
abbrev pub pairwise : {X : Type 0} → (X → X → Bool) → List X → Bool
pairwise test [] = true
pairwise test (x ∷ xs) = list_all (test x) xs && pairwise test xs

pub pairs : {X : Type 0} (test : X → X → Bool) (xs : List X) → pairwise test xs ≡ true
    → AllPairs (λ x y. test x y ≡ true) xs
pairs test [] h i j d below l = absurd (omega (arith, l))
pairs test (x ∷ xs) h i zero d below l = absurd (omega (arith, below))
pairs test (x ∷ xs) h zero (suc j) d below l =
    each (test x) xs (and_parts (list_all (test x) xs) (pairwise test xs) h).0 j d (omega (arith, l))
pairs test (x ∷ xs) h (suc i) (suc j) d below l =
    pairs test xs (and_parts (list_all (test x) xs) (pairwise test xs) h).1 i j d (omega (arith, below))
    (omega (arith, l))

pub boards_are_keyboards : BoardsAreKeyboards
unfolding is_on
boards_are_keyboards Iso = record { on = refl; keys = refl; as_many = refl }
boards_are_keyboards Ansi = record { on = refl; keys = refl; as_many = refl }

differ : Row → Row → Bool
differ a b = not (a.code == b.code)

differ_all : (board : Board) → pairwise differ (keys_of board) ≡ true
unfolding differ
differ_all Iso = refl
differ_all Ansi = refl

pub each_key_once : EachKeyOnce
unfolding differ
each_key_once board i j d below l =
    let h = pairs differ (keys_of board) (differ_all board) i j d below l in eqb-false _ _ (not-true _ h)

apart_all : (board : Board) → pairwise are_apart (keys_of board) ≡ true
apart_all Iso = refl
apart_all Ansi = refl

pub no_two_overlap : NoTwoOverlap
no_two_overlap board = pairs are_apart (keys_of board) (apart_all board)

panel_all : (board : Board) → list_all is_on_panel (keys_of board) ≡ true
panel_all Iso = refl
panel_all Ansi = refl

pub all_lie_on_the_panel : AllLieOnThePanel
all_lie_on_the_panel board = each is_on_panel (keys_of board) (panel_all board)
