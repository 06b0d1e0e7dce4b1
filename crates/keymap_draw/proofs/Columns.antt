-- Each cell of the columns that a cap shows is told on it.
use Rattle.keymap_draw.proofs.Common.{◌≡◌, ℕ, ◌==◌, true, false, ◌||◌, List, [], ◌∷◌, Option, Some, None, refl}
use Rattle.keymap_draw.proofs.Common.{sym, ap, ◌∙◌, arith, if◌then◌else◌, subst, inl, inr, Cell, Char, eqb-true}
use Rattle.std.proofs.lemmas.Bool.{cases_Bool, eq-eqb, or_cases, or_left, or_right, true≢false}
use Rattle.std.proofs.lemmas.List.Elements.{All-cons, All-nil}
use Rattle.keymap_core.specs.declared.action.Action.{Action}
use Rattle.keymap_core.specs.declared.action.Action.TheVariants as a
use Rattle.keymap_core.specs.declared.action.Modifier.TheVariants as m
use Rattle.keymap_core.specs.declared.action.Lock.TheVariants as l
use Rattle.keymap_core.specs.declared.entry.Cell.TheVariants.{Act}
use Rattle.keymap_core.specs.Actions.{code_of}
use Rattle.keymap_draw.specs.declared.drawn.DrawnCells.{DrawnCells}
use Rattle.keymap_draw.specs.Drawn.{column, different, drawn, is_among, is_blank, is_pair, is_same, is_told, joined}
use Rattle.keymap_draw.specs.Drawn.{remaining, tells, EachCellIsTold}

-- ---- cells that are the same

same_itself : (x : Cell) → is_same x x ≡ true
same_itself (Char c) = eq-eqb c c refl
same_itself (Act action) = eq-eqb (code_of action) (code_of action) refl

-- no other action has the code of nop
nop_alone : (action : Action) → code_of action ≡ code_of a.Nop → is_blank (Act action) ≡ true
nop_alone a.Nop e = refl
nop_alone (a.Mod m.LeftShift) e = absurd (omega (arith, e))
nop_alone (a.Lock l.Caps) e = absurd (omega (arith, e))
nop_alone _ e = absurd (omega (arith, e))

same_blank : (x y : Cell) → is_same x y ≡ true → is_blank x ≡ false → is_blank y ≡ false
same_blank (Char c) (Char d) e h = sym (ap (λ n. n == 0) (eqb-true c d e)) ∙ h
same_blank (Act action) (Act a.Nop) e h =
    absurd (true≢false (sym (nop_alone action (eqb-true (code_of action) (code_of a.Nop) e)) ∙ h))
same_blank (Act action) (Act (a.Mod m.LeftShift)) e h = refl
same_blank (Act action) (Act (a.Lock l.Caps)) e h = refl
same_blank (Act action) (Act _) e h = refl
same_blank (Char c) (Act action) e h = absurd (true≢false (sym e))
same_blank (Act action) (Char c) e h = absurd (true≢false (sym e))

-- what tells a cell tells one that is the same
same_tells : (x y : Cell) (o : Option Cell) → is_same x y ≡ true → tells y o ≡ true → tells x o ≡ true
same_tells x y None e h = absurd (true≢false (sym h))
same_tells (Char c) (Char d) o e h = subst (λ n. tells (Char n) o ≡ true) (sym (eqb-true c d e)) h
same_tells (Act action) (Act other) (Some (Char z)) e h = absurd (true≢false (sym h))
same_tells (Act action) (Act other) (Some (Act third)) e h = elim (or_cases _ false h) [
  | inl f ↦
      or_left _ false (eq-eqb (code_of action) (code_of third)
      (eqb-true (code_of action) (code_of other) e ∙ eqb-true (code_of other) (code_of third) f))
  | inr f ↦ absurd (true≢false (sym f))
]
same_tells (Char c) (Act action) (Some z) e h = absurd (true≢false (sym e))
same_tells (Act action) (Char c) (Some z) e h = absurd (true≢false (sym e))

-- ---- what a cap tells

same_told : (d : DrawnCells) (x y : Cell) → is_same x y ≡ true → is_told d y ≡ true → is_told d x ≡ true
same_told d x y e h = elim (or_cases _ (tells y d.alt_shift) h) [
  | inr f ↦ or_right _ (tells x d.alt_shift) (same_tells x y d.alt_shift e f)
  | inl f ↦ or_left _ (tells x d.alt_shift) (elim (or_cases _ (tells y d.alt) f) [
    | inr g ↦ or_right _ (tells x d.alt) (same_tells x y d.alt e g)
    | inl g ↦ or_left _ (tells x d.alt) (elim (or_cases (tells y d.base) (tells y d.shift) g) [
      | inl k ↦ or_left _ (tells x d.shift) (same_tells x y d.base e k)
      | inr k ↦ or_right (tells x d.base) _ (same_tells x y d.shift e k)
    ])
  ])
]

by_base : (d : DrawnCells) (x : Cell) → tells x d.base ≡ true → is_told d x ≡ true
by_base d x h = or_left _ (tells x d.alt_shift) (or_left _ (tells x d.alt) (or_left _ (tells x d.shift) h))

by_shift : (d : DrawnCells) (x : Cell) → tells x d.shift ≡ true → is_told d x ≡ true
by_shift d x h = or_left _ (tells x d.alt_shift) (or_left _ (tells x d.alt) (or_right (tells x d.base) _ h))

by_alt : (d : DrawnCells) (x : Cell) → tells x d.alt ≡ true → is_told d x ≡ true
by_alt d x h = or_left _ (tells x d.alt_shift) (or_right _ (tells x d.alt) h)

by_alt_shift : (d : DrawnCells) (x : Cell) → tells x d.alt_shift ≡ true → is_told d x ≡ true
by_alt_shift d x h = or_right _ (tells x d.alt_shift) h

tells_itself : (x : Cell) → tells x (Some x) ≡ true
tells_itself x = or_left _ (is_pair (Some x) (Some x)) (same_itself x)

-- a capital tells its small letter
pair_tells : (x : Cell) (o : Option Cell) → is_pair (Some x) o ≡ true → tells x o ≡ true
pair_tells (Char c) None h = absurd (true≢false (sym h))
pair_tells (Act action) None h = absurd (true≢false (sym h))
pair_tells x (Some y) h = or_right (is_same x y) _ h

-- a cell that differs from those before it is told
first_told : (all : DrawnCells) (x : Cell) → all.base ≡ Some x → is_told (joined all) x ≡ true
first_told all x e = elim (cases_Bool (is_pair all.base all.shift)) [
  | inl pair ↦
      by_shift (joined all) x (pair_tells x all.shift (subst (λ o. is_pair o all.shift ≡ true) e pair))
  | inr none ↦
      by_base (joined all) x (subst (λ o. tells x o ≡ true)
      (sym (ap (λ b. if b then None else all.base) none ∙ e)) (tells_itself x))
]

second_told : (all : DrawnCells) (x : Cell) → all.shift ≡ Some x → is_told (joined all) x ≡ true
second_told all x e = by_shift (joined all) x (subst (λ o. tells x o ≡ true) (sym e) (tells_itself x))

third_told : (all : DrawnCells) (x : Cell) → all.alt ≡ Some x → is_told (joined all) x ≡ true
third_told all x e = elim (cases_Bool (is_pair all.alt all.alt_shift)) [
  | inl pair ↦
      by_alt (joined all) x (subst (λ o. tells x o ≡ true)
      (sym (ap (λ b. if b then all.alt_shift else all.alt) pair))
      (pair_tells x all.alt_shift (subst (λ o. is_pair o all.alt_shift ≡ true) e pair)))
  | inr none ↦
      by_alt (joined all) x (subst (λ o. tells x o ≡ true)
      (sym (ap (λ b. if b then all.alt_shift else all.alt) none ∙ e)) (tells_itself x))
]

fourth_told : (all : DrawnCells) (x : Cell) → all.alt_shift ≡ Some x → is_told (joined all) x ≡ true
fourth_told all x e = elim (cases_Bool (is_pair all.alt all.alt_shift)) [
  | inl pair ↦
      by_alt (joined all) x (subst (λ o. tells x o ≡ true)
      (sym (ap (λ b. if b then all.alt_shift else all.alt) pair ∙ e)) (tells_itself x))
  | inr none ↦
      by_alt_shift (joined all) x (subst (λ o. tells x o ≡ true)
      (sym (ap (λ b. if b then None else all.alt_shift) none ∙ e)) (tells_itself x))
]

-- ---- the columns

left : (x : Cell) (before : List Cell) → is_blank x ≡ false → is_among x before ≡ false → remaining x before ≡ Some x
unfolding remaining
left x before e f = rw (e, f) refl

pub each_cell_is_told : EachCellIsTold
unfolding drawn different
each_cell_is_told e =
    All-cons P 0 (1 ∷ 4 ∷ 5 ∷ []) (unless x0 first) (All-cons P 1 (4 ∷ 5 ∷ []) (unless x1 second)
    (All-cons P 4 (5 ∷ []) (unless x2 third) (All-cons P 5 [] (unless x3 fourth) (All-nil P))))
  where
    P : ℕ → Type 0
    P i = (is_blank (column e i) || is_told (drawn e) (column e i)) ≡ true

    x0 : Cell
    x0 = column e 0

    x1 : Cell
    x1 = column e 1

    x2 : Cell
    x2 = column e 4

    x3 : Cell
    x3 = column e 5

    all : DrawnCells
    all = different e

    Told : Cell → Type 0
    Told x = is_told (joined all) x ≡ true

    unless : (x : Cell) → (is_blank x ≡ false → Told x) → (is_blank x || is_told (joined all) x) ≡ true
    unless x h = elim (cases_Bool (is_blank x)) [
      | inl blank ↦ or_left _ (is_told (joined all) x) blank
      | inr some ↦ or_right (is_blank x) _ (h some)
    ]

    -- as one before it, or else on its own
    or_before : (x y : Cell) → is_same x y ≡ true → is_blank x ≡ false → (is_blank y ≡ false → Told y) → Told x
    or_before x y e some h = same_told (joined all) x y e (h (same_blank x y e some))

    first : is_blank x0 ≡ false → Told x0
    first some = first_told all x0 (left x0 [] some refl)

    second : is_blank x1 ≡ false → Told x1
    second some = elim (cases_Bool (is_among x1 (x0 ∷ []))) [
      | inr apart ↦ second_told all x1 (left x1 (x0 ∷ []) some apart)
      | inl among ↦ elim (or_cases (is_same x1 x0) false among) [
        | inl same ↦ or_before x1 x0 same some first
        | inr never ↦ absurd (true≢false (sym never))
      ]
    ]

    third : is_blank x2 ≡ false → Told x2
    third some = elim (cases_Bool (is_among x2 (x0 ∷ x1 ∷ []))) [
      | inr apart ↦ third_told all x2 (left x2 (x0 ∷ x1 ∷ []) some apart)
      | inl among ↦ elim (or_cases (is_same x2 x0) (is_among x2 (x1 ∷ [])) among) [
        | inl same ↦ or_before x2 x0 same some first
        | inr later ↦ elim (or_cases (is_same x2 x1) false later) [
          | inl same ↦ or_before x2 x1 same some second
          | inr never ↦ absurd (true≢false (sym never))
        ]
      ]
    ]

    fourth : is_blank x3 ≡ false → Told x3
    fourth some = elim (cases_Bool (is_among x3 (x0 ∷ x1 ∷ x2 ∷ []))) [
      | inr apart ↦ fourth_told all x3 (left x3 (x0 ∷ x1 ∷ x2 ∷ []) some apart)
      | inl among ↦ elim (or_cases (is_same x3 x0) (is_among x3 (x1 ∷ x2 ∷ [])) among) [
        | inl same ↦ or_before x3 x0 same some first
        | inr later ↦ elim (or_cases (is_same x3 x1) (is_among x3 (x2 ∷ [])) later) [
          | inl same ↦ or_before x3 x1 same some second
          | inr last ↦ elim (or_cases (is_same x3 x2) false last) [
            | inl same ↦ or_before x3 x2 same some third
            | inr never ↦ absurd (true≢false (sym never))
          ]
        ]
      ]
    ]
