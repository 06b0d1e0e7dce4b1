-- No key is pressed at the end of a script.
use Rattle.keymap_check.proofs.Common.{zero, suc, ◌≡◌, ℕ, ◌<◌, Bool, true, false, List, [], ◌++◌, Option, Some, None}
use Rattle.keymap_check.proofs.Common.{refl, subst, sym, ◌∙◌, inl, inr, if◌then◌else◌, reverse, gathered, rules}
use Rattle.keymap_check.proofs.Common.{below-suc, and_parts, true≢false, false_from_ne_true, has_bit, key_at, Event}
use Rattle.keymap_check.proofs.Common.{pressed, IsQuiet, is_chosen, event_if, event_at, script, arith, ◌≤◌, eq-eqb}
use Rattle.keymap_check.proofs.Common.{eqb-true, not}
use Rattle.std.proofs.Common.{◌⊎◌}
use Rattle.std.proofs.lemmas.Bool.{cases_Bool}
use Rattle.console_core.proofs.Shared.{pressed-press, pressed-release, pressed-start, reverse-joined}
use Rattle.keymap_check.proofs.Lengths.{no_bit}
use Rattle.keymap_check.proofs.Played.{played, start_played}

-- the key of a bit that is in the set s and not in e
abbrev IsNamed : List (Option ℕ) → ℕ → ℕ → ℕ → Type 0
IsNamed keys s e j = (i : ℕ) × (i < 4) × (is_chosen s e i ≡ true) × (key_at keys i ≡ Some j)

-- a key is pressed after the press of a bit's key only if it was before, or is that key
press-step : (t : Bool) (o : Option ℕ) (j : ℕ) (h : List Event)
    → pressed j (reverse (if t then event_if true o else []) ++ h) ≡ true
    → (pressed j h ≡ true) ⊎ ((t ≡ true) × (o ≡ Some j))
press-step true (Some i) j h e = search (rules, cases_Bool, eqb-true, pressed-press)
press-step true None j h e = inl e
press-step false o j h e = inl e

-- a key is pressed after the release of a bit's key only if it was before, and isn't that key
release-step : (t : Bool) (o : Option ℕ) (j : ℕ) (h : List Event)
    → pressed j (reverse (if t then event_if false o else []) ++ h) ≡ true
    → (pressed j h ≡ true) × (t ≡ true → o ≡ Some j → ⊥)
release-step true (Some i) j h e = search (rules, pressed-release, eq-eqb)
release-step true None j h e = (e, λ _ same. cc)
release-step false o j h e = (e, λ t _. true≢false (sym t))

-- a key is pressed after presses of the keys of a set only if it was before, or is one of them
presses : (keys : List (Option ℕ)) (s e j n : ℕ) (h : List Event) → n ≤ 4
    → pressed j (reverse (gathered (event_at true keys s e) n) ++ h) ≡ true → (pressed j h ≡ true) ⊎ IsNamed keys s e j
unfolding gathered
presses keys s e j zero h le is = inl is
presses keys s e j (suc n) h le is =
    elim (press-step (is_chosen s e n) (key_at keys n) j _
    (rw reverse-joined at is)) [
      | inl before ↦ presses keys s e j n h (omega arith) before
      | inr now ↦ inr (n, omega arith, now.0, now.1)
    ]

releases : (keys : List (Option ℕ)) (s e j n : ℕ) (h : List Event)
    → pressed j (reverse (gathered (event_at false keys s e) n) ++ h) ≡ true
    → (pressed j h ≡ true) × ((i : ℕ) → i < n → is_chosen s e i ≡ true → key_at keys i ≡ Some j → ⊥)
unfolding gathered
releases keys s e j zero h is = (is, λ i lt. absurd (omega (arith, lt)))
releases keys s e j (suc n) h is =
    let now = release-step (is_chosen s e n) (key_at keys n) j _ (rw reverse-joined at is) in
    let before = releases keys s e j n h now.0 in (
      before.0,
      λ i lt. elim (below-suc i n lt) [
        | inl l ↦ before.1 i l
        | inr q ↦ subst (λ x. is_chosen s e x ≡ true → key_at keys x ≡ Some j → ⊥) (sym q) now.1
      ],
    )

-- at the end of a script no key is pressed: one that was pressed is of a bit of A or B, and such a bit is let go
pub script-quiet : (keys : List (Option ℕ)) (k a b : ℕ) → IsQuiet (reverse (script keys k a b))
script-quiet keys k a b j lt =
    false_from_ne_true (pressed j (reverse (script keys k a b))) (λ is.
    let end = releases keys b 0 j 4 _ (rw (played keys k a b) at is) in
    let let_go = release-step true (Some k) j _ end.0 in
    let no_key : Some k ≡ Some j → ⊥ = let_go.1 refl in
    let in_b : (i : ℕ) → i < 4 → has_bit b i ≡ true → key_at keys i ≡ Some j → ⊥ =
    λ i l t. end.1 i l (rw (t, no_bit i) refl) in
    elim (press-step true (Some k) j _ let_go.0) [
      | inr own ↦ absurd (no_key own.1)
      | inl before ↦ elim (presses keys b a j 4 _ (omega arith) before) [
        | inr (i, l, t, at) ↦ in_b i l (and_parts _ _ t).0 at
        | inl left ↦
            let kept = releases keys a b j 4 _ left in
            elim (press-step true (Some k) j _ (rw (← start_played keys k a) at kept.0)) [
              | inr own ↦ absurd (no_key own.1)
              | inl first ↦ elim (presses keys a 0 j 4 [] (omega arith) first) [
                | inl none ↦ true≢false (sym none ∙ pressed-start j)
                | inr (i, l, t, at) ↦
                    let no : has_bit b i ≡ false = false_from_ne_true (has_bit b i) (λ x. in_b i l x at) in
                    let yes : has_bit a i ≡ true = (and_parts (has_bit a i) (not (has_bit 0 i)) t).0 in
                    kept.1 i l (rw (no, yes) refl) at
              ]
            ]
      ]
    ])
