-- The ways by each key, from the lowest key on.
use Rattle.std.proofs.Common.{rules}
use Rattle.console_scripts.proofs.Common.{◌≡◌, ◌<◌, ◌+◌, ◌≤◌, ℕ, List, [], ◌∷◌, ◌++◌, All, All-nil, Some, ap, subst}
use Rattle.console_scripts.proofs.Common.{sym, None, Option, State, look_selected, refl, selection_of, slice_get}
use Rattle.console_scripts.proofs.Common.{arith, inl, inr, place_last, MapValue, start, ◌∙◌}
use Rattle.std.specs.List.{AllPairs, Contains}
use Rattle.std.proofs.lemmas.List.{map_push}
use Rattle.std.proofs.lemmas.List.Elements.{All-push, Contains-append_left, Contains-push}
use Rattle.std.proofs.lemmas.List.Quantifiers.{all_pairs_push}
use Rattle.keyboard.specs.declared.board.Board.{Board}
use Rattle.console_states.specs.Moves.{alone_by}
use Rattle.console_scripts.proofs.Bases.{usable-below}
use Rattle.console_scripts.proofs.Coursing.{way-made}
use Rattle.console_scripts.specs.Inner.Courses.{IsMade, Lacks}
use Rattle.console_scripts.specs.Inner.Seeking.{accent_in}
use Rattle.console_scripts.specs.Ways.{AreWaysByKey, HasNoWayFrom, IsTypedBy, IsWay, Way, allows_in, ending_with}
use Rattle.console_scripts.specs.Ways.{keys_of, state_at_end}
use Rattle.console_scripts.specs.declared.by_key.WayBy.{WayBy}
use Rattle.console_scripts.specs.declared.classes.Class.{Class}

-- they are those by the first keys
pub record AreWaysBelow (b : Board) (m : MapValue) (c n : ℕ) (ways : List WayBy) : Type 0 where
  pub each : All (IsTypedBy b m c) ways
  pub below : All (λ k. k < n) (keys_of ways)
  pub in_order : AllPairs (λ j k. j < k) (keys_of ways)
  pub complete : (k : ℕ) → k < n → (class : Class) (x : Way) → IsWay b class m start (ending_with (Some k) c) x
      → Contains (keys_of ways) k

pub ways-none : (b : Board) (m : MapValue) (c : ℕ) (ways : List WayBy) → ways ≡ [] → AreWaysBelow b m c 0 ways
ways-none b m c ways none = search (rules, All-nil)

-- the next key has none
pub ways-skip : (b : Board) (m : MapValue) (c n : ℕ) (ways : List WayBy) → AreWaysBelow b m c n ways
    → HasNoWayFrom b m start (ending_with (Some n) c) → AreWaysBelow b m c (n + 1) ways
ways-skip b m c n ways y none = record {
  each = y.each;
  below = λ i d within. let lt = y.below i d within in omega (arith, lt);
  in_order = y.in_order;
  complete = λ k lt class x is. elim (place_last k n lt) [
    | inl less ↦ y.complete k less class x is
    | inr e ↦ absurd (none class x (subst (λ z. IsWay b class m start (ending_with (Some z) c) x) e is))
  ];
}

-- or one
pub ways-push : (b : Board) (m : MapValue) (c n : ℕ) (ways now : List WayBy) (w : WayBy) → AreWaysBelow b m c n ways
    → w.key ≡ n → IsTypedBy b m c w → now ≡ ways ++ w ∷ []
    → AreWaysBelow b m c (n + 1) now
ways-push b m c n ways now w y at typed e =
    let keys : keys_of (ways ++ w ∷ []) ≡ keys_of ways ++ n ∷ [] =
    map_push (λ (w : WayBy). w.key) ways w ∙ ap (λ k. keys_of ways ++ k ∷ []) at in
    let low : All (λ k. k < n + 1) (keys_of ways) =
    λ i d within. let lt = y.below i d within in omega (arith, lt) in
    subst (λ z. AreWaysBelow b m c (n + 1) z) (sym e) (record {
      each = All-push (IsTypedBy b m c) ways w y.each typed;
      below = subst (λ z. All (λ k. k < n + 1) z) (sym keys)
          (All-push (λ k. k < n + 1) (keys_of ways) n low (omega arith));
      in_order = subst (λ z. AllPairs (λ j k. j < k) z) (sym keys)
          (all_pairs_push (λ j k. j < k) (keys_of ways) n y.in_order y.below);
      complete = λ k lt class x is. subst (λ z. Contains z k) (sym keys) (elim (place_last k n lt) [
        | inl less ↦ Contains-append_left (keys_of ways) (n ∷ []) k (y.complete k less class x is)
        | inr same ↦ subst (λ z. Contains (keys_of ways ++ n ∷ []) z) (sym same) (Contains-push (keys_of ways) n)
      ]);
    })

-- no way ends with a press of a higher key
pub ways-whole : (b : Board) (m : MapValue) (c n : ℕ) (ways : List WayBy) → AreWaysBelow b m c n ways → 128 ≤ n
    → AreWaysByKey b m c ways
ways-whole b m c n ways y all = record {
  each = y.each;
  in_order = y.in_order;
  complete = λ k class x is.
      let last : x.key ≡ k = is.1.last in
      let tap = is.1.tap in
      y.complete k (omega (arith, tap.0.0, last, all)) class x is;
}

-- ---- a key without a cell that makes the character

-- by a dead key or without one it has none, where no accent's dead key and no key alone gives it one
pub lacks-all : (m : MapValue) (c k n : ℕ) → slice_get m.accents n ≡ None → ((i : ℕ) → i < n → Lacks m (Some i) c k)
    → Lacks m None c k → (accent : Option ℕ) → Lacks m accent c k
lacks-all m c k n none below alone None = alone
lacks-all m c k n none below alone (Some i) =
    λ y (x, is, (can, made)). below i (usable-below m i n can none) y (x, is, (can, made))

-- no way ends with a press of it
pub lacks-ways : (b : Board) (m : MapValue) (s : State) (c k : ℕ) → ((accent : Option ℕ) → Lacks m accent c k)
    → HasNoWayFrom b m s (ending_with (Some k) c)
lacks-ways b m s c k lacks class way (one, is) =
    let a = allows_in b class in
    let end = selection_of (state_at_end (alone_by a m) s way) in
    lacks (accent_in way.dead) end
    (subst (λ j. IsMade m (accent_in way.dead) c (look_selected m end j)) is.last
    (way-made a m s (ending_with (Some k) c) (accent_in way.dead) way refl is))
