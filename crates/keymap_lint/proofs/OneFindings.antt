-- A keymap has one list of findings.
use Rattle.std.proofs.Common.{rules}
use Rattle.keymap_lint.proofs.Common.{◌≡◌, ℕ, ◌<◌, List, [], ◌∷◌, get_or, refl, sym, ◌∙◌, ap, subst}
use Rattle.keymap_lint.proofs.Common.{arith, MapValue}
use Prim.Native.Nat.{zero, suc}
use Rattle.std.proofs.Common.{◌⊎◌, inl, inr}
use Rattle.std.specs.Prelude.{AllPairs, Any, Contains}
use Rattle.keymap_core.specs.Actions.{holding_action}
use Rattle.keymap_core.specs.Bearers.{IsCellOf}
use Rattle.keymap_core.specs.Maps.{cell_at}
use Rattle.keymap_core.specs.declared.action.Holding.TheVariants.{Mod, Lock}
use Rattle.keymap_check.specs.Findings.{AreFindings, IsCharacterCell, IsFinding, IsFirstOf, IsHoldingCell, IsPlaceOf}
use Rattle.keymap_check.specs.Findings.{IsUnsafeKey, NotAfter}
use Rattle.keymap_check.specs.declared.finding.Place.{Place}
use Rattle.keymap_lint.specs.Types.{Cell, Act, Finding, Holding}

-- ---- of a key

one_place : (p q : Place) → NotAfter p q → NotAfter q p → p ≡ q
one_place p q (inr e) (inr f) = search rules
one_place p q (inl l) (inl k) = absurd (omega (arith, l, k))
one_place p q (inl l) (inr f) = absurd (omega (arith, l, f))
one_place p q (inr e) (inl k) = absurd (omega (arith, e, k))

one_first : (m : MapValue) (k : ℕ) (P : Cell → Type 0) (p q : Place) → IsFirstOf m k P p → IsFirstOf m k P q → p ≡ q
one_first m k P p q f g = one_place p q (f.2 q g.0 g.1) (g.2 p f.0 f.1)

one_holding : (a b : Holding) → Act (holding_action a) ≡ Act (holding_action b) → a ≡ b
one_holding (Mod x) (Mod y) e = let same : x ≡ y = cc in ap Mod same
one_holding (Lock x) (Lock y) e = let same : x ≡ y = cc in ap Lock same
one_holding (Mod x) (Lock y) e = absurd (cc)
one_holding (Lock x) (Mod y) e = absurd (cc)

one_finding : (m : MapValue) (f g : Finding) → IsFinding m f → IsFinding m g → f.key ≡ g.key → f ≡ g
one_finding m f g is its key =
    let its_holding : IsFirstOf m f.key IsHoldingCell g.holding_at =
    subst (λ k. IsFirstOf m k IsHoldingCell g.holding_at) (sym key) its.first_holding in
    let its_character : IsFirstOf m f.key IsCharacterCell g.character_at =
    subst (λ k. IsFirstOf m k IsCharacterCell g.character_at) (sym key) its.first_character in
    let at : f.holding_at ≡ g.holding_at =
    one_first m f.key IsHoldingCell f.holding_at g.holding_at is.first_holding its_holding in
    let character : f.character_at ≡ g.character_at =
    one_first m f.key IsCharacterCell f.character_at g.character_at is.first_character its_character in
    let holding : f.holding ≡ g.holding =
    one_holding f.holding g.holding
    (sym is.holding ∙ ap (λ (p : Place). cell_at m p.slot p.column) at ∙ its.holding) in
    λ i. record { key = key i; holding = holding i; holding_at = at i; character_at = character i }

cell_of : (m : MapValue) (k : ℕ) (p : Place) (x : Cell) → IsPlaceOf m k p → cell_at m p.slot p.column ≡ x
    → IsCellOf m k x
cell_of m k p x (few, inl e) is = inl (p.column, few, subst (λ s. cell_at m s p.column ≡ x) e is)
cell_of m k p x (few, inr (live, e)) is =
    inr (live, (p.column, few, subst (λ s. cell_at m s p.column ≡ x) e is))

unsafe_key : (m : MapValue) (f : Finding) → IsFinding m f → IsUnsafeKey m f.key
unsafe_key m f is = search (rules, cell_of)

-- ---- lists

-- in ascending order and with the same elements
one_list : (fs gs : List Finding) → AllPairs (λ (f g : Finding). f.key < g.key) fs
    → AllPairs (λ (f g : Finding). f.key < g.key) gs → ((f : Finding) → Contains fs f → Contains gs f)
    → ((g : Finding) → Contains gs g → Contains fs g) → fs ≡ gs
one_list [] [] up rise there here = refl
one_list [] (g ∷ gs) up rise there here = absurd (none (here g (0, omega arith, refl)))
  where
    none : Contains [] g → ⊥
    none (k, l, e) = omega (arith, l)
one_list (f ∷ fs) [] up rise there here = absurd (none (there f (0, omega arith, refl)))
  where
    none : Contains [] f → ⊥
    none (k, l, e) = omega (arith, l)
one_list (f ∷ fs) (g ∷ gs) up rise there here =
    λ i. first i
    ∷ one_list fs gs (λ i j d l k. up (suc i) (suc j) d (omega (arith, l)) (omega (arith, k)))
    (λ i j d l k. rise (suc i) (suc j) d (omega (arith, l)) (omega (arith, k))) later sooner i
  where
    above : (x : Finding) → Contains (g ∷ gs) x → (g ≡ x) ⊎ ((g.key < x.key) × Contains gs x)
    above x (zero, l, e) = inl e
    above x (suc k, l, e) =
        let less : g.key < (get_or gs k x).key = rise 0 (suc k) x (omega arith) l in
        inr (subst (λ (y : Finding). g.key < y.key) e less, (k, omega (arith, l), e))

    behind : (x : Finding) → Contains (f ∷ fs) x → (f ≡ x) ⊎ ((f.key < x.key) × Contains fs x)
    behind x (zero, l, e) = inl e
    behind x (suc k, l, e) =
        let less : f.key < (get_or fs k x).key = up 0 (suc k) x (omega arith) l in
        inr (subst (λ (y : Finding). f.key < y.key) e less, (k, omega (arith, l), e))

    first : f ≡ g
    first = elim (above f (there f (0, omega arith, refl))) [
      | inl e ↦ sym e
      | inr l ↦ elim (behind g (here g (0, omega arith, refl))) [
        | inl e ↦ e
        | inr k ↦ absurd (omega (arith, l.0, k.0))
      ]
    ]

    later : (x : Finding) → Contains fs x → Contains gs x
    later x (k, l, e) =
        let less : f.key < (get_or fs k x).key = up 0 (suc k) x (omega arith) (omega (arith, l)) in
        let low : f.key < x.key = subst (λ (y : Finding). f.key < y.key) e less in
        elim (above x (there x (suc k, omega (arith, l), e))) [
          | inl h ↦
              let same : f.key ≡ x.key = ap (λ (y : Finding). y.key) (first ∙ h) in absurd (omega (arith, same, low))
          | inr h ↦ h.1
        ]

    sooner : (x : Finding) → Contains gs x → Contains fs x
    sooner x (k, l, e) =
        let less : g.key < (get_or gs k x).key = rise 0 (suc k) x (omega arith) (omega (arith, l)) in
        let low : g.key < x.key = subst (λ (y : Finding). g.key < y.key) e less in
        elim (behind x (here x (suc k, omega (arith, l), e))) [
          | inl h ↦
              let same : g.key ≡ x.key = ap (λ (y : Finding). y.key) (sym first ∙ h) in
              absurd (omega (arith, same, low))
          | inr h ↦ h.1
        ]

-- each finding of the one list is in the other
among : (m : MapValue) (fs gs : List Finding) → AreFindings m fs → AreFindings m gs → (f : Finding) → Contains fs f
    → Contains gs f
among m fs gs are its f (k, l, e) =
    let is : IsFinding m f = subst (IsFinding m) e (are.each k f l) in
    go (its.complete f.key is.key (unsafe_key m f is)) is
  where
    go : Any (λ (g : Finding). g.key ≡ f.key) gs → IsFinding m f → Contains gs f
    go (j, g, few, at, same) is = search (rules, one_finding)

pub one_list_of_findings : (m : MapValue) (fs gs : List Finding) → AreFindings m fs → AreFindings m gs → fs ≡ gs
one_list_of_findings m fs gs are its =
    one_list fs gs are.in_order its.in_order (among m fs gs are its) (among m gs fs its are)
