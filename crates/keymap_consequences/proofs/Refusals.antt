-- The findings of a keymap, key by key.
use Rattle.keymap_consequences.proofs.Common.{◌≡◌, ◌<◌, ◌+◌, ℕ, List, inl, inr, subst, Contains}
use Rattle.keymap_core.specs.Actions.{holding_action}
use Rattle.keymap_core.specs.Bearers.{IsCellOf}
use Rattle.keymap_core.specs.Maps.{MapValue, cell_at}
use Rattle.keymap_core.specs.Numbers.{key_count}
use Rattle.keymap_core.specs.declared.entry.Cell.{Cell}
use Rattle.keymap_core.specs.declared.entry.Cell.TheVariants.{Act, Char}
use Rattle.keymap_check.specs.Findings.{AreFindings, IsFinding, IsPlaceOf, IsUnsafeKey}
use Rattle.keymap_check.specs.declared.finding.Finding.{Finding}
use Rattle.keymap_check.specs.declared.finding.Place.{Place}
use Rattle.keymap_consequences.specs.Consequences.{IsUnsafeAlone}

place-cell : (m : MapValue) (k : ℕ) (p : Place) (x : Cell) → IsPlaceOf m k p → cell_at m p.slot p.column ≡ x
    → IsCellOf m k x
place-cell m k p x (lt, inl own) e = inl (p.column, lt, subst (λ s. cell_at m s p.column ≡ x) own e)
place-cell m k p x (lt, inr (live, upper)) e =
    inr (live, (p.column, lt, subst (λ s. cell_at m s p.column ≡ x) upper e))

-- a key with a finding is unsafe
pub finding-unsafe : (m : MapValue) (f : Finding) → IsFinding m f → IsUnsafeKey m f.key
finding-unsafe m f x =
    let (place, (c, is), first) = x.first_character in (
      f.holding,
      place-cell m f.key f.holding_at (Act (holding_action f.holding)) x.first_holding.0 x.holding,
      (c, place-cell m f.key f.character_at (Char c) place is),
    )

-- and an unsafe key has one
pub unsafe-found : (m : MapValue) (fs : List Finding) → AreFindings m fs → (k : ℕ) → k < key_count → IsUnsafeKey m k
    → (f : Finding) × Contains fs f × (f.key ≡ k)
unsafe-found m fs are k lt unsafe = let (i, f, within, at, is) = are.complete k lt unsafe in (f, (i, within, at), is)

pub found-finding : (m : MapValue) (fs : List Finding) (f : Finding) → AreFindings m fs → Contains fs f → IsFinding m f
found-finding m fs f are (i, lt, at) = subst (IsFinding m) at (are.each i f lt)

-- where others have no finding of the key, it is unsafe here alone
pub unsafe-alone : (m n : MapValue) (fs gs : List Finding) (f : Finding) → AreFindings m gs → AreFindings n fs
    → Contains fs f → ((g : Finding) → Contains gs g → g.key ≡ f.key → ⊥)
    → IsUnsafeAlone m n f.key
unsafe-alone m n fs gs f others are has none =
    let x = found-finding n fs f are has in (
      x.key,
      finding-unsafe n f x,
      λ unsafe. let (g, there, key) = unsafe-found m gs others f.key x.key unsafe in none g there key,
    )

-- where each finding of the key has one there, it isn't
pub unsafe-both : (m n : MapValue) (fs gs : List Finding) (k : ℕ) → AreFindings m gs → AreFindings n fs
    → ((f : Finding) → Contains fs f → f.key ≡ k → (g : Finding) × Contains gs g × (g.key ≡ k)) → IsUnsafeAlone m n k
    → ⊥
unsafe-both m n fs gs k others are both (lt, unsafe, safe) =
    let (f, has, key) = unsafe-found n fs are k lt unsafe in
    let (g, there, same) = both f has key in
    safe (subst (IsUnsafeKey m) same (finding-unsafe m g (found-finding m gs g others there)))
