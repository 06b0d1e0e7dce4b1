-- The first of the findings of a map is that of the least key.
use Rattle.keymap_check.proofs.Common.{zero, suc, ◌≡◌, ℕ, ◌<◌, ◌≤◌, List, [], ◌∷◌, Option, refl, ap, sym, ◌∙◌, arith}
use Rattle.keymap_check.proofs.Common.{length, subst, true≢false, IsNone, IfSome, MapValue, Finding, AreFindings}
use Rattle.keymap_check.proofs.Common.{IsUnsafeKey}
use Rattle.std.specs.Prelude.{slice_get, slice_index_or}
use Rattle.keymap_core.specs.Numbers.{key_count}
use Rattle.keymap_check.specs.Findings.{IsFirstFinding}

-- no finding of the list has a lesser key than the first
least_at : (f : Finding) (fs : List Finding) (x : Finding) (k i : ℕ)
    → ((i j : ℕ) (d : Finding) → i < j → j < length (f ∷ fs)
    → (slice_index_or (f ∷ fs) i d).key < (slice_index_or (f ∷ fs) j d).key)
    → i < length (f ∷ fs) → slice_index_or (f ∷ fs) i x ≡ x → x.key ≡ k → f.key ≤ k
least_at f fs x k zero order lt at is =
    let e : f.key ≡ k = ap (λ (y : Finding). y.key) at ∙ is in omega (arith, e)
least_at f fs x k (suc i) order lt at is =
    let e : (slice_index_or (f ∷ fs) (suc i) x).key ≡ k = ap (λ (y : Finding). y.key) at ∙ is in
    let below : f.key < (slice_index_or (f ∷ fs) (suc i) x).key = order 0 (suc i) x (omega arith) lt in
    omega (arith, e, below)

least : (m : MapValue) (f : Finding) (fs : List Finding) → AreFindings m (f ∷ fs) → (k : ℕ) → k < key_count
    → IsUnsafeKey m k → f.key ≤ k
least m f fs are k lt unsafe =
    let some = are.complete k lt unsafe in least_at f fs some.1 k some.0 are.in_order some.2 some.3 some.4

-- the first finding is that of the least key
pub first_of : (m : MapValue) (fs : List Finding) (o : Option Finding) → o ≡ slice_get fs 0 → AreFindings m fs
    → IfSome o (IsFirstFinding m)
first_of m [] o e are = subst (λ x. IfSome x (IsFirstFinding m)) (sym e) tt
first_of m (f ∷ fs) o e are =
    subst (λ x. IfSome x (IsFirstFinding m)) (sym e)
    (record { finding = are.each 0 f (omega arith); least = λ k lt unsafe. least m f fs are k lt unsafe })

none_at : (fs : List Finding) → IsNone (slice_get fs 0) → fs ≡ []
none_at [] is = refl
none_at (f ∷ fs) is = absurd (true≢false is)

-- no finding is the first exactly where there are no findings
pub none_of : (fs : List Finding) (o : Option Finding) → o ≡ slice_get fs 0 → IsNone o → fs ≡ []
none_of fs o e is = none_at fs (subst IsNone e is)

pub of_none : (fs : List Finding) (o : Option Finding) → o ≡ slice_get fs 0 → fs ≡ [] → IsNone o
of_none fs o e is = subst IsNone (sym (e ∙ ap (λ xs. slice_get xs 0) is)) refl
