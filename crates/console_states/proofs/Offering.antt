-- The selections of the states where an accent is pending, as searches find them.
use Rattle.console_states.proofs.Common.{zero, suc, ◌≡◌, ℕ, true, false, inl, inr, List, [], ◌∷◌, ◌++◌}
use Rattle.console_states.proofs.Common.{length, refl, slice_get, Some, ap, subst, sym, ◌∙◌, arith}
use Rattle.console_states.proofs.Common.{Contains}
use Rattle.console_states.proofs.Common.{Contains-push_cases, slice_get_within, MapValue, Move, LetGo, Selection, Offer}
use Rattle.console_states.proofs.Common.{Sights, usable, Under, alone, State, start, IsPath, IsStep, Step}
use Rattle.console_states.proofs.Common.{state_after, IsForgetful, IsOfferedIn, AreSightsOf, selection_of}
use Rattle.console_states.proofs.Common.{state_of, Entry, Entries, Searched, AreSafe, IsStuck}
use Rattle.console_states.proofs.Common.{AreMinded, Tap, with_accent, minding, presses_along}
use Rattle.console_states.proofs.Common.{IsOfferedUnlocked, AreSelectionsOf, AreOffersOf}
use Rattle.console_states.proofs.Common.{IsInSome, AreComposed, Lists, IsLedTo, OffersUnlocked}
use Rattle.std.proofs.lemmas.Bool.{true_from_ne_false}
use Rattle.console_states.specs.Sights.{CanCompose, CanOffer, CanSelect, accents_in}
use Rattle.console_states.specs.Inner.Adding.{AreAccentsOf}
use Rattle.console_states.proofs.Paths.{path-split}
use Rattle.console_states.proofs.Nearest.{is-nowhere, all-met}
use Rattle.console_states.proofs.SameStates.{home-start}
use Rattle.console_states.proofs.Beginning.{reached-one}
use Rattle.console_states.proofs.Minding.{minded_are_offers, offers_are_minded, pending-leads, tap-moves}
use Rattle.console_states.proofs.Scripts.{reached-more}
use Rattle.console_states.proofs.Standing.{minded-path}
use Rattle.console_states.proofs.Staying.{emptied, emptied-kept, emptied-none}
use Rattle.console_states.proofs.Visits.{path-first, path-none}

-- ---- the states of a search that minds the accent

-- what was met
led-met : (u : Under) (met : Entries) {a b : ℕ} → Searched u (start ∷ []) met a b → (j : ℕ) (x : Entry)
    → slice_get met j ≡ Some x → IsLedTo u (state_of x.0)
led-met u met searched j x at = let r = reached-one searched j x at in (r.0, r.2, r.3)

-- what is selected where it is pending
pending-composes : (m : MapValue) (accent : ℕ) (s : State) (y : Selection) → IsLedTo (minding (alone m) accent) s
    → s.is_pending ≡ true → selection_of s ≡ y → CanCompose m accent y
pending-composes m accent s y (path, is, leads) on e =
    let (b, few, (later, before, made, offered, to, presses)) =
    (minded_are_offers (alone m) start accent (presses_along path) s (refl, refl, refl) (path, is, leads, refl)).1 on in
    (later ++ before, made, (later, before, refl, offered), ap (λ t. selection_of t) to ∙ e)

pub composing-pending : (m : MapValue) (accent : ℕ) (es : Entries) (ys : List Selection) → AreMinded m accent es
    → AreSelectionsOf true es ys → Lists (CanCompose m accent) ys
composing-pending m accent es ys searched are = record {
  all = λ y (path, is, (later, before, at, offered), e).
      let u : Under = alone m in
      let (taken, made, to, count) =
      (offers_are_minded u start accent (presses_along (later ++ before)) (state_after u path) (refl, refl, refl)).1
      (later, before, subst (λ p. IsPath u p) at is, offered, ap (λ p. state_after u p) (sym at), refl) in
      let (j, x, there, same) = all-met (minding u accent) es searched taken made in
      are.all y (
        j,
        x,
        there,
        slice_get_within es j x there,
        (ap (λ s. s.is_pending) (same ∙ to), ap (λ s. selection_of s) (same ∙ to) ∙ e),
      );
  only = λ y has.
      let (j, x, at, lt, (on, e)) = are.only y has in
      pending-composes m accent (state_of x.0) y (led-met (minding (alone m) accent) es searched j x at) on e;
}

-- where no accent is minded, none is pending
pub plain-selections : (m : MapValue) (met : Entries) (ys : List Selection) {a b : ℕ}
    → Searched (alone m) (start ∷ []) met a b → AreSelectionsOf false met ys
    → Lists (λ y. IsInSome met (length met) (λ s. selection_of s ≡ y)) ys
plain-selections m met ys searched are = record {
  all = λ y (j, x, at, lt, e).
      let (path, trail, is, leads, count) = reached-one searched j x at in
      are.all y (j, x, at, lt, (ap (λ s. s.is_pending) (sym leads) ∙ path-none m start path is refl, e));
  only = λ y has. let (j, x, at, lt, (off, e)) = are.only y has in (j, x, at, lt, e);
}

-- Where the accent is offered with no lock on, all let go leads to the start, so it is pending everywhere.
start-pending : (m : MapValue) (accent : ℕ) (s : State) → IsLedTo (alone m) s → usable m accent ≡ true
    → OffersUnlocked (alone m) s accent → IsLedTo (minding (alone m) accent) (with_accent start)
start-pending m accent s (path, is, leads) can (unlocked, offers) =
    let u : Under = minding (alone m) accent in
    let first : s.is_second ≡ false = ap (λ t. t.is_second) (sym leads) ∙ path-first m start path is in
    let off : s.is_pending ≡ false = ap (λ t. t.is_pending) (sym leads) ∙ path-none m start path is refl in
    let (made, same) = minded-path (alone m) accent start path refl is in
    let (k, tap) = tap-moves (alone m) accent s (can, offers) off in
    subst (λ t. IsLedTo u (with_accent t)) (home-start (emptied s) ((λ i. emptied-none s i), unlocked) first off)
    (emptied-kept (λ t. IsLedTo u (with_accent t))
    (λ t k i there holds. reached-more u (with_accent t) (LetGo k i) there holds) s
    (reached-more u s (Tap k) (path, made, same ∙ leads) tap))

pub composing-some : (m : MapValue) (accent : ℕ) (s : State) (y : Selection) → IsLedTo (alone m) s
    → usable m accent ≡ true → OffersUnlocked (alone m) s accent → CanSelect m y → CanCompose m accent y
composing-some m accent s y led can offers (path, is, e) =
    let (before, made, leads) = start-pending m accent s led can offers in
    let (taps, tapped, to, count) =
    pending-leads (alone m) accent start start (presses_along before) path refl refl (before, made, leads, refl) is in
    pending-composes m accent (with_accent (state_after (alone m) path)) y (taps, tapped, to) refl e

-- where a step leads from there
pub led-on : (u : Under) (s : State) (n : ℕ) (x : Step) → IsLedTo u s → IsStep u s n x → IsLedTo u (state_of x.to)
led-on u s n x there (move, next, count) = subst (λ t. IsLedTo u t) (sym next) (reached-more u s x.by there move)

pub composing-all : (m : MapValue) (accent : ℕ) (met : Entries) (ys : List Selection)
    → Searched (alone m) (start ∷ []) met (length met) (length met) → usable m accent ≡ true
    → IsOfferedUnlocked (alone m) met accent → AreSelectionsOf false met ys → Lists (CanCompose m accent) ys
composing-all m accent met ys searched can (i, z, here, offers) given = record {
  all = λ y (path, is, along, e).
      let (j, x, at, same) = all-met (alone m) met searched path is in
      are.all y (j, x, at, slice_get_within met j x at, ap (λ s. selection_of s) same ∙ e);
  only = λ y has.
      let (j, x, at, lt, e) = are.only y has in
      let (path, is, leads) = led-met (alone m) met searched j x at in
      composing-some m accent (state_of z.0) y (led-met (alone m) met searched i z here) can offers
      (path, is, ap (λ s. selection_of s) leads ∙ e);
}
  where
    are : Lists (λ y. IsInSome met (length met) (λ s. selection_of s ≡ y)) ys
    are = plain-selections m met ys searched given

-- ---- all together

-- the offers of a further accent
accents-push : (offers : List Offer) (o : Offer) → accents_in (offers ++ o ∷ []) ≡ accents_in offers ++ o.accent ∷ []
accents-push [] o = refl
accents-push (x ∷ offers) o = ap (λ z. x.accent ∷ z) (accents-push offers o)

pub offers-more : (m : MapValue) (accents : List ℕ) (offers now : List Offer) (o : Offer) → AreOffersOf m accents offers
    → now ≡ offers ++ o ∷ [] → Lists (CanCompose m o.accent) o.selections.items
    → AreOffersOf m (accents ++ o.accent ∷ []) now
offers-more m accents offers now o before e is = rw e (record {
  all = accents-push offers o ∙ ap (λ z. z ++ o.accent ∷ []) before.all;
  each = λ p has. elim (Contains-push_cases offers o p has) [
    | inl was ↦ before.each p was
    | inr same ↦ subst (λ q. Lists (CanCompose m q.accent) q.selections.items) same is
  ];
})

-- an accent of the offers has one
pub has-offer : (offers : List Offer) (accent : ℕ) → Contains (accents_in offers) accent
    → (o : Offer) × Contains offers o × (o.accent ≡ accent)
has-offer [] accent (k, lt, at) = absurd (omega (arith, lt))
has-offer (o ∷ offers) accent (zero, lt, at) = (o, (0, omega arith, refl), at)
has-offer (o ∷ offers) accent (suc k, lt, at) =
    let (p, (n, below, is), same) = has-offer offers accent (k, omega (arith, lt), at) in
    (p, (suc n, omega (arith, below), is), same)

-- a further offer of what can be composed
pub composed-push : (m : MapValue) (offers now : List Offer) (o : Offer) → AreComposed m offers → now ≡ offers ++ o ∷ []
    → ((y : Selection) → Contains o.selections.items y → CanCompose m o.accent y) → AreComposed m now
composed-push m offers now o before e is = rw e (λ p has. elim (Contains-push_cases offers o p has) [
  | inl was ↦ before p was
  | inr same ↦ subst (λ q. (y : Selection) → Contains q.selections.items y → CanCompose m q.accent y) same is
])

-- where an accent can be pending, an offer of it has the selection
pub composing-has : (m : MapValue) (x : Sights) (accent : ℕ) (y : Selection) → AreSightsOf m x → CanCompose m accent y
    → (o : Offer) × Contains x.offers.items o × (o.accent ≡ accent) × Contains o.selections.items y
composing-has m x accent y are (path, is, (later, before, at, here), e) =
    let parts = path-split (alone m) start later before (subst (λ p. IsPath (alone m) p) at is) in
    let (o, has, same) = has-offer x.offers.items accent (are.accents.all accent (before, parts.0, here)) in
    let can : CanCompose m accent y = (path, is, (later, before, at, here), e) in
    (o, has, same, (are.composing o has).all y (subst (λ a. CanCompose m a y) (sym same) can))

pub sights-are : (m : MapValue) (met : Entries) (x : Sights) (accents : List ℕ)
    → Searched (alone m) (start ∷ []) met (length met) (length met) → AreSelectionsOf false met x.selections.items
    → AreAccentsOf (alone m) met accents → AreOffersOf m accents x.offers.items
    → (x.forgets ≡ true → (j k : ℕ) × IsStuck (alone m) met j k)
    → (x.forgets ≡ false → AreSafe (alone m) met (length met))
    → AreSightsOf m x
sights-are m met x accents searched selections offers offered some none = record {
  selections = enumerates-met (λ y s. selection_of s ≡ y) x.selections.items
      (plain-selections m met x.selections.items searched selections);
  accents = subst (λ z. Lists (CanOffer m) z) (sym offered.all)
      (enumerates-met (λ a s. IsOfferedIn u s a) accents offers);
  composing = offered.each;
  forgets = (
    (λ e. let (j, k, (z, at, (i, is))) = some e in reached j z at (λ s. IsForgetful u s) (i, k, is)),
    (λ (path, is, forgetful). true_from_ne_false x.forgets (λ e.
        is-nowhere u met searched (λ s. IsForgetful u s → ⊥) (none e) start (0, omega arith, refl) path is forgetful)),
  );
}
  where
    u : Under
    u = alone m

    reached : (j : ℕ) (z : Entry) → slice_get met j ≡ Some z → (P : State → Type 0) → P (state_of z.0)
        → (path : List Move) × IsPath u path × P (state_after u path)
    reached j z at P is = let r = reached-one searched j z at in (r.0, r.2, subst P (sym r.3) is)

    -- what is so in a state that was met is so where moves lead
    enumerates-met : {X : Type 0} (Q : X → State → Type 0) (xs : List X)
        → Lists (λ y. IsInSome met (length met) (Q y)) xs
        → Lists (λ y. (path : List Move) × IsPath u path × Q y (state_after u path)) xs
    enumerates-met Q xs are = record {
      all = λ y (path, is, here).
          let (j, z, at, same) = all-met u met searched path is in
          are.all y (j, z, at, slice_get_within met j z at, subst (Q y) (sym same) here);
      only = λ y has. let (j, z, at, lt, is) = are.only y has in reached j z at (Q y) is;
    }
