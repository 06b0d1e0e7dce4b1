-- What was found tells the two keymaps apart.
use Rattle.std.proofs.Common.{rules}
use Rattle.keymap_diff.proofs.Common.{◌≡◌, ℕ, ◌+◌, ◌<◌, ◌≢◌, true, inl, inr, List, [], ◌∷◌, ◌++◌, Option, Some, None}
use Rattle.keymap_diff.proofs.Common.{refl, ap, subst, sym, ◌∙◌, arith, reverse, append_assoc, same_Some, All-cons}
use Rattle.keymap_diff.proofs.Common.{MapValue, Move, Event, Press, Release, between, Under, State, start, state_after}
use Rattle.keymap_diff.proofs.Common.{presses_along, events_along, presses, Entries, IsReached, IsTrail, TellsApart}
use Rattle.keymap_diff.proofs.Common.{answer_to, Answer, Shows, ShowsNothing, AreClear, alone_minding}
use Rattle.console_states.proofs.Shared.{press-presses, push-reversed, reached-one, short-admitted}
use Rattle.keymap_diff.specs.Telling.{EndsByPress, IsAnsweredAlike, IsToldBy}
use Rattle.keymap_diff.specs.Inner.Searches.{IsNearest, IsReach, IsScript, IsWithin}
use Rattle.keymap_diff.specs.Inner.Showing.{IsFirstShown}
use Rattle.keymap_diff.specs.declared.searched.Searched.{Searched as SearchedValue}
use Rattle.console_states.specs.declared.look.KeyAt.{KeyAt}
use Rattle.keymap_diff.specs.declared.telling.Telling.{Telling}
use Rattle.keymap_diff.specs.declared.telling.Telling.TheVariants.{Told, Never, Undecided}
use Rattle.keymap_diff.proofs.Minding.{clear-pending, clear-too}
use Rattle.keymap_diff.proofs.Unlike.{Placed, IsPressAnsweredAlike, placed-path, placed-start, told-accent, told-cells}

-- as many presses stand in the events of a path and those before them
presses-on : (path : List Move) (h : List Event) → presses (events_along path ++ h) ≡ presses_along path + presses h
presses-on [] h = omega arith
presses-on (move ∷ path) h = search (rules, append_assoc, presses-on path h)

-- the press behind where both consoles stand alike, and its release
ends-press : (m n : MapValue) (h g : List Event) (s : State) (p : Option ℕ) (k : ℕ) → Placed m n p g s
    → h ≡ Press k ∷ g → EndsByPress m n h
ends-press m n h g s p k x e = (g, k, (short-admitted m g s x.first).2, inl e)

ends-release : (m n : MapValue) (h g : List Event) (s : State) (p : Option ℕ) (k : ℕ) → Placed m n p g s
    → h ≡ Release k ∷ Press k ∷ g → IsAnsweredAlike m n (Press k ∷ g) → EndsByPress m n h
ends-release m n h g s p k x e same = (g, k, (short-admitted m g s x.first).2, inr (e, same))

-- a script behind where both consoles stand alike tells them apart by one press more
abbrev pub IsToldIn : MapValue → MapValue → Telling → ℕ → Type 0
IsToldIn m n (Told es old new) q = IsToldBy m n (reverse es.items) old new × (presses (reverse es.items) ≡ q + 1)
IsToldIn m n _ q = ⊥

script-told : (m n : MapValue) (h : List Event) (s : State) (p : Option ℕ) (k q : ℕ) → Placed m n p h s → k < 128
    → (IsPressAnsweredAlike m n h k → TellsApart m n (Release k ∷ Press k ∷ h)) → presses h ≡ q → (t : Telling)
    → IsScript m n h k t → IsToldIn m n t q
script-told m n h s p k q x key told count (Told es old new) (inl (e, a, b, apart)) =
    search (rules, All-cons, ends-press)
script-told m n h s p k q x key told count (Told es old new) (inr (e, a, b, same)) =
    search (rules, All-cons, press-presses, ends-release)
script-told m n h s p k q x key told count (Never f) is = absurd is
script-told m n h s p k q x key told count (Undecided r) is = absurd is

-- where something shows at the start
pub start-told : (m n : MapValue) (k : ℕ) → k < 128 → Shows m n None start k → (t : Telling)
    → IsScript m n [] k t → IsToldIn m n t 0
start-told m n k key shows t script =
    let placed : Placed m n None [] start = placed-start m n None in
    script-told m n [] start None k 0 placed key (told-cells m n [] start k placed shows) refl t script

-- a key that shows something: if its press is answered alike, its release isn't
told-shown : (m n : MapValue) (p : Option ℕ) (h : List Event) (s : State) (k : ℕ) → Placed m n p h s
    → Shows m n p s k → (s.is_pending ≡ true → ShowsNothing m n None s k) → IsPressAnsweredAlike m n h k
    → TellsApart m n (Release k ∷ Press k ∷ h)
told-shown m n None h s k x shows nothing same released = told-cells m n h s k x shows same released
told-shown m n (Some i) h s k x shows nothing same released =
    told-accent m n h s k i x (nothing shows.0) shows same

-- where a search found that something shows
pub found-told : (m n : MapValue) (x : SearchedValue) → IsNearest m n x → (at : KeyAt) → x.shown ≡ Some at
    → (h : List Event)
    → ((path : List Move) → IsTrail x.met.entries at.place path → h ≡ events_along path ++ []) → (t : Telling)
    → IsScript m n h at.key t → (q : ℕ) × (x.reach ≡ Some q) × IsToldIn m n t q
found-told m n x (s, clear) at e h events t script =
    let es : Entries = x.met.entries in
    let p : Option ℕ = x.minded in
    let u : Under = alone_minding m p in
    let (q, same, (z, here, count)) = subst (λ o. IsReach es s.end o x.reach) e s.reach in
    let ((y, there, (key, shows)), none) = (subst (λ o. IsFirstShown m n p es o) e s.shown).is in
    let r : IsReached u start es at.place y = reached-one s.ended.searched at.place y there in
    let few : presses_along r.0 ≡ q = r.4 ∙ ap (λ v. v.1.presses) (same_Some y z (sym there ∙ here)) ∙ sym count in
    let cells : AreClear m n None q = clear None q (subst (λ o. IsWithin q o) (sym same) (omega arith)) in
    let placed : Placed m n p (events_along r.0 ++ []) (state_after u r.0) =
    placed-path m n p q (clear-too m n p q cells) r.0 r.2 (omega (arith, few)) in
    let shown : Shows m n p (state_after u r.0) at.key = subst (λ v. Shows m n p v at.key) (sym r.3) shows in (
      q,
      same,
      script-told m n (events_along r.0 ++ []) (state_after u r.0) p at.key q placed key
          (told-shown m n p (events_along r.0 ++ []) (state_after u r.0) at.key placed shown
          (λ on. clear-pending m n p q cells r.0 r.2 on (omega (arith, few)) at.key key))
          (presses-on r.0 [] ∙ omega (arith, few)) t (subst (λ g. IsScript m n g at.key t) (events r.0 r.1) script),
    )

-- ---- the script

-- a press that is answered differently
pub script-press : (m n : MapValue) (events now s t : List Event) (k : ℕ) (a b : Answer) → now ≡ events ++ Press k ∷ []
    → s ≡ events → t ≡ events → a ≡ answer_to (between m m) (reverse s) (Press k)
    → b ≡ answer_to (between n n) (reverse t) (Press k) → a ≢ b
    → (reverse now ≡ Press k ∷ reverse events) × (answer_to (between m m) (reverse events) (Press k) ≡ a)
    × (answer_to (between n n) (reverse events) (Press k) ≡ b) × TellsApart m n (Press k ∷ reverse events)
script-press m n events now s t k a b items s_is t_is a_is b_is differ =
    search (rules, push-reversed)

-- two events behind others
both-reversed : (events mid now : List Event) (a b : Event) → mid ≡ events ++ a ∷ [] → now ≡ mid ++ b ∷ []
    → reverse now ≡ b ∷ a ∷ reverse events
both-reversed events mid now a b mid_is items = search (rules, push-reversed)

-- its release, where the press is answered alike
pub script-release : (m n : MapValue) (events mid now s t : List Event) (k : ℕ) (a b : Answer)
    → mid ≡ events ++ Press k ∷ [] → now ≡ mid ++ Release k ∷ [] → s ≡ mid → t ≡ mid
    → a ≡ answer_to (between m m) (reverse s) (Release k) → b ≡ answer_to (between n n) (reverse t) (Release k)
    → (reverse now ≡ Release k ∷ Press k ∷ reverse events)
    × (answer_to (between m m) (Press k ∷ reverse events) (Release k) ≡ a)
    × (answer_to (between n n) (Press k ∷ reverse events) (Release k) ≡ b)
script-release m n events mid now s t k a b mid_is items s_is t_is a_is b_is =
    search (rules, push-reversed, both-reversed)
