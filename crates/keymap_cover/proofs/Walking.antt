-- How a console goes along a script, by one event more and by many.
use Rattle.keymap_cover.proofs.Common.{◌≡◌, ℕ, ◌+◌, ◌<◌, Bool, false, List, [], ◌∷◌, ◌++◌, refl, ap, subst, sym}
use Rattle.keymap_cover.proofs.Common.{◌∙◌, arith, append_assoc, get_or, length, reverse, take, Result, Ok, Err}
use Rattle.keymap_cover.proofs.Common.{slice_index_or, OnOk, eqb-true, eq-eqb, true≢false, reverse-append, MapValue}
use Rattle.keymap_cover.proofs.Common.{Event, Standing, between, resolved, AreTaken, Script, ComesAfter}
use Rattle.keymap_cover.proofs.Common.{GoesOn}
use Rattle.keymap_cover.proofs.Common.{GoesAlong, GoesAlongToRest}
use Rattle.std.proofs.Common.{◌≢◌}
use Rattle.std.proofs.lemmas.List.{take_more}
use Rattle.console_core.specs.Resolved.{locked}
use Rattle.console_states.specs.Sticking.{IsOfPressedKey}
use Rattle.keymap_cover.specs.Inner.Scripts.{TurnsNone, GoesBy, GoesUp, GoesToRest}
use Rattle.console_core.proofs.Shared.{locked-release, locked-reset, resolved-more}
use Rattle.keymap_cover.proofs.Scripts.{at-rest}
use Rattle.console_core.specs.declared.event.Event.TheVariants as event

-- an event that is delivered
pub by-taken : {T : Type 0} (s : Standing T) (m : MapValue) (e : Event) (a b : Script T) → GoesBy m e s a b
    → GoesAlong m (e ∷ []) s a b
by-taken s m e a b goes h at = (e ∷ h, goes h at, (e ∷ [], refl), (λ taken. refl))

-- a release, where it turns no lock
pub up-taken : {T : Type 0} (s : Standing T) (m : MapValue) (k : ℕ) (a b : Script T) → GoesUp m k s a b
    → GoesAlong m (event.Release k ∷ []) s a b
up-taken s m k a b goes h at =
    let (g, run, (after, locks), exact) = goes h at in (g, run, after, (λ taken. exact taken.1))

pub release-turns_none : (m : MapValue) (h : List Event) (k : ℕ) → TurnsNone m h (event.Release k ∷ h)
release-turns_none m h k = (
  (event.Release k ∷ [], refl),
  (λ l. ap (λ r. locked l r) (resolved-more (between m m) h (event.Release k))
      ∙ locked-release l k (resolved (between m m) h)),
)

reset-turns_none : (m : MapValue) (h : List Event) → TurnsNone m h (event.Reset ∷ h)
reset-turns_none m h = (
  (event.Reset ∷ [], refl),
  (λ l. ap (λ r. locked l r) (resolved-more (between m m) h event.Reset) ∙ locked-reset l (resolved (between m m) h)),
)

pub after-more : (a b c : List Event) → ComesAfter a b → ComesAfter b c → ComesAfter a c
after-more a b c (x, e) (y, f) = (y ++ x, f ∙ ap (λ z. y ++ z) e ∙ sym (append_assoc y x a))

turns-more : (m : MapValue) (a b c : List Event) → TurnsNone m a b → TurnsNone m b c → TurnsNone m a c
turns-more m a b c (x, e) (y, f) = (after-more a b c x y, (λ l. f l ∙ e l))

-- a load, in whose place there is a reset
pub no-load : {T : Type 0} (s : Standing T) (m : MapValue) (e : Event) (a b : Script T)
    → ((k : ℕ) → e ≡ event.Press k → ⊥) → ((k : ℕ) → e ≡ event.Release k → ⊥) → GoesBy m event.Reset s a b
    → GoesAlong m (e ∷ []) s a b
no-load s m event.Reset a b not-press not-release goes = by-taken s m event.Reset a b goes
no-load s m event.Load a b not-press not-release goes =
    λ h at. (event.Reset ∷ h, goes h at, (event.Reset ∷ [], refl), (λ taken. absurd (true≢false taken.0)))
no-load s m (event.Press k) a b not-press not-release goes = absurd (not-press k refl)
no-load s m (event.Release k) a b not-press not-release goes = absurd (not-release k refl)

-- a reset comes to rest
pub to-rest : {T : Type 0} (s : Standing T) (m : MapValue) (a b : Script T) → GoesBy m event.Reset s a b
    → GoesToRest m s a b
to-rest s m a b goes h at = (event.Reset ∷ h, goes h at, reset-turns_none m h, at-rest m h)

-- a further release behind some events
pub on-more : {T : Type 0} (s : Standing T) (m : MapValue) (k : ℕ) (a b c : Script T) → GoesOn m s a b
    → GoesUp m k s b c → GoesOn m s a c
on-more s m k a b c first last h at =
    let (g, run, turns) = first h at in
    let (f, end, more, exact) = last g run in
    (f, end, turns-more m h g f turns more)

-- the keys below a number are up, and now that one too
pub up-more : (old now : List Bool) (n k : ℕ) → k ≡ n → slice_index_or now k false ≡ false
    → ((j : ℕ) → j ≢ k → slice_index_or now j false ≡ slice_index_or old j false)
    → ((j : ℕ) → j < n → slice_index_or old j false ≡ false) → (j : ℕ) → j < n + 1 → slice_index_or now j false ≡ false
up-more old now n k is up others below j lt = grind (arith, eqb-true, eq-eqb)

-- the events that were delivered one by one
pub along-more : {T : Type 0} (s : Standing T) (m : MapValue) (events : List Event) (i : ℕ) (e : Event)
    (a b c : Script T) → i < length events → e ≡ get_or events i e → GoesAlong m (reverse (take i events)) s a b
    → GoesAlong m (e ∷ []) s b c → GoesAlong m (reverse (take (i + 1) events)) s a c
along-more s m events i e a b c lt is first last h at =
    let later : List Event = reverse (take i events) in
    let next : reverse (take (i + 1) events) ≡ e ∷ later =
    ap reverse (take_more events i e lt) ∙ ap (λ x. reverse (take i events ++ x ∷ [])) (sym is)
    ∙ reverse-append (take i events) (e ∷ []) in
    let (g, run, before, same) = first h at in
    let (f, end, after, exact) = last g run in (
      f,
      end,
      after-more h g f before after,
      (λ taken.
          let (none, of, others) : AreTaken h (e ∷ later) = subst (λ z. AreTaken h z) next taken in
          let here : g ≡ later ++ h = same others in
          exact (none, subst (λ z. IsOfPressedKey e z) (sym here) of, tt)
          ∙ ap (λ z. e ∷ z) here ∙ ap (λ z. z ++ h) (sym next)),
    )

-- a walk along events, some more, and to rest
pub along-rest : {T : Type 0} (s : Standing T) (m : MapValue) (later : List Event) (a b c d : Script T)
    → GoesAlong m later s a b → GoesOn m s b c → GoesToRest m s c d → GoesAlongToRest m later s a d
along-rest s m later a b c d first then last h at =
    let (g, run, before, same) = first h at in
    let (f, go, turns) = then g run in
    let (k, end, more, rest) = last f go in
    let on : TurnsNone m g k = turns-more m g f k turns more in (
      k,
      end,
      rest,
      after-more h g k before on.0,
      (λ taken. subst (λ z. TurnsNone m z k) (same taken) on),
    )

pub on-ok : {T E P Q : Type 0} (r : Result T E) → (P → Q) → OnOk r P → OnOk r Q
on-ok (Ok x) f p = f p
on-ok (Err e) f p = p
