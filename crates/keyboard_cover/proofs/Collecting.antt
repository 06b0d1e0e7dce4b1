-- What allowed presses see, as a search collects it.
use Rattle.std.proofs.Common.{arith, rules, ◌≡◌, ◌⊎◌, inl, inr, ℕ, ◌+◌, ◌<◌, Bool, true, false, [], ◌∷◌, ◌++◌, Option}
use Rattle.std.proofs.Common.{None, Some, refl, ap, subst, sym, ◌∙◌, length, slice_get}
use Rattle.std.specs.Prelude.{◌↔◌}
use Rattle.std.specs.Option.{is_some}
use Rattle.std.proofs.lemmas.Bool.{true≢false}
use Rattle.std.proofs.lemmas.Option.{slice_get_within}
use Rattle.keymap_core.specs.Maps.{MapValue, accent_at}
use Rattle.keymap_core.specs.Numbers.{key_count}
use Rattle.console_core.specs.Answers.{usable}
use Rattle.console_states.specs.AllowedSights.{IsReachableUnder}
use Rattle.console_states.specs.Looks.{IsFirstStuck}
use Rattle.console_states.specs.Moves.{Under, State, start, minding, HolderForgets, IsForgetful, IsPath, selection_of}
use Rattle.console_states.specs.Moves.{presses_along, state_after, state_of}
use Rattle.console_states.specs.Searching.{Entry, Entries, Searched, HasEnded}
use Rattle.console_states.specs.Sights.{IsOfferedAlong}
use Rattle.console_states.specs.Sticking.{NeverForgets}
use Rattle.console_states.specs.declared.allowed.Presses.{Presses}
use Rattle.console_states.specs.declared.look.KeyAt.{KeyAt}
use Rattle.console_states.specs.declared.search.End.{End}
use Rattle.console_states.specs.declared.selection.Selection.{Selection}
use Rattle.console_states.specs.declared.selection.Sight.{Sight}
use Rattle.console_states.specs.declared.selection.Sight.TheVariants as sight
use Rattle.console_states.proofs.Shared.{all-met, minded_are_offers, none-along, offers_are_minded, place_last}
use Rattle.console_states.proofs.Shared.{reached-one, same_entry}
use Rattle.keymap_cover.specs.SeenSights.{Gains, has_seen}
use Rattle.keyboard_cover.specs.Sights.{AreAllowedSights, under}
use Rattle.keyboard_cover.specs.Inner.Sights.{AreMindedBy, SeesBehind, SeesBehindSome, SeesIn, SeesInMet, SeesMade}
use Rattle.keyboard_cover.specs.Inner.Sights.{SeesPlainly, SeesUnder}
use Rattle.keyboard_cover.specs.declared.sights.AllowedSights.{AllowedSights}

-- ---- what is gained by steps

pub gains-none : {P : Sight → Type 0} (old : Sight → Bool) → ((x : Sight) → P x → ⊥) → Gains P old old
gains-none old none x = ((λ was. was), (λ is. absurd (none x is)), (λ was. inl was))

pub gains-as : {P Q : Sight → Type 0} (old now : Sight → Bool) → Gains P old now → ((x : Sight) → P x → Q x)
    → ((x : Sight) → Q x → P x) → Gains Q old now
gains-as old now g to from x = search rules

pub gains-more : {P Q R : Sight → Type 0} (a b c : Sight → Bool) → Gains P a b → Gains Q b c
    → ((x : Sight) → P x → R x) → ((x : Sight) → Q x → R x) → ((x : Sight) → R x → P x ⊎ Q x) → Gains R a c
gains-more a b c g f first second either x = search rules

-- a further key
pub keys-more : (p : Presses) (m : MapValue) (pending : Option ℕ) (n : ℕ) (y : Selection) (a b c : Sight → Bool)
    → Gains (SeesUnder p m pending n y) a b → Gains (SeesMade p m pending y n) b c
    → Gains (SeesUnder p m pending (n + 1) y) a c
keys-more p m pending n y a b c g f =
    gains-more a b c g f (λ x (k, lt, sees). (k, omega (arith, lt), sees)) (λ x sees. (n, omega arith, sees))
    (λ x (k, lt, sees). elim (place_last k n lt) [
      | inl below ↦ inl (k, below, sees)
      | inr e ↦ inr (subst (λ j. SeesMade p m pending y j x) e sees)
    ])

-- what presses see under the selection of a state where the accent is pending, or none is
pub state-sees : (p : Presses) (m : MapValue) (pending : Option ℕ) (s : State) (y : Selection) (a b : Sight → Bool)
    → y ≡ selection_of s → s.is_pending ≡ is_some pending → Gains (SeesUnder p m pending key_count y) a b
    → Gains (SeesIn p m pending s) a b
state-sees p m pending s y a b is same g = search (rules, gains-as)

-- a further state
pub met-more : (p : Presses) (m : MapValue) (pending : Option ℕ) (es : Entries) (n : ℕ) (e : Entry)
    (a b c : Sight → Bool) → slice_get es n ≡ Some e → Gains (SeesInMet p m pending es n) a b
    → Gains (SeesIn p m pending (state_of e.0)) b c → Gains (SeesInMet p m pending es (n + 1)) a c
met-more p m pending es n e a b c at g f =
    gains-more a b c g f (λ x (j, d, there, lt, sees). (j, d, there, omega (arith, lt), sees))
    (λ x sees. (n, e, at, omega arith, sees))
    (λ x (j, d, there, lt, sees). elim (place_last j n lt) [
      | inl below ↦ inl (j, d, there, below, sees)
      | inr same ↦ inr (subst (λ z. SeesIn p m pending (state_of z.0) x)
          (sym (same_entry es j n d e same there at)) sees)
    ])

-- a further accent
pub accents-more : (p : Presses) (m : MapValue) (n : ℕ) (a b c : Sight → Bool)
    → Gains (SeesBehindSome p m n) a b → Gains (SeesBehind p m n) b c → Gains (SeesBehindSome p m (n + 1)) a c
accents-more p m n a b c g f =
    gains-more a b c g f (λ x (i, lt, sees). (i, omega (arith, lt), sees)) (λ x sees. (n, omega arith, sees))
    (λ x (i, lt, sees). elim (place_last i n lt) [
      | inl below ↦ inl (i, below, sees)
      | inr e ↦ inr (subst (λ j. SeesBehind p m j x) e sees)
    ])

-- an accent that isn't usable is offered nowhere
pub unusable-none : (p : Presses) (m : MapValue) (accent : ℕ) → usable m accent ≡ false → (x : Sight)
    → SeesBehind p m accent x → ⊥
unusable-none p m accent none x (path, is, (later, before, at, (can, offers)), sees) = true≢false (sym can ∙ none)

-- ---- states and paths

-- what is seen behind an accent's offer
pub behind-sees : (p : Presses) (m : MapValue) (accent : ℕ) (es : Entries) (a b : Sight → Bool)
    → AreMindedBy p m accent es → Gains (SeesInMet p m (Some accent) es (length es)) a b
    → Gains (SeesBehind p m accent) a b
behind-sees p m accent es a b searched g =
    gains-as a b g
    (λ x (j, e, at, lt, (on, sees)).
    let (taps, trail, is, leads, count) = reached-one searched j e at in
    let (n, more, (later, before, made, offered, to, presses)) =
    (minded_are_offers u start accent (presses_along taps) (state_of e.0) (refl, refl, refl)
    (taps, is, leads, refl)).1 on in (
      later ++ before,
      made,
      (later, before, refl, offered),
      subst (λ s. SeesUnder p m (Some accent) key_count (selection_of s) x) (sym to) sees,
    ))
    (λ x (path, is, (later, before, at, offered), sees).
    let (taps, made, to, count) =
    (offers_are_minded u start accent (presses_along (later ++ before)) (state_after u path) (refl, refl, refl)).1
    (later, before, subst (λ q. IsPath u q) at is, offered, ap (λ q. state_after u q) (sym at), refl) in
    let (j, e, there, same) = all-met (minding u accent) es searched taps made in (
      j,
      e,
      there,
      slice_get_within es j e there,
      (
        ap (λ s. s.is_pending) (same ∙ to),
        subst (λ s. SeesUnder p m (Some accent) key_count (selection_of s) x) (sym (same ∙ to)) sees,
      ),
    ))
  where
    u : Under
    u = under p m

-- what is seen where no accent is pending
pub plainly-sees : (p : Presses) (m : MapValue) (met : Entries) (a b : Sight → Bool)
    → Searched (under p m) (start ∷ []) met (length met) (length met)
    → Gains (SeesInMet p m None met (length met)) a b → Gains (SeesPlainly p m) a b
plainly-sees p m met a b searched g =
    gains-as a b g
    (λ x (j, e, at, lt, (off, sees)).
    let r = reached-one searched j e at in
    (r.0, r.2, subst (λ s. SeesUnder p m None key_count (selection_of s) x) (sym r.3) sees))
    (λ x (path, is, sees).
    let (j, e, at, same) = all-met (under p m) met searched path is in (
      j,
      e,
      at,
      slice_get_within met j e at,
      (
        ap (λ s. s.is_pending) same ∙ none-along (under p m) refl start path is refl,
        subst (λ s. SeesUnder p m None key_count (selection_of s) x) (sym same) sees,
      ),
    ))

-- ---- all of it

usable-within : (m : MapValue) (i : ℕ) (o : Option _) → o ≡ accent_at m i → usable m i ≡ true → i < length m.accents
usable-within m i None e can = absurd (true≢false (sym can ∙ search (rules)))
usable-within m i (Some a) e can = slice_get_within m.accents i a (sym e)

-- what was gained can be seen, and what can be seen was gained
reach : (p : Presses) (m : MapValue) (x : Sight)
    → (SeesPlainly p m x ⊎ SeesBehindSome p m (length m.accents) x) ↔ IsReachableUnder (under p m) x
reach p m (sight.Cell slot column) = search rules
reach p m (sight.Locks slot caps num) = search rules
reach p m (sight.Pair accent c) = (
  (λ either. elim either [
    | inl (path, is, (k, lt, ((sees, none), made))) ↦ absurd (let e : None ≡ Some accent = none in cc)
    | inr (i, below, (path, is, offered, (k, lt, ((sees, some), made)))) ↦
        let e : Some i ≡ Some accent = some in
        let same : i ≡ accent = cc in
        (path, is, subst (λ j. IsOfferedAlong (under p m) path j) same offered, (k, lt, (sees, made)))
  ]),
  (λ (path, is, (later, before, at, (can, offers)), (k, lt, (sees, made))).
      inr (
        accent,
        usable-within m accent (accent_at m accent) refl can,
        (path, is, (later, before, at, (can, offers)), (k, lt, ((sees, refl), made))),
      )),
)

pub sights-are : (p : Presses) (m : MapValue) (met : Entries) (x : AllowedSights) (none some : Sight → Bool)
    → Searched (under p m) (start ∷ []) met (length met) (length met)
    → ((y : Sight) → none y ≡ false)
    → Gains (SeesInMet p m None met (length met)) none some
    → Gains (SeesBehindSome p m (length m.accents)) some (has_seen x.can)
    → ((x.forgets ≡ false) ↔ NeverForgets (under p m))
    → AreAllowedSights p m x
sights-are p m met x none some searched nothing plain more forgets = record {
  can = λ y.
      let (kept, added, only) = plainly-sees p m met none some searched plain y in
      let (later, pairs, just) = more y in (
        (λ has. elim (just has) [
          | inr q ↦ (reach p m y).0 (inr q)
          | inl was ↦ elim (only was) [
            | inl new ↦ absurd (true≢false (sym new ∙ nothing y))
            | inr q ↦ (reach p m y).0 (inl q)
          ]
        ]),
        (λ is. elim ((reach p m y).1 is) [ inl q ↦ later (added q) | inr q ↦ pairs q ]),
      );
  forgets = forgets;
}

-- a holder forgets in a state that was met, or in none
pub forgets-met : (u : Under) (met : Entries) (o : Option KeyAt)
    → Searched u (start ∷ []) met (length met) (length met) → IsFirstStuck u met o
    → (is_some o ≡ false) ↔ NeverForgets u
forgets-met u met None searched first = (
  (λ e path is forgetful.
      let (j, x, at, same) = all-met u met searched path is in
      first.is j x at (slice_get_within met j x at) (subst (λ s. IsForgetful u s) (sym same) forgetful)),
  (λ never. refl),
)
forgets-met u met (Some at) searched first = (
  (λ e. absurd (true≢false e)),
  (λ never.
      let ((x, here, (i, holds)), below) = first.is in
      let r = reached-one searched at.place x here in
      absurd (never r.0 r.2 (i, at.key, subst (λ s. HolderForgets u s i at.key) (sym r.3) holds))),
)

-- a search that ended so from the start
pub ended-by : (u v : Under) (es : Entries) (s t : State) (end other : End) → v ≡ u → s ≡ t → end ≡ other
    → HasEnded v (s ∷ []) es end → HasEnded u (t ∷ []) es other
ended-by u v es s t end other is from how ended = rw (← is, ← from, ← how) ended
