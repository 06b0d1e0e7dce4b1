-- Whatever presses, releases, resets and loads come, a console goes on from states that moves lead to by as many
-- presses.
use Rattle.console_states.proofs.Common.{suc, ◌≡◌, ℕ, ◌+◌, ◌<◌, ◌≤◌, true, false, not, List, [], ◌∷◌, refl, ap, subst}
use Rattle.console_states.proofs.Common.{sym, ◌∙◌, inl, inr, arith, cases_Bool, cases_lt, true≢false}
use Rattle.console_states.proofs.Common.{false_from_ne_true, All-head, All-tail, append-nil, ◌++◌, MapValue}
use Rattle.console_states.proofs.Common.{ResolvedEvent, on, remembered, look, ReleasedKey, Maps, in_force, resolved}
use Rattle.console_states.proofs.Common.{is_on_after, is_second_in_force, HasKey, HasKeys, IsNoLoad, IsQuiet, Under}
use Rattle.console_states.proofs.Common.{State, start, map_of, map_in, Holds, next_map, IsMove, IsForgetful, moved}
use Rattle.console_states.proofs.Common.{presses_of, IsClean, Admits, presses, Follows, IsOffOnceQuiet, Modifier, Char}
use Rattle.console_states.proofs.Common.{Event, Press, Release, Reset, Load, Move, Hold, Turn, LetGo, Exchange, rules}
use Rattle.console_states.proofs.Common.{resolved-more, resolved-start}
use Rattle.console_core.specs.Headline.{IsOnOnlyWhilePressed}
use Rattle.console_core.specs.Resolved.{resolve}
use Rattle.console_core.proofs.Shared.{borne-pressed}
use Rattle.console_states.proofs.Common.{AreAllowed, IsMade, look_in, selection_behind}
use Rattle.console_states.proofs.Following.{follows-look, follows-selection, some_of}
use Rattle.console_states.proofs.Staying.{Stays, KeepsLetGo, LeadsOn, KeepsHeld, stays-press}
use Rattle.console_states.proofs.Staying.{stays-release, stays-reset, KeepsExchange, stays-load, follows-start}
use Rattle.keymap_core.specs.declared.action.Action.TheVariants as act

-- Sets of states by how many presses lead to them: below n a move leads from a set to that of its presses more.
pub record AreLed (u : Under) (n : ℕ) (S : ℕ → State → Type 0) : Type 0 where
  pub more : (p : ℕ) (s : State) → S p s → S (suc p) s
  pub moved : (p q : ℕ) (s : State) (move : Move) → p + presses_of move ≡ q → q < n → S p s → IsMove u s move
      → S q (moved u s move)

-- Sets that the moves lead through, and the console begins in the first of them.
pub record IsKeptBelow (u : Under) (n : ℕ) (S : ℕ → State → Type 0) : Type 0 where
  pub led : AreLed u n S
  pub start : S 0 start

-- Sets that the moves lead through from the start, and no holder looks up a character in them.
pub record IsSafeBelow (u : Under) (n : ℕ) (S : ℕ → State → Type 0) : Type 0 where
  pub kept : IsKeptBelow u n S
  pub safe : (p : ℕ) → p < n → (s : State) → S p s → IsForgetful u s → ⊥

-- Lists along which no key forgets that it holds a modifier, where the console stands in a state of the sets.
pub record AreSpared (u : Under) (n : ℕ) (S : ℕ → State → Type 0) (P : List Event → Type 0) : Type 0 where
  pub fewer : (e : Event) (h : List Event) → P (e ∷ h) → P h
  pub keeps : (h : List Event) (k : ℕ) → P (Press k ∷ h) → presses h < n → (s : State) → S (presses h) s
      → Follows (resolved u.maps h) s → s.is_second ≡ is_second_in_force h
      → KeepsHeld u s k

-- all lists, where no holder looks up a character
pub all-spared : (u : Under) (n : ℕ) (S : ℕ → State → Type 0) → IsSafeBelow u n S → AreSpared u n S (λ h. Unit {0})
all-spared u n S safe = record {
  fewer = λ e h x. tt;
  keeps = λ h k x lt s there f is i forgets. safe.safe (presses h) lt s there (i, k, forgets);
}

-- clean lists: a holder remembers its modifier
pub clean-spared : (u : Under) (n : ℕ) (S : ℕ → State → Type 0) → AreSpared u n S (IsClean u.maps)
clean-spared u n S = record {
  fewer = λ e h clean later before k i c at. clean (e ∷ later) before k i c (ap (λ z. e ∷ z) at);
  keeps = λ h k clean lt s there f is i forgets.
      let seen : look (map_in u s) (resolved u.maps h) k ≡ Char forgets.1.0 =
      follows-look u (resolved u.maps h) s k f ∙ forgets.1.1.0 in
      clean [] h k i forgets.1.0 refl (f.holds i k forgets.0)
      (subst (λ b. look (map_of u b) (resolved u.maps h) k ≡ Char forgets.1.0) is seen);
}

-- after p presses the state is in its set, where p is below n
abbrev pub Below : ℕ → (ℕ → State → Type 0) → ℕ → State → Type 0
Below n S p s = p < n → S p s

-- letting go stays in the sets below n
below-lets_go : (u : Under) (n : ℕ) (S : ℕ → State → Type 0) → AreLed u n S → (p : ℕ) → KeepsLetGo (Below n S p)
below-lets_go u n S led p s k i there h lt = led.moved p p s (LetGo k i) (omega arith) lt (there lt) h

-- exchanging the maps stays in the sets below n
below-exchanges : (u : Under) (n : ℕ) (S : ℕ → State → Type 0) → AreLed u n S → (p : ℕ)
    → KeepsExchange u (Below n S p)
below-exchanges u n S led p s there is lt = led.moved p p s Exchange (omega arith) lt (there lt) is

-- below n a press leads from a set to the next
below-leads_on : (u : Under) (n : ℕ) (S : ℕ → State → Type 0) → AreLed u n S → (p : ℕ)
    → LeadsOn u (S p) (Below n S (suc p))
below-leads_on u n S led p = record {
  stay = λ s there next. led.more p s there;
  hold = λ s k i there is next. led.moved p (suc p) s (Hold k i) (omega arith) next there is;
  turn = λ s k l there is next. led.moved p (suc p) s (Turn k l) (omega arith) next there is;
}

-- each press of a list without its newest event is allowed
pub allowed-before : (u : Under) (e : Event) (h : List Event) → AreAllowed u (e ∷ h) → AreAllowed u h
allowed-before u e h may later before k at = may (e ∷ later) before k (ap (λ z. e ∷ z) at)

-- what an allowed press looks up is so in the state
made-next : (u : Under) (h : List Event) (s : State) (k : ℕ) → AreAllowed u (Press k ∷ h)
    → Follows (resolved u.maps h) s → s.is_second ≡ is_second_in_force h
    → IsMade u s k (look (map_in u s) (resolved u.maps h) k)
made-next u h s k may f is =
    let r : List ResolvedEvent = resolved u.maps h in
    let seen : look (map_in u s) r k ≡ look_in u s k = follows-look u r s k f in (
      sym seen,
      subst (λ y. u.allows y k (look (map_in u s) r k) ≡ true) (follows-selection r s f)
          (subst (λ b. u.allows (selection_behind u.maps h) k (look (map_of u b) r k) ≡ true) (sym is)
          (may [] h k refl)),
    )

-- an event stays in the set of the presses so far
stays-event : (u : Under) (n : ℕ) (S : ℕ → State → Type 0) (P : List Event → Type 0) → AreLed u n S
    → AreSpared u n S P → (e : Event) (h : List Event) → P (e ∷ h)
    → HasKey e → (u.has_loads ≡ false → IsNoLoad e) → AreAllowed u (e ∷ h) → presses (e ∷ h) ≤ n
    → (s : State) → Below n S (presses h) s → Follows (resolved u.maps h) s → s.is_second ≡ is_second_in_force h
    → Stays (Below n S (presses (e ∷ h))) (is_second_in_force (e ∷ h))
    (resolve (map_in u s) (next_map u s) (resolved u.maps h) e ∷ resolved u.maps h)
stays-event u n S P led spared (Press k) h keeps key loads may le s there f is =
    let r : List ResolvedEvent = resolved u.maps h in
    let lt : presses h < n = omega (arith, le) in
    rw (← is) (stays-press u (S (presses h)) (Below n S (suc (presses h))) (below-leads_on u n S led (presses h)) r s
    (there lt) f k key (spared.keeps h k keeps lt s (there lt) f is) (look (map_in u s) r k)
    (made-next u h s k may f is))
stays-event u n S P led spared (Release k) h keeps key loads may le s there f is =
    let r : List ResolvedEvent = resolved u.maps h in
    subst (λ b. Stays (Below n S (presses h)) b (ReleasedKey k ∷ r)) is
    (stays-release (Below n S (presses h)) (below-lets_go u n S led (presses h)) r s there f k (remembered k r) refl)
stays-event u n S P led spared Reset h keeps key loads may le s there f is =
    rw (← is) (stays-reset (Below n S (presses h)) (below-lets_go u n S led (presses h)) (resolved u.maps h) s there f)
stays-event u n S P led spared Load h keeps key none_only may le s there f is =
    elim (cases_Bool u.has_loads) [
      | inl loads ↦
          rw (← (ap not is)) (stays-load u (Below n S (presses h)) (below-lets_go u n S led (presses h))
          (below-exchanges u n S led (presses h)) loads (resolved u.maps h) s there f)
      | inr none ↦ absurd (true≢false (none_only none))
    ]

-- a list without its newest event has no more presses
pub fewer : (e : Event) (h : List Event) (n : ℕ) → presses (e ∷ h) ≤ n → presses h ≤ n
fewer (Press k) h n le = omega (arith, le)
fewer (Release k) h n le = le
fewer Reset h n le = le
fewer Load h n le = le

-- Whatever presses, releases, resets and loads come, at most n presses, the console goes on from a state of the sets to
-- others, where the lists are such that no key forgets that it holds a modifier.
pub stays-on : (u : Under) (n : ℕ) (S : ℕ → State → Type 0) (P : List Event → Type 0) → AreLed u n S
    → AreSpared u n S P → (before : List Event) (s : State) → Below n S (presses before) s
    → Follows (resolved u.maps before) s → s.is_second ≡ is_second_in_force before → (later : List Event)
    → P (later ++ before) × HasKeys (later ++ before) × Admits u (later ++ before) × (presses (later ++ before) ≤ n)
    → Stays (Below n S (presses (later ++ before))) (is_second_in_force (later ++ before))
    (resolved u.maps (later ++ before))
stays-on u n S P led spared before s there f is [] given = (s, there, f, is)
stays-on u n S P led spared before s there f is (e ∷ later) (keeps, keys, (loads, may), le) =
    let h : List Event = later ++ before in
    let (t, here, g, second) =
    stays-on u n S P led spared before s there f is later (
      spared.fewer e h keeps,
      All-tail HasKey e h keys,
      ((λ none. All-tail IsNoLoad e h (loads none)), allowed-before u e h may),
      fewer e h n le,
    ) in
    rw (resolved-more u.maps h e)
    (rw (← second) (stays-event u n S P led spared e h keeps (All-head HasKey e h keys)
    (λ none. All-head IsNoLoad e h (loads none)) may le t here g second))

-- from the start a console stays in the sets
pub stays : (u : Under) (n : ℕ) (S : ℕ → State → Type 0) (P : List Event → Type 0) → IsKeptBelow u n S
    → AreSpared u n S P → (h : List Event) → P h × HasKeys h × Admits u h × (presses h ≤ n)
    → Stays (Below n S (presses h)) (is_second_in_force h) (resolved u.maps h)
stays u n S P kept spared h given =
    rw (← (append-nil h)) (stays-on u n S P kept.led spared [] start (λ lt. kept.start)
    (subst (λ r. Follows r start) (sym (resolved-start u.maps)) follows-start) refl h
    (subst (λ g. P g × HasKeys g × Admits u g × (presses g ≤ n)) (sym (append-nil h)) given))

-- a modifier is on only while a key that bears it is pressed
follows-on : (ms : Maps) (h : List Event) (s : State) → Follows (resolved ms h) s → HasKeys h
    → IsOnOnlyWhilePressed (in_force ms h) h (λ i. is_on_after ms i h)
follows-on ms h s f keys i e =
    let k : (k : ℕ) × Holds s k i = some_of (s.holder i) (sym (f.on i) ∙ e) in
    borne-pressed ms h (act.Mod i) keys (k.0, f.holds i k.0 k.1)

-- where modifiers are on only while their keys are pressed, none is on once all are released
pub off-once_quiet : (m : MapValue) (ms : Maps) (h : List Event) → IsOnOnlyWhilePressed m h (λ i. is_on_after ms i h)
    → IsOffOnceQuiet h (λ i. is_on_after ms i h)
off-once_quiet m ms h on quiet i = search (rules, false_from_ne_true, true≢false)

-- below n presses a modifier is on only while a key that bears it is pressed
within-on : (u : Under) (n : ℕ) (S : ℕ → State → Type 0) → IsSafeBelow u n S → (h : List Event) → HasKeys h
    → Admits u h → presses h ≤ n → IsOnOnlyWhilePressed (in_force u.maps h) h (λ i. is_on_after u.maps i h)
within-on u n S safe h keys admitted le =
    let s : Stays (Below n S (presses h)) (is_second_in_force h) (resolved u.maps h) =
    stays u n S (λ g. Unit {0}) safe.kept (all-spared u n S safe) h (tt, keys, admitted, le) in
    follows-on u.maps h s.0 s.2 keys

-- after each list that is admitted a modifier is on only while a key that bears it is pressed
abbrev pub NeverIn : Under → Type 0
NeverIn u =
    (h : List Event) → HasKeys h → Admits u h
    → IsOnOnlyWhilePressed (in_force u.maps h) h (λ i. is_on_after u.maps i h)
    × IsOffOnceQuiet h (λ i. is_on_after u.maps i h)

-- sets that are safe below every number
pub never-sticks : (u : Under) (S : ℕ → State → Type 0) → ((n : ℕ) → IsSafeBelow u n S) → NeverIn u
never-sticks u S safe h keys admitted =
    let on : IsOnOnlyWhilePressed (in_force u.maps h) h (λ i. is_on_after u.maps i h) =
    within-on u (presses h) S (safe (presses h)) h keys admitted (omega arith) in
    (on, off-once_quiet (in_force u.maps h) u.maps h on)

-- sets that are safe below n
pub sticks-late : (u : Under) (n : ℕ) (S : ℕ → State → Type 0) → IsSafeBelow u n S → (h : List Event) → HasKeys h
    → Admits u h → (i : Modifier) → IsQuiet h → is_on_after u.maps i h ≡ true → n < presses h
sticks-late u n S safe h keys admitted i quiet on =
    search (rules, cases_lt, off-once_quiet, within-on)
