-- A search that minds an accent goes over the states of one that minds none, and over those behind where the accent is
-- offered.
use Rattle.std.proofs.Common.{rules}
use Rattle.console_states.proofs.Common.{suc, ◌≡◌, ℕ, ◌+◌, ◌<◌, ◌≤◌, Bool, true, false, not, List, [], ◌∷◌, ◌++◌, All}
use Rattle.console_states.proofs.Common.{Option, Some, None, refl, ap, subst, sym, ◌∙◌, inl, inr, ◌⊎◌, arith}
use Rattle.console_states.proofs.Common.{if◌then◌else◌, filter, length, get_or, slice_get, cases_lt, cases_Bool}
use Rattle.console_states.proofs.Common.{true≢false, none-some, same_Some, append_assoc, Under, State}
use Rattle.console_states.proofs.Common.{alone, minding, with_accent, IsMove, moved, IsPathFrom, state_from}
use Rattle.console_states.proofs.Common.{IsOfferedIn}
use Rattle.console_states.proofs.Common.{presses_along, presses_of, events_along, events_of_move, Stands, Move, Hold}
use Rattle.console_states.proofs.Common.{Turn, Tap, LetGo, Exchange, MapValue, Event, pending, between, resolved, start}
use Rattle.console_states.proofs.Common.{Entry, Entries, HasEnded, TooMany, state_of, slice_get-get_or}
use Rattle.console_states.proofs.Common.{ReachesMoreThanFrom, pending-start, resolved-start, append-nil, not-true}
use Rattle.console_states.specs.Minding.{LeadsBy, OffersBy, IsPlain, without_accent}
use Rattle.console_states.proofs.Common.{IsPath, accent_pending_after, state_after}
use Rattle.std.specs.List.{AllPairs}
use Rattle.std.proofs.lemmas.List.Kept.{AllPairs-filter}
use Rattle.std.proofs.lemmas.List.Elements.{All-filter, filter_passes}
use Rattle.std.proofs.lemmas.List.Filters.{length-filter_both}
use Rattle.console_states.proofs.Beginning.{reached-one, start-one}
use Rattle.console_states.proofs.Reaching.{AreApart, all-apart, reaches-apart}
use Rattle.console_states.proofs.Going.{pending-move, pending-is, tap-pending}
use Rattle.console_states.proofs.SameStates.{same_states}
use Rattle.console_states.proofs.Paths.{path-split, presses-append}
use Rattle.console_states.proofs.Standing.{minded-path, minded-stands, stands-start}
use Rattle.console_states.proofs.Visits.{none-along}

-- ---- paths

-- the same moves lead on where the accent is pending
plain-pending : (u : Under) (accent : ℕ) (s : State) (move : Move) → u.minded ≡ None → u.has_loads ≡ false
    → IsMove u s move
    → IsMove (minding u accent) (with_accent s) move
    × (moved (minding u accent) (with_accent s) move ≡ with_accent (moved u s move))
plain-pending u accent s (Tap k) none loads is = absurd (none-some is.0 (sym none ∙ is.1))
plain-pending u accent s (Hold k i) none loads is = (is, refl)
plain-pending u accent s (Turn k l) none loads is = (is, refl)
plain-pending u accent s (LetGo k i) none loads is = (is, refl)
plain-pending u accent s Exchange none loads is = absurd (true≢false (sym is.1 ∙ loads))

-- so does a path
pub pending-leads : (u : Under) (accent : ℕ) (s t : State) (n : ℕ) (path : List Move) → u.minded ≡ None
    → u.has_loads ≡ false → LeadsBy (minding u accent) s n (with_accent t) → IsPathFrom u t path
    → LeadsBy (minding u accent) s (n + presses_along path) (with_accent (state_from u t path))
pending-leads u accent s t n [] none loads (taps, made, to, count) is = (taps, made, to, omega (arith, count))
pending-leads u accent s t n (move ∷ path) none loads there is =
    let (taps, made, to, count) = pending-leads u accent s t n path none loads there is.1 in
    let (can, next) = plain-pending u accent (state_from u t path) move none loads is.0 in (
      move ∷ taps,
      (subst (λ r. IsMove (minding u accent) r move) (sym to) can, made),
      ap (λ r. moved (minding u accent) r move) to ∙ next,
      omega (arith, count),
    )

-- a tap where the accent is offered, and where it isn't pending
pub tap-moves : (u : Under) (accent : ℕ) (s : State) → IsOfferedIn u s accent → s.is_pending ≡ false
    → (k : ℕ) × IsMove (minding u accent) s (Tap k)
tap-moves u accent s (can, (k, lt, offers)) none = (k, (accent, refl, can, (lt, offers.0, offers.1), none))

-- ---- from offers to taps

pub offers_are_minded : (u : Under) (s : State) (accent n : ℕ) (t : State) → IsPlain u s
    → (LeadsBy u s n t → LeadsBy (minding u accent) s n t × (t.is_pending ≡ false))
    × (OffersBy u s accent n t → LeadsBy (minding u accent) s (suc n) (with_accent t))
offers_are_minded u s accent n t plain = (
  (λ (path, is, leads, count).
      let (made, same) = minded-path u accent s path plain.0 is in (
        (path, made, same ∙ leads, count),
        ap (λ r. r.is_pending) (sym leads) ∙ none-along u plain.0 s path is plain.2,
      )),
  (λ (later, before, is, offered, leads, count).
      let (first, rest, joins) = path-split u s later before is in
      let (made, same) = minded-path u accent s before plain.0 first in
      let (k, can) =
      tap-moves u accent (state_from u s before) offered (none-along u plain.0 s before first plain.2) in
      let (taps, tapped, to, more) =
      pending-leads u accent s (state_from u s before) (suc (presses_along before)) later plain.0 plain.1 (
        Tap k ∷ before,
        (subst (λ r. IsMove (minding u accent) r (Tap k)) (sym same) can, made),
        ap (λ r. with_accent r) same,
        omega arith,
      ) rest in
      let both = presses-append before later in
      (taps, tapped, to ∙ ap (λ r. with_accent r) (sym joins ∙ leads), omega (arith, more, count, both))),
)

-- ---- from taps to offers

-- the accent is pending, or it isn't
abbrev with_pending : Bool → State → State
with_pending b s = record s { is_pending = b }

-- a move where the accent is minded is one where it isn't, or a tap
plain-or_tap : (u : Under) (accent : ℕ) (b : Bool) (s : State) (move : Move) → u.has_loads ≡ false
    → IsMove (minding u accent) (with_pending b s) move
    → (IsMove u s move × (with_pending b (moved u s move) ≡ moved (minding u accent) (with_pending b s) move))
    ⊎ ((b ≡ false) × IsOfferedIn u s accent × (with_accent s ≡ moved (minding u accent) (with_pending b s) move)
    × (presses_of move ≡ 1))
plain-or_tap u accent b s (Hold k i) loads is = inl (is, refl)
plain-or_tap u accent b s (Turn k l) loads is = inl (is, refl)
plain-or_tap u accent b s (LetGo k i) loads is = inl (is, refl)
plain-or_tap u accent b s Exchange loads is = absurd (true≢false (sym is.1 ∙ loads))
plain-or_tap u accent b s (Tap k) loads (i, minded, can, (lt, idle, looks), off) =
    search (rules, same_Some)

-- a path without the tap leads to the same state, whether the accent is pending apart
abbrev IsAsPlain : Under → State → ℕ → List Move → Type 0
IsAsPlain u s accent taps =
    (b : Bool) × (path : List Move) × IsPathFrom u s path
    × (with_pending b (state_from u s path) ≡ state_from (minding u accent) s taps)
    × (b ≡ false → presses_along taps ≡ presses_along path)
    × (b ≡ true → (later before : List Move) × (path ≡ later ++ before) × IsOfferedIn u (state_from u s before) accent
    × (presses_along taps ≡ suc (presses_along path)))

as-plain : (u : Under) (s : State) (accent : ℕ) (taps : List Move) → IsPlain u s
    → IsPathFrom (minding u accent) s taps → IsAsPlain u s accent taps
as-plain u s accent [] plain is = search (rules, same_states)
as-plain u s accent (move ∷ taps) plain is =
    let (b, path, made, same, off, on) = as-plain u s accent taps plain is.1 in
    elim (plain-or_tap u accent b (state_from u s path) move plain.1
    (subst (λ t. IsMove (minding u accent) t move) (sym same) is.0)) [
      | inl (can, to) ↦ (
        b,
        move ∷ path,
        (can, made),
        to ∙ ap (λ t. moved (minding u accent) t move) same,
        (λ e. ap (λ n. n + presses_of move) (off e)),
        (λ e.
            let (later, before, at, offered, count) = on e in
            (move ∷ later, before, ap (λ z. move ∷ z) at, offered, omega (arith, count))),
      )
      | inr (none, offered, to, one) ↦ (
        true,
        path,
        made,
        to ∙ ap (λ t. moved (minding u accent) t move) same,
        (λ e. absurd (true≢false e)),
        (λ e. let count = off none in ([], path, refl, offered, omega (arith, count, one))),
      )
    ]

-- Where an accent is minded, moves lead to the same states in which it isn't pending, by as many presses; and to those
-- in which it is, by one press more than where it is offered on the way.
pub minded_are_offers : (u : Under) (s : State) (accent n : ℕ) (t : State) → IsPlain u s
    → LeadsBy (minding u accent) s n t
    → (t.is_pending ≡ false → LeadsBy u s n t)
    × (t.is_pending ≡ true → (b : ℕ) × (n ≡ suc b) × OffersBy u s accent b (without_accent t))
minded_are_offers u s accent n t plain (taps, is, leads, count) =
    search (rules, as-plain, none-along, same_states)

-- ---- which accent is pending

-- the accent that is pending in the state
abbrev pub pending_in : ℕ → State → Option ℕ
pending_in accent s = if s.is_pending then Some accent else None

minded-move : (m : MapValue) (accent : ℕ) (h : List Event) (s : State) (move : Move)
    → IsMove (minding (alone m) accent) s move → Stands (alone m) h s
    → pending m (resolved (between m m) h) ≡ pending_in accent s
    → pending m (resolved (between m m) (events_of_move move ++ h))
    ≡ pending_in accent (moved (minding (alone m) accent) s move)
minded-move m accent h s (Hold k i) is x e = pending-move m h s (Hold k i) is x ∙ e
minded-move m accent h s (Turn k l) is x e = pending-move m h s (Turn k l) is x ∙ e
minded-move m accent h s (LetGo k i) is x e = pending-move m h s (LetGo k i) is x ∙ e
minded-move m accent h s Exchange is x e = absurd (true≢false (sym is.1))
minded-move m accent h s (Tap k) (i, minded, can, (lt, idle, (looks, may)), none) x e =
    search (rules, pending-is, tap-pending)

pub minded-along : (m : MapValue) (accent : ℕ) (h : List Event) (s : State) (path : List Move) → Stands (alone m) h s
    → IsPathFrom (minding (alone m) accent) s path → pending m (resolved (between m m) h) ≡ pending_in accent s
    → pending m (resolved (between m m) (events_along path ++ h))
    ≡ pending_in accent (state_from (minding (alone m) accent) s path)
minded-along m accent h s [] x is e = e
minded-along m accent h s (move ∷ path) x is e =
    ap (λ g. pending m (resolved (between m m) g)) (append_assoc (events_of_move move) (events_along path) h)
    ∙ minded-move m accent (events_along path ++ h) (state_from (minding (alone m) accent) s path) move is.0
    (minded-stands m accent h s path x is.1)
    (minded-along m accent h s path x is.1 e)

-- after the events along a path the accent is pending where the state tells so, and else none is
pub pends_as_minded : (m : MapValue) (accent : ℕ) (path : List Move) → IsPath (minding (alone m) accent) path
    → accent_pending_after (between m m) (events_along path)
    ≡ pending_in accent (state_after (minding (alone m) accent) path)
pends_as_minded m accent path is =
    pending-is m (events_along path)
    ∙ subst (λ g. pending m (resolved (between m m) g)
    ≡ pending_in accent (state_from (minding (alone m) accent) start path))
    (append-nil (events_along path))
    (minded-along m accent [] start path (stands-start (alone m)) is
    (ap (λ r. pending m r) (resolved-start (between m m)) ∙ pending-start m))

-- ---- the limit

-- a path of at most p presses leads to the state of the entry, the accent apart
abbrev LeadsWithin : Under → State → ℕ → Entry → Type 0
LeadsWithin u s p x =
    (path : List Move) × IsPathFrom u s path × (presses_along path ≤ p)
    × (state_from u s path ≡ without_accent (state_of x.0))

leads-within : (u : Under) (s : State) (accent p : ℕ) (x : Entry) → IsPlain u s
    → LeadsBy (minding u accent) s x.1.presses (state_of x.0) → x.1.presses ≤ p → LeadsWithin u s p x
leads-within u s accent p x plain leads few = elim (cases_Bool x.0.is_pending) [
  | inl on ↦
      let (b, e, (later, before, is, offered, to, count)) =
      (minded_are_offers u s accent x.1.presses (state_of x.0) plain leads).1 on in
      (later ++ before, is, omega (arith, few, e, count), to)
  | inr off ↦
      let (path, is, to, count) = (minded_are_offers u s accent x.1.presses (state_of x.0) plain leads).0 off in (
        path,
        is,
        omega (arith, few, count),
        to ∙ same_states (state_of x.0) (without_accent (state_of x.0)) (λ i. refl) (λ l. refl) refl off,
      )
]

-- many entries of which the accent is pending in all, or in none
half-reaches : (u : Under) (s : State) (p : ℕ) (ys : Entries) (b : Bool) → Entry → 65536 < length ys
    → All (LeadsWithin u s p) ys → All (λ x. x.0.is_pending ≡ b) ys → AllPairs AreApart ys
    → ReachesMoreThanFrom u s 65536 p
half-reaches u s p ys b d many leads same apart =
    reaches-apart u s p ys (λ x. without_accent (state_of x.0)) d many leads (λ j k e lt below f.
    apart j k e lt below
    (same_states _ _ (λ i. ap (λ z. z.holder i) f) (λ l. ap (λ z. z.is_locked l) f) (ap (λ z. z.is_second) f)
    (same j e (omega (arith, lt, below)) ∙ sym (same k e below))))

-- a search that minds an accent and gave up: paths lead to more states than the limit where none is minded
pub minded_reaches_more : (u : Under) (s : State) (accent p : ℕ) (es : Entries) → IsPlain u s
    → HasEnded (minding u accent) (s ∷ []) es (TooMany p) → ReachesMoreThanFrom u s 65536 p
minded_reaches_more u s accent p es plain ended = elim (cases_lt 65536 (length on)) [
  | inl lt ↦
      half-reaches u s p on true d lt (All-filter is_on (LeadsWithin u s p) es leads) (filter_passes is_on es)
      (AllPairs-filter AreApart is_on es apart)
  | inr le ↦
      half-reaches u s p off false d (omega (arith, le, both, more)) (All-filter is_off (LeadsWithin u s p) es leads)
      (λ k e lt. not-true _ (filter_passes is_off es k e lt)) (AllPairs-filter AreApart is_off es apart)
]
  where
    is_on : Entry → Bool
    is_on x = x.0.is_pending

    is_off : Entry → Bool
    is_off x = not x.0.is_pending

    on : Entries
    on = filter is_on es

    off : Entries
    off = filter is_off es

    d : Entry
    d = (start-one ended.searched).1

    more : 131072 < length es
    more = ended.is.0

    both : length on + length off ≡ length es
    both = length-filter_both is_on is_off (λ x. refl) es

    leads : All (LeadsWithin u s p) es
    leads k e lt =
        let at : slice_get es k ≡ Some (get_or es k e) = slice_get-get_or es k e lt in
        let (path, trail, is, to, count) = reached-one ended.searched k (get_or es k e) at in
        leads-within u s accent p (get_or es k e) plain (path, is, to, count) (ended.is.1 k (get_or es k e) at)

    apart : AllPairs AreApart es
    apart = all-apart es ended.once
