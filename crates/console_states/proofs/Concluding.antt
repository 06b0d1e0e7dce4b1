-- What the search concludes of all paths from what it met.
use Rattle.std.proofs.Common.{rules}
use Rattle.console_states.proofs.Common.{suc, ◌≡◌, ℕ, ◌<◌, List, [], ◌∷◌, length, slice_get, Some}
use Rattle.console_states.proofs.Common.{ap, subst, sym, ◌∙◌, arith, slice_get_within, Modifier, Event}
use Rattle.console_states.proofs.Common.{End, TooMany, Under, start}
use Rattle.console_states.proofs.Common.{IsForgetful, HolderForgets, script_of_path, state_of, Entry, Entries, IsMetBy}
use Rattle.console_states.proofs.Common.{IsReached, AreDone, AreSafe, IsStuck, HasEnded, presses}
use Rattle.console_states.proofs.Common.{NeverSticksUnder, ReleasesPressedKeys, Complete}
use Rattle.console_states.specs.Searching.{IsScriptTo}
use Rattle.console_states.specs.Sticking.{HasFewStates, NoneSticksUnderBy, LeavesOnUnder, HasFewestUnder}
use Rattle.console_states.proofs.Deciding.{under-self, never-under, sticks_if_reached}
use Rattle.console_states.proofs.Scripts.{presses-script, releases-script}
use Rattle.console_states.proofs.Beginning.{reached-one, start-one}
use Rattle.console_states.proofs.Searching.{met-up, all-done}
use Rattle.console_states.proofs.Sparing.{IsKeptBelow, IsSafeBelow, never-sticks, sticks-late}
use Rattle.console_states.proofs.Nearest.{IsMet, all-met, met-moved, below-fewer, done-before}
use Rattle.console_states.proofs.Common.{Searched, ReachesMoreThanFrom, cases_lt, inl, inr, ◌⊎◌, ◌≤◌, None}
use Rattle.std.specs.Prelude.{if◌then◌else◌, ◌+◌}
use Rattle.std.specs.Option.{is_some}
use Rattle.console_states.proofs.Searching.{same_entry}
use Rattle.indexmap.proofs.IndexTableLemmas.Probe.{pigeonhole}

-- the moves keep the states that were met
pub kept-below : (u : Under) (es : Entries) (n : ℕ) → IsMetBy es 0 start → AreDone u es n → IsKeptBelow u n (IsMetBy es)
kept-below u es n met done = record {
  led = record {
    more = λ p s there. met-up es p (suc p) s (omega arith) there;
    moved = met-moved u es n done;
  };
  start = met;
}

-- the states that were met are safe where no holder looks up a character in those met by fewer than n presses
pub safe-below : (u : Under) (es : Entries) (n : ℕ) → IsMetBy es 0 start → AreDone u es n
    → ((j : ℕ) (x : Entry) → slice_get es j ≡ Some x → x.1.presses < n → IsForgetful u (state_of x.0) → ⊥)
    → IsSafeBelow u n (IsMetBy es)
safe-below u es n met done safe = record {
  kept = kept-below u es n met done;
  safe = λ p lt s (j, x, at, is, le) forgetful.
      safe j x at (omega (arith, le, lt)) (subst (λ z. IsForgetful u z) (sym is) forgetful);
}

-- where all states were met and no holder looks up a character, no modifier sticks
pub complete-never : (u : Under) (es : Entries) → HasEnded u (start ∷ []) es Complete → AreSafe u es (length es)
    → NeverSticksUnder u
complete-never u es ended safe =
    never-under u
    (never-sticks u (IsMetBy es)
    (λ n.
    safe-below u es n (start-one ended.searched) (all-done u es ended.is.0 n)
    (λ j x at lt. safe j x at (slice_get_within es j x at))))

-- where all states were met, and they are no more than the limit, paths lead to no more
pub all-few : (u : Under) (met : Entries) (p : ℕ) → Searched u (start ∷ []) met (length met) (length met)
    → length met ≤ 65536 → ReachesMoreThanFrom u start 65536 p → ⊥
all-few u met p searched few (states, leads, apart) =
    let less = pigeonhole 65537 (length met) place into one in omega (arith, less, few)
  where
    found : (j : ℕ) → j < 65537 → IsMet met (states j)
    found j lt =
        let (path, is, short, to) = leads j (omega (arith, lt)) in
        subst (λ s. IsMet met s) to (all-met u met searched path is)

    place-by : (j : ℕ) → (j < 65537) ⊎ (65537 ≤ j) → ℕ
    place-by j (inl lt) = (found j lt).0
    place-by j (inr le) = 0

    place : ℕ → ℕ
    place j = place-by j (cases_lt j 65537)

    at-by : (j : ℕ) (o : (j < 65537) ⊎ (65537 ≤ j)) → j < 65537
        → (x : Entry) × (slice_get met (place-by j o) ≡ Some x) × (state_of x.0 ≡ states j)
    at-by j (inl lt) below = let (i, x, at, same) = found j lt in (x, at, same)
    at-by j (inr le) below = absurd (omega (arith, le, below))

    into : (j : ℕ) → j < 65537 → place j < length met
    into j lt =
        let (x, at, same) = at-by j (cases_lt j 65537) lt in slice_get_within met (place j) x at

    one : (i j : ℕ) → i < 65537 → j < 65537 → place i ≡ place j → i ≡ j
    one i j lt_i lt_j e = search (rules, at-by, cases_lt, same_entry, place)

-- where a search that minds no accent met all states, they are no more than it goes over
pub complete-few : (u : Under) (es : Entries) → HasEnded u (start ∷ []) es Complete → u.minded ≡ None → HasFewStates u
complete-few u es ended none p =
    all-few u es p ended.is.0
    (subst (λ o. length es ≤ (if is_some o then 65536 + 65536 else 65536)) none ended.is.1)

-- where too many were, none does by the presses that are told
pub none-late : (u : Under) (es : Entries) (p : ℕ) → HasEnded u (start ∷ []) es (TooMany p) → AreSafe u es (length es)
    → NoneSticksUnderBy u p
none-late u es p ended safe g keys admitted i (quiet, on) =
    sticks-late u p (IsMetBy es)
    (safe-below u es p (start-one ended.searched) ended.is.2 (λ j x at lt.
    safe j x at (slice_get_within es j x at))) g keys admitted i
    quiet (on u.maps (under-self u))

-- At the first place where a holder looks up a character, the script of a path to it leaves its modifier on, by the
-- fewest presses.
pub stuck-sticks : (u : Under) (es : Entries) (end : End) (j k : ℕ) → HasEnded u (start ∷ []) es end → IsStuck u es j k
    → AreSafe u es j → (h : List Event) → IsScriptTo u es j k h → LeavesOnUnder u h × HasFewestUnder u h
    × ReleasesPressedKeys h
stuck-sticks u es end j k ended (x, at, stuck) safe h is =
    let i : Modifier = stuck.0 in
    let r : IsReached u start es j x = reached-one ended.searched j x at in
    let script : h ≡ script_of_path u r.0 k = is r.0 x at r.1 r.3 in
    let left = sticks_if_reached u r.0 r.2 i k (subst (λ t. HolderForgets u t i k) (sym r.3) stuck.1) in
    let count : presses h ≡ suc x.1.presses = ap presses script ∙ presses-script u r.0 k ∙ ap suc r.4 in (
      subst (λ y. LeavesOnUnder u y) (sym script) (left.0, left.1, (i, left.2)),
      (λ g keys admitted l (quiet, on).
          let late : x.1.presses < presses g =
          sticks-late u x.1.presses (IsMetBy es)
          (safe-below u es x.1.presses (start-one ended.searched) (done-before u es end ended j x at)
          (below-fewer es (λ y. IsForgetful u (state_of y) → ⊥) ended.ordered j x at safe)) g keys admitted l quiet
          (on u.maps (under-self u)) in
          omega (arith, count, late)),
      subst ReleasesPressedKeys (sym script) (releases-script u r.0 r.2 k),
    )
