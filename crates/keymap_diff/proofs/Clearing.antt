-- What a search met tells of all paths: where a press shows nothing in what it met, none does where fewer presses lead
-- than to where something shows or the search gave up.
use Rattle.std.proofs.Common.{rules}
use Rattle.keymap_diff.proofs.Common.{◌≡◌, ℕ, ◌+◌, ◌<◌, ◌≤◌, true, inl, inr, [], ◌∷◌, length, slice_get, Option, Some}
use Rattle.keymap_diff.proofs.Common.{None, subst, sym, arith, cases_lt, slice_get_within, MapValue, usable, End}
use Rattle.keymap_diff.proofs.Common.{TooMany, Complete, start, state_of, Entry, Entries, AreDone, HasEnded, NoneShows}
use Rattle.keymap_diff.proofs.Common.{AreClear, IfSome, State, Under, alone_minding}
use Rattle.keymap_diff.proofs.Minding.{unusable-clear}
use Rattle.keymap_diff.specs.Inner.Searches.{IsNearest, IsNearestBelow, IsReach, IsSearched, IsWithin}
use Rattle.keymap_diff.specs.Inner.Showing.{IsFirstShown}
use Rattle.keymap_diff.specs.declared.searched.Searched.{Searched}
use Rattle.console_states.specs.declared.look.KeyAt.{KeyAt}
use Rattle.console_states.specs.Searching.{AreOrdered}
use Rattle.console_states.proofs.Shared.{all-done, below-fewer, holds-nearer, place_last, start-one}

-- the place where something shows
pub shown-place : (m n : MapValue) (p : Option ℕ) (es : Entries) (shown : Option KeyAt) → IsFirstShown m n p es shown
    → (at : KeyAt) → shown ≡ Some at → at.place < length es
shown-place m n p es shown s at e = search (rules, slice_get_within)

-- what a search from the start found
pub searched-from : (m n : MapValue) (u : Under) (s : State) (x : Searched) → u ≡ alone_minding m x.minded → s ≡ start
    → (end : End) → HasEnded u (s ∷ []) x.met.entries end → IsReach x.met.entries end x.shown x.reach
    → IsFirstShown m n x.minded x.met.entries x.shown → IsSearched m n x
searched-from m n u s x is from end ended reach shown = search rules

-- within the reach all is done
pub reach-done : (m : MapValue) (p : Option ℕ) (es : Entries) (end : End) (shown : Option KeyAt) (reach : Option ℕ)
    → HasEnded (alone_minding m p) (start ∷ []) es end → IsReach es end shown reach → (b : ℕ) → IsWithin b reach
    → AreDone (alone_minding m p) es b
reach-done m p es Complete shown reach ended is b within = all-done (alone_minding m p) es ended.is.0 b
reach-done m p es (TooMany q) None reach ended same b within = search rules
reach-done m p es (TooMany q) (Some shown) reach ended (r, same, (x, at, e)) b within = search rules

-- and in what was met by fewer presses no key shows anything
reach-none : (m n : MapValue) (p : Option ℕ) (es : Entries) (end : End) (shown : Option KeyAt) (reach : Option ℕ)
    → AreOrdered es → IsReach es end shown reach → IsFirstShown m n p es shown → (b : ℕ) → IsWithin b reach → (j : ℕ)
    (x : Entry) → slice_get es j ≡ Some x → x.1.presses < b → NoneShows m n p (state_of x.0)
reach-none m n p es end None reach ordered is look b within j x at lt = look.is j x at (slice_get_within es j x at)
reach-none m n p es end (Some shown) reach ordered (q, same, (y, there, e)) look b within j x at lt =
    search (rules, below-fewer)

-- so none does where fewer presses lead
pub searched-clear : (m n : MapValue) (x : Searched) → IsSearched m n x → (b : ℕ) → IsWithin b x.reach
    → AreClear m n x.minded b
searched-clear m n x s b within =
    holds-nearer (alone_minding m x.minded) x.met.entries b
    (reach-done m x.minded x.met.entries s.end x.shown x.reach s.ended s.reach b within) (NoneShows m n x.minded)
    (reach-none m n x.minded x.met.entries s.end x.shown x.reach s.ended.ordered s.reach s.shown b within) start
    (start-one s.ended.searched)

-- ---- the nearest

-- the search that minds no accent, before others are counted in
pub nearest-first : (m n : MapValue) (x : Searched) → IsSearched m n x → x.minded ≡ None → IsNearestBelow m n 0 x
nearest-first m n x s none = search (rules, searched-clear)

-- one accent more
pub nearest-more : (m n : MapValue) (i : ℕ) (x y : Searched) → IsNearestBelow m n i x → IsSearched m n y
    → ((b : ℕ) → IsWithin b y.reach → IsWithin b x.reach × AreClear m n (Some i) b) → IsNearestBelow m n (i + 1) y
nearest-more m n i x y before s more = (s, by)
  where
    by : (p : Option ℕ) → IfSome p (λ j. j < i + 1) → (b : ℕ) → IsWithin b y.reach → AreClear m n p b
    by None below b within = before.1 None tt b (more b within).0
    by (Some j) below b within = elim (place_last j i below) [
      | inl lt ↦ before.1 (Some j) lt b (more b within).0
      | inr e ↦ subst (λ z. AreClear m n (Some z) b) (sym e) (more b within).1
    ]

-- an accent past the last one can't be used
past-unusable : (m : MapValue) (i : ℕ) → length m.accents ≤ i → usable m i ≡ true → ⊥
past-unusable m i past is = search (rules, slice_get_within)

-- all accents that the map has
pub nearest-all : (m n : MapValue) (k : ℕ) (x : Searched) → length m.accents ≤ k → IsNearestBelow m n k x
    → IsNearest m n x
nearest-all m n k x all before = (before.0, by)
  where
    by : (p : Option ℕ) (b : ℕ) → IsWithin b x.reach → AreClear m n p b
    by None b within = before.1 None tt b within
    by (Some i) b within = elim (cases_lt i k) [
      | inl lt ↦ before.1 (Some i) lt b within
      | inr past ↦ unusable-clear m n i b (past-unusable m i (omega (arith, past, all)))
    ]
