-- What is left of a script once modifiers are off, and its events with the newest first.
use Rattle.keymap_check.proofs.Common.{zero, suc, ◌≡◌, ℕ, ◌+◌, Bool, true, false, List, [], ◌∷◌, ◌++◌, Option, Some}
use Rattle.keymap_check.proofs.Common.{None, sym, ◌∙◌, if◌then◌else◌, reverse, append-nil, key_at, Modifier, Event}
use Rattle.keymap_check.proofs.Common.{Press, Release, gathered, gathered-more, no-modifiers, Maps, is_on_after, rules}
use Rattle.keymap_check.proofs.Common.{is_any_on_after, event_if, event_at, is_chosen, events_of, script}
use Rattle.std.proofs.lemmas.Bool.{and_left}
use Rattle.std.proofs.lemmas.List.{reverse-append}
use Rattle.keymap_core.proofs.Shared.{no-modifier}
use Rattle.console_core.proofs.Shared.{held-release, resolved-more, reverse-push}
use Rattle.keymap_check.specs.Scripts.{start_of}

-- the events of a script, the newest first
pub played : (keys : List (Option ℕ)) (k a b : ℕ)
    → reverse (script keys k a b)
    ≡ reverse (events_of false keys b 0)
    ++ (Release k ∷ Press k ∷ (reverse (events_of true keys b a)
    ++ (reverse (events_of false keys a b) ++ reverse (start_of keys k a))))
played keys k a b = search (rules, reverse-append)

-- the presses so far, newest first
pub start_played : (keys : List (Option ℕ)) (k a : ℕ)
    → Press k ∷ (reverse (events_of true keys a 0) ++ []) ≡ reverse (start_of keys k a)
start_played keys k a =
    sym (reverse-push (Press k) (events_of true keys a 0) []) ∙ append-nil (reverse (start_of keys k a))

-- a further bit that gives an event
pub one_more : (f : ℕ → List Event) (n : ℕ) (e : Event) (h : List Event) → f n ≡ e ∷ []
    → e ∷ (reverse (gathered f n) ++ h) ≡ reverse (gathered f (n + 1)) ++ h
one_more f n e h is = search (rules, gathered-more, reverse-push)

-- a further bit that gives no event
pub none_more : (f : ℕ → List Event) (n : ℕ) (h : List Event) → f n ≡ []
    → reverse (gathered f n) ++ h ≡ reverse (gathered f (n + 1)) ++ h
none_more f n h is = search (rules, gathered-more, append-nil)

-- a release turns no modifier on
stays-off : (ms : Maps) (h : List Event) (j : ℕ) (i : Modifier) → is_on_after ms i h ≡ false
    → is_on_after ms i (Release j ∷ h) ≡ false
stays-off ms h j i e = search (rules, resolved-more, held-release, and_left)

-- a release leaves all modifiers off
pub released : (ms : Maps) (h : List Event) (j : ℕ) → is_any_on_after ms h ≡ false
    → is_any_on_after ms (Release j ∷ h) ≡ false
released ms h j e = search (rules, no-modifiers, stays-off, no-modifier)

-- releases of the keys of a set leave all modifiers off
one_release : (ms : Maps) (xs h : List Event) (t : Bool) (o : Option ℕ) → is_any_on_after ms (reverse xs ++ h) ≡ false
    → is_any_on_after ms (reverse (xs ++ (if t then event_if false o else [])) ++ h) ≡ false
one_release ms xs h true None e = rw append-nil e
one_release ms xs h true (Some j) e = rw (reverse-push (Release j) xs h) (released ms (reverse xs ++ h) j e)
one_release ms xs h false o e = rw append-nil e

-- the releases of the bits below n leave all modifiers off
releases_below : (ms : Maps) (h : List Event) (keys : List (Option ℕ)) (set except n : ℕ) → is_any_on_after ms h ≡ false
    → is_any_on_after ms (reverse (gathered (event_at false keys set except) n) ++ h) ≡ false
unfolding gathered
releases_below ms h keys set except zero e = e
releases_below ms h keys set except (suc n) e =
    one_release ms (gathered (event_at false keys set except) n) h (is_chosen set except n) (key_at keys n)
    (releases_below ms h keys set except n e)

-- the releases of a set leave all modifiers off
pub stays_off : (ms : Maps) (h : List Event) (keys : List (Option ℕ)) (set except : ℕ) → is_any_on_after ms h ≡ false
    → is_any_on_after ms (reverse (events_of false keys set except) ++ h) ≡ false
stays_off ms h keys set except e = releases_below ms h keys set except 4 e
