-- What writing parts of what a console keeps leaves, after a release and after a load.
use Rattle.console_core.proofs.Common.{cases_Bool, ◌≡◌, ℕ, Bool, true, false, ◌&&◌, not, None, Some}
use Rattle.console_core.proofs.Common.{refl, ap, if◌then◌else◌, eqb-true, fun_ext, Action, Holding}
use Rattle.console_core.proofs.Common.{Lock, Caps, Num, Scroll, Alt, holding_of, rules}
use Rattle.console_core.proofs.Common.{is_borne, MapValue, Kept, after_release, after_reset, after_load}
use Rattle.console_core.specs.Inner.Kept.{with_mark, with_memory, with_released, with_lock_borne, exchanged}
use Rattle.console_core.proofs.Places.{holding_of-some, same_place}
use Rattle.keymap_core.specs.declared.action.Holding.TheVariants as holding

-- what is kept is known by its parts
pub kept-same : (j k : Kept) → ((a : Holding) → j.mark a ≡ k.mark a) → ((l : Lock) → j.lock l ≡ k.lock l)
    → ((i : ℕ) → j.memory i ≡ k.memory i) → j.pending ≡ k.pending → j.is_second ≡ k.is_second → j ≡ k
kept-same j k marks locks memory pending second = search (rules, fun_ext)

-- what is kept is the same where all marks are
same-marks : (k : Kept) (f g : Holding → Bool) → ((a : Holding) → f a ≡ g a)
    → record k { mark = f } ≡ record k { mark = g }
same-marks k f g same = let e : f ≡ g = fun_ext same in ap (λ x. record k { mark = x }) e

-- what is kept is the same where all locks are
same-locks : (k : Kept) (f g : Lock → Bool) → ((l : Lock) → f l ≡ g l) → record k { lock = f } ≡ record k { lock = g }
same-locks k f g same = let e : f ≡ g = fun_ext same in ap (λ x. record k { lock = x }) e

pub cleared : (t x : Bool) → (if t then false else x) ≡ (x && not t)
cleared true true = refl
cleared true false = refl
cleared false true = refl
cleared false false = refl

-- to clear the mark of a holding action is to release it
pub released-cleared : (k : Kept) (b : Action) (a : Holding) → holding_of b ≡ Some a
    → with_mark a false k ≡ with_released b k
released-cleared k b a e = search (rules, holding_of-some, same-marks, same_place, cleared)

-- each lock in turn, after a load
all_borne : (m : MapValue) (k : Kept) (l : Lock)
    → (with_lock_borne m Alt (with_lock_borne m Scroll (with_lock_borne m Num (with_lock_borne m Caps k)))).lock l
    ≡ (is_borne m (holding.Lock l) && k.lock l)
all_borne m k Caps = refl
all_borne m k _ = refl

-- to exchange the maps, and clear the locks that nobody bears, is to load
pub loaded-kept : (m : MapValue) (k : Kept)
    → with_lock_borne m Alt (with_lock_borne m Scroll
    (with_lock_borne m Num (with_lock_borne m Caps (exchanged (after_reset k)))))
    ≡ after_load m k
loaded-kept m k = same-locks (exchanged (after_reset k)) _ _ (λ l. all_borne m (exchanged (after_reset k)) l)

and_kept : (x : Bool) → x ≡ (x && true)
and_kept true = refl
and_kept false = refl

-- a release of a key for which nothing is remembered
pub idle-released : (k : Kept) (key : ℕ) → k.memory key ≡ None → k ≡ after_release key k
idle-released k key none = search (rules, kept-same, and_kept, cases_Bool, eqb-true)

-- a release of a key for which the action is remembered
pub held-released : (k : Kept) (key : ℕ) (held : Action) → k.memory key ≡ Some held
    → with_released held (with_memory key None k) ≡ after_release key k
held-released k key held is = search (rules, same-marks)

pub ruleset keeping = (loaded-kept, idle-released, held-released)
