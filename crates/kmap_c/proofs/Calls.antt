-- What is said of numbers of events is what is said of the events.
use Rattle.kmap_c.proofs.Common.{suc, ◌≡◌, ℕ, ◌<◌, ◌≤◌, ◌==◌, Bool, true, false, List, [], ◌∷◌, ◌++◌, refl, ap, sym}
use Rattle.kmap_c.proofs.Common.{◌∙◌, subst, arith, map, reverse, map-append, Modifier, IsMap, MapValue, image, Event}
use Rattle.kmap_c.proofs.Common.{between, event_of, Holding, rules}
use Rattle.std.proofs.Common.{◌-◌, nat_le, not, ◌&&◌, ◌||◌, inl, inr, ◌⊎◌}
use Rattle.std.specs.Prelude.{if◌then◌else◌, All}
use Rattle.std.proofs.lemmas.Bool.{leb-true, leb-false, le-leb, ne_eqb}
use Rattle.std.proofs.lemmas.Bool.Decides.{nat_tests}
use Rattle.std.proofs.lemmas.List.{reverse-append}
use Rattle.std.proofs.lemmas.List.Elements.{All-cons, All-map, All-weaker}
use Rattle.keymap_core.specs.Bearers.{Bears, BearsThroughout}
use Rattle.console_core.specs.declared.event.Event.TheVariants.{Press, Release, Reset, Load}
use Rattle.console_core.specs.Headline.{IsSafe, HeadlineHolds, LockedByFreshPresses, is_fresh_press}
use Rattle.console_core.proofs.Shared.{pressed-load, pressed-press, pressed-release, pressed-reset}
use Rattle.console_core.proofs.Shared.{pressed-start}
use Rattle.console_core.specs.History.{IsNoLoad, HasNoLoads, is_load, is_second_in_force, HasKey, HasKeys, pressed}
use Rattle.console_core.specs.History.{is_on_after, is_locked_after}
use Rattle.console_core.specs.Positions.{count_where, is_odd}
use Rattle.keymap_core.specs.declared.action.Lock.{Lock}
use Rattle.kmap_c.specs.Calls.{AreTables, AreAccepted, is_down, is_exchanged, in_force_after, Has, IsHeldDown}
use Rattle.kmap_c.specs.Calls.{LoadsNoOther, IsBorneThroughout, fresh_presses}
use Rattle.keymap_core.specs.declared.action.Holding.TheVariants as holding

-- the event of a number, by the tests on it
abbrev event_by : Bool → Bool → Bool → ℕ → Event
event_by p q r n = if p then Press n else if q then Release (n - 128) else if r then Reset else Load

or_by : (b y : Bool) → (if b then true else y) ≡ (b || y)
or_by true y = refl
or_by false y = refl

and_by : (b y : Bool) → (if b then false else y) ≡ (not b && y)
and_by true y = refl
and_by false y = refl

down_by : (p q r : Bool) (k n : ℕ) (h : List Event)
    → pressed k (event_by p q r n ∷ h)
    ≡ (if p then (n == k) || pressed k h else if q then not ((n - 128) == k) && pressed k h else false)
down_by true q r k n h = pressed-press k n h ∙ or_by (n == k) (pressed k h)
down_by false true r k n h = pressed-release k (n - 128) h ∙ and_by ((n - 128) == k) (pressed k h)
down_by false false true k n h = pressed-reset k h
down_by false false false k n h = pressed-load k h

pub pressed_is_down : (k : ℕ) (numbers : List ℕ) → pressed k (map event_of numbers) ≡ is_down k numbers
pressed_is_down k [] = pressed-start k
pressed_is_down k (n ∷ before) =
    down_by (nat_le n 127) (nat_le n 255) (n == 256) k n (map event_of before) ∙ rw (pressed_is_down k before) refl

key_by : (p q r : Bool) (n : ℕ) → nat_le n 127 ≡ p → nat_le n 255 ≡ q → HasKey (event_by p q r n)
key_by true q r n low high = let few : n ≤ 127 = leb-true n 127 low in omega (arith, few)
key_by false true r n low high = let few : n ≤ 255 = leb-true n 255 high in omega (arith, few)
key_by false false true n low high = tt
key_by false false false n low high = tt

pub have_keys : (numbers : List ℕ) → HasKeys (map event_of numbers)
have_keys [] = λ i d lt. absurd (omega (arith, lt))
have_keys (n ∷ before) = search (rules, All-cons, key_by, nat_le, have_keys before)

-- an event is a load exactly where its number is above 256
load_by : (p q r : Bool) (n x : ℕ) (h : List Event)
    → is_odd (if is_load (event_by p q r n) h then suc x else x)
    ≡ (if p || (q || r) then is_odd x else not (is_odd x))
load_by true q r n x h = refl
load_by false true r n x h = refl
load_by false false true n x h = refl
load_by false false false n x h = refl

no_load : (n : ℕ) → nat_le n 256 ≡ (nat_le n 127 || (nat_le n 255 || (n == 256)))
no_load n = grind (arith, nat_tests)

pub exchanged_is_second : (numbers : List ℕ) → is_second_in_force (map event_of numbers) ≡ is_exchanged numbers
exchanged_is_second [] = refl
exchanged_is_second (n ∷ before) =
    search (rules, load_by, nat_le, no_load, exchanged_is_second before)

safe_in_force : (b : Bool) (m n : MapValue) → IsSafe m → IsSafe n → IsSafe (if b then n else m)
safe_in_force true m n s t = t
safe_in_force false m n s t = s

has_in_force : (b : Bool) (first second : List ℕ) (m n : MapValue) (k : ℕ) (i : Modifier) → IsMap m → IsMap n
    → first ≡ image m → second ≡ image n → Bears (if b then n else m) k (holding.Mod i)
    → Has (if b then second else first) k i
has_in_force true first second m n k i is_m is_n e f bears = (n, is_n, f, bears)
has_in_force false first second m n k i is_m is_n e f bears = (m, is_m, e, bears)

-- between accepted tables a modifier that is on is held down
pub held : HeadlineHolds → (first second numbers : List ℕ) (a : AreAccepted first) (b : AreAccepted second)
    (i : Modifier) → is_on_after (between a.0 b.0) i (map event_of numbers) ≡ true
    → IsHeldDown (in_force_after first second numbers) i numbers
held law first second numbers a b i on =
    let h : List Event = map event_of numbers in
    let second_is = exchanged_is_second numbers in
    let safe = safe_in_force (is_second_in_force h) a.0 b.0 a.3 b.3 in
    let some = (law (between a.0 b.0) h (have_keys numbers)).on_only_while_pressed safe i on in (
      some.0,
      some.1,
      sym (pressed_is_down some.0 numbers) ∙ some.3,
      subst (λ c. Has (if c then second else first) some.0 i) second_is
          (has_in_force (is_second_in_force h) first second a.0 b.0 some.0 i a.1 b.1 a.2 b.2 some.2),
    )

borne_in_force : (b : Bool) (first second : List ℕ) (m n : MapValue) (k : ℕ) (a : Holding) → IsMap m → IsMap n
    → first ≡ image m → second ≡ image n → IsBorneThroughout (if b then second else first) k a
    → BearsThroughout (if b then n else m) k a
borne_in_force true first second m n k a is_m is_n e f throughout = throughout n is_n f
borne_in_force false first second m n k a is_m is_n e f throughout = throughout m is_m e

-- a modifier that a key bears throughout is on exactly while this key is down
pub follows : HeadlineHolds → (first second numbers : List ℕ) (a : AreTables first) (b : AreTables second)
    (i : Modifier) (k : ℕ) → IsBorneThroughout (in_force_after first second numbers) k (holding.Mod i)
    → is_on_after (between a.0 b.0) i (map event_of numbers) ≡ is_down k numbers
follows law first second numbers a b i k throughout =
    let h : List Event = map event_of numbers in
    (law (between a.0 b.0) h (have_keys numbers)).on_exactly_while_pressed i k
    (borne_in_force (is_second_in_force h) first second a.0 b.0 k (holding.Mod i) a.1 b.1 a.2 b.2
    (rw (exchanged_is_second numbers) throughout))
    ∙ pressed_is_down k numbers

-- a press is fresh by its number where it is by its event
fresh_by : (p q r : Bool) (k n x : ℕ) (h : List Event) → k < 128 → nat_le n 127 ≡ p
    → (if is_fresh_press k (event_by p q r n) h then suc x else x)
    ≡ (if (n == k) && not (pressed k h) then suc x else x)
fresh_by true q r k n x h lt e = refl
fresh_by false q r k n x h lt e = search (rules, ne_eqb, leb-false)

fresh_presses_are : (k : ℕ) (numbers : List ℕ) → k < 128
    → count_where (is_fresh_press k) (map event_of numbers) ≡ fresh_presses k numbers
fresh_presses_are k [] lt = refl
fresh_presses_are k (n ∷ before) lt =
    search (rules, fresh_by, nat_le, pressed_is_down, fresh_presses_are k before lt)

-- a number that is no load's is that of no load
kept_by : (p q r : Bool) (n : ℕ) → (p || (q || r)) ≡ true → IsNoLoad (event_by p q r n)
kept_by true q r n e = refl
kept_by false true r n e = refl
kept_by false false true n e = refl
kept_by false false false n e = cc

no_loads : (numbers : List ℕ) → All (λ n. n ≤ 256) numbers → HasNoLoads (map event_of numbers)
no_loads numbers few =
    All-map IsNoLoad event_of numbers (All-weaker (λ n. n ≤ 256) (λ n. IsNoLoad (event_of n)) (λ n le.
    kept_by (nat_le n 127) (nat_le n 255) (n == 256) n (sym (no_load n) ∙ le-leb n 256 le)) numbers few)

-- a lock that a key bears throughout is on exactly after an odd number of its fresh presses
pub counts : LockedByFreshPresses → (first second numbers : List ℕ) (a : AreTables first) (b : AreTables second)
    (l : Lock) (k : ℕ) → LoadsNoOther first second numbers → IsBorneThroughout first k (holding.Lock l)
    → is_locked_after (between a.0 b.0) l (map event_of numbers) ≡ is_odd (fresh_presses k numbers)
counts law first second numbers a b l k loads throughout =
    let borne = throughout a.0 a.1 a.2 in
    let alike : HasNoLoads (map event_of numbers) ⊎ BearsThroughout b.0 k (holding.Lock l) =
    elim loads [
      | inl same ↦ inr (throughout b.0 b.1 (sym same ∙ b.2))
      | inr few ↦ inl (no_loads numbers few)
    ] in
    law (between a.0 b.0) (map event_of numbers) (have_keys numbers) l k borne alike
    ∙ ap is_odd (fresh_presses_are k numbers borne.0)

map-reverse : (xs : List ℕ) → map event_of (reverse xs) ≡ reverse (map event_of xs)
map-reverse [] = refl
map-reverse (x ∷ xs) =
    ap (map event_of) (reverse-append (x ∷ []) xs) ∙ map-append event_of (reverse xs) (x ∷ [])
    ∙ ap (λ ys. ys ++ event_of x ∷ []) (map-reverse xs) ∙ sym (reverse-append (event_of x ∷ []) (map event_of xs))

-- the events of some calls and of one more
pub delivered : (events numbers : List ℕ)
    → reverse (map event_of events) ++ map event_of numbers ≡ map event_of (reverse events ++ numbers)
delivered events numbers = search (rules, map-reverse, map-append)
