-- The scripts that are tried: each is that of a key and two sets, and presses and releases keys.
use Rattle.keymap_check.proofs.Common.{zero, suc, ◌≡◌, ℕ, ◌<◌, Bool, true, false, List, [], ◌∷◌, Option, Some, None}
use Rattle.keymap_check.proofs.Common.{refl, if◌then◌else◌, find, reverse, All, All-append, All-nil, lit<, rules}
use Rattle.keymap_check.proofs.Common.{MapValue, Event, Press, Release, HasKey, gathered, findings_at, first_below-some}
use Rattle.keymap_check.proofs.Common.{is_other, bears_group, bit_key, bit_keys, key_at, event_if, event_at, events_of}
use Rattle.keymap_check.proofs.Common.{is_chosen, lacks_key, script, scripts_of, scripts_with, has_some, tried_at}
use Rattle.keymap_check.proofs.Common.{tried, leaves_modifier_on, demonstration_of}
use Rattle.std.proofs.lemmas.List.Elements.{All-from_recursion, All-weaker}
use Rattle.keymap_core.proofs.Shared.{All-reversed}
use Rattle.console_core.specs.History.{HasKeys}
use Rattle.keymap_check.specs.Shown.{IsPressOrRelease}
use Rattle.keymap_check.proofs.Firsts.{found-in, none-each}

-- ---- which they are

-- what is found in a list is not found in the empty one
found-if : {A : Type 0} (test : A → Bool) (t : Bool) (xs : List A) (s : A)
    → find test (if t then xs else []) ≡ Some s → find test xs ≡ Some s
found-if test true xs s e = e
found-if test false xs s e = cc

found-unless : {A : Type 0} (test : A → Bool) (t : Bool) (xs : List A) (s : A)
    → find test (if t then [] else xs) ≡ Some s → find test xs ≡ Some s
found-unless test true xs s e = cc
found-unless test false xs s e = e

-- what is found in a list of one is that
found-one : {A : Type 0} (t : Bool) (x s : A) → (if t then Some x else None) ≡ Some s → x ≡ s
found-one true x s e = cc
found-one false x s e = cc

-- what holds of each script of a key and two sets holds of the one that is given
pub given-holds : (m : MapValue) (test : List Event → Bool) (s : List Event) (P : List Event → Type 0)
    → ((k a b : ℕ) → k < 128 → P (script (bit_keys m k) k a b)) → find test (tried m) ≡ Some s → P s
given-holds m test s P each e = search (rules, found-in, found-if, found-unless, found-one)

-- no key is lacking for the empty set
pub alone-complete : (keys : List (Option ℕ)) → lacks_key keys 0 ≡ false
unfolding lacks_key
alone-complete keys = refl

-- an element that isn't found fails the test
alone_none : {A : Type 0} (t : Bool) (x : A) → (if t then Some x else None) ≡ None → t ≡ false
alone_none true x e = cc
alone_none false x e = refl

-- where no demonstration is found, no script that is complete leaves a modifier on
pub tried-none : (m : MapValue) (k b : ℕ) → k < 128 → b < 16 → has_some (findings_at m k) ≡ true
    → lacks_key (bit_keys m k) b ≡ false → demonstration_of m ≡ None
    → leaves_modifier_on m (script (bit_keys m k) k 0 b) ≡ false
tried-none m k b lt le some lacks e =
    let test = leaves_modifier_on m in
    let keys = bit_keys m k in
    let key = rw some at (none-each test (tried_at m) k 128 lt e) in
    let first = rw (alone-complete keys) at (none-each test (scripts_with keys k) 0 16 (lit< tt) key) in
    alone_none _ (script keys k 0 b) (rw lacks at (none-each test (scripts_of keys k 0) b 16 le first))

-- ---- their events

-- the keys of a script are keys
abbrev pub AreKeys : List (Option ℕ) → Type 0
AreKeys keys = (i j : ℕ) → key_at keys i ≡ Some j → j < 128

-- the key of a bit is a key
bit_key-key : (m : MapValue) (k i j : ℕ) → bit_key m k i ≡ Some j → j < 128
unfolding bit_key
bit_key-key m k i j e = (first_below-some (is_other (bears_group m i) k) 128 j e).0

-- the keys of the bits are keys
bit_keys-keys : (m : MapValue) (k : ℕ) → AreKeys (bit_keys m k)
bit_keys-keys m k zero j e = bit_key-key m k 0 j e
bit_keys-keys m k (suc zero) j e = bit_key-key m k 1 j e
bit_keys-keys m k (suc (suc zero)) j e = bit_key-key m k 2 j e
bit_keys-keys m k (suc (suc (suc zero))) j e = bit_key-key m k 3 j e
bit_keys-keys m k (suc (suc (suc (suc i)))) j e = cc

-- a press or a release of a key
abbrev pub IsKeyEvent : Event → Type 0
IsKeyEvent e = HasKey e × IsPressOrRelease e

by_key : (p : Bool) (k : ℕ) → k < 128 → IsKeyEvent (if p then Press k else Release k)
by_key true k lt = (lt, tt)
by_key false k lt = (lt, tt)

-- an optional event under a condition
by_keys-if : (p t : Bool) (o : Option ℕ) → ((j : ℕ) → o ≡ Some j → j < 128)
    → All IsKeyEvent (if t then event_if p o else [])
by_keys-if p true (Some k) f =
    All-from_recursion IsKeyEvent ((if p then Press k else Release k) ∷ []) (by_key p k (f k refl), tt)
by_keys-if p true None f = All-nil IsKeyEvent
by_keys-if p false o f = All-nil IsKeyEvent

-- the events of a set
by_keys-set : (p : Bool) (keys : List (Option ℕ)) (s e n : ℕ) → AreKeys keys
    → All IsKeyEvent (gathered (event_at p keys s e) n)
unfolding gathered
by_keys-set p keys s e zero f = All-nil IsKeyEvent
by_keys-set p keys s e (suc n) f =
    All-append IsKeyEvent (gathered (event_at p keys s e) n) (event_at p keys s e n) (by_keys-set p keys s e n f)
    (by_keys-if p (is_chosen s e n) (key_at keys n) (f n))

-- the events of a script
pub by_keys-script : (m : MapValue) (k a b : ℕ) → k < 128 → All IsKeyEvent (script (bit_keys m k) k a b)
by_keys-script m k a b lt =
    let keys = bit_keys m k in
    let of_set = λ (p : Bool) (s e : ℕ). by_keys-set p keys s e 4 (bit_keys-keys m k) in
    let start = All-append IsKeyEvent (events_of true keys a 0) (Press k ∷ []) (of_set true a 0)
    (All-from_recursion IsKeyEvent (Press k ∷ []) ((lt, tt), tt)) in
    let exchanged = All-append IsKeyEvent _ (events_of true keys b a)
    (All-append IsKeyEvent _ (events_of false keys a b) start (of_set false a b)) (of_set true b a) in
    let tapped = All-append IsKeyEvent _ (Press k ∷ Release k ∷ []) exchanged
    (All-from_recursion IsKeyEvent (Press k ∷ Release k ∷ []) ((lt, tt), ((lt, tt), tt))) in
    All-append IsKeyEvent _ (events_of false keys b 0) tapped (of_set false b 0)

-- the events of a script, newest first, are of keys
pub script-keys : (m : MapValue) (k a b : ℕ) → k < 128 → HasKeys (reverse (script (bit_keys m k) k a b))
script-keys m k a b lt =
    All-reversed HasKey (script (bit_keys m k) k a b)
    (All-weaker IsKeyEvent HasKey (λ _ is. is.0) (script (bit_keys m k) k a b) (by_keys-script m k a b lt))
