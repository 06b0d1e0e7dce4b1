-- A holder that looks up a character where a path leads leaves its modifier on; and what the events of a path are.
use Rattle.console_states.proofs.Common.{suc, ◌≡◌, ℕ, ◌<◌, ◌+◌, All, arith, Bool, true, false, ◌&&◌, not, List, [], ◌∷◌}
use Rattle.console_states.proofs.Common.{◌++◌, Option, Some, None, refl, ap, subst, sym, ◌∙◌, inl, inr, ◌==◌, eqb-true}
use Rattle.console_states.proofs.Common.{eq-eqb, cases_Bool, true≢false, false_from_ne_true, and_parts, not-true}
use Rattle.console_states.proofs.Common.{list_any, All-nil, All-cons, none-some, same_Some, same_action, same_modifier}
use Rattle.console_states.proofs.Common.{modifiers, same_action-true, same_action-refl, held, remembered}
use Rattle.console_states.proofs.Common.{is_this_action, PressedCharacter, ReleasedKey, Maps, resolved, is_on_after}
use Rattle.console_states.proofs.Common.{pressed, HasKey, HasKeys, IsQuiet, Under, State, Holds, IsMove, moved}
use Rattle.console_states.proofs.Common.{HolderForgets, state_after, IsPath, events_of_move, events_along, release_of}
use Rattle.console_states.proofs.Common.{releases, script_of_path, presses_of, presses_along, presses, IsSent}
use Rattle.console_states.proofs.Common.{NeverForgets, ReleasesPressedKeys, HoldsSome, Stands, Action, Modifier}
use Rattle.console_states.proofs.Common.{LeftShift, RightShift, LeftControl, RightControl, LeftAlt, RightAlt, AltShift}
use Rattle.console_states.proofs.Common.{Meta, Char, Event, Press, Release, Load, Move, Hold, Turn, Tap, LetGo}
use Rattle.console_states.proofs.Common.{Exchange}
use Rattle.console_states.proofs.Common.{rules, held-character, held-release, pressed-press, remembered-character}
use Rattle.console_states.proofs.Common.{resolved-more}
use Rattle.std.proofs.lemmas.Bool.{or_parts}
use Rattle.console_core.proofs.Shared.{pressed-release, pressed_if, remembered-pressed, remembered-release}
use Rattle.console_states.proofs.Following.{some_mods}
use Rattle.console_states.proofs.Sparing.{IsKeptBelow, IsSafeBelow, NeverIn, never-sticks}
use Rattle.console_states.proofs.Standing.{pressed-look, stands}
use Rattle.keymap_core.specs.declared.action.Action.TheVariants as act
use Rattle.keymap_core.specs.declared.action.Holding.TheVariants as holding

-- The modifier is on, and no key remembers it.
pub record IsLeft (ms : Maps) (h : List Event) (i : Modifier) : Type 0 where
  pub on : is_on_after ms i h ≡ true
  pub nobody : (k : ℕ) → remembered k (resolved ms h) ≡ Some (act.Mod i) → ⊥
  pub keys : HasKeys h

-- an option that isn't the action fails the test
is_not : (o : Option Action) (a : Action) → (o ≡ Some a → ⊥) → is_this_action o a ≡ false
is_not None a f = refl
is_not (Some b) a f = false_from_ne_true (same_action b a) (λ e. f (ap (λ x. Some x) (same_action-true b a e)))

-- a holder that looks up a character leaves its modifier on
left-character : (u : Under) (h : List Event) (s : State) (i : Modifier) (k : ℕ) → Stands u h s
    → HolderForgets u s i k → IsLeft u.maps (Press k ∷ h) i
left-character u h s i k x (holds, (c, (seen, may))) =
    let now : resolved u.maps (Press k ∷ h) ≡ PressedCharacter k c ∷ resolved u.maps h =
    pressed-look u h s k (Char c) x.exact.follows x.second seen in
    record {
      on = cc (now, held-character (holding.Mod i) k c (resolved u.maps h), x.exact.follows.on i, holds);
      nobody = λ n e. elim (cases_Bool (k == n)) [
        | inl t ↦ none-some (act.Mod i) (rw (now, remembered-character n k c (resolved u.maps h), t) at e)
        | inr t ↦
            let q : remembered n (resolved u.maps h) ≡ Some (act.Mod i) =
            rw (now, remembered-character n k c (resolved u.maps h), t) at e in
            let p : HoldsSome s n = x.exact.only n (act.Mod i) q in
            let same : p.0 ≡ i = some_mods p.0 i (sym (x.exact.follows.holds p.0 n p.1) ∙ q) in
            let key : k ≡ n = same_Some k n (sym holds ∙ ap (λ y. s.holder y) (sym same) ∙ p.1) in
            true≢false (sym (eq-eqb k n key) ∙ t)
      ];
      keys = All-cons HasKey (Press k) h (x.key i k holds) x.keys;
    }

-- what is on and isn't lowered stays on
kept_on : (x t : Bool) → x ≡ true → t ≡ false → (x && not t) ≡ true
kept_on x t e f = rw (e, f) refl

-- a release keeps a modifier on that is left so
left-release : (ms : Maps) (h : List Event) (i : Modifier) (k : ℕ) → k < 128 → IsLeft ms h i
    → IsLeft ms (Release k ∷ h) i
left-release ms h i k lt x =
    let now : resolved ms (Release k ∷ h) ≡ ReleasedKey k ∷ resolved ms h = resolved-more ms h (Release k) in
    record {
      on = rw (now, held-release (holding.Mod i) k (resolved ms h))
          (kept_on _ _ x.on (is_not (remembered k (resolved ms h)) (act.Mod i) (x.nobody k)));
      nobody = λ n e. elim (cases_Bool (k == n)) [
        | inl t ↦ none-some (act.Mod i) (rw (now, remembered-release n k (resolved ms h), t) at e)
        | inr t ↦ x.nobody n (rw (now, remembered-release n k (resolved ms h), t) at e)
      ];
      keys = All-cons HasKey (Release k) h lt x.keys;
    }

-- the release of a holder, if there is one, keeps it so
left_more : (ms : Maps) (h : List Event) (i : Modifier) (o : Option ℕ) → ((k : ℕ) → o ≡ Some k → k < 128)
    → IsLeft ms h i → IsLeft ms (release_of o ++ h) i
left_more ms h i None f x = x
left_more ms h i (Some k) f x = left-release ms h i k (f k refl) x

-- the release of a holder, if there is one, stands behind the others
pub apart : (o : Option ℕ) (g h : List Event) → (release_of o ++ g) ++ h ≡ release_of o ++ (g ++ h)
apart None g h = refl
apart (Some k) g h = refl

-- the releases of all holders keep it so
left-releases : (ms : Maps) (h : List Event) (s : State) (i : Modifier) (more : List Modifier)
    → ((j : Modifier) (k : ℕ) → Holds s k j → k < 128) → IsLeft ms h i → IsLeft ms (releases s more ++ h) i
left-releases ms h s i [] key x = x
left-releases ms h s i (j ∷ more) key x =
    search (rules, apart, left_more, left-releases ms h s i more key x)

-- after the releases no holder of those modifiers is pressed
abbrev HoldsNone : State → ℕ → List Modifier → Type 0
HoldsNone s k [] = Unit {0}
HoldsNone s k (i ∷ more) = (Holds s k i → ⊥) × HoldsNone s k more

-- a key that is pressed after the release of a holder isn't that holder
released_more : (k : ℕ) (h : List Event) (o : Option ℕ) → pressed k (release_of o ++ h) ≡ true
    → (o ≡ Some k → ⊥) × (pressed k h ≡ true)
released_more k h None p = ((λ e. none-some k e), p)
released_more k h (Some j) p = search (rules, cases_Bool, pressed-release, eq-eqb, same_Some)

-- a key that is pressed after the releases of all holders is none of them
released : (k : ℕ) (h : List Event) (s : State) (more : List Modifier) → pressed k (releases s more ++ h) ≡ true
    → HoldsNone s k more × (pressed k h ≡ true)
released k h s [] p = (tt, p)
released k h s (i ∷ more) p =
    let q : (Holds s k i → ⊥) × (pressed k (releases s more ++ h) ≡ true) =
    released_more k (releases s more ++ h) (s.holder i) (rw (apart (s.holder i) (releases s more) h) at p) in
    let rest : HoldsNone s k more × (pressed k h ≡ true) = released k h s more q.1 in
    ((q.0, rest.0), rest.1)

-- a key that is no holder of any modifier holds none
holds-none : (s : State) (k : ℕ) (i : Modifier) → HoldsNone s k modifiers → Holds s k i → ⊥
holds-none s k LeftShift n = n.0
holds-none s k RightShift n = n.1.0
holds-none s k LeftControl n = n.1.1.0
holds-none s k RightControl n = n.1.1.1.0
holds-none s k LeftAlt n = n.1.1.1.1.0
holds-none s k RightAlt n = n.1.1.1.1.1.0
holds-none s k AltShift n = n.1.1.1.1.1.1.0
holds-none s k Meta n = n.1.1.1.1.1.1.1.0

-- after the releases of all holders no key is pressed
quiet-after : (u : Under) (h : List Event) (s : State) (i : Modifier) (k : ℕ) → Stands u h s → Holds s k i
    → IsQuiet (releases s modifiers ++ (Press k ∷ h))
quiet-after u h s i k x holds n lt =
    false_from_ne_true (pressed n (releases s modifiers ++ (Press k ∷ h))) (λ p.
    let q : HoldsNone s n modifiers × (pressed n (Press k ∷ h) ≡ true) = released n (Press k ∷ h) s modifiers p in
    elim (cases_Bool (k == n)) [
      | inl t ↦ holds-none s n i q.0 (subst (λ y. Holds s y i) (eqb-true k n t) holds)
      | inr t ↦
          let w : HoldsSome s n = x.pressed n (rw (pressed-press n k h, t) at q.1) in
          holds-none s n w.0 q.0 w.1
    ])

-- presses, releases and, where there are any, loads
sent-release : (u : Under) (o : Option ℕ) (h : List Event) → All (IsSent u.has_loads) h
    → All (IsSent u.has_loads) (release_of o ++ h)
sent-release u None h x = x
sent-release u (Some k) h x = All-cons (IsSent u.has_loads) (Release k) h tt x

-- releases of holders are sent
sent-releases : (u : Under) (s : State) (more : List Modifier) (h : List Event) → All (IsSent u.has_loads) h
    → All (IsSent u.has_loads) (releases s more ++ h)
sent-releases u s [] h x = x
sent-releases u s (i ∷ more) h x = search (rules, apart, sent-release, sent-releases u s more h x)

-- the events of a move are sent
sent-move : (u : Under) (s : State) (move : Move) (h : List Event) → IsMove u s move → All (IsSent u.has_loads) h
    → All (IsSent u.has_loads) (events_of_move move ++ h)
sent-move u s (Hold k i) h is x = All-cons (IsSent u.has_loads) (Press k) h tt x
sent-move u s (Turn k l) h is x = search (rules, All-cons)
sent-move u s (Tap k) h is x = search (rules, All-cons)
sent-move u s (LetGo k i) h is x = All-cons (IsSent u.has_loads) (Release k) h tt x
sent-move u s Exchange h is x = All-cons (IsSent u.has_loads) Load h is.1 x

-- the events along a path are sent
sent-along : (u : Under) (path : List Move) → IsPath u path → All (IsSent u.has_loads) (events_along path)
sent-along u [] is = All-nil (IsSent u.has_loads)
sent-along u (move ∷ path) is =
    sent-move u (state_after u path) move (events_along path) is.0 (sent-along u path is.1)

-- how many presses the script has
presses-release : (o : Option ℕ) (h : List Event) → presses (release_of o ++ h) ≡ presses h
presses-release None h = refl
presses-release (Some k) h = refl

-- releases of holders have no presses
presses-releases : (s : State) (more : List Modifier) (h : List Event) → presses (releases s more ++ h) ≡ presses h
presses-releases s [] h = refl
presses-releases s (i ∷ more) h = search (rules, apart, presses-release, presses-releases s more h)

-- the events of a move have as many presses as the move
presses-move : (move : Move) (h : List Event) → presses (events_of_move move ++ h) ≡ presses h + presses_of move
presses-move (Hold k i) h = omega arith
presses-move _ h = omega arith

-- the events along a path have as many presses as the path
pub presses-along : (path : List Move) → presses (events_along path) ≡ presses_along path
presses-along [] = refl
presses-along (move ∷ path) = presses-move move (events_along path) ∙ ap (λ n. n + presses_of move) (presses-along path)

-- a script has one press more than its path
pub presses-script : (u : Under) (path : List Move) (k : ℕ)
    → presses (script_of_path u path k) ≡ suc (presses_along path)
presses-script u path k = search (rules, presses-releases, presses-along)

-- a holder is pressed
pub holder-pressed : (u : Under) (h : List Event) (s : State) (i : Modifier) (k : ℕ) → Stands u h s → Holds s k i
    → pressed k h ≡ true
holder-pressed u h s i k x holds = remembered-pressed u.maps h k (act.Mod i) (x.exact.follows.holds i k holds)

-- a key holds one modifier
one-held : (u : Under) (h : List Event) (s : State) (i j : Modifier) (k : ℕ) → Stands u h s → Holds s k i
    → Holds s k j → i ≡ j
one-held u h s i j k x a b =
    let e : Some (act.Mod i) ≡ Some (act.Mod j) = sym (x.exact.follows.holds i k a) ∙ x.exact.follows.holds j k b in cc

-- the events along a path release pressed keys
releases-along : (u : Under) (path : List Move) → IsPath u path → ReleasesPressedKeys (events_along path)
releases-along u [] is = tt
releases-along u (Hold k i ∷ path) is = (tt, releases-along u path is.1)
releases-along u (Turn k l ∷ path) is =
    (rw (pressed-press k k (events_along path), eq-eqb k k refl) refl, (tt, releases-along u path is.1))
releases-along u (Tap k ∷ path) is =
    (rw (pressed-press k k (events_along path), eq-eqb k k refl) refl, (tt, releases-along u path is.1))
releases-along u (LetGo k i ∷ path) is = (
  holder-pressed u (events_along path) (state_after u path) i k (stands u path is.1) is.0,
  releases-along u path is.1,
)
releases-along u (Exchange ∷ path) is = (tt, releases-along u path is.1)

-- a key that holds none of these modifiers stays pressed
pressed-still : (s : State) (k : ℕ) (more : List Modifier) (h : List Event) → HoldsNone s k more
    → pressed k h ≡ true → pressed k (releases s more ++ h) ≡ true
pressed-still s k [] h none p = p
pressed-still s k (i ∷ more) h (not_it, none) p =
    rw (apart (s.holder i) (releases s more) h)
    (go (s.holder i) not_it (pressed-still s k more h none p))
  where
    go : (o : Option ℕ) → (o ≡ Some k → ⊥) → pressed k (releases s more ++ h) ≡ true
        → pressed k (release_of o ++ (releases s more ++ h)) ≡ true
    go None f q = q
    go (Some j) f q = search (rules, false_from_ne_true, eqb-true, pressed-release)

-- no modifier stands twice in a list
abbrev pub all_differ : List Modifier → Bool
all_differ [] = true
all_differ (i ∷ more) = not (list_any (same_modifier i) more) && all_differ more

-- the holder of a modifier holds none of the others
holds-no_other : (u : Under) (h : List Event) (s : State) (i : Modifier) (k : ℕ) → Stands u h s → Holds s k i
    → (more : List Modifier) → list_any (same_modifier i) more ≡ false → HoldsNone s k more
holds-no_other u h s i k x holds [] differs = tt
holds-no_other u h s i k x holds (j ∷ more) differs =
    let parts = or_parts (same_modifier i j) (list_any (same_modifier i) more) differs in (
      (λ other.
          let same : same_modifier i j ≡ true =
          ap (λ m. same_modifier i m) (sym (one-held u h s i j k x holds other)) ∙ same_action-refl (act.Mod i) in
          true≢false (sym same ∙ parts.0)),
      holds-no_other u h s i k x holds more parts.1,
    )

-- the releases of the holders are of pressed keys, where the holders are pressed after g
pub releases-holders : (u : Under) (h : List Event) (s : State) → Stands u h s → (g : List Event)
    → ((i : Modifier) (k : ℕ) → Holds s k i → pressed k g ≡ true) → ReleasesPressedKeys g → (more : List Modifier)
    → all_differ more ≡ true → ReleasesPressedKeys (releases s more ++ g)
releases-holders u h s x g held ok [] differ = ok
releases-holders u h s x g held ok (i ∷ more) differ =
    rw (apart (s.holder i) (releases s more) g)
    (go (s.holder i) refl (releases-holders u h s x g held ok more parts.1))
  where
    parts : (not (list_any (same_modifier i) more) ≡ true) × (all_differ more ≡ true)
    parts = and_parts (not (list_any (same_modifier i) more)) (all_differ more) differ

    go : (o : Option ℕ) → s.holder i ≡ o → ReleasesPressedKeys (releases s more ++ g)
        → ReleasesPressedKeys (release_of o ++ (releases s more ++ g))
    go None e rest = rest
    go (Some k) e rest = (
      pressed-still s k more g
          (holds-no_other u h s i k x e more (not-true (list_any (same_modifier i) more) parts.0)) (held i k e),
      rest,
    )

-- the script of a path releases pressed keys
pub releases-script : (u : Under) (path : List Move) → IsPath u path → (k : ℕ)
    → ReleasesPressedKeys (script_of_path u path k)
releases-script u path is k =
    search (rules, releases-holders, stands, pressed-press, pressed_if, holder-pressed, releases-along)

-- the script to a state where a holder looks up a character leaves its modifier on
left-after : (u : Under) (path : List Move) → IsPath u path → (i : Modifier) (k : ℕ)
    → HolderForgets u (state_after u path) i k → IsLeft u.maps (script_of_path u path k) i
left-after u path is i k forgets =
    let x : Stands u (events_along path) (state_after u path) = stands u path is in
    left-releases u.maps (Press k ∷ events_along path) (state_after u path) i modifiers x.key
    (left-character u (events_along path) (state_after u path) i k x forgets)

-- a path to a state where a holder looks up a character makes a modifier stick
pub script-sticks : (u : Under) (path : List Move) → IsPath u path → (i : Modifier) (k : ℕ)
    → HolderForgets u (state_after u path) i k
    → HasKeys (script_of_path u path k) × All (IsSent u.has_loads) (script_of_path u path k)
    × (IsQuiet (script_of_path u path k) × (is_on_after u.maps i (script_of_path u path k) ≡ true))
script-sticks u path is i k forgets =
    let left : IsLeft u.maps (script_of_path u path k) i = left-after u path is i k forgets in (
      left.keys,
      sent-releases u (state_after u path) modifiers (Press k ∷ events_along path)
          (All-cons (IsSent u.has_loads) (Press k) (events_along path) tt (sent-along u path is)),
      (quiet-after u (events_along path) (state_after u path) i k (stands u path is) forgets.0, left.on),
    )

-- the states that paths lead to
abbrev pub Reached : Under → State → Type 0
Reached u s = (path : List Move) × IsPath u path × (state_after u path ≡ s)

-- a move from a state that is reached reaches the next
pub reached-more : (u : Under) (s : State) (move : Move) → Reached u s → IsMove u s move → Reached u (moved u s move)
reached-more u s move there is =
    (move ∷ there.0, (subst (λ x. IsMove u x move) (sym there.2) is, there.1), ap (λ x. moved u x move) there.2)

-- moves keep the states that are reached
pub reached-kept : (u : Under) (n : ℕ) → IsKeptBelow u n (λ p s. Reached u s)
reached-kept u n = search (rules, reached-more)

-- where no path leads to a holder that looks up a character, they are safe
pub reached-safe : (u : Under) → NeverForgets u → (n : ℕ) → IsSafeBelow u n (λ p s. Reached u s)
reached-safe u never n = search (rules, reached-kept)

-- without such a path no modifier ever sticks
pub never-unless_reached : (u : Under) → NeverForgets u → NeverIn u
never-unless_reached u never = never-sticks u (λ p s. Reached u s) (reached-safe u never)
