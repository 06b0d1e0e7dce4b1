-- The presses that ways of a class are made of, by their tables.
use Rattle.std.proofs.Common.{rules}
use Rattle.console_scripts.proofs.Common.{◌≡◌, ◌≢◌, ◌<◌, ◌+◌, ◌==◌, ℕ, Bool, true, false, ◌&&◌, not, List, length}
use Rattle.console_scripts.proofs.Common.{get_or}
use Rattle.console_scripts.proofs.Common.{refl, arith, eqb-true, false_from_ne_true, key_count}
use Rattle.console_scripts.proofs.Common.{Action}
use Rattle.console_scripts.proofs.Common.{Char, Act, place_last, Modifier, Meta, AltShift, LeftAlt, LeftControl}
use Rattle.console_scripts.proofs.Common.{LeftShift, RightAlt, RightControl, RightShift, Caps, Num, Scroll, Alt}
use Rattle.std.proofs.lemmas.List.{get_or-set_same, get_or-set_other}
use Rattle.std.specs.Prelude.{◌||◌, set, slice_index_or}
use Rattle.keyboard.specs.declared.board.Board.{Board}
use Rattle.keymap_core.specs.Actions.{IsAction, code_of}
use Rattle.keymap_core.specs.declared.action.Action.TheVariants as act
use Rattle.console_states.specs.Allowed.{is_key_pressed}
use Rattle.console_states.specs.declared.allowed.KeyPresses.TheVariants.{Never}
use Rattle.console_states.specs.declared.allowed.Presses.{Presses}
use Rattle.console_scripts.specs.Types.{Selection}
use Rattle.console_scripts.specs.declared.classes.Class.{Class}
use Rattle.console_scripts.specs.declared.classes.Spared.{Spared}
use Rattle.console_scripts.specs.Ways.{is_lock}
use Rattle.console_scripts.specs.Inner.Courses.{ArePresses, has_lock_code, presses_always, presses_code_in}
use Rattle.console_scripts.specs.Inner.Courses.{takes_key}

-- an array is filled up to one place more
pub filled-below : {X : Type 0} (f : ℕ → X) (xs : List X) (d : X) (n : ℕ) (v : X) → v ≡ f n → n < length xs
    → ((k : ℕ) → k < n → get_or xs k d ≡ f k)
    → (k : ℕ) → k < n + 1 → get_or (set xs n v) k d ≡ f k
filled-below f xs d n v is within below k lt =
    search (rules, place_last, get_or-set_other, get_or-set_same)

-- ---- codes

differs : (n k : ℕ) → n ≢ k → (n == k) ≡ false
differs n k other = false_from_ne_true (n == k) (λ t. other (eqb-true n k t))

other-code : (n : ℕ) → n ≢ 4 → n ≢ 5 → n ≢ 6 → n ≢ 130 → has_lock_code n ≡ false
other-code n a b c d = rw (differs n 4 a, differs n 5 b, differs n 6 c, differs n 130 d) refl

-- locks have the codes of locks, and no other action of the table has one
pub lock-code : (a : Action) → IsAction a → has_lock_code (code_of a) ≡ is_lock (Act a)
lock-code (act.Screen n) is = search (rules, other-code)
lock-code (act.Function n) is = search (rules, other-code)
lock-code (act.DeadKey i) is = search (rules, other-code)
lock-code (act.Mod LeftShift) is = refl
lock-code (act.Mod RightShift) is = refl
lock-code (act.Mod LeftControl) is = refl
lock-code (act.Mod RightControl) is = refl
lock-code (act.Mod LeftAlt) is = refl
lock-code (act.Mod RightAlt) is = refl
lock-code (act.Mod AltShift) is = refl
lock-code (act.Mod Meta) is = refl
lock-code (act.Lock Caps) is = refl
lock-code (act.Lock Num) is = refl
lock-code (act.Lock Scroll) is = refl
lock-code (act.Lock Alt) is = refl
lock-code _ is = refl

modifier-below : (i : Modifier) → code_of (act.Mod i) < 256
modifier-below LeftShift = omega arith
modifier-below _ = omega arith

code-below : (a : Action) → IsAction a → code_of a < 256
code-below (act.Screen n) is = omega (arith, is)
code-below (act.Function n) is = omega (arith, is)
code-below (act.DeadKey i) is = omega (arith, is)
code-below (act.Mod i) is = modifier-below i
code-below (act.Lock Caps) is = omega arith
code-below (act.Lock Num) is = omega arith
code-below (act.Lock Scroll) is = omega arith
code-below (act.Lock Alt) is = omega arith
code-below _ is = omega arith

-- ---- presses

pressed-as : (t : Bool) (y : Selection) → is_key_pressed (presses_always t) y ≡ t
pressed-as true y = refl
pressed-as false y = refl

character-as : (q l r : Bool) → (q && not r) ≡ ((q && (l || true)) && not r)
character-as true true r = refl
character-as true false r = refl
character-as false l r = refl

action-as : (q e r : Bool) → (e && (q && not r)) ≡ ((q && e) && not r)
action-as true true r = refl
action-as true false r = refl
action-as false true r = refl
action-as false false r = refl

pub presses-are : (b : Board) (w : Class) (sp : Spared) (p : Presses)
    → ((k : ℕ) → k < key_count → slice_index_or p.keys k Never ≡ presses_always (takes_key b w sp k))
    → ((c : ℕ) → c < 256 → slice_index_or p.actions c false ≡ presses_code_in w c)
    → ArePresses b w sp p
presses-are b w sp p keys actions y k (Char c) lt is = search (rules, pressed-as, character-as)
presses-are b w sp p keys actions y k (Act a) lt is =
    search (rules, pressed-as, code-below, lock-code, action-as)
