-- The keys whose presses can show a difference: where none of these shows it, no key does.
use Rattle.std.proofs.Common.{rules}
use Rattle.keymap_diff.proofs.Common.{◌≡◌, ℕ, ◌+◌, ◌<◌, Bool, true, false, inl, inr, List, Option, Some, None}
use Rattle.keymap_diff.proofs.Common.{subst, ◌∙◌, length, Cell, MapValue, State, NoneShows, ShowsNothing, look_selected}
use Rattle.keymap_diff.proofs.Common.{looked_up, MatchOption, option_or, sym}
use Rattle.std.proofs.Common.{get_or}
use Rattle.console_core.proofs.Shared.{column_of-lt}
use Rattle.console_core.specs.Columns.{slot_of}
use Rattle.std.proofs.lemmas.List.{get_or_default}
use Rattle.console_states.specs.Sights.{selection_of, slot_in}
use Rattle.console_states.specs.declared.selection.Selection.{Selection}
use Rattle.keymap_diff.specs.Inner.Showing.{AreShowing, AreSlotsAlike, IsClear, IsSlotClear}

-- what holds of the cells of each column holds of what is looked up
pub looks-alike : (R : Cell → Cell → Type 0) (m n : MapValue) (y : Selection) (k : ℕ)
    → AreSlotsAlike R m n (slot_in y k) → R (look_selected m y k) (look_selected n y k)
looks-alike R m n y k (flags, cells) = search (rules, column_of-lt)

-- a press shows nothing where what it looks up is clear
clear-shows : (m n : MapValue) (p : Option ℕ) (s : State) (k : ℕ) → IsClear m n p (looked_up m s k) (looked_up n s k)
    → ShowsNothing m n p s k
clear-shows m n None s k clear = inl clear
clear-shows m n (Some i) s k clear = search rules

-- the two slots of a key
either-slot : (m n : MapValue) (p : Option ℕ) (k a b : ℕ) → a ≡ k → b ≡ k → IsSlotClear m n p a
    → IsSlotClear m n p (b + 128) → (upper : Bool) → IsSlotClear m n p (slot_of k upper)
either-slot m n p k a b e f low high false = subst (λ slot. IsSlotClear m n p slot) e low
either-slot m n p k a b e f low high true = subst (λ slot. IsSlotClear m n p (slot + 128)) f high

-- a key whose slots are clear shows nothing in any state
pub slots-clear : (m n : MapValue) (p : Option ℕ) (k a b : ℕ) → a ≡ k → b ≡ k → IsSlotClear m n p a
    → IsSlotClear m n p (b + 128) → (s : State) → ShowsNothing m n p s k
slots-clear m n p k a b e f low high s =
    clear-shows m n p s k
    (looks-alike (IsClear m n p) m n (selection_of s) k (either-slot m n p k a b e f low high (selection_of s).upper))

-- where none of the keys shows anything, none at all does
pub none-of : (m n : MapValue) (p : Option ℕ) (keys : List ℕ) (s : State) → AreShowing m n p keys 128
    → ((j : ℕ) → j < length keys → ShowsNothing m n p s (get_or keys j 0)) → NoneShows m n p s
none-of m n p keys s (has, below) none k lt = elim (has k lt) [
  | inl (j, there, e) ↦ subst (λ q. ShowsNothing m n p s q) (get_or_default keys j 0 k there ∙ e) (none j there)
  | inr nothing ↦ nothing s
]

-- what was found so far, where none was by more
pub more-none : {X : Type 0} (P : X → Type 0) (Q R : Type 0) (found : Option X) → (Q → R) → MatchOption found Q P
    → MatchOption found R P
more-none P Q R None f none = f none
more-none P Q R (Some x) f there = there

-- or else this
pub found-or : {X : Type 0} (P : X → Type 0) (Q R : Type 0) (found now : Option X) (x : X)
    → now ≡ option_or found (Some x)
    → P x → MatchOption found Q P → MatchOption now R P
found-or P Q R None now x e here none = subst (λ o. MatchOption o R P) (sym e) here
found-or P Q R (Some y) now x e here there = subst (λ o. MatchOption o R P) (sym e) there
