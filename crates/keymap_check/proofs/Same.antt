-- Tests of a cell, and what they say of it.
use Rattle.keymap_check.proofs.Common.{◌≡◌, ℕ, true, false, not, Some, refl, ap, sym, ◌∙◌, true≢false, Holding, Cell}
use Rattle.keymap_check.proofs.Common.{Char, Act, holding_action, IsActing, same_action-true, is_holding, is_character}
use Rattle.keymap_check.proofs.Common.{is_any_holding, held_by}
use Rattle.std.proofs.lemmas.Bool.{not-false}
use Rattle.keymap_check.specs.Cells.{is_character_or_nop}
use Rattle.keymap_core.proofs.Shared.{same_action-refl}
use Rattle.keymap_core.specs.declared.action.Action.TheVariants as act
use Rattle.keymap_core.specs.declared.action.Holding.TheVariants as holding

-- a cell that passes the test is the holding action
pub is_holding-true : (a : Holding) (x : Cell) → is_holding a x ≡ true → x ≡ Act (holding_action a)
is_holding-true a (Char c) e = absurd (true≢false (sym e))
is_holding-true a (Act b) e = ap (λ y. Act y) (same_action-true b (holding_action a) e)

-- each holding action passes its test
pub is_holding-refl : (a : Holding) → is_holding a (Act (holding_action a)) ≡ true
is_holding-refl a = same_action-refl (holding_action a)

-- a cell that fails the opposite test passes the test
pub not_holding-false : (a : Holding) (x : Cell) → not (is_holding a x) ≡ false → is_holding a x ≡ true
not_holding-false a x e = not-false (is_holding a x) e

-- what a character and a holding action are
pub character-cell : (x : Cell) → is_character x ≡ true → (c : ℕ) × (x ≡ Char c)
character-cell (Char c) e = (c, refl)
character-cell (Act a) e = absurd (true≢false (sym e))

-- the cell is some holding action
abbrev pub IsHeldBy : Cell → Type 0
IsHeldBy x = (a : Holding) × (x ≡ Act (holding_action a)) × (held_by x ≡ Some a)

-- a cell that passes the test is some holding action
pub holding-cell : (x : Cell) → is_any_holding x ≡ true → IsHeldBy x
holding-cell (Act (act.Mod i)) e = (holding.Mod i, refl, refl)
holding-cell (Act (act.Lock l)) e = (holding.Lock l, refl, refl)
holding-cell x e = absurd (true≢false (sym e))

-- each holding action passes the test
pub holding-any : (a : Holding) → is_any_holding (Act (holding_action a)) ≡ true
holding-any (holding.Mod i) = refl
holding-any (holding.Lock l) = refl

-- a cell that isn't a character or nop is an action other than nop
pub not_acting : (x : Cell) → is_character_or_nop x ≡ false → IsActing x
not_acting (Char c) e = absurd (true≢false e)
not_acting (Act a) e = λ s. true≢false (sym (ap (λ b. is_character_or_nop (Act b)) s) ∙ e)

-- a cell that acts is no character and no nop
pub acting-not : (x : Cell) → IsActing x → is_character_or_nop x ≡ false
acting-not (Char c) e = absurd e
acting-not (Act act.Nop) e = absurd (e refl)
acting-not (Act a) e = refl
