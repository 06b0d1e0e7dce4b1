-- A key is marked exactly if its slot differs, and an accent exactly if it does.
use Rattle.keymap_draw.proofs.Common.{◌≡◌, ℕ, ◌==◌, ◌&&◌, Bool, true, false, None, Some, refl, ap, sym, ◌∙◌, rules}
use Rattle.keymap_draw.proofs.Common.{and_parts, eqb-true, if◌then◌else◌, none-some, AccentValue, Cell, Entry, Char}
use Rattle.keymap_draw.proofs.Common.{MapValue, entry_at}
use Rattle.std.specs.Prelude.{◌↔◌, ◌≢◌}
use Rattle.std.specs.Bool.{Decides}
use Rattle.std.specs.Cmp.Lexicographic.{pointwise_decides}
use Rattle.std.proofs.lemmas.Bool.{and_from, eq-eqb, true≢false}
use Rattle.keymap_core.specs.contracts.action.ActionPartialEq.TheImpl as action
use Rattle.keymap_core.specs.contracts.entry.LockFlagPartialEq.TheImpl as flag
use Rattle.keymap_core.specs.Maps.{accent_or_blank}
use Rattle.keymap_core.specs.declared.action.Action.{Action}
use Rattle.keymap_core.specs.declared.entry.Cell.TheVariants.{Act}
use Rattle.keymap_core.specs.declared.entry.LockFlag.{LockFlag}
use Rattle.keymap_draw.specs.Drawn.{column}
unfoldable use Rattle.keymap_draw.specs.Marks.{mark}
use Rattle.keymap_draw.specs.Marks.{MarkedAreChanged, pale, same_accent, same_cell, same_entry, strong}

action-same : (a b : Action) → Decides (action.eq-value.it a b) (a ≡ b)
action-same a b = search rules

cell-same : (a b : Cell) → Decides (same_cell a b) (a ≡ b)
cell-same (Char c) (Char d) = (λ e. ap (λ z. Char z) (eqb-true c d e), λ e. eq-eqb c d (cc))
cell-same (Act a) (Act b) = let d = action-same a b in (λ e. ap (λ z. Act z) (d.0 e), λ e. d.1 (cc))
cell-same a b = (λ e. absurd (true≢false (sym e)), λ e. cc)

flag-same : (a b : LockFlag) → Decides (flag.eq-value.it a b) (a ≡ b)
flag-same a b = search rules

pair-same : (a b : ℕ × ℕ) → Decides ((a.0 == b.0) && (a.1 == b.1)) (a ≡ b)
pair-same a b = search rules

-- two tests together tell two facts
both : (p q : Bool) (P Q : Type 0) → Decides p P → Decides q Q → Decides (p && q) (P × Q)
both p q P Q d e =
    (λ h. let parts = and_parts p q h in (d.0 parts.0, e.0 parts.1), λ h. and_from p q (d.1 h.0) (e.1 h.1))

entry-same : (a b : Entry) → Decides (same_entry a b) (a ≡ b)
entry-same a b =
    let d = both _ _ _ _ (pointwise_decides cell-same a.cells b.cells) (flag-same a.flag b.flag) in (
      λ h. let e = d.0 h in λ i. record { cells = e.0 i; flag = e.1 i },
      λ e. d.1 (ap (λ (x : Entry). x.cells) e, ap (λ (x : Entry). x.flag) e),
    )

accent-same : (a b : AccentValue) → Decides (same_accent a b) (a ≡ b)
accent-same a b =
    let d = both _ _ _ _ (search rules) (pointwise_decides pair-same a.pairs b.pairs) in (
      λ h. let e = d.0 h in λ i. record { own = e.0 i; pairs = e.1 i },
      λ e. d.1 (ap (λ (x : AccentValue). x.own) e, ap (λ (x : AccentValue). x.pairs) e),
    )

-- a slot that is the same isn't marked
same : (e : Entry) → mark e e ≡ None
unfolding mark
same e =
    rw (
      (cell-same (column e 0) (column e 0)).1 refl,
      (cell-same (column e 1) (column e 1)).1 refl,
      (entry-same e e).1 refl,
    ) refl

unmarked : (b s : Bool) → (if b then Some strong else if s then None else Some pale) ≡ None → s ≡ true
unmarked true s e = absurd (none-some strong (sym e))
unmarked false true e = refl
unmarked false false e = absurd (none-some pale (sym e))

alike : (old new : Entry) → mark old new ≡ None → old ≡ new
unfolding mark
alike old new e = (entry-same old new).0 (unmarked _ _ e)

marked : (old new : Entry) → (mark old new ≡ None) ↔ (old ≡ new)
marked old new = (alike old new, λ e. ap (λ z. mark old z) (sym e) ∙ same old)

decided : (P : Type 0) (b : Bool) → Decides b P → (P → ⊥) → b ≡ false
decided P true d differ = absurd (differ (d.0 refl))
decided P false d differ = refl

other : (a b : AccentValue) → (same_accent a b ≡ false) ↔ (a ≢ b)
other a b = (
  λ f e. true≢false (sym ((accent-same a b).1 e) ∙ f),
  λ differ. decided (a ≡ b) (same_accent a b) (accent-same a b) differ,
)

pub marked_are_changed : (m n : MapValue) → MarkedAreChanged m n
marked_are_changed m n = record {
  keys = λ slot. marked (entry_at m slot) (entry_at n slot);
  accents = λ i. other (accent_or_blank m i) (accent_or_blank n i);
}
