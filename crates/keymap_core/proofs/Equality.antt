-- `==` of values tells whether they are the same.
use Rattle.keymap_core.proofs.Common.{◌≡◌, ◌==◌, ℕ, Bool, ap, rules, ◌&&◌, and_parts, MapValue, Cell}
use Rattle.keymap_core.proofs.SameActions.{action-same}
use Rattle.keymap_core.specs.declared.entry.Cell.TheVariants.{Char, Act}
use Rattle.std.specs.Bool.{Decides}
use Rattle.std.proofs.lemmas.Bool.Decides.{Decides-eqb, Decides-like}
use Rattle.std.specs.Cmp.Lexicographic.{pointwise, pointwise_decides}
use Rattle.std.proofs.lemmas.Bool.{and_from}
use Rattle.keymap_core.specs.Accents.{AccentValue}
use Rattle.keymap_core.specs.declared.entry.Entry.{Entry}
use Rattle.keymap_core.specs.declared.entry.LockFlag.{LockFlag}
use Rattle.keymap_core.specs.contracts.entry.CellPartialEq.TheImpl as cell
use Rattle.keymap_core.specs.contracts.entry.EntryPartialEq.TheImpl as entry
use Rattle.keymap_core.specs.contracts.entry.LockFlagPartialEq.TheImpl as flag
use Rattle.keymap_core.specs.contracts.accent.AccentPartialEq.TheImpl as accent

-- two tests together tell two facts
both-Decides : (p q : Bool) (P Q : Type 0) → Decides p P → Decides q Q → Decides (p && q) (P × Q)
both-Decides p q P Q d e =
    (λ h. let parts = and_parts p q h in (d.0 parts.0, e.0 parts.1), λ h. and_from p q (d.1 h.0) (e.1 h.1))

-- `==` decides whether two cells are the same
pub cell-same : (a b : Cell) → Decides (cell.eq-value.it a b) (a ≡ b)
cell-same (Char x) (Char y) = Decides-like _ (λ e. ap Char e) (λ e. cc) (Decides-eqb x y)
cell-same (Act x) (Act y) = Decides-like _ (λ e. ap Act e) (λ e. cc) (action-same x y)
cell-same (Char x) (Act y) = ((λ h. cc), (λ h. cc))
cell-same (Act x) (Char y) = ((λ h. cc), (λ h. cc))

-- `==` decides whether two lock flags are the same
flag-same : (a b : LockFlag) → Decides (flag.eq-value.it a b) (a ≡ b)
flag-same a b = search rules

-- `==` decides whether two entries are the same
pub entry-same : (a b : Entry) → Decides (entry.eq-value.it a b) (a ≡ b)
entry-same a b =
    let d = both-Decides _ _ _ _ (pointwise_decides cell-same a.cells b.cells) (flag-same a.flag b.flag) in (
      λ h. let e = d.0 h in λ i. record { cells = e.0 i; flag = e.1 i },
      λ e. d.1 (ap (λ (x : Entry). x.cells) e, ap (λ (x : Entry). x.flag) e),
    )

-- `==` decides whether two pairs are the same
pair-same : (a b : ℕ × ℕ) → Decides ((a.0 == b.0) && (a.1 == b.1)) (a ≡ b)
pair-same a b = search rules

-- `==` decides whether two accents are the same
pub accent-same : (a b : AccentValue) → Decides (accent.eq-value.it a b) (a ≡ b)
accent-same a b =
    let d = both-Decides _ _ _ _ (search rules) (pointwise_decides pair-same a.pairs b.pairs) in (
      λ h. let e = d.0 h in λ i. record { own = e.0 i; pairs = e.1 i },
      λ e. d.1 (ap (λ (x : AccentValue). x.own) e, ap (λ (x : AccentValue). x.pairs) e),
    )

-- `==` decides whether two maps are the same
pub map-same : (a b : MapValue)
    → Decides (pointwise entry.eq-value.it a.entries b.entries && pointwise accent.eq-value.it a.accents b.accents)
    (a ≡ b)
map-same a b =
    let d =
    both-Decides _ _ _ _ (pointwise_decides entry-same a.entries b.entries)
    (pointwise_decides accent-same a.accents b.accents) in (
      λ h. let e = d.0 h in λ i. record { entries = e.0 i; accents = e.1 i },
      λ e. d.1 (ap (λ (x : MapValue). x.entries) e, ap (λ (x : MapValue). x.accents) e),
    )
