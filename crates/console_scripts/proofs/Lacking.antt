-- The keys that have a symbol in some cell: where neither of its slots has it, a key looks it up by no selection.
use Rattle.std.proofs.Common.{rules}
use Rattle.console_scripts.proofs.Common.{◌≡◌, ℕ, ◌+◌, ◌<◌, Bool, true, false, List, length, get_or, subst}
use Rattle.console_scripts.proofs.Common.{below_more, MapValue, slot_of, cell_of, Symbol, cell_at}
use Rattle.console_scripts.proofs.Common.{LacksSymbol}
use Rattle.std.specs.Prelude.{set}
use Rattle.std.proofs.lemmas.List.{get_or-set_same, get_or-set_other}
use Rattle.console_core.proofs.Shared.{column_of-lt}

-- no cell of the slot is the symbol
abbrev pub IsNotIn : MapValue → Symbol → ℕ → Type 0
IsNotIn m symbol slot = (column : ℕ) → column < 8 → cell_at m slot column ≡ cell_of symbol → ⊥

in-half : (m : MapValue) (symbol : Symbol) (k a b : ℕ) → a ≡ k → b ≡ k → IsNotIn m symbol a
    → IsNotIn m symbol (b + 128) → (upper : Bool) → IsNotIn m symbol (slot_of k upper)
in-half m symbol k a b e f low high false = subst (IsNotIn m symbol) e low
in-half m symbol k a b e f low high true = subst (λ j. IsNotIn m symbol (j + 128)) f high

pub lacks : (m : MapValue) (symbol : Symbol) (k a b : ℕ) → a ≡ k → b ≡ k → IsNotIn m symbol a
    → IsNotIn m symbol (b + 128) → LacksSymbol m symbol k
lacks m symbol k a b e f low high y = in-half m symbol k a b e f low high y.upper _ (column_of-lt _ _ _)

-- Of each number below the place that isn't marked it is so; the place is marked, so it is of each up to there.
pub marked : (P : ℕ → Type 0) (marks : List Bool) (n : ℕ) → n < length marks
    → ((k : ℕ) → k < n → get_or marks k false ≡ false → P k)
    → (k : ℕ) → k < n + 1 → get_or (set marks n true) k false ≡ false → P k
marked P marks n within before = search (rules, below_more, get_or-set_other, get_or-set_same)

-- What is told of each number below the place, and of the place, is told of each up to there.
pub told-more : (P : ℕ → Type 0) (t : Bool) (marks : List Bool) (n : ℕ) (v : Bool) → n < length marks → (v ≡ t → P n)
    → ((k : ℕ) → k < n → get_or marks k false ≡ t → P k)
    → (k : ℕ) → k < n + 1 → get_or (set marks n v) k false ≡ t → P k
told-more P t marks n v within here before =
    search (rules, below_more, get_or-set_other, get_or-set_same)

-- where none below the place is marked, nor it, none up to there is
pub told-none : (marks : List Bool) (n : ℕ) (v : Bool) → n < length marks → v ≡ false
    → ((k : ℕ) → k < n → get_or marks k false ≡ false)
    → (k : ℕ) → k < n + 1 → get_or (set marks n v) k false ≡ false
told-none marks n v within here before =
    search (rules, below_more, get_or-set_other, get_or-set_same)
