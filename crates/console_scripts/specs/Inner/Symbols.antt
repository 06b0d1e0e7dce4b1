-- The keys that have a symbol in some cell. Mirrors src/symbols.rt.
use Rattle.std.specs.Prelude.{◌≡◌, ◌<◌, ℕ, Bool, false, List, slice_index_or}
use Rattle.keymap_core.specs.Maps.{MapValue}
use Rattle.keymap_core.specs.Numbers.{key_count}
use Rattle.console_states.specs.Sights.{look_selected}
use Rattle.console_states.specs.declared.selection.Selection.{Selection}
use Rattle.console_scripts.specs.Typing.{cell_of}
use Rattle.console_scripts.specs.declared.explored.Symbol.{Symbol}

-- no press of the key looks up the symbol, whatever picks the cell
abbrev pub LacksSymbol : MapValue → Symbol → ℕ → Type 0
LacksSymbol m symbol k = (y : Selection) → look_selected m y k ≡ cell_of symbol → ⊥

-- each key of which the list says that it has not lacks the symbol
abbrev pub AreKeysWith : MapValue → Symbol → List Bool → Type 0
AreKeysWith m symbol have = (k : ℕ) → k < key_count → slice_index_or have k false ≡ false → LacksSymbol m symbol k
