-- The words of a definition tell it.
use Rattle.keymap_text.proofs.Common.{◌≡◌, ℕ, List, [], ◌++◌, append-nil, tokens_after, Definition, KeyDefinition}
use Rattle.keymap_text.proofs.Common.{AccentDefinition, Defines, arith}
use Rattle.keymap_text.specs.declared.words.Item.{Item}
use Rattle.keymap_text.specs.Definitions.{IsDefinition, definition_words}
use Rattle.keymap_text.proofs.Lexed.{Lexes, NoWord}
use Rattle.keymap_text.proofs.OneRow.{defined_is}
use Rattle.keymap_text.proofs.PrintedLines.{slot_printed, accent_words_printed}
use Rattle.keymap_text.proofs.Characters.{prints_character}
use Rattle.keymap_text.proofs.Printing.{no_items, prints_cells, prints_pairs, prints_name}
use Rattle.keymap_text.proofs.Verdicts.{items_of}

-- the words are tokens, which define it
are_tokens : (d : Definition) → IsDefinition d
    → (ts : List Item) × Lexes NoWord (definition_words d) ts × Defines ts d
are_tokens (KeyDefinition slot e) (low, is) = slot_printed slot e low is.eight (prints_cells e.cells is.cells)
are_tokens (AccentDefinition i a) (low, is) =
    grind (arith, accent_words_printed, prints_character, prints_name, prints_pairs)

-- the tokens of a text that is these and no more
all_of : (w : List ℕ) (ts : List Item) → Lexes NoWord w ts → items_of (tokens_after 0 0 (w ++ [])) ≡ ts
all_of w ts l = grind (arith, append-nil, no_items)

pub words_tell : (d e : Definition) → IsDefinition d → IsDefinition e → definition_words d ≡ definition_words e → d ≡ e
words_tell d e p q h = grind (arith, all_of, are_tokens, defined_is)
