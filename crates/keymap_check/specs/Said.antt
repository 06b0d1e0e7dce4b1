-- What the check says of a key. What is told stands at the places `{}` of its words.
use Rattle.std.specs.Prelude.{ℕ, List, [], ◌∷◌, codes, decimal}
use Rattle.keymap_core.specs.Actions.{name_of, holding_action}
use Rattle.keymap_check.specs.Types.{Holding, Finding, Place}
use Rattle.messages.specs.Filled.{filled}

-- the key has this modifier or lock at the first place, and a character at the second one
abbrev pub said_of_key : ℕ → Holding → Place → Place → List ℕ
said_of_key k a at character_at =
    filled (codes "key {}: {} at slot {} column {}, character at slot {} column {}")
    (decimal k ∷ name_of (holding_action a) ∷ decimal at.slot ∷ decimal at.column ∷ decimal character_at.slot
    ∷ decimal character_at.column ∷ [])

abbrev pub finding_words : Finding → List ℕ
finding_words f = said_of_key f.key f.holding f.holding_at f.character_at
