use Rattle.keymap_check.proofs.Common.{◌≡◌, List, ℕ, ◌++◌, ◌∷◌, [], ap, refl, sym, ◌∙◌, holding_action}
use Rattle.std.proofs.Common.{append-nil}
use Rattle.std.specs.Prelude.{decimal}
use Rattle.keymap_core.specs.Actions.{name_of}
use Rattle.messages.specs.Filled.{filled, words_behind}
use Rattle.messages.proofs.Shared.{filled-more}
use Rattle.keymap_check.specs.Said.{said_of_key}
use Rattle.keymap_check.specs.declared.words.TheConstants as words
use Rattle.keymap_check.proofs.said.say_of_key.Goals as goal

pub returns : goal.returns
unfolding filled
returns c =
    let name : List ℕ = name_of (holding_action c.args.holding) in
    let slot : List ℕ = decimal c.args.holding_at.slot in
    let column : List ℕ = decimal c.args.holding_at.column in
    let slot' : List ℕ = decimal c.args.character_at.slot in
    let column' : List ℕ = decimal c.args.character_at.column in
    let line : List ℕ = c.fill_number.new.line.items in
    let told : line ++ filled c.fill_number.result.now []
    ≡ c.args.line.now.items ++ said_of_key c.args.key c.args.holding c.args.holding_at c.args.character_at =
    filled-more c.fill_number-rest-4.result.now _ column' column' [] c.fill_number-rest-4.new.line.items _ _ refl
    c.fill_number.ensures.behind c.fill_number.ensures.line
    (filled-more c.fill_number-rest-3.result.now _ slot' slot' (column' ∷ [])
    c.fill_number-rest-3.new.line.items _ _ refl c.fill_number-rest-4.ensures.behind c.fill_number-rest-4.ensures.line
    (filled-more c.fill_number-rest-2.result.now _ column column (slot' ∷ column' ∷ [])
    c.fill_number-rest-2.new.line.items _ _ refl c.fill_number-rest-3.ensures.behind c.fill_number-rest-3.ensures.line
    (filled-more c.fill_next-rest.result.now _ slot slot (column ∷ slot' ∷ column' ∷ [])
    c.fill_next-rest.new.line.items _ _ refl c.fill_number-rest-2.ensures.behind c.fill_number-rest-2.ensures.line
    (filled-more c.fill_number-rest.result.now _ name c.as_slice.result.now (slot ∷ column ∷ slot' ∷ column' ∷ [])
    c.fill_number-rest.new.line.items _ _ (c.as_slice.ensures.value ∙ c.name.ensures ∙ ap name_of c.action.ensures)
    c.fill_next-rest.ensures.behind c.fill_next-rest.ensures.line
    (filled-more words.FINDING.now _ (decimal c.args.key) (decimal c.args.key)
    (name ∷ slot ∷ column ∷ slot' ∷ column' ∷ []) c.args.line.now.items _ _ refl
    c.fill_number-rest.ensures.behind c.fill_number-rest.ensures.line refl))))) in
    let none = c.fill_number.ensures.behind ∙ ap words_behind
    (c.fill_number-rest-4.ensures.behind ∙ ap words_behind (c.fill_number-rest-3.ensures.behind
    ∙ ap words_behind (c.fill_number-rest-2.ensures.behind ∙ ap words_behind
    (c.fill_next-rest.ensures.behind ∙ ap words_behind c.fill_number-rest.ensures.behind)))) in
    sym (append-nil line) ∙ ap (λ w. line ++ w) (sym none) ∙ told
