use Rattle.kmap_c.proofs.Common.{◌∙◌}
use Rattle.kmap_c.proofs.Numbers.{up_down, no_text_sentence}
use Rattle.kmap_c.proofs.sentences.kmap_text_fault_words.Goals as goal

pub returns-clause-no_kind : goal.returns-clause-no_kind
returns-clause-no_kind c =
    λ none. absurd (up_down _ c.if-is_empty.false (c.is_empty.ensures
    ∙ no_text_sentence c.args.kind _ none c.text_sentence-sentence.ensures.words))
