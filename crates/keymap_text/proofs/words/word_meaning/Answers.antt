use Rattle.keymap_text.proofs.Common.{◌≡◌, List, ℕ, None, Some, codes, sym, refl, named_of, Meaning, meaning, rules}
use Rattle.keymap_text.proofs.Common.{named, table, digits_of, number_after, of_action}
use Rattle.keymap_text.proofs.words.word_meaning.Goals as goal

by_name : (w : List ℕ) (m : Meaning) → None ≡ digits_of 10 w → None ≡ number_after (codes "0x") 16 w
    → Some m ≡ named table w → m ≡ meaning w
unfolding meaning
by_name w m a b h = rw (sym a, meaning) (rw (sym b) (rw (sym h) refl))

by_action : (w : List ℕ) (m : Meaning) → None ≡ digits_of 10 w → None ≡ number_after (codes "0x") 16 w
    → None ≡ named table w → m ≡ of_action (named_of w) → m ≡ meaning w
unfolding meaning
by_action w m a b d h = rw (sym a, meaning) (rw (sym b) (rw (sym d) h))

pub returns-in-Some-character_or_letter : goal.returns-in-Some-character_or_letter
returns-in-Some-character_or_letter c = search (rules, by_name)

pub returns-in-None : goal.returns-in-None
returns-in-None c = search (rules, by_action)
