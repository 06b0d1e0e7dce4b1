-- The tables of the classes of bytes.
use Rattle.keymap_text.proofs.Common.{◌≡◌, ℕ, ◌<◌, get_or, refl, false, arith, digit_value, is_word, along}
use Rattle.keymap_text.specs.declared.token.TheConstants.{WORD_BYTES}
use Rattle.keymap_text.specs.declared.words.TheConstants.{DIGITS}

-- Each table has the definition's answer for each byte, by computation.
pub word_class : (c : ℕ) → c < 256 → get_or WORD_BYTES c false ≡ is_word c
word_class c h = along (λ c. get_or WORD_BYTES c false) is_word 0 256 refl c (omega arith) h

pub digit_class : (c : ℕ) → c < 256 → get_or DIGITS c 0 ≡ digit_value c
digit_class c h = along (λ c. get_or DIGITS c 0) digit_value 0 256 refl c (omega arith) h
