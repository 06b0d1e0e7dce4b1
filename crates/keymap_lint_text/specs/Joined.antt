-- The words in front of bytes.
use Rattle.std.specs.Prelude.{ℕ, ◌==◌, ◌||◌, Bool, not, List}
use Rattle.std.specs.List.{before_first}
use Rattle.keymap_text.specs.Lexical.{is_word}

abbrev pub ends_joined : ℕ → Bool
ends_joined c = not (is_word c || c == 95)

-- the word in front of bytes and what is joined to it by low lines
abbrev pub joined_word : List ℕ → List ℕ
joined_word bytes = before_first ends_joined bytes
