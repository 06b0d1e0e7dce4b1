-- The script that types a sentence.
use Rattle.std.specs.Prelude.{ℕ, ◌==◌, ◌-◌, Bool, true, false, List, [], ◌∷◌, ◌++◌, take, drop, encode_utf8}
use Rattle.std.specs.Prelude.{codes, if◌then◌else◌}
use Rattle.std.specs.List.{flat_map, before_first}
use Rattle.keymap_core.specs.Unseen.{is_unseen}
use Rattle.console_core.specs.declared.event.Event.{Event}
use Rattle.console_scripts.specs.declared.typing.Keyed.{Keyed}
use Rattle.console_scripts.specs.declared.typing.Typing.{Typing}
use Rattle.console_scripts.specs.Typing.{characters_of}
use Rattle.keymap_core.specs.CodePoints.{code_text}
use Rattle.play_core.specs.Spelling.{event_line}
use Rattle.script_text.specs.Comments.{comment}

-- a character, or its number where a terminal doesn't show it as it is
unfoldable pub shown : ℕ → List ℕ
shown c = if is_unseen c then code_text c else encode_utf8 c

abbrev pub is_line_feed : ℕ → Bool
is_line_feed c = c == 10

-- what is shown of the first line of characters
abbrev pub line_shown : List ℕ → List ℕ
line_shown cs = flat_map shown (before_first is_line_feed cs)

-- a comment that shows the first line of the characters
abbrev pub sentence_line : List Keyed → List ℕ
sentence_line ks = comment (codes " {}") (line_shown (characters_of ks) ∷ [])

abbrev pub comment_if : Bool → List Keyed → List ℕ
comment_if true ks = sentence_line ks
comment_if false ks = []

-- The lines of the events of the characters, and before those of each line of the sentence a comment that shows it;
-- then those of the events that are left. So many events come before these.
unfoldable pub lines_from : Bool → ℕ → List Event → List Keyed → List ℕ
lines_from starts from es [] = flat_map event_line es
lines_from starts from es (k ∷ ks) =
    comment_if starts (k ∷ ks) ++ flat_map event_line (take (k.end - from) es)
    ++ lines_from (is_line_feed k.character) k.end (drop (k.end - from) es) ks

abbrev pub typing_script : Typing → List ℕ
typing_script x = lines_from true 0 x.events.items x.keyed.items
