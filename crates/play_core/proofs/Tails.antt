-- The tail of a line, and the line, by the parts that are added in turn.
use Rattle.play_core.proofs.Common.{◌≡◌, ℕ, codes, Bool, true, false, cond, List, [], ◌∷◌, ◌++◌, refl}
use Rattle.play_core.proofs.Common.{append_assoc, Event}
use Rattle.play_core.proofs.Common.{Answer, names_of_modifiers, names_of_locks, tail_of, rules}
use Rattle.play_core.specs.Types.{Modifier, Lock}
use Rattle.keymap_core.specs.Actions.{modifiers, locks}
use Rattle.play_core.specs.Written.{event_text, answer_text, line_of, name_if, or_none}

-- the parts of a tail, added in turn
pub tail_spelled : (on : Modifier → Bool) (locked : Lock → Bool) (start a b c d : List ℕ)
    → a ≡ start ++ codes "; mods"
    → b ≡ a ++ or_none (names_of_modifiers on modifiers) → c ≡ b ++ codes "; locks"
    → d ≡ c ++ (or_none (names_of_locks locked locks) ++ codes "\n") → d ≡ start ++ tail_of on locked
unfolding tail_of
tail_spelled on locked start a b c d pa pb pc pd = rw (pd, pc, pb, pa) (simp append_assoc)

-- the parts of a line, added in turn
pub line_spelled : (event : Event) (answer : Answer) (on : Modifier → Bool) (locked : Lock → Bool)
    (start head body whole : List ℕ)
    → head ≡ start ++ (event_text event ++ codes ": ") → body ≡ head ++ answer_text answer
    → whole ≡ body ++ tail_of on locked
    → whole ≡ start ++ line_of event answer on locked
unfolding tail_of line_of
line_spelled event answer on locked start head body whole h b w = rw (w, b, h) (simp append_assoc)

-- a name is printed exactly if it is on
if_on : (is_on : Bool) (name : List ℕ) → cond is_on (32 ∷ name) [] ≡ name_if is_on name
if_on true name = refl
if_on false name = refl

-- a name was added where it is on, and then the other names
pub name_added : (text more all : List ℕ) (added is_on : Bool) (name names : List ℕ)
    → more ≡ text ++ cond added (32 ∷ name) [] → added ≡ is_on
    → all ≡ more ++ names → all ≡ text ++ (name_if is_on name ++ names)
name_added text more all added is_on name names m b a = search (rules, if_on, append_assoc)
