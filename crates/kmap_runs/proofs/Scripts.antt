-- The lines of the script that types a sentence, one character after another.
use Rattle.kmap_runs.proofs.Common.{suc, ◌≡◌, ℕ, ◌+◌, ◌-◌, ◌<◌, ◌≤◌, Bool, false, List, [], ◌∷◌, ◌++◌, length, rules}
use Rattle.kmap_runs.proofs.Common.{take, drop, get_or, append_assoc, add-one, arith, refl, sym, ap, ◌∙◌, subst}
use Rattle.kmap_runs.proofs.Common.{flat_map, Event, Keyed, AreEnds, characters_of, event_line, lines_from, comment_if}
use Rattle.kmap_runs.proofs.Common.{is_line_feed, line_shown, shown}
use Rattle.std.proofs.Common.{drop-cons, take_all, length-drop}
use Rattle.std.proofs.Math.ListN.{drop_of_length-le}
use Rattle.std.proofs.lemmas.List.{drop-drop}

-- four pieces of which the middle ones belong together
four_pieces : (a b c d : List ℕ) → ((a ++ b) ++ c) ++ d ≡ a ++ ((b ++ c) ++ d)
four_pieces a b c d = simp append_assoc

-- the lines of the first character, and those of the others
opened : (starts : Bool) (from : ℕ) (es : List Event) (x : Keyed) (rest : List Keyed)
    → lines_from starts from es (x ∷ rest)
    ≡ (comment_if starts (x ∷ rest) ++ flat_map event_line (take (x.end - from) es))
    ++ lines_from (is_line_feed x.character) x.end (drop (x.end - from) es) rest
unfolding lines_from
opened starts from es x rest = refl

-- what stands at a place, and what behind it
front : (ks : List Keyed) (i : ℕ) (x : Keyed) → i < length ks → x ≡ get_or ks i x → drop i ks ≡ x ∷ drop (i + 1) ks
front ks i x inside at = rw add-one (drop-cons ks i x inside ∙ ap (λ b. b ∷ drop (suc i) ks) (sym at))

-- the ends behind the one at a place
pub ends-front : (from i last : ℕ) (ks : List Keyed) (x : Keyed) → i < length ks → x ≡ get_or ks i x
    → AreEnds from (drop i ks) last → (from ≤ x.end) × AreEnds x.end (drop (i + 1) ks) last
ends-front from i last ks x inside at ends = subst (λ z. AreEnds from z last) (front ks i x inside at) ends

pub ends-within : (from last : ℕ) (ks : List Keyed) → AreEnds from ks last → from ≤ last
ends-within from last [] ends = ends
ends-within from last (k ∷ ks) ends = let later = ends-within k.end last ks ends.1 in omega (arith, ends.0, later)

-- what lies behind an end
drop-end : (from end : ℕ) (es : List Event) → from ≤ end → drop (end - from) (drop from es) ≡ drop end es
drop-end from end es le = search (rules, drop-drop)

-- what is left to write, once the lines of the character at a place are written
pub line_more : (starts : Bool) (from : ℕ) (es : List Event) (ks : List Keyed) (i : ℕ) (x : Keyed)
    → (old mid new all : List ℕ) → i < length ks → x ≡ get_or ks i x → from ≤ x.end
    → mid ≡ old ++ comment_if starts (take (length ks - i) (drop i ks))
    → new ≡ mid ++ flat_map event_line (take (x.end - from) (drop from es))
    → old ++ lines_from starts from (drop from es) (drop i ks) ≡ all
    → new ++ lines_from (is_line_feed x.character) x.end (drop x.end es) (drop (i + 1) ks) ≡ all
line_more starts from es ks i x old mid new all inside at le comment lines before =
    search (rules, front, take_all, length-drop, opened, drop-end, four_pieces)

-- behind the last character stand the lines of the events that are left
last_lines : (starts : Bool) (from : ℕ) (es : List Event) → lines_from starts from es [] ≡ flat_map event_line es
unfolding lines_from
last_lines starts from es = refl

pub lines_end : (starts : Bool) (from : ℕ) (es : List Event) (ks : List Keyed) (i : ℕ) (old new all : List ℕ)
    → length ks ≤ i → new ≡ old ++ flat_map event_line (take (length es - from) (drop from es))
    → old ++ lines_from starts from (drop from es) (drop i ks) ≡ all → new ≡ all
lines_end starts from es ks i old new all past lines before =
    search (rules, take_all, length-drop, last_lines, drop_of_length-le)

-- ---- the first line of the characters

one_more : (n : ℕ) → 1 + n ≡ suc n
one_more n = omega arith

-- a character that is no line feed is shown first
line_on : (c : ℕ) (cs : List ℕ) → is_line_feed c ≡ false → line_shown (c ∷ cs) ≡ shown c ++ line_shown cs
line_on c cs e = search (rules, one_more)

-- what is left to show, once the character at a place is shown
pub shown_more : (ks : List Keyed) (i : ℕ) (x : Keyed) (old new all : List ℕ) → i < length ks → x ≡ get_or ks i x
    → is_line_feed x.character ≡ false → new ≡ old ++ shown x.character
    → old ++ line_shown (characters_of (drop i ks)) ≡ all
    → new ++ line_shown (characters_of (drop (i + 1) ks)) ≡ all
shown_more ks i x old new all inside at none now before =
    search (rules, line_on, append_assoc, front)
