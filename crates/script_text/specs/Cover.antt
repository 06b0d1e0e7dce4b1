-- What is printed of a script that shows a console what a keymap can do: how much it sees, what it doesn't see, and its
-- events. What is told stands at the places `{}` of its words.
use Rattle.std.specs.Prelude.{◌≡◌, ℕ, ◌<◌, ◌≤◌, ◌+◌, ◌-◌, ◌==◌, Bool, true, false, List, [], ◌∷◌, ◌++◌, decimal}
use Rattle.std.specs.Prelude.{codes, length, map, slice_index_or, if◌then◌else◌}
use Rattle.std.specs.List.{Contains, flat_map, list_any, range_with_len}
use Rattle.keymap_core.specs.Accents.{AccentValue}
use Rattle.keymap_core.specs.Actions.{name_of}
use Rattle.keymap_core.specs.declared.action.Action.TheVariants as act
use Rattle.keymap_core.specs.Bounds.{IsMap}
use Rattle.keymap_core.specs.Maps.{MapValue, accent_or_blank}
use Rattle.keymap_core.specs.Numbers.{slot_limit, column_count, accent_limit}
use Rattle.console_states.specs.declared.selection.Sight.{Sight}
use Rattle.console_states.specs.declared.selection.Sight.TheVariants.{Cell, Locks, Pair}
use Rattle.console_states.specs.Sights.{Enumerates, IsReachable}
use Rattle.console_scripts.specs.Visiting.{CanVisit, IsPair}
use Rattle.keymap_cover.specs.Covering.{Covers, IsVerdict, is_verdict, counts_of}
use Rattle.keymap_cover.specs.SightLists.{all_cells, all_lock_settings}
use Rattle.keymap_cover.specs.Told.{AreTold, IsTold}
use Rattle.keymap_cover.specs.declared.parts.Cover.{Cover}
use Rattle.keymap_cover.specs.declared.parts.Counts.{Counts}
use Rattle.keymap_cover.specs.declared.parts.Verdict.{Verdict}
use Rattle.keymap_cover.specs.declared.parts.Verdict.TheVariants.{LeftOut, Never}
use Rattle.keymap_cover.specs.declared.script_event.ScriptEvent.{ScriptEvent}
use Rattle.keymap_cover.specs.declared.script_event.ScriptEvent.TheVariants.{Down, Repeat, Up, Reset}
use Rattle.keymap_cover.specs.declared.parts.Part.{Part}
use Rattle.keymap_cover.specs.declared.parts.Part.TheVariants.{Cells, Pairs, Trials, OneWay}
use Rattle.keymap_cover.specs.declared.parts.Start.{Start}
use Rattle.keymap_names.specs.Characters.{readable}
use Rattle.play_core.specs.Spelling.{sent_line}
use Rattle.play_core.specs.declared.sent.Sent.{Sent}
use Rattle.play_core.specs.declared.sent.What.{What}
use Rattle.play_core.specs.declared.sent.What.TheVariants as what
use Rattle.script_text.specs.Comments.{comment}
use Rattle.messages.specs.Filled.{filled}

-- what is told of a sight that the script doesn't show: moves lead to it, though not back; or no list of events shows
-- it, or none before a modifier sticks
abbrev pub left_out_word : List ℕ
left_out_word = codes "left out"

abbrev pub never_word : List ℕ
never_word = codes "never"

abbrev pub unstuck_word : List ℕ
unstuck_word = codes "not before a modifier sticks"

-- whether the verdict on a sight is this one
abbrev pub has_verdict : (Sight → Verdict) → Verdict → Sight → Bool
has_verdict told v x = is_verdict v (told x)

abbrev pub number_text : ℕ → List ℕ
number_text n = filled (codes " {}") (decimal n ∷ [])

-- a list behind its head, if there is something in it
abbrev pub headed : List ℕ → List ℕ → List ℕ
headed head [] = []
headed head (x ∷ xs) = head ++ x ∷ xs

-- ---- the slots of which something is listed

-- a column of a slot, if its cell is listed
abbrev pub column_text : (Sight → Bool) → ℕ → ℕ → List ℕ
column_text is_listed slot column = if is_listed (Cell slot column) then number_text column else []

abbrev pub columns_text : (Sight → Bool) → ℕ → List ℕ
columns_text is_listed slot = flat_map (column_text is_listed slot) (range_with_len 0 column_count)

-- the name of a setting of clock and nlock, if the slot is listed under it
abbrev pub setting_text : (Sight → Bool) → ℕ → Bool → Bool → List ℕ → List ℕ
setting_text is_listed slot caps num name = if is_listed (Locks slot caps num) then name else []

abbrev pub settings_text : (Sight → Bool) → ℕ → List ℕ
settings_text is_listed slot =
    setting_text is_listed slot false false (codes " none") ++ setting_text is_listed slot false true (codes " nlock")
    ++ setting_text is_listed slot true false (codes " clock")
    ++ setting_text is_listed slot true true (codes " clock+nlock")

-- what is listed of a slot
abbrev pub row_text : (Sight → Bool) → ℕ → List ℕ
row_text is_listed slot =
    headed (codes "; columns") (columns_text is_listed slot) ++ headed (codes "; locks") (settings_text is_listed slot)

-- all slots from one on to before another have the same listed
abbrev pub AreAlike : (Sight → Bool) → ℕ → ℕ → Type 0
AreAlike is_listed first end =
    (slot : ℕ) → first ≤ slot → slot < end → row_text is_listed slot ≡ row_text is_listed first

-- the slot behind the end, if there is one, has something else listed
abbrev pub EndsAlike : (Sight → Bool) → ℕ → ℕ → Type 0
EndsAlike is_listed first end = end < slot_limit → row_text is_listed end ≡ row_text is_listed first → ⊥

-- the line of slots from one on to before another, if something is listed of them
abbrev pub row_line : List ℕ → ℕ → ℕ → List ℕ → List ℕ
row_line word first end [] = []
row_line word first end (x ∷ row) =
    if end == first + 1 then comment (codes " {}: slot {}{}") (word ∷ decimal first ∷ (x ∷ row) ∷ [])
    else comment (codes " {}: slots {} to {}{}") (word ∷ decimal first ∷ decimal (end - 1) ∷ (x ∷ row) ∷ [])

-- The text lists each slot before this one: slots in a row of which the same is listed share a line, all of them.
pub data ListsSlots (is_listed : Sight → Bool) (word : List ℕ) : ℕ → List ℕ → Type 0 where
  no_slot : ListsSlots is_listed word 0 []
  more_slots : (first end : ℕ) (text : List ℕ) → ListsSlots is_listed word first text → first < end
      → AreAlike is_listed first end → EndsAlike is_listed first end
      → ListsSlots is_listed word end (text ++ row_line word first end (row_text is_listed first))

-- ---- the pairs that are listed

-- a number behind others, if it isn't among them
abbrev pub with_number : List ℕ → ℕ → List ℕ
with_number ns n = if list_any (λ m. m == n) ns then ns else ns ++ n ∷ []

-- numbers, and behind them the bases of the pairs that aren't among these or in an earlier pair
abbrev pub with_bases : List ℕ → List (ℕ × ℕ) → List ℕ
with_bases ns [] = ns
with_bases ns (p ∷ pairs) = with_bases (with_number ns p.0) pairs

-- the blank and the bases of an accent, once each, and none where its character is 0
abbrev pub bases_of : AccentValue → List ℕ
bases_of a = if a.own == 0 then [] else with_bases (32 ∷ []) a.pairs

abbrev pub bases_at : MapValue → ℕ → List ℕ
bases_at m i = bases_of (accent_or_blank m i)

-- all pairs of an accent with the blank or a base
abbrev pub all_pairs : MapValue → List Sight
all_pairs m = flat_map (λ i. map (Pair i) (bases_at m i)) (range_with_len 0 accent_limit)

-- all of which it is told how many are seen
abbrev pub counted : MapValue → List Sight
counted m = (all_cells ++ all_lock_settings) ++ all_pairs m

-- The sights that are counted are those that are told of, and each pair is counted once.
abbrev pub CountedAreTold : Type 0
CountedAreTold =
    (m : MapValue) → IsMap m
    → AreTold m (counted m) × Enumerates (λ x. IsPair x × IsTold m x) (all_pairs m)

-- What is counted or listed as left out presses can see, and it can't be visited.
abbrev pub LeftOutCannotBeVisited : Type 0
LeftOutCannotBeVisited =
    (m : MapValue) (c : Cover) (x : Sight) → IsMap m → Contains (counted m) x → IsVerdict m c x LeftOut
    → IsReachable m x × (CanVisit m x → ⊥)

-- a character as a reader knows it, after a blank
abbrev pub readable_text : ℕ → List ℕ
readable_text c = filled (codes " {}") (readable c ∷ [])

-- a character, if its pair with an accent is listed
abbrev pub character_text : (Sight → Bool) → ℕ → ℕ → List ℕ
character_text is_listed i c = if is_listed (Pair i c) then readable_text c else []

abbrev pub line_of_characters : List ℕ → ℕ → List ℕ → List ℕ
line_of_characters word i [] = []
line_of_characters word i (x ∷ text) =
    comment (codes " {}: {} with{}") (word ∷ name_of (act.DeadKey i) ∷ (x ∷ text) ∷ [])

-- a line for the characters whose pairs with an accent are listed, if there are any
abbrev pub accent_line : (Sight → Bool) → List ℕ → MapValue → ℕ → List ℕ
accent_line is_listed word m i =
    line_of_characters word i (flat_map (character_text is_listed i) (bases_at m i))

-- a line for each accent of whose pairs some are listed
abbrev pub accent_lines : (Sight → Bool) → List ℕ → MapValue → List ℕ
accent_lines is_listed word m = flat_map (accent_line is_listed word m) (range_with_len 0 accent_limit)

-- ---- all of them

-- what is neither seen nor left out: never seen by any list of events, or by none before a modifier sticks
abbrev pub rest_word : Cover → List ℕ
rest_word c = if c.sights.forgets then unstuck_word else never_word

unfoldable pub counts_line : List ℕ → List ℕ → Counts → List ℕ
counts_line rest name n =
    comment (codes " {}: {}, left out {}, {} {}")
    (name ∷ decimal n.seen ∷ decimal n.left_out ∷ rest ∷ decimal n.rest ∷ [])

-- what the script is for
abbrev pub purpose_line : List ℕ
purpose_line = comment (codes " for a console in a program: on a machine it restarts, stops or sleeps") []

-- how many of the cells, lock settings and pairs have each verdict
abbrev pub all_counts : List ℕ → (Sight → Verdict) → MapValue → List ℕ
all_counts rest told m =
    counts_line rest (codes "cells") (counts_of told all_cells)
    ++ counts_line rest (codes "lock settings") (counts_of told all_lock_settings)
    ++ counts_line rest (codes "pairs") (counts_of told (all_pairs m))

-- what the script is for, and these numbers
abbrev pub counts_text : (Sight → Verdict) → MapValue → Cover → List ℕ
counts_text told m c = purpose_line ++ all_counts (rest_word c) told m

-- Behind a text stand the slots with what is left out of them and then with the rest, and the pairs in the same way.
pub record AddsLists (told : Sight → Verdict) (m : MapValue) (c : Cover) (old new : List ℕ) : Type 0 where
  pub left_out : List ℕ
  pub rest : List ℕ
  pub lists_left_out : ListsSlots (has_verdict told LeftOut) left_out_word slot_limit left_out
  pub lists_rest : ListsSlots (has_verdict told Never) (rest_word c) slot_limit rest
  pub spelled : new ≡ old ++ left_out ++ rest ++ accent_lines (has_verdict told LeftOut) left_out_word m
      ++ accent_lines (has_verdict told Never) (rest_word c) m

-- ---- the events

-- the comment that begins a part
abbrev pub part_words : Part → List ℕ
part_words Cells = codes " cells"
part_words Pairs = codes " pairs"
part_words Trials = codes " trials"
part_words OneWay = codes " one-way"

-- a comment if the part begins at the place
abbrev pub start_line : ℕ → Start → List ℕ
start_line place s = if s.at == place then comment (part_words s.part) [] else []

-- what is sent for an event of a script
abbrev pub what_of_event : ScriptEvent → What
what_of_event (Down k) = what.Down k
what_of_event (Repeat k) = what.Repeat k
what_of_event (Up k) = what.Up k
what_of_event Reset = what.Reset

abbrev pub sent_of_event : ScriptEvent → Sent
sent_of_event s = record { lost = false; what = what_of_event s }

abbrev pub script_event_line : ScriptEvent → List ℕ
script_event_line s = sent_line (sent_of_event s)

-- the event at a place, behind comments for the parts that begin there
abbrev pub event_lines : List Start → List ScriptEvent → ℕ → List ℕ
event_lines starts events place =
    flat_map (start_line place) starts ++ script_event_line (slice_index_or events place Reset)

abbrev pub script_lines : List Start → List ScriptEvent → List ℕ
script_lines starts events = flat_map (event_lines starts events) (range_with_len 0 (length events))

-- The text tells what the script of the cover is for, how much it sees and, in lists, what it doesn't see, by the
-- verdict on each sight, and is this script.
pub record IsCoverText (m : MapValue) (c : Cover) (text : List ℕ) : Type 0 where
  pub told : Sight → Verdict
  pub verdicts : Covers m c → (x : Sight) → IsVerdict m c x (told x)
  pub comments : List ℕ
  pub adds_lists : AddsLists told m c (counts_text told m c) comments
  pub spelled : text ≡ comments ++ script_lines c.starts.items c.events.items
