-- What is printed to test a console is a script of its events.
use Rattle.script_text.proofs.Common.{suc, ◌≡◌, ℕ, zero, ◌+◌, ◌<◌, ◌==◌, Bool, true, false, List, [], ◌∷◌, ◌++◌, length}
use Rattle.script_text.proofs.Common.{map, drop, get_or, refl, sym, ap, subst, ◌∙◌, lit<, rules}
use Rattle.script_text.proofs.Common.{if◌then◌else◌, decimal, add-one, ◌-◌, reverse, All, flat_map}
use Rattle.script_text.proofs.Common.{range_with_len, reverse-reverse, All-head, All-tail, MapValue}
use Rattle.script_text.proofs.Common.{All-reversed, Sight, Pair, HasKey, HasKeys, LeftOut, Never, Reset}
use Rattle.script_text.proofs.Common.{IsScript, sends, line-script, one_list}
use Rattle.script_text.proofs.Common.{comment, column_text, row_text, has_verdict, row_line, ListsSlots, AddsLists}
use Rattle.script_text.proofs.Common.{bases_at, character_text, accent_line, accent_lines, rest_word, start_line}
use Rattle.script_text.proofs.Common.{script_event_line, event_lines, filled_all, codes}
use Rattle.std.proofs.lemmas.List.{reverse-append}
use Rattle.std.proofs.lemmas.List.Elements.{All-nil, All-cons}
use Rattle.keymap_core.specs.Numbers.{key_count, column_count, accent_limit}
use Rattle.console_states.specs.declared.selection.Sight.TheVariants.{Cell, Locks}
use Rattle.keymap_cover.specs.declared.parts.Counts.{Counts}
use Rattle.keymap_cover.specs.declared.parts.Cover.{Cover}
use Rattle.keymap_cover.specs.declared.parts.Verdict.{Verdict}
use Rattle.keymap_cover.specs.declared.script_event.ScriptEvent.{ScriptEvent}
use Rattle.keymap_cover.specs.declared.script_event.ScriptEvent.TheVariants.{Down, Repeat, Up}
use Rattle.keymap_cover.specs.Covering.{Covers, history, counts_of}
use Rattle.keymap_cover.specs.SightLists.{all_cells, all_lock_settings}
use Rattle.keymap_cover.specs.ScriptEvents.{event_of, events_of}
use Rattle.keymap_cover.specs.declared.parts.Part.{Part}
use Rattle.keymap_cover.specs.declared.parts.Part.TheVariants.{Cells, Pairs, Trials, OneWay}
use Rattle.keymap_cover.specs.declared.parts.Start.{Start}
use Rattle.play_core.specs.Delivery.{delivered}
use Rattle.play_core.specs.Scripts.{key_of}
use Rattle.keymap_names.specs.Characters.{readable}
use Rattle.script_text.specs.Cover.{number_text, headed, columns_text, setting_text, settings_text, IsCoverText}
use Rattle.script_text.specs.Cover.{readable_text}
use Rattle.script_text.specs.Cover.{line_of_characters, all_counts, counts_line, counts_text, all_pairs, part_words}
use Rattle.script_text.specs.Cover.{what_of_event}
use Rattle.script_text.specs.Cover.{left_out_word, never_word, unstuck_word, sent_of_event}
use Rattle.script_text.specs.Replayed.{ShowsCover, events_sent}
use Rattle.script_text.proofs.DiffLines.{readable-line}
use Rattle.script_text.proofs.Comments.{is_in_line, IsInLine, append-line, flat-line, if-line, decimal-line, name-line}
use Rattle.script_text.proofs.Comments.{Adds, adds-nil, adds-script, quiet-comment, quiet-flat, quiet-if, ◌⊳◌}

-- ---- comments

quiet-counts : (rest name : List ℕ) (n : Counts) → IsInLine rest → IsInLine name → Adds (counts_line rest name n) []
unfolding counts_line
quiet-counts rest name n f g = search (rules, quiet-comment, decimal-line)

-- a number in a list
number-line : (n : ℕ) → IsInLine (number_text n)
number-line n = filled_all is_in_line (codes " {}") (decimal n ∷ []) refl (decimal-line n, tt)

-- a character in a list
character-line : (c : ℕ) → IsInLine (readable_text c)
character-line c = filled_all is_in_line (codes " {}") (readable c ∷ []) refl (readable-line c, tt)

headed-line : (head text : List ℕ) → IsInLine head → IsInLine text → IsInLine (headed head text)
headed-line head [] h t = refl
headed-line head (x ∷ xs) h t = append-line head (x ∷ xs) h t

-- ---- what is listed

module _ (is_listed : Sight → Bool) where
  columns-line : (slot : ℕ) → IsInLine (columns_text is_listed slot)
  columns-line slot =
      flat-line (column_text is_listed slot)
      (λ n. if-line (is_listed (Cell slot n)) (number_text n) (number-line n)) (range_with_len 0 column_count)

  setting-line : (slot : ℕ) (caps num : Bool) (name : List ℕ) → IsInLine name
      → IsInLine (setting_text is_listed slot caps num name)
  setting-line slot caps num name h = if-line (is_listed (Locks slot caps num)) name h

  settings-line : (slot : ℕ) → IsInLine (settings_text is_listed slot)
  settings-line slot =
      let none = setting_text is_listed slot false false (codes " none") in
      let num = setting_text is_listed slot false true (codes " nlock") in
      let caps = setting_text is_listed slot true false (codes " clock") in
      let both = setting_text is_listed slot true true (codes " clock+nlock") in
      append-line (none ++ num ++ caps) both
      (append-line (none ++ num) caps
      (append-line none num (setting-line slot false false (codes " none") refl)
      (setting-line slot false true (codes " nlock") refl))
      (setting-line slot true false (codes " clock") refl))
      (setting-line slot true true (codes " clock+nlock") refl)

  row-line : (slot : ℕ) → IsInLine (row_text is_listed slot)
  row-line slot =
      append-line (headed (codes "; columns") (columns_text is_listed slot))
      (headed (codes "; locks") (settings_text is_listed slot))
      (headed-line (codes "; columns") (columns_text is_listed slot) refl (columns-line slot))
      (headed-line (codes "; locks") (settings_text is_listed slot) refl (settings-line slot))

  characters-line : (i : ℕ) (bases : List ℕ) → IsInLine (flat_map (character_text is_listed i) bases)
  characters-line i bases =
      flat-line (character_text is_listed i) (λ n. if-line (is_listed (Pair i n)) (readable_text n) (character-line n)) bases

-- the slots from one on to before another that have a row
quiet-slots : (one : Bool) (word : List ℕ) (first end : ℕ) (row : List ℕ) → IsInLine word → IsInLine row
    → Adds (if one then comment (codes " {}: slot {}{}") (word ∷ decimal first ∷ row ∷ [])
    else comment (codes " {}: slots {} to {}{}") (word ∷ decimal first ∷ decimal (end - 1) ∷ row ∷ [])) []
quiet-slots true word first end row f g =
    quiet-comment (codes " {}: slot {}{}") (word ∷ decimal first ∷ row ∷ []) refl (f, (decimal-line first, (g, tt)))
quiet-slots false word first end row f g = search (rules, quiet-comment, decimal-line)

quiet-row : (word : List ℕ) (first end : ℕ) (row : List ℕ) → IsInLine word → IsInLine row
    → Adds (row_line word first end row) []
quiet-row word first end [] f g = adds-nil
quiet-row word first end (x ∷ row) f g = quiet-slots (end == first + 1) word first end (x ∷ row) f g

pub quiet-listed : {is_listed : Sight → Bool} {word : List ℕ} {end : ℕ} {text : List ℕ} → IsInLine word
    → ListsSlots is_listed word end text → Adds text []
quiet-listed f ListsSlots.no_slot = adds-nil
quiet-listed {is_listed} {word} f (ListsSlots.more_slots first end text before below alike ends) =
    quiet-listed f before ⊳ quiet-row word first end (row_text is_listed first) f (row-line is_listed first)

quiet-characters : (word : List ℕ) (i : ℕ) (text : List ℕ) → IsInLine word → IsInLine text
    → Adds (line_of_characters word i text) []
quiet-characters word i [] f g = adds-nil
quiet-characters word i (x ∷ xs) f g = search (rules, quiet-comment, name-line)

-- a line for each accent
pub quiet-accents : (is_listed : Sight → Bool) (word : List ℕ) (m : MapValue) → IsInLine word
    → Adds (accent_lines is_listed word m) []
quiet-accents is_listed word m f =
    quiet-flat (accent_line is_listed word m)
    (λ i. quiet-characters word i (flat_map (character_text is_listed i) (bases_at m i)) f
    (characters-line is_listed i (bases_at m i)))
    (range_with_len 0 accent_limit)

-- ---- the comments before the events

rest-line : (t : Bool) → IsInLine (if t then unstuck_word else never_word)
rest-line true = refl
rest-line false = refl

pub quiet-all_counts : (rest : List ℕ) (told : Sight → Verdict) (m : MapValue) → IsInLine rest
    → Adds (all_counts rest told m) []
quiet-all_counts rest told m line =
    quiet-counts rest (codes "cells") (counts_of told all_cells) line refl
    ⊳ quiet-counts rest (codes "lock settings") (counts_of told all_lock_settings) line refl
    ⊳ quiet-counts rest (codes "pairs") (counts_of told (all_pairs m)) line refl

quiet-counts_text : (told : Sight → Verdict) (m : MapValue) (c : Cover) → Adds (counts_text told m c) []
quiet-counts_text told m c =
    quiet-comment (codes " for a console in a program: on a machine it restarts, stops or sleeps") [] refl tt
    ⊳ quiet-all_counts (rest_word c) told m (rest-line c.sights.forgets)

quiet-lists : (told : Sight → Verdict) (m : MapValue) (c : Cover) (old new : List ℕ) → Adds old []
    → AddsLists told m c old new → Adds new []
quiet-lists told m c old new quiet l =
    let line : IsInLine (rest_word c) = rest-line c.sights.forgets in
    subst (λ t. Adds t []) (sym l.spelled)
    (quiet ⊳ quiet-listed refl l.lists_left_out ⊳ quiet-listed line l.lists_rest
    ⊳ quiet-accents (has_verdict told LeftOut) left_out_word m refl
    ⊳ quiet-accents (has_verdict told Never) (rest_word c) m line)

-- ---- events

quiet-part : (part : Part) → Adds (comment (part_words part) []) []
quiet-part Cells = quiet-comment (codes " cells") [] refl tt
quiet-part Pairs = quiet-comment (codes " pairs") [] refl tt
quiet-part Trials = quiet-comment (codes " trials") [] refl tt
quiet-part OneWay = quiet-comment (codes " one-way") [] refl tt

quiet-start : (place : ℕ) (s : Start) → Adds (start_line place s) []
quiet-start place s = quiet-if (s.at == place) (comment (part_words s.part) []) (quiet-part s.part)

abbrev pub IsOfKey : ScriptEvent → Type 0
IsOfKey s = key_of (what_of_event s) < key_count

event-adds : (s : ScriptEvent) → IsOfKey s → Adds (script_event_line s) (sent_of_event s ∷ [])
event-adds s lt = record { before = λ rest sent h. line-script (sends (sent_of_event s)) rest sent lt h }

-- what is left of a list begins with the element at this place
drop_is : {X : Type 0} (xs : List X) (n : ℕ) (x d : X) (rest : List X) → drop n xs ≡ x ∷ rest
    → (x ≡ get_or xs n d) × (drop (suc n) xs ≡ rest)
drop_is [] zero x d rest e = cc
drop_is [] (suc n) x d rest e = cc
drop_is (y ∷ ys) zero x d rest e = (cc, cc)
drop_is (y ∷ ys) (suc n) x d rest e = drop_is ys n x d rest e

-- the event at a place behind the text for that place
abbrev pub event_behind : (ℕ → List ℕ) → List ScriptEvent → ℕ → List ℕ
event_behind head all place = head place ++ script_event_line (get_or all place Reset)

-- the events from a place on, each behind a text that sends nothing
pub events-add : (head : ℕ → List ℕ) → ((place : ℕ) → Adds (head place) []) → (all events : List ScriptEvent)
    (place : ℕ) → drop place all ≡ events → All IsOfKey events
    → Adds (flat_map (event_behind head all) (range_with_len place (length events))) (map sent_of_event events)
events-add head quiet all [] place e keys = adds-nil
events-add head quiet all (s ∷ events) place e keys =
    let at = drop_is all place s Reset events e in
    let line : Adds (event_behind head all place) (sent_of_event s ∷ []) =
    rw (sym at.0) (quiet place ⊳ event-adds s (All-head IsOfKey s events keys)) in
    line ⊳ events-add head quiet all events (place + 1) (rw add-one at.1) (All-tail IsOfKey s events keys)

-- the events of a script that are on keys are of keys
events-keys : (events : List ScriptEvent) → HasKeys (events_of events) → All IsOfKey events
events-keys [] keys = All-nil IsOfKey
events-keys (Down k ∷ events) keys =
    All-cons IsOfKey (Down k) events (All-head HasKey _ _ keys) (events-keys events (All-tail HasKey _ _ keys))
events-keys (Repeat k ∷ events) keys =
    All-cons IsOfKey (Repeat k) events (All-head HasKey _ _ keys) (events-keys events (All-tail HasKey _ _ keys))
events-keys (Up k ∷ events) keys =
    All-cons IsOfKey (Up k) events (All-head HasKey _ _ keys) (events-keys events (All-tail HasKey _ _ keys))
events-keys (Reset ∷ events) keys =
    All-cons IsOfKey Reset events (lit< tt) (events-keys events (All-tail HasKey _ _ keys))

pub keys-of : (events : List ScriptEvent) → HasKeys (events_of (reverse events)) → All IsOfKey events
keys-of events keys =
    subst (All IsOfKey) (reverse-reverse events)
    (All-reversed IsOfKey (reverse events) (events-keys (reverse events) keys))

-- ---- the whole text

pub cover-sends : (m : MapValue) (c : Cover) (text : List ℕ) → IsCoverText m c text → HasKeys (history c)
    → IsScript text (events_sent c)
cover-sends m c text is keys =
    adds-script text (events_sent c) (subst (λ t. Adds t (events_sent c)) (sym is.spelled)
    (quiet-lists is.told m c (counts_text is.told m c) is.comments (quiet-counts_text is.told m c) is.adds_lists
    ⊳ events-add (λ n. flat_map (start_line n) c.starts.items)
    (λ n. quiet-flat (start_line n) (quiet-start n) c.starts.items) c.events.items c.events.items 0 refl
    (keys-of c.events.items keys)))

-- ---- what it delivers

events-append : (xs ys : List ScriptEvent) → events_of (xs ++ ys) ≡ events_of xs ++ events_of ys
events-append [] ys = refl
events-append (x ∷ xs) ys = ap (λ l. event_of x ∷ l) (events-append xs ys)

pub events-reverse : (xs : List ScriptEvent) → events_of (reverse xs) ≡ reverse (events_of xs)
events-reverse [] = refl
events-reverse (x ∷ xs) =
    let last = events-append (reverse xs) (x ∷ []) in
    cc (reverse-append (x ∷ []) xs, events-reverse xs, reverse-append (event_of x ∷ []) (events_of xs))

-- what is sent for the events of a script delivers them
pub events-deliver : (xs : List ScriptEvent) → delivered (map sent_of_event xs) ≡ events_of xs
events-deliver [] = refl
events-deliver (Down k ∷ xs) = ap (λ l. event_of (Down k) ∷ l) (events-deliver xs)
events-deliver (Repeat k ∷ xs) = ap (λ l. event_of (Repeat k) ∷ l) (events-deliver xs)
events-deliver (Up k ∷ xs) = ap (λ l. event_of (Up k) ∷ l) (events-deliver xs)
events-deliver (Reset ∷ xs) = ap (λ l. event_of Reset ∷ l) (events-deliver xs)

cover-delivers : (c : Cover) → reverse (delivered (events_sent c)) ≡ history c
cover-delivers c = ap reverse (events-deliver c.events.items) ∙ sym (events-reverse c.events.items)

pub shows-cover : (m : MapValue) (c : Cover) (script : List ℕ) → Covers m c → IsCoverText m c script
    → ShowsCover m script
shows-cover m c script covers e = search (rules, cover-sends, one_list, cover-delivers)
