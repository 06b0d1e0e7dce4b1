-- What is printed of a script that tests a console by its keyboard: its head, of which some lines aren't spoken of, how
-- much it sees, what it leaves out, and its events behind comments.
use Rattle.std.specs.Prelude.{◌≡◌, ℕ, ◌==◌, Bool, true, List, [], ◌++◌, codes, length, slice_index_or, if◌then◌else◌}
use Rattle.std.specs.Global.{Vec}
use Rattle.std.specs.List.{flat_map, range_with_len}
use Rattle.keymap_core.specs.Maps.{MapValue}
use Rattle.keymap_core.specs.Numbers.{slot_limit}
use Rattle.keymap_cover.specs.declared.parts.Verdict.TheVariants.{LeftOut}
use Rattle.keymap_cover.specs.declared.script_event.ScriptEvent.{ScriptEvent}
use Rattle.keymap_cover.specs.declared.script_event.ScriptEvent.TheVariants.{Reset}
use Rattle.keyboard_cover.specs.Covering.{verdict_of}
use Rattle.keyboard_cover.specs.declared.cover.KeyboardCover.{KeyboardCover}
use Rattle.script_text.specs.Comments.{first_line, said_line, said_lines}
use Rattle.script_text.specs.Cover.{ListsSlots, accent_lines, all_counts, has_verdict, left_out_word, script_event_line}
use Rattle.script_text.specs.declared.keyboard_script.Title.{Title}

-- a comment if it stands at the place
abbrev pub title_line : ℕ → Title → List ℕ
title_line place t = if t.at == place then said_line (first_line t.line.items) else []

-- the event at a place, behind the comments that stand there
abbrev pub titled_event : List Title → List ScriptEvent → ℕ → List ℕ
titled_event titles events place =
    flat_map (title_line place) titles ++ script_event_line (slice_index_or events place Reset)

-- all events, and the comments that stand at the end
abbrev pub titled_lines : List Title → List ScriptEvent → List ℕ
titled_lines titles events =
    flat_map (titled_event titles events) (range_with_len 0 (length events))
    ++ flat_map (title_line (length events)) titles

-- Behind a text stand how many cells, lock settings and pairs have each verdict, and in lists what is left out.
pub record AddsSeen (m : MapValue) (c : KeyboardCover) (old new : List ℕ) : Type 0 where
  pub left_out : List ℕ
  pub lists_left_out : ListsSlots (has_verdict (verdict_of c) LeftOut) left_out_word slot_limit left_out
  pub spelled : new ≡ old ++ all_counts (codes "else") (verdict_of c) m ++ left_out
      ++ accent_lines (has_verdict (verdict_of c) LeftOut) left_out_word m

-- The text has these behind the lines of its head, and then the events of the script, or, where no repeats are sent, of
-- some of its cases.
pub record IsKeyboardText (m : MapValue) (c : KeyboardCover) (sends_repeats : Bool) (text : List ℕ) : Type 0 where
  pub told : List (Vec ℕ)
  pub comments : List ℕ
  pub adds_seen : AddsSeen m c (said_lines told) comments
  pub titles : List Title
  pub events : List ScriptEvent
  pub whole : sends_repeats ≡ true → events ≡ c.script.events.items
  pub spelled : text ≡ comments ++ titled_lines titles events
