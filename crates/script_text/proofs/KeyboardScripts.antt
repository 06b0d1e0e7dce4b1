-- What is printed to test a console by its keyboard is a script of its events.
use Rattle.script_text.proofs.Common.{◌≡◌, ℕ, ◌==◌, true, List, [], ◌++◌, length, map, refl, sym, ap, subst, ◌∙◌}
use Rattle.script_text.proofs.Common.{append-nil, All, flat_map, reverse, MapValue, LeftOut, IsScript, one_list, has_verdict, codes}
use Rattle.keyboard_cover.specs.Covering.{Covers, history, verdict_of}
use Rattle.keyboard_cover.specs.declared.cover.KeyboardCover.{KeyboardCover}
use Rattle.keymap_cover.specs.ScriptEvents.{events_of}
use Rattle.keymap_cover.specs.declared.script_event.ScriptEvent.{ScriptEvent}
use Rattle.console_states.specs.declared.allowed.Presses.{Presses}
use Rattle.play_core.specs.Delivery.{delivered}
use Rattle.script_text.specs.Comments.{first_line, said_line, said_lines}
use Rattle.script_text.specs.Cover.{left_out_word, sent_of_event}
use Rattle.script_text.specs.Keyboard.{AddsSeen, IsKeyboardText, title_line, titled_lines}
use Rattle.script_text.specs.Replayed.{ShowsKeyboardCover}
use Rattle.script_text.specs.declared.keyboard_script.Title.{Title}
use Rattle.script_text.proofs.Comments.{Adds, adds-script, quiet-flat, quiet-if, ◌⊳◌}
use Rattle.script_text.proofs.CoverScripts.{IsOfKey, events-add, events-deliver, events-reverse, keys-of, quiet-accents}
use Rattle.script_text.proofs.CoverScripts.{quiet-all_counts, quiet-listed}
use Rattle.script_text.proofs.DiffScripts.{first-in-line, quiet-said, quiet-told}

quiet-title : (place : ℕ) (t : Title) → Adds (title_line place t) []
quiet-title place t =
    quiet-if (t.at == place) (said_line (first_line t.line.items))
    (quiet-said (first_line t.line.items) (first-in-line t.line.items))

quiet-titles : (titles : List Title) (place : ℕ) → Adds (flat_map (title_line place) titles) []
quiet-titles titles place = quiet-flat (title_line place) (quiet-title place) titles

titled-add : (titles : List Title) (events : List ScriptEvent) → All IsOfKey events
    → Adds (titled_lines titles events) (map sent_of_event events)
titled-add titles events keys =
    subst (Adds (titled_lines titles events)) (append-nil (map sent_of_event events))
    (events-add (λ n. flat_map (title_line n) titles) (quiet-titles titles) events events 0 refl keys
    ⊳ quiet-titles titles (length events))

quiet-seen : (m : MapValue) (c : KeyboardCover) (old new : List ℕ) → Adds old [] → AddsSeen m c old new → Adds new []
quiet-seen m c old new quiet l =
    subst (λ t. Adds t []) (sym l.spelled)
    (quiet ⊳ quiet-all_counts (codes "else") (verdict_of c) m refl ⊳ quiet-listed refl l.lists_left_out
    ⊳ quiet-accents (has_verdict (verdict_of c) LeftOut) left_out_word m refl)

keyboard-sends : (p : Presses) (m : MapValue) (c : KeyboardCover) (text : List ℕ) → Covers p m c
    → IsKeyboardText m c true text
    → IsScript text (map sent_of_event c.script.events.items)
keyboard-sends p m c text covers is =
    let events = c.script.events.items in
    subst (λ es. IsScript text (map sent_of_event es)) (is.whole refl)
    (adds-script text (map sent_of_event is.events) (subst (λ t. Adds t (map sent_of_event is.events)) (sym is.spelled)
    (quiet-seen m c (said_lines is.told) is.comments (quiet-told is.told) is.adds_seen
    ⊳ titled-add is.titles is.events
    (subst (All IsOfKey) (sym (is.whole refl)) (keys-of events covers.script.rest.keys)))))

pub shows-keyboard-cover : (p : Presses) (m : MapValue) (c : KeyboardCover) (text : List ℕ) → Covers p m c
    → IsKeyboardText m c true text
    → ShowsKeyboardCover c text
shows-keyboard-cover p m c text covers is =
    let events = c.script.events.items in
    let sends = keyboard-sends p m c text covers is in
    record {
      is = sends;
      nothing_else = λ others other. one_list text others (map sent_of_event events) other sends;
      delivers = ap reverse (events-deliver events) ∙ sym (events-reverse events);
    }
