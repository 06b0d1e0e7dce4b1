-- The script that types a sentence is lines that a terminal shows.
use Rattle.kmap_runs.proofs.Common.{◌≡◌, ℕ, Bool, true, false, List, [], ◌∷◌, refl, All, ◌-◌, take, drop, codes}
use Rattle.kmap_runs.proofs.Common.{encode_utf8, if◌then◌else◌, before_first, All-tail, All-take, Event, Keyed, Typing}
use Rattle.kmap_runs.proofs.Common.{characters_of, code_text, is_unseen, event_line, shown, is_line_feed, comment_if}
use Rattle.kmap_runs.proofs.Common.{lines_from, typing_script}
use Rattle.std.specs.Char.{IsScalar}
use Rattle.std.specs.List.{position_or_len}
use Rattle.keymap_names.proofs.Shared.{ascii, code_text_line, decimal_line, fills, itself, line_each}
use Rattle.keymap_names.proofs.Shared.{plain_append, plain_flat, plain_line, plain_none, ◌⊳◌}
use Rattle.keymap_names.specs.Shown.{IsLine, IsPlainText}
use Rattle.kmap_runs.specs.Typing.{sentence_line}
use Rattle.console_core.specs.declared.event.Event.TheVariants as event

shown_by : (c : ℕ) (hidden : Bool) → is_unseen c ≡ hidden → IsScalar c
    → IsLine (if hidden then code_text c else encode_utf8 c)
shown_by c true h s = code_text_line c
shown_by c false h s = itself c s h

shown_line : (c : ℕ) → IsScalar c → IsLine (shown c)
unfolding shown
shown_line c s = shown_by c (is_unseen c) refl s

comment_plain : (ks : List Keyed) → All IsScalar (characters_of ks) → IsPlainText (sentence_line ks)
comment_plain ks h =
    let cs : List ℕ = characters_of ks in
    plain_line _ (ascii (codes "#") refl ⊳ (fills (codes " {}") _ refl (
      line_each IsScalar shown shown_line (before_first is_line_feed cs)
          (All-take IsScalar (position_or_len is_line_feed cs) cs h),
      tt,
    )))

comment_if_plain : (starts : Bool) (ks : List Keyed) → All IsScalar (characters_of ks)
    → IsPlainText (comment_if starts ks)
comment_if_plain true ks h = comment_plain ks h
comment_if_plain false ks h = plain_none

event_plain : (e : Event) → IsPlainText (event_line e)
event_plain (event.Press k) = plain_line _ (ascii (codes "down ") refl ⊳ decimal_line k)
event_plain (event.Release k) = plain_line _ (ascii (codes "up ") refl ⊳ decimal_line k)
event_plain event.Reset = plain_line (codes "reset") (ascii _ refl)
event_plain event.Load = plain_line (codes "load") (ascii _ refl)

lines_plain : (starts : Bool) (from : ℕ) (es : List Event) (ks : List Keyed) → All IsScalar (characters_of ks)
    → IsPlainText (lines_from starts from es ks)
unfolding lines_from
lines_plain starts from es [] h = plain_flat event_line event_plain es
lines_plain starts from es (k ∷ ks) h =
    plain_append _ _
    (plain_append _ _ (comment_if_plain starts (k ∷ ks) h)
    (plain_flat event_line event_plain (take (k.end - from) es)))
    (lines_plain (is_line_feed k.character) k.end (drop (k.end - from) es) ks
    (All-tail IsScalar k.character (characters_of ks) h))

pub typing_plain : (x : Typing) → All IsScalar (characters_of x.keyed.items) → IsPlainText (typing_script x)
typing_plain x h = lines_plain true 0 x.events.items x.keyed.items h
