-- The heads of remarks, notes and excerpts stay in their lines, and a terminal shows them.
use Rattle.keymap_lint_text.proofs.Common.{ℕ, List, [], ◌∷◌, refl, arith, Option, Some, None}
use Rattle.keymap_lint_text.proofs.Common.{length, ◌==◌, ◌+◌, ◌-◌, nat_lt, codes, map}
use Rattle.keymap_lint_text.proofs.Common.{All-nil, All-cons, Event, Modifier, Severity}
use Rattle.keymap_lint_text.proofs.Common.{TextFaultKind, fault_name, before_in_line, line, excerpt, lines_of, below}
use Rattle.keymap_lint_text.proofs.Common.{Said, Remark, head, place_text, said_text, kind_name}
use Rattle.keymap_lint_text.proofs.Common.{IsSeen, IsLine, take}
use Rattle.std.proofs.lemmas.Bool.{cond_both}
use Rattle.std.proofs.Common.{All}
use Rattle.console_core.specs.declared.event.Event.TheVariants.{Press, Release, Reset, Load}
use Rattle.keymap_lint.specs.declared.diagnostic.Kind.{Kind}
use Rattle.keymap_lint_text.specs.Excerpt.{shown_line, caret_line, side}
use Rattle.keymap_lint_text.specs.Names.{severity_text}
use Rattle.keymap_names.proofs.Shared.{all_seen, ascii, decimal_line, either, line_chars, line_cons}
use Rattle.keymap_names.proofs.Shared.{line_flat, line_if, line_none, modifier_line, name_line}
use Rattle.keymap_names.proofs.Shared.{◌⊳◌}
use Rattle.keymap_lint.specs.declared.diagnostic.Kind.TheVariants as kinds
use Rattle.keymap_lint.specs.declared.diagnostic.Severity.TheVariants as severities
use Rattle.keymap_text.specs.declared.fault.TextFaultKind.TheVariants as faults
use Rattle.keymap_lint_text.specs.Notes as notes

-- ---- modifiers and events

further_modifier_line : (modifier : Modifier) → IsLine (notes.further_modifier modifier)
further_modifier_line modifier = ascii (codes " and ") refl ⊳ modifier_line modifier

modifiers_line : (ms : List Modifier) → IsLine (notes.modifiers_text ms)
modifiers_line [] = line_none
modifiers_line (modifier ∷ ms) =
    modifier_line modifier ⊳ line_flat notes.further_modifier further_modifier_line ms

event_line : (e : Event) → IsLine (notes.event_text e)
event_line (Press key) = ascii (codes "down ") refl ⊳ decimal_line key
event_line (Release key) = ascii (codes "up ") refl ⊳ decimal_line key
event_line Reset = ascii _ refl
event_line Load = ascii _ refl

further_event_line : (e : Event) → IsLine (notes.further_event e)
further_event_line e = ascii (codes ", ") refl ⊳ event_line e

events_line : (es : List Event) → IsLine (notes.events_text es)
events_line [] = line_none
events_line (e ∷ es) = event_line e ⊳ line_flat notes.further_event further_event_line es

pub sticks_line : (stuck : List Modifier) (events : List Event) → IsLine (notes.sticks_text stuck events)
unfolding notes.sticks_text
sticks_line stuck events =
    modifiers_line stuck ⊳ ascii (codes " ") refl
    ⊳ either (length stuck == 1) _ _ (ascii (codes "stays") refl) (ascii (codes "stay") refl)
    ⊳ ascii (codes " on with no key pressed, after: ") refl ⊳ events_line events

-- ---- names of kinds, and a whole line

pub kind_line : (kind : Kind) → IsLine (kind_name kind)
unfolding kind_name
kind_line kinds.NoKey = ascii _ refl
kind_line _ = ascii _ refl

pub fault_name_line : (kind : TextFaultKind) → IsLine (fault_name kind)
fault_name_line faults.BadByte = ascii _ refl
fault_name_line _ = ascii _ refl

severity_line : (s : Severity) → IsLine (severity_text s)
severity_line severities.Error = ascii _ refl
severity_line _ = ascii _ refl

place_line : (file text : List ℕ) (place : Option ℕ) → IsLine file → IsLine (place_text file text place)
place_line file text None p = p ⊳ ascii (codes ":1:1: ") refl
place_line file text (Some place) p =
    p ⊳ ascii (codes ":") refl ⊳ decimal_line (line text place) ⊳ ascii (codes ":") refl
    ⊳ decimal_line (length (before_in_line text place) + 1) ⊳ ascii (codes ": ") refl

-- what is said, where the name of its kind and its message are lines
abbrev pub IsSaid : Said → Type 0
IsSaid (Said.Judged severity kind message) = IsLine kind × IsLine message
IsSaid (Said.Noted message) = IsLine message

said_line : (s : Said) → IsSaid s → IsLine (said_text s)
said_line (Said.Judged severity kind message) (p, q) =
    severity_line severity ⊳ ascii (codes ": ") refl ⊳ q ⊳ ascii (codes " [") refl ⊳ p ⊳ ascii (codes "]") refl
said_line (Said.Noted message) p = ascii (codes "note: ") refl ⊳ p

pub head_line : (file text : List ℕ) (e : Remark) → IsLine file → IsSaid e.said → IsLine (head file text e)
head_line file text e p q = place_line file text e.place p ⊳ said_line e.said q

-- ---- the line of a place and the caret, and a name

line_below : (cs : List ℕ) → IsLine (map below cs)
line_below [] = line_none
line_below (c ∷ cs) =
    cond_both (c == 9) 9 32 (λ b. IsLine (b ∷ map below cs)) (λ _. line_cons 9 _ (omega arith) refl (line_below cs))
    (λ _. line_cons 32 _ (omega arith) refl (line_below cs))

two_blanks : IsLine (codes "  ")
two_blanks = ascii _ refl

two_dots : IsLine (codes "..")
two_dots = ascii _ refl

is_shown_line : (left : ℕ) (cs rest : List ℕ) → All IsSeen cs → IsLine (shown_line left cs rest)
is_shown_line left cs rest p =
    two_blanks ⊳ line_if (nat_lt 0 left) _ two_dots ⊳ line_chars cs p ⊳ name_line (take side rest)
    ⊳ line_if (nat_lt 0 (length rest - side)) _ two_dots

is_caret_line : (left : ℕ) (cs : List ℕ) → IsLine (caret_line left cs)
is_caret_line left cs =
    two_blanks ⊳ line_if (nat_lt 0 left) _ two_blanks ⊳ line_below cs ⊳ ascii (codes "^") refl

both_lines : (left : ℕ) (cs rest : List ℕ) → All IsSeen cs → All IsLine (lines_of left cs rest)
both_lines left cs rest p =
    All-cons IsLine (shown_line left cs rest) (caret_line left cs ∷ []) (is_shown_line left cs rest p)
    (All-cons IsLine (caret_line left cs) [] (is_caret_line left cs) (All-nil IsLine))

pub excerpt_lines : (before rest : List ℕ) → All IsLine (excerpt before rest)
unfolding excerpt
excerpt_lines before rest = both_lines _ _ _ (all_seen _)
