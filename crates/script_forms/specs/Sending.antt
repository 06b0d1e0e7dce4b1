-- Which events a form of scripts has, and why a script isn't in a form.
use Rattle.std.specs.Prelude.{◌≡◌, ℕ, ◌==◌, ◌&&◌, not, Bool, true, false, List, Some, None, position, slice_get, ⊤}
use Rattle.keyboard.specs.Codes.{evdev_of, qcode_of, set1_of, x11_of}
use Rattle.play_core.specs.Scripts.{IsScript, IsScriptFault, is_there}
use Rattle.play_core.specs.declared.sent.Sent.{Sent}
use Rattle.play_core.specs.declared.sent.What.{What}
use Rattle.play_core.specs.declared.sent.What.TheVariants.{Down, Repeat, Up, Reset, Load}
use Rattle.script_forms.specs.declared.form.Form.{Form}
use Rattle.script_forms.specs.declared.form.Form.TheVariants.{Evdev, Set1, Qmp, X11}
use Rattle.script_forms.specs.declared.form.FormError.{FormError}
use Rattle.script_forms.specs.declared.form.FormError.TheVariants as error

-- the form has a number, bytes or a name for the key
abbrev pub has_key : Form → ℕ → Bool
has_key Evdev k = not (evdev_of k == 0)
has_key Set1 k = is_there (set1_of k)
has_key Qmp k = is_there (qcode_of k)
has_key X11 k = not (x11_of k == 0)

-- X has no repeats: its server makes them
abbrev pub repeats : Form → Bool
repeats X11 = false
repeats form = true

abbrev pub has_event : Form → What → Bool
has_event form (Down k) = has_key form k
has_event form (Repeat k) = repeats form && has_key form k
has_event form (Up k) = has_key form k
has_event form Reset = false
has_event form Load = false

-- what is lost isn't sent
abbrev pub sends : Form → Sent → Bool
sends form s = not s.lost && has_event form s.what

abbrev pub is_unsent : Form → Sent → Bool
is_unsent form s = not (sends form s)

-- the form has all events of the script
abbrev pub IsSent : Form → List ℕ → Type 0
IsSent form script = (sent : List Sent) × IsScript script sent × (position (is_unsent form) sent ≡ None)

-- the first event of the script that the form doesn't have
abbrev pub IsFirstUnsent : Form → List ℕ → Sent → Type 0
IsFirstUnsent form script s =
    (sent : List Sent) × IsScript script sent
    × (i : ℕ) × (position (is_unsent form) sent ≡ Some i) × (slice_get sent i ≡ Some s)

abbrev pub IsFormError : Form → List ℕ → FormError → Type 0
IsFormError form script error.Memory = ⊤
IsFormError form script (error.Fault fault) = IsScriptFault script fault
IsFormError form script (error.Unsent line s) = IsFirstUnsent form script s
