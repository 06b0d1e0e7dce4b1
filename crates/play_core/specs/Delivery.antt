-- What is delivered of what is sent.
use Rattle.std.specs.Prelude.{List, Option, None, Some, if◌then◌else◌}
use Rattle.std.specs.List.{filter_map}
use Rattle.play_core.specs.Types.{Event, What, Down, Repeat, Up, Reset, Load, Sent}
use Rattle.console_core.specs.declared.event.Event.TheVariants as event

-- a repeat is one more press
abbrev pub delivered_by : What → Event
delivered_by (Down k) = event.Press k
delivered_by (Repeat k) = event.Press k
delivered_by (Up k) = event.Release k
delivered_by Reset = event.Reset
delivered_by Load = event.Load

-- nothing of what is lost
abbrev pub event_of : Sent → Option Event
event_of s = if s.lost then None else Some (delivered_by s.what)

-- the delivered events, in the order in which they were sent
abbrev pub delivered : List Sent → List Event
delivered sent = filter_map event_of sent
