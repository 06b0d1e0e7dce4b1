-- What allowed presses see in states that were met. Mirrors src/sights.rt.
use Rattle.std.specs.Prelude.{◌≡◌, ◌<◌, ◌≤◌, ℕ, true, List, [], ◌∷◌, Option, None, Some, length, slice_get}
use Rattle.std.specs.Option.{is_some}
use Rattle.keymap_core.specs.Maps.{MapValue}
use Rattle.keymap_core.specs.Numbers.{key_count}
use Rattle.console_states.specs.Allowed.{is_pressed}
use Rattle.console_states.specs.Moves.{Under, State, start, minding, IsPath, selection_of, state_after, state_of}
use Rattle.console_states.specs.Searching.{Entry, Entries, Searched}
use Rattle.console_states.specs.Sights.{IsOfferedAlong, look_selected}
use Rattle.console_states.specs.Sticking.{state_limit}
use Rattle.console_states.specs.declared.allowed.Presses.{Presses}
use Rattle.console_states.specs.declared.held.Move.{Move}
use Rattle.console_states.specs.declared.selection.Selection.{Selection}
use Rattle.console_states.specs.declared.selection.Sight.{Sight}
use Rattle.keymap_cover.specs.SeenSights.{SeesWith}
use Rattle.keyboard_cover.specs.Sights.{under}

-- a search by these presses met all states that moves lead to from the start
abbrev pub HasMetAllBy : Presses → MapValue → Entries → Type 0
HasMetAllBy p m es = Searched (under p m) (start ∷ []) es (length es) (length es) × (length es ≤ state_limit)

-- the keymap alone, by these presses, where this accent is minded, or none
abbrev pub under_minding : Presses → MapValue → Option ℕ → Under
under_minding p m minded = record (under p m) { minded = minded }

-- a search by these presses that minds the accent met all states that moves lead to from the start
abbrev pub AreMindedBy : Presses → MapValue → ℕ → Entries → Type 0
AreMindedBy p m accent es = Searched (minding (under p m) accent) (start ∷ []) es (length es) (length es)

-- a press of the key is made, and sees it under the selection, where this accent is pending, or none
abbrev pub SeesMade : Presses → MapValue → Option ℕ → Selection → ℕ → Sight → Type 0
SeesMade p m pending y k x = SeesWith m y k pending x × (is_pressed p y k (look_selected m y k) ≡ true)

-- so does a press of some key below n
abbrev pub SeesUnder : Presses → MapValue → Option ℕ → ℕ → Selection → Sight → Type 0
SeesUnder p m pending n y x = (k : ℕ) × (k < n) × SeesMade p m pending y k x

-- in the state, if the accent is pending there, or none is
abbrev pub SeesIn : Presses → MapValue → Option ℕ → State → Sight → Type 0
SeesIn p m pending s x = (s.is_pending ≡ is_some pending) × SeesUnder p m pending key_count (selection_of s) x

-- in some state that was met below the place
abbrev pub SeesInMet : Presses → MapValue → Option ℕ → Entries → ℕ → Sight → Type 0
SeesInMet p m pending es n x =
    (j : ℕ) × (e : Entry) × (slice_get es j ≡ Some e) × (j < n) × SeesIn p m pending (state_of e.0) x

-- behind a path of moves, with no accent pending
abbrev pub SeesPlainly : Presses → MapValue → Sight → Type 0
SeesPlainly p m x =
    (path : List Move) × IsPath (under p m) path
    × SeesUnder p m None key_count (selection_of (state_after (under p m) path)) x

-- and with one pending that is offered along it
abbrev pub SeesBehind : Presses → MapValue → ℕ → Sight → Type 0
SeesBehind p m accent x =
    (path : List Move) × IsPath (under p m) path × IsOfferedAlong (under p m) path accent
    × SeesUnder p m (Some accent) key_count (selection_of (state_after (under p m) path)) x

-- of the accents below n
abbrev pub SeesBehindSome : Presses → MapValue → ℕ → Sight → Type 0
SeesBehindSome p m n x = (a : ℕ) × (a < n) × SeesBehind p m a x
