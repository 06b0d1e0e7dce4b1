-- What a keyboard sends when a console is tested by it: presses of the board's keys that end nothing and leave no
-- screen.
use Rattle.std.specs.Prelude.{◌≡◌, ◌==◌, ◌<◌, ℕ, Bool, true, false, ◌&&◌, ◌||◌, not, if◌then◌else◌, List, [], ◌∷◌, ◌++◌}
use Rattle.std.specs.Prelude.{Option, Some, None, slice_index_or}
use Rattle.std.specs.Option.{is_some}
use Rattle.keymap_core.specs.Actions.{IsAction, action_of, code_of}
use Rattle.keymap_core.specs.Numbers.{key_count}
use Rattle.keymap_core.specs.Maps.{MapValue}
use Rattle.keymap_core.specs.declared.action.Action.{Action}
use Rattle.keymap_core.specs.declared.action.Action.TheVariants as act
use Rattle.keymap_core.specs.declared.entry.Cell.{Cell}
use Rattle.keymap_core.specs.declared.entry.Cell.TheVariants.{Char, Act}
use Rattle.console_core.specs.declared.event.Event.{Event}
use Rattle.console_core.specs.declared.event.Event.TheVariants as event
use Rattle.console_core.specs.History.{between, accent_pending_after, pressed}
use Rattle.console_core.specs.Reading.{look_after}
use Rattle.console_states.specs.Allowed.{is_pressed}
use Rattle.console_states.specs.Sights.{selection_after}
use Rattle.console_states.specs.declared.allowed.KeyPresses.{KeyPresses}
use Rattle.console_states.specs.declared.allowed.KeyPresses.TheVariants.{Always, WithoutControl, WithoutAlt, Never}
use Rattle.console_states.specs.declared.allowed.Presses.{Presses}
use Rattle.console_states.specs.declared.selection.Selection.{Selection}
use Rattle.keyboard.specs.Boards.{is_on as is_on_board}
use Rattle.keyboard.specs.declared.board.Board.{Board}
use Rattle.keyboard_cover.specs.declared.keyboards.Keyboard.{Keyboard}
use Rattle.keyboard_cover.specs.declared.group.Group.{Group}
use Rattle.keyboard_cover.specs.declared.group.Group.TheVariants as group

-- the group of an action that ends or leaves the console, or types what no keymap says
abbrev pub group_of : Action → Option Group
group_of act.Boot = Some group.Boot
group_of act.Debug = Some group.Debug
group_of act.Suspend = Some group.Suspend
group_of act.Saver = Some group.Saver
group_of act.Standby = Some group.Standby
group_of act.Panic = Some group.Panic
group_of act.Halt = Some group.Halt
group_of act.PowerDown = Some group.PowerDown
group_of act.NextScreen = Some group.Screens
group_of act.PreviousScreen = Some group.Screens
group_of (act.Screen n) = Some group.Screens
group_of (act.Function n) = Some group.Functions
group_of act.Paste = Some group.Paste
group_of _ = None

-- the groups in their order
abbrev pub group_index : Group → ℕ
group_index group.Boot = 0
group_index group.Debug = 1
group_index group.Suspend = 2
group_index group.Saver = 3
group_index group.Standby = 4
group_index group.Panic = 5
group_index group.Halt = 6
group_index group.PowerDown = 7
group_index group.Screens = 8
group_index group.Functions = 9
group_index group.Paste = 10

-- an action is pressed where its group is, or it is in none
abbrev pub is_group_pressed : List Bool → Option Group → Bool
is_group_pressed groups None = true
is_group_pressed groups (Some g) = slice_index_or groups (group_index g) false

abbrev pub is_action_pressed : List Bool → Action → Bool
is_action_pressed groups b = is_group_pressed groups (group_of b)

-- so is what has a code, if an action has it
abbrev pub is_some_pressed : List Bool → Option Action → Bool
is_some_pressed groups None = true
is_some_pressed groups (Some b) = is_action_pressed groups b

abbrev pub is_code_pressed : List Bool → ℕ → Bool
is_code_pressed groups c = is_some_pressed groups (action_of c)

-- With alt a keyboard sends another code for key 92, and with control for key 104.
abbrev pub key_presses : Board → ℕ → KeyPresses
key_presses board k =
    if not (is_on_board board k) then Never
    else if k == 92 then WithoutAlt
    else if k == 104 then WithoutControl
    else Always

-- The presses are those of the board's keys, of the actions of the groups that are pressed and of those that are in
-- none.
pub record ArePresses (x : Keyboard) (p : Presses) : Type 0 where
  pub keys : (k : ℕ) → k < key_count → slice_index_or p.keys k Never ≡ key_presses x.board k
  pub actions : (b : Action) → IsAction b → slice_index_or p.actions (code_of b) false ≡ is_action_pressed x.groups b

-- While an accent is pending a function key and paste are an error and type nothing: so a press that looks one up
-- counts as one of a character.
abbrev pub counted_as : Bool → Cell → Cell
counted_as true (Act (act.Function n)) = Char 32
counted_as true (Act act.Paste) = Char 32
counted_as _ x = x

-- A keyboard sends other codes for these keys while one of the board's keys of alt, or of control, is down, whatever
-- the keymap has there. It releases key 104 right behind its press, so nothing is pressed before.
abbrev pub sends_other : (ℕ → Bool) → ℕ → Bool
sends_other is_down k =
    is_down 104
    || (if k == 92 then is_down 56 || is_down 93
    else if k == 104 then is_down 29 || is_down 90
    else false)

-- nor is another key released
abbrev pub must_wait : (ℕ → Bool) → ℕ → Bool
must_wait is_down k = is_down 104 && not (k == 104)

-- The press of the key may be made, under the selection, where these keys are pressed, an accent is pending or not,
-- and the key looks up the cell.
unfoldable pub may_press : Presses → Selection → (ℕ → Bool) → Bool → ℕ → Cell → Bool
may_press p y is_down is_pending k x =
    is_pressed p y k (counted_as is_pending x) && not (sends_other is_down k)

-- so it is behind the list of events
abbrev pub may_press_after : Presses → MapValue → List Event → ℕ → Bool
may_press_after p m h k =
    may_press p (selection_after m h) (λ j. pressed j h) (is_some (accent_pending_after (between m m) h)) k
    (look_after (between m m) k h)

-- The event may come behind the list: a press that may be made, or the release of a pressed key that needn't wait.
abbrev pub MayCome : Presses → MapValue → List Event → Event → Type 0
MayCome p m h (event.Press k) = (k < key_count) × (may_press_after p m h k ≡ true)
MayCome p m h (event.Release k) = (pressed k h ≡ true) × (must_wait (λ j. pressed j h) k ≡ false)
MayCome p m h e = ⊥

-- each event of the list, the newest first, may come behind those before it and h
abbrev pub AllMayCome : Presses → MapValue → List Event → List Event → Type 0
AllMayCome p m h [] = Unit {0}
AllMayCome p m h (e ∷ before) = MayCome p m (before ++ h) e × AllMayCome p m h before
