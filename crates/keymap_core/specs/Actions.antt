-- The actions of a keymap: each with its code in a table and its name.
use Rattle.std.specs.Prelude.{◌≡◌, ℕ, ◌+◌, ◌-◌, ◌/◌, ◌%◌, ◌<◌, ◌≤◌, ◌==◌, nat_le, List, [], ◌∷◌, ◌++◌, codes, map}
use Rattle.std.specs.Prelude.{Option, Some, None, slice_index_or, if◌then◌else◌, ◌&&◌, ◌⊎◌, Bool}
use Rattle.std.specs.List.{find}
use Rattle.keymap_core.specs.Numbers.{accent_limit}
use Rattle.keymap_core.specs.declared.action.Action.{Action}
use Rattle.keymap_core.specs.declared.action.Action.TheVariants as a
use Rattle.keymap_core.specs.declared.action.Modifier.{Modifier}
use Rattle.keymap_core.specs.declared.action.Modifier.TheVariants as m
use Rattle.keymap_core.specs.declared.action.Lock.{Lock}
use Rattle.keymap_core.specs.declared.action.Lock.TheVariants as l
use Rattle.keymap_core.specs.declared.action.Holding.{Holding}
use Rattle.keymap_core.specs.declared.action.Holding.TheVariants as h
use Rattle.keymap_core.specs.contracts.action.ActionPartialEq.TheImpl as action_equal
use Rattle.keymap_core.specs.contracts.action.ModifierPartialEq.TheImpl as modifier_equal
use Rattle.keymap_core.specs.contracts.action.LockPartialEq.TheImpl as lock_equal

-- a row of the table of actions
pub record Row : Type 0 where
  pub code : ℕ
  pub name : List ℕ

abbrev pub row : ℕ → List ℕ → Row
row c n = record { code = c; name = n }

abbrev pub two_digits : ℕ → List ℕ
two_digits n = (48 + n / 10) ∷ (48 + n % 10) ∷ []

-- the names of the accents, in the order of their index
abbrev pub accent_names : List (List ℕ)
accent_names =
    codes "dgra" ∷ codes "dacu" ∷ codes "dcir" ∷ codes "dtil" ∷ codes "dmac" ∷ codes "dbre" ∷ codes "ddot"
    ∷ codes "duml"
    ∷ codes "dsla" ∷ codes "drin" ∷ codes "dced" ∷ codes "dapo" ∷ codes "ddac" ∷ codes "dogo" ∷ codes "dcar" ∷ []

-- the table of actions
abbrev pub row_of : Action → Row
row_of a.Nop = row 0x00 (codes "nop")
row_of (a.Mod m.LeftShift) = row 0x02 (codes "lshift")
row_of (a.Mod m.RightShift) = row 0x03 (codes "rshift")
row_of (a.Lock l.Caps) = row 0x04 (codes "clock")
row_of (a.Lock l.Num) = row 0x05 (codes "nlock")
row_of (a.Lock l.Scroll) = row 0x06 (codes "slock")
row_of (a.Mod m.LeftAlt) = row 0x07 (codes "lalt")
row_of a.BackTab = row 0x08 (codes "btab")
row_of (a.Mod m.LeftControl) = row 0x09 (codes "lctrl")
row_of a.NextScreen = row 0x0a (codes "nscr")
row_of (a.Screen n) = row (0x0a + n) (codes "scr" ++ two_digits n)
row_of (a.Function n) = row (0x1a + n) (codes "fkey" ++ two_digits n)
row_of (a.Mod m.RightControl) = row 0x80 (codes "rctrl")
row_of (a.Mod m.RightAlt) = row 0x81 (codes "ralt")
row_of (a.Lock l.Alt) = row 0x82 (codes "alock")
row_of (a.Mod m.AltShift) = row 0x83 (codes "ashift")
row_of (a.Mod m.Meta) = row 0x84 (codes "meta")
row_of a.Boot = row 0x85 (codes "boot")
row_of a.Debug = row 0x86 (codes "debug")
row_of a.Suspend = row 0x87 (codes "susp")
row_of a.Saver = row 0x88 (codes "saver")
row_of (a.DeadKey i) = row (0x89 + i) (slice_index_or accent_names i [])
row_of a.Standby = row 0x98 (codes "stby")
row_of a.PreviousScreen = row 0x99 (codes "pscr")
row_of a.Panic = row 0x9a (codes "panic")
row_of a.Halt = row 0xa1 (codes "halt")
row_of a.PowerDown = row 0xa2 (codes "pdwn")
row_of a.Paste = row 0xa3 (codes "paste")

abbrev pub code_of : Action → ℕ
code_of a = (row_of a).code

abbrev pub name_of : Action → List ℕ
name_of a = (row_of a).name

-- the name without its digits, if it has some
abbrev pub letters_of : Action → List ℕ
letters_of (a.Screen n) = codes "scr"
letters_of (a.Function n) = codes "fkey"
letters_of a = name_of a

-- the actions of the table: screens 1 to 16, function keys 1 to 96, accents 0 to 14
abbrev pub IsAction : Action → Type 0
IsAction (a.Screen n) = (0 < n) × (n ≤ 16)
IsAction (a.Function n) = (0 < n) × (n ≤ 96)
IsAction (a.DeadKey i) = i < accent_limit
IsAction _ = Unit {0}

-- the actions without a number
abbrev pub plain_actions : List Action
plain_actions =
    a.Nop ∷ a.Mod m.LeftShift ∷ a.Mod m.RightShift ∷ a.Lock l.Caps ∷ a.Lock l.Num ∷ a.Lock l.Scroll ∷ a.Mod m.LeftAlt
    ∷ a.BackTab ∷ a.Mod m.LeftControl ∷ a.NextScreen ∷ a.Mod m.RightControl ∷ a.Mod m.RightAlt ∷ a.Lock l.Alt
    ∷ a.Mod m.AltShift ∷ a.Mod m.Meta ∷ a.Boot ∷ a.Debug ∷ a.Suspend ∷ a.Saver ∷ a.Standby ∷ a.PreviousScreen ∷ a.Panic
    ∷ a.Halt ∷ a.PowerDown ∷ a.Paste ∷ []

-- the dead keys, in the order of their accents
abbrev pub dead_keys : List Action
dead_keys =
    a.DeadKey 0 ∷ a.DeadKey 1 ∷ a.DeadKey 2 ∷ a.DeadKey 3 ∷ a.DeadKey 4 ∷ a.DeadKey 5 ∷ a.DeadKey 6 ∷ a.DeadKey 7
    ∷ a.DeadKey 8
    ∷ a.DeadKey 9 ∷ a.DeadKey 10 ∷ a.DeadKey 11 ∷ a.DeadKey 12 ∷ a.DeadKey 13 ∷ a.DeadKey 14 ∷ []

-- the number is in the range, both ends included
abbrev pub within : ℕ → ℕ → ℕ → Bool
within low high n = nat_le low n && nat_le n high

-- the action of a code: the one in the table that has it
abbrev pub action_of : ℕ → Option Action
action_of c =
    if within 0x0b 0x1a c then Some (a.Screen (c - 0x0a))
    else if within 0x1b 0x7a c then Some (a.Function (c - 0x1a))
    else if within 0x89 0x97 c then Some (a.DeadKey (c - 0x89))
    else find (λ a. code_of a == c) plain_actions

-- the codes that no action has: those of the combined actions, 9b to a0, and the unused ones
abbrev pub IsCodeOfNoAction : ℕ → Type 0
IsCodeOfNoAction c =
    (c ≡ 0x01) ⊎ ((0x7b ≤ c) × (c ≤ 0x7f)) ⊎ ((0x9b ≤ c) × (c ≤ 0xa0)) ⊎ (0xa4 ≤ c)

-- the modifiers, in their order
abbrev pub modifiers : List Modifier
modifiers =
    m.LeftShift ∷ m.RightShift ∷ m.LeftControl ∷ m.RightControl ∷ m.LeftAlt ∷ m.RightAlt ∷ m.AltShift ∷ m.Meta ∷ []

-- a modifier's place in the list of the modifiers
abbrev pub modifier_index : Modifier → ℕ
modifier_index m.LeftShift = 0
modifier_index m.RightShift = 1
modifier_index m.LeftControl = 2
modifier_index m.RightControl = 3
modifier_index m.LeftAlt = 4
modifier_index m.RightAlt = 5
modifier_index m.AltShift = 6
modifier_index m.Meta = 7

-- the locks, in their order
abbrev pub locks : List Lock
locks = l.Caps ∷ l.Num ∷ l.Scroll ∷ l.Alt ∷ []

-- a lock's place in the list of the locks
abbrev pub lock_index : Lock → ℕ
lock_index l.Caps = 0
lock_index l.Num = 1
lock_index l.Scroll = 2
lock_index l.Alt = 3

-- whether two are the same, as `==` tells
abbrev pub same_modifier : Modifier → Modifier → Bool
same_modifier = modifier_equal.eq-value.it

abbrev pub same_lock : Lock → Lock → Bool
same_lock = lock_equal.eq-value.it

abbrev pub same_action : Action → Action → Bool
same_action = action_equal.eq-value.it

-- the holding actions: the modifiers, then the locks
abbrev pub holdings : List Holding
holdings = map h.Mod modifiers ++ map h.Lock locks

-- a holding action's place in their list
abbrev pub holding_index : Holding → ℕ
holding_index (h.Mod m) = modifier_index m
holding_index (h.Lock l) = 8 + lock_index l

-- the action that a holding action is
abbrev pub holding_action : Holding → Action
holding_action (h.Mod m) = a.Mod m
holding_action (h.Lock l) = a.Lock l

-- the holding action that an action is, if it is one
abbrev pub holding_of : Action → Option Holding
holding_of (a.Mod m) = Some (h.Mod m)
holding_of (a.Lock l) = Some (h.Lock l)
holding_of _ = None
