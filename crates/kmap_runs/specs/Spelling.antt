-- Characters that are typed each by itself.
use Rattle.std.specs.Prelude.{◌≡◌, ◌⊎◌, ℕ, true, false, List, [], ◌∷◌, ◌++◌, All, ⊤, length, map, slice_get, take}
use Rattle.std.specs.Prelude.{None, Some}
use Rattle.std.specs.Prelude.{if◌then◌else◌, nat_eq, IfSome}
use Rattle.std.specs.List.{Contains, list_any}
use Rattle.std.specs.List.Sorted.{IsStrictlyIncreasing}
use Rattle.std.specs.Str.{all_scalars, encode_utf8_all}
use Rattle.keymap_core.specs.Maps.{MapValue}
use Rattle.keyboard.specs.declared.board.Board.{Board}
use Rattle.keyboard.specs.Boards.{is_on}
use Rattle.console_core.specs.declared.event.Event.{Event}
use Rattle.console_core.specs.declared.event.Event.TheVariants.{Press}
use Rattle.console_scripts.specs.Typing.{AreTyped, CanType}
use Rattle.console_scripts.specs.Ways.{GoWaysFrom}
use Rattle.console_states.specs.Moves.{alone}
use Rattle.console_states.specs.Sticking.{ReachesMoreThan, state_limit}
use Rattle.kmap_runs.specs.declared.spelling.Spelled.{Spelled}
use Rattle.kmap_runs.specs.declared.spelling.Spelling.{Spelling}
use Rattle.kmap_runs.specs.declared.type_error.TypeError.{TypeError}
use Rattle.kmap_runs.specs.declared.type_error.TypeError.TheVariants as type

-- the events type the character and nothing else, by a way on the board, and leave a new console as a new one
abbrev pub IsSpelled : Board → MapValue → Spelled → Type 0
IsSpelled b m x =
    AreTyped m (x.character ∷ []) x.typing × GoWaysFrom b m x.typing.events.items 0 x.typing.keyed.items

abbrev pub spelled_of : List Spelled → List ℕ
spelled_of xs = map (λ (x : Spelled). x.character) xs

-- one more is typed so, which is this character
abbrev pub Adds : Board → MapValue → ℕ → List Spelled → List Spelled → Type 0
Adds b m c old new = (x : Spelled) × (x.character ≡ c) × IsSpelled b m x × (new ≡ old ++ x ∷ [])

-- why the character at the offset isn't typed
abbrev pub StopsAt : MapValue → ℕ → ℕ → TypeError → Type 0
StopsAt m c offset (type.NoWay at d) = (at ≡ offset) × (d ≡ c) × (CanType m c → ⊥)
StopsAt m c offset type.TooManyStates = (p : ℕ) × ReachesMoreThan (alone m) state_limit p
StopsAt m c offset _ = ⊥

-- the characters that stand neither before nor among those in front of them, in their order
unfoldable pub different_behind : List ℕ → List ℕ → List ℕ
different_behind before [] = []
different_behind before (c ∷ cs) =
    if list_any (nat_eq c) before then different_behind (c ∷ before) cs else c ∷ different_behind (c ∷ before) cs

-- each character once, in the order in which they stand first
abbrev pub different : List ℕ → List ℕ
different cs = different_behind [] cs

-- The different characters up to a place are typed each by itself: all of them, or up to one that isn't typed.
pub record AreSpelled (b : Board) (m : MapValue) (cs : List ℕ) (r : Spelling) : Type 0 where
  pub each : All (IsSpelled b m) r.each.items
  pub place : ℕ
  pub are : spelled_of r.each.items ≡ different (take place cs)
  pub all : r.stopped ≡ None → take place cs ≡ cs
  pub stopped :
      IfSome r.stopped (λ e. (c : ℕ) × (slice_get cs place ≡ Some c)
      × StopsAt m c (length (encode_utf8_all (take place cs))) e)

-- the bytes are the text of characters
pub record AreSpelledIn (b : Board) (m : MapValue) (bytes : List ℕ) (r : Spelling) : Type 0 where
  pub characters : List ℕ
  pub scalars : all_scalars characters ≡ true
  pub text : encode_utf8_all characters ≡ bytes
  pub are : AreSpelled b m characters r

-- ---- of all characters

-- some event presses a key that the board lacks
abbrev pub PressesOff : Board → List Event → Type 0
PressesOff b es = (i k : ℕ) × (slice_get es i ≡ Some (Press k)) × (is_on b k ≡ false)

-- the events that type the character by itself press such a key
abbrev pub LeavesBoard : Board → MapValue → ℕ → Type 0
LeavesBoard b m c = (x : Spelled) × (x.character ≡ c) × IsSpelled b m x × PressesOff b x.typing.events.items

-- one more is typed so, or the character isn't to be told
abbrev pub AddsOnBoard : Board → MapValue → ℕ → List Spelled → List Spelled → Type 0
AddsOnBoard b m c old new = Adds b m c old new ⊎ ((new ≡ old) × (CanType m c → LeavesBoard b m c))

-- These are typed each by itself, and they are all that keys of the board type so, by their numbers.
pub record IsSheet (b : Board) (m : MapValue) (xs : List Spelled) : Type 0 where
  pub each : All (IsSpelled b m) xs
  pub all : (c : ℕ) → CanType m c → Contains (spelled_of xs) c ⊎ LeavesBoard b m c
  pub order : IsStrictlyIncreasing (spelled_of xs)

abbrev pub IsSheetError : MapValue → TypeError → Type 0
IsSheetError m type.Memory = ⊤
IsSheetError m type.TooManyStates = (p : ℕ) × ReachesMoreThan (alone m) state_limit p
IsSheetError m _ = ⊥
