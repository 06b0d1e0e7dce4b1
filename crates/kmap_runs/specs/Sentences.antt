-- The events that type a sentence.
use Rattle.std.specs.Prelude.{◌≡◌, ℕ, true, List, [], ◌∷◌, ◌++◌, length, All, ⊤}
use Rattle.std.specs.Str.{IsUtf8, IsValidUpTo, all_scalars, encode_utf8_all}
use Rattle.keymap_core.specs.Maps.{MapValue}
use Rattle.console_scripts.specs.declared.typing.Typing.{Typing}
use Rattle.console_core.specs.History.{Maps, between, answers_to}
use Rattle.console_states.specs.Moves.{alone as under_alone}
use Rattle.console_states.specs.Sticking.{ReachesMoreThan, state_limit}
use Rattle.console_scripts.specs.Typing.{AreTyped, CanType}
use Rattle.kmap_runs.specs.declared.type_error.TypeError.{TypeError}
use Rattle.kmap_runs.specs.declared.type_error.TypeError.TheVariants.{Memory, NotText, NoWay, TooManyStates}
use Rattle.play_core.specs.Written.{typed_text}

-- a console of one map
abbrev pub alone : MapValue → Maps
alone m = between m m

-- The bytes are the text of characters, and the events, delivered to a new console, type these bytes and leave the
-- console as a new one.
pub record IsTyped (m : MapValue) (bytes : List ℕ) (x : Typing) : Type 0 where
  pub characters : List ℕ
  pub text : encode_utf8_all characters ≡ bytes
  pub are : AreTyped m characters x
  pub typed : typed_text (answers_to (alone m) [] x.events.items) ≡ bytes

-- The bytes are the text of scalars, and the one at the offset is the first that keys can't type.
abbrev pub IsUntyped : MapValue → List ℕ → ℕ → ℕ → Type 0
IsUntyped m bytes offset c =
    (before after : List ℕ) × (all_scalars (before ++ c ∷ after) ≡ true)
    × (encode_utf8_all (before ++ c ∷ after) ≡ bytes) × (offset ≡ length (encode_utf8_all before))
    × All (λ d. CanType m d) before × (CanType m c → ⊥)

-- why a sentence isn't typed: the offset is that of the first byte that isn't text, or of the character
abbrev pub IsTypeError : MapValue → List ℕ → TypeError → Type 0
IsTypeError m bytes Memory = ⊤
IsTypeError m bytes (NotText offset) = (IsUtf8 bytes → ⊥) × IsValidUpTo bytes offset
IsTypeError m bytes (NoWay offset c) = IsUntyped m bytes offset c
IsTypeError m bytes TooManyStates = (p : ℕ) × ReachesMoreThan (under_alone m) state_limit p
