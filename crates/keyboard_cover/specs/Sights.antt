-- What allowed presses can see.
use Rattle.std.specs.Prelude.{◌≡◌, ◌↔◌, ◌<◌, ℕ, Bool, true, false, List, ◌∷◌}
use Rattle.keymap_core.specs.Maps.{MapValue}
use Rattle.keymap_core.specs.Numbers.{key_count}
use Rattle.console_core.specs.declared.event.Event.{Event}
use Rattle.console_core.specs.declared.event.Event.TheVariants.{Press}
use Rattle.console_states.specs.Allowed.{is_pressed}
use Rattle.console_states.specs.AllowedSights.{IsReachableUnder}
use Rattle.console_states.specs.Moves.{Under, alone_by}
use Rattle.console_states.specs.Sights.{IsAdmitted, SeesNext}
use Rattle.console_states.specs.Sticking.{AreAllowed, NeverForgets}
use Rattle.console_states.specs.declared.allowed.Presses.{Presses}
use Rattle.console_states.specs.declared.selection.Sight.{Sight}
use Rattle.keymap_cover.specs.SeenSights.{has_seen}
use Rattle.keyboard_cover.specs.declared.sights.AllowedSights.{AllowedSights}

-- the keymap alone, by these presses
abbrev pub under : Presses → MapValue → Under
under p m = alone_by (is_pressed p) m

-- The sights are those that allowed presses can see, and a key that holds a modifier can look up a character by one, so
-- that the modifier is forgotten, or none can.
pub record AreAllowedSights (p : Presses) (m : MapValue) (x : AllowedSights) : Type 0 where
  pub can : (y : Sight) → (has_seen x.can y ≡ true) ↔ IsReachableUnder (under p m) y
  pub forgets : (x.forgets ≡ false) ↔ NeverForgets (under p m)

-- No press of an admitted list sees it: of a list of allowed presses, of releases and resets, or, where a modifier can
-- be forgotten, of a clean one.
abbrev pub NeverSeesBy : Presses → MapValue → Bool → Sight → Type 0
NeverSeesBy p m forgets x =
    (h : List Event) (k : ℕ) → IsAdmitted m forgets h → AreAllowed (under p m) (Press k ∷ h) → k < key_count
    → SeesNext m h k x
    → ⊥
