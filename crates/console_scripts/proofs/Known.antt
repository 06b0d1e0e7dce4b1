-- What was typed before, by the character and the state where it began.
use Rattle.console_scripts.proofs.Common.{◌≡◌, Bool, true, List, Some, sym, ◌&&◌, eqb, lookup, and_parts, eqb-true}
use Rattle.console_scripts.proofs.Common.{insert_entry, MapValue, AreKnown, state_of, rules, are_same, tells-same}
use Rattle.keyboard.specs.declared.board.Board.{Board}
use Rattle.console_scripts.specs.declared.typing.Kept.{Kept}
use Rattle.console_scripts.specs.declared.typing.Sought.{Sought}
use Rattle.console_scripts.specs.Inner.Exploring.{IsKnown}
use Rattle.console_scripts.proofs.Entries.{found-entry, one-entry}

-- what is known of a character and a state is known of the same character and state
same-known : (b : Board) (m : MapValue) (x y : Sought) (v : Kept) → state_of x.from ≡ state_of y.from
    → x.character ≡ y.character → IsKnown b m y v → IsKnown b m x v
same-known b m x y v from c is = rw (from, c) is

-- a test that tells both
abbrev pub TellsSought : (Sought → Sought → Bool) → Type 0
TellsSought E = (a b : Sought) → E a b ≡ true → (state_of a.from ≡ state_of b.from) × (a.character ≡ b.character)

-- what tests them equal
abbrev pub are_same_sought : Sought → Sought → Bool
are_same_sought a b = are_same a.from b.from && eqb a.character b.character

pub tells-sought : TellsSought are_same_sought
tells-sought a b t = search (rules, and_parts, tells-same, eqb-true)

pub found-known : (E : Sought → Sought → Bool) → TellsSought E → (b : Board) (m : MapValue)
    → (known : List (Sought × Kept)) (k : Sought) (v : Kept) → AreKnown b m known → lookup (E k) known ≡ Some v
    → IsKnown b m k v
found-known E same b m known k v all is =
    found-entry E (IsKnown b m) (λ x y v t is. let p = same x y t in same-known b m x y v p.0 p.1 is) known k v all is

pub known-more : (E : Sought → Sought → Bool) → TellsSought E → (b : Board) (m : MapValue)
    → (known : List (Sought × Kept)) (k : Sought) (v : Kept) → AreKnown b m known → IsKnown b m k v
    → AreKnown b m (insert_entry E known k v)
known-more E same b m known k v all is =
    one-entry E (IsKnown b m)
    (λ x y v t is. let p = same x y t in same-known b m y x v (sym p.0) (sym p.1) is) known k v all is
