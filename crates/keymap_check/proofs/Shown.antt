-- A trap whose character cell has at most one bit more is demonstrated.
use Rattle.keymap_check.proofs.Common.{◌≡◌, ◌≢◌, ℕ, ◌<◌, Bool, true, false, not, List, [], ◌∷◌, Option, Some, None}
use Rattle.keymap_check.proofs.Common.{refl, ap, subst, sym, ◌∙◌, inl, inr, lit<, ◌==◌, reverse, true≢false, eq-eqb}
use Rattle.keymap_check.proofs.Common.{eqb-true, and_parts, not-true, false_from_ne_true, is_some, is_other, lacks_key}
use Rattle.keymap_check.proofs.Common.{Lock, Modifier, LeftShift, Cell, Char, Act, Event, Press, Release, Group, rules}
use Rattle.keymap_core.specs.Actions.{same_modifier}
use Rattle.keymap_core.proofs.Shared.{same_action-refl, some-modifier}
use Rattle.keymap_check.proofs.Common.{MapValue, cell_at, IsCellOf, IsUpperLive, gathered}
use Rattle.keymap_check.proofs.Common.{first_below-some, on, remembered, Maps, between, is_on_after, resolved}
use Rattle.keymap_check.proofs.Common.{is_any_on_after, PressedAction, same_action-true, first_place, is_of_group}
use Rattle.keymap_check.proofs.Common.{group_at, bears_group, bit_key, bit_keys, script, leaves_modifier_on}
use Rattle.keymap_check.proofs.Common.{demonstration_of, group_of, bit_of_group, with_bit, HasShownTrap, bits_of}
use Rattle.keymap_check.specs.Cells.{is_group_cell}
use Rattle.console_core.specs.Resolved.{held, locked, look}
use Rattle.console_core.specs.Columns.{slot_of, column_of}
use Rattle.console_core.specs.Resolved.ResolvedEvent.{PressedCharacter, ReleasedKey}
use Rattle.console_core.proofs.Shared.{AllLooked, column_of-lt, locked-start, look-bits, look-cell}
use Rattle.console_core.proofs.Shared.{remembered-start}
use Rattle.console_core.specs.Traps.{Bits, cell_with}
use Rattle.keymap_check.specs.Shown.{bits_with, HasCharacterWith, IsOneAction, HasFurtherKey}
use Rattle.keymap_check.proofs.Bits.{bits-more, bits-start}
use Rattle.keymap_check.proofs.Places.{HasCellOf, has-cell}
use Rattle.keymap_check.proofs.Findings.{unsafe-key}
use Rattle.keymap_check.proofs.TriedScripts.{alone-complete, tried-none}
use Rattle.keymap_core.specs.declared.action.Action.TheVariants as act
use Rattle.keymap_core.specs.declared.action.Holding.TheVariants as holding
use Rattle.keymap_check.specs.declared.kind.Group.TheVariants as group
use Rattle.keymap_check.specs.declared.kind.Kind.TheVariants as kind

-- a modifier turns no lock
locked-one : (i : Modifier) (k : ℕ) (l : Lock) → locked l (PressedAction k (act.Mod i) ∷ []) ≡ false
unfolding locked remembered
locked-one i k l = refl

-- two modifiers turn no lock
locked-two : (i y : Modifier) (k j : ℕ) (l : Lock) → (k == j) ≡ false
    → locked l (PressedAction j (act.Mod y) ∷ PressedAction k (act.Mod i) ∷ []) ≡ false
unfolding locked remembered
locked-two i y k j l en = rw en refl

-- another key remembers nothing
remembered-other : (i : Modifier) (k j : ℕ) → (k == j) ≡ false → remembered j (PressedAction k (act.Mod i) ∷ []) ≡ None
unfolding remembered
remembered-other i k j en = rw en refl

-- a look at the start is in the first cell
look-none : (m : MapValue) (k : ℕ) → look m [] k ≡ cell_at m k 0
look-none m k = search (rules, look-bits, locked-start, bits-start)

-- the bits of one modifier
bits-one : (i : Modifier) (k : ℕ) → bits_of (PressedAction k (act.Mod i) ∷ []) ≡ bits_with i None
bits-one i k = bits-more i k [] (remembered-start k) ∙ ap (with_bit (group_of i)) bits-start

-- a look under one modifier
look-one : (m : MapValue) (i : Modifier) (k : ℕ)
    → look m (PressedAction k (act.Mod i) ∷ []) k ≡ cell_with m k (bits_with i None)
look-one m i k = search (rules, look-bits, locked-one, bits-one)

-- a look under two modifiers
look-two : (m : MapValue) (i y : Modifier) (k j : ℕ) → (k == j) ≡ false
    → look m (PressedAction j (act.Mod y) ∷ PressedAction k (act.Mod i) ∷ []) k
    ≡ cell_with m k (bits_with i (group_of y))
look-two m i y k j en = search (rules, look-bits, locked-two, bits-more, remembered-other, bits-one)

-- the resolved events of the two scripts leave the modifier on
self : (i : Modifier) → same_modifier i i ≡ true
self i = same_action-refl (act.Mod i)

-- a modifier whose key looks up a character stays on
on-alone : (i : Modifier) (k c : ℕ)
    → on i (ReleasedKey k ∷ PressedCharacter k c ∷ PressedAction k (act.Mod i) ∷ []) ≡ true
unfolding held remembered
on-alone i k c = rw (self i, eq-eqb k k refl) refl

-- a modifier whose key looks up a character stays on under a second modifier, which is let go
on-further : (i y : Modifier) (k j c : ℕ) → (j == k) ≡ false → (k == j) ≡ false
    → same_modifier y i ≡ false
    → on i
    (ReleasedKey j ∷ ReleasedKey k ∷ PressedCharacter k c ∷ PressedAction j (act.Mod y)
    ∷ PressedAction k (act.Mod i) ∷ [])
    ≡ true
unfolding held remembered
on-further i y k j c ne en other = rw (ne, en, eq-eqb k k refl, eq-eqb j j refl, other, self i) refl

-- the script of the key alone looks up its character
resolved-alone : (m : MapValue) (i : Modifier) (k c : ℕ) → cell_at m k 0 ≡ Act (act.Mod i)
    → cell_with m k (bits_with i None) ≡ Char c
    → resolved (between m m) (Release k ∷ Press k ∷ Press k ∷ [])
    ≡ ReleasedKey k ∷ PressedCharacter k c ∷ PressedAction k (act.Mod i) ∷ []
unfolding resolved
resolved-alone m i k c e f = rw (look-none m k, e, look-one m i k, f) refl

-- the script with a second key looks up the character
resolved-further : (m : MapValue) (i y : Modifier) (k j c : ℕ) → (k == j) ≡ false → cell_at m k 0 ≡ Act (act.Mod i)
    → look m (PressedAction k (act.Mod i) ∷ []) j ≡ Act (act.Mod y)
    → cell_with m k (bits_with i (group_of y)) ≡ Char c
    → resolved (between m m) (Release j ∷ Release k ∷ Press k ∷ Press j ∷ Press k ∷ [])
    ≡ ReleasedKey j ∷ ReleasedKey k ∷ PressedCharacter k c ∷ PressedAction j (act.Mod y) ∷ PressedAction k (act.Mod i)
    ∷ []
unfolding resolved
resolved-further m i y k j c en e g f = rw (look-none m k, e, g, look-two m i y k j en, f) refl

-- the two scripts are tried
alone-script : (o p q r : Option ℕ) (k : ℕ) → script (o ∷ p ∷ q ∷ r ∷ []) k 0 0 ≡ Press k ∷ Press k ∷ Release k ∷ []
unfolding gathered
alone-script o p q r k = refl

-- a set that names the group's bit alone
abbrev HasSet : List (Option ℕ) → ℕ → ℕ → Type 0
HasSet keys k j =
    (b : ℕ) × (b < 16) × (lacks_key keys b ≡ false)
    × (script keys k 0 b ≡ Press k ∷ Press j ∷ Press k ∷ Release k ∷ Release j ∷ [])

-- the key of each bit has a set
has-set : (m : MapValue) (k j : ℕ) (g : Group) → bit_key m k (bit_of_group g) ≡ Some j → HasSet (bit_keys m k) k j
unfolding gathered lacks_key
has-set m k j group.Shift e =
    subst (λ o. HasSet (o ∷ bit_key m k 1 ∷ bit_key m k 2 ∷ bit_key m k 3 ∷ []) k j) (sym e) (1, lit< tt, refl, refl)
has-set m k j group.Control e =
    subst (λ o. HasSet (bit_key m k 0 ∷ o ∷ bit_key m k 2 ∷ bit_key m k 3 ∷ []) k j) (sym e) (2, lit< tt, refl, refl)
has-set m k j group.Alt e =
    subst (λ o. HasSet (bit_key m k 0 ∷ bit_key m k 1 ∷ o ∷ bit_key m k 3 ∷ []) k j) (sym e) (4, lit< tt, refl, refl)
has-set m k j group.AltShift e =
    subst (λ o. HasSet (bit_key m k 0 ∷ bit_key m k 1 ∷ bit_key m k 2 ∷ o ∷ []) k j) (sym e) (8, lit< tt, refl, refl)

-- a modifier that is on is some
some-on : (ms : Maps) (h : List Event) (i : Modifier) → is_on_after ms i h ≡ true → is_any_on_after ms h ≡ true
some-on ms h i e = some-modifier (λ x. is_on_after ms x h) i e

-- the character cell is one of the key's
slot-cell : (m : MapValue) (k : ℕ) (bits : Bits) (u : Bool) → bits.upper ≡ u → (bits.upper ≡ true → IsUpperLive m)
    → IsCellOf m k (cell_with m k bits)
slot-cell m k bits true e live =
    inr (
      live e,
      (
        column_of bits.shift bits.control bits.alt,
        column_of-lt bits.shift bits.control bits.alt,
        ap (λ t. cell_at m (slot_of k t) (column_of bits.shift bits.control bits.alt)) (sym e),
      ),
    )
slot-cell m k bits false e live =
    inl (
      column_of bits.shift bits.control bits.alt,
      column_of-lt bits.shift bits.control bits.alt,
      ap (λ t. cell_at m (slot_of k t) (column_of bits.shift bits.control bits.alt)) (sym e),
    )

-- a character that is looked up with the bits is a cell of the key
character-cell : (m : MapValue) (k : ℕ) (bits : Bits) (char : HasCharacterWith m k bits) → IsCellOf m k (Char char.1.0)
character-cell m k bits char = subst (λ x. IsCellOf m k x) char.1.1 (slot-cell m k bits _ refl char.0)

-- a trap under its own modifier alone is demonstrated
shown-alone : (m : MapValue) (i : Modifier) (k : ℕ) → k < 128 → cell_at m k 0 ≡ Act (act.Mod i)
    → HasCharacterWith m k (bits_with i None) → demonstration_of m ≢ None
shown-alone m i k lt e char none =
    let is : IsCellOf m k (Act (act.Mod i)) = inl (0, lit< tt, e) in
    let finding =
    (unsafe-key m k).1 (holding.Mod i, is, (char.1.0, character-cell m k (bits_with i None) char)) in
    let off : leaves_modifier_on m (script (bit_keys m k) k 0 0) ≡ false =
    tried-none m k 0 lt (lit< tt) finding (alone-complete (bit_keys m k)) none in
    let h : reverse (script (bit_keys m k) k 0 0) ≡ Release k ∷ Press k ∷ Press k ∷ [] =
    ap reverse (alone-script _ _ _ _ k) in
    let is_on : is_on_after (between m m) i (Release k ∷ Press k ∷ Press k ∷ []) ≡ true =
    ap (λ r. on i r) (resolved-alone m i k char.1.0 e char.1.1) ∙ on-alone i k char.1.0 in
    true≢false (sym (some-on (between m m) _ i is_on) ∙ ap (λ x. is_any_on_after (between m m) x) (sym h) ∙ off)

-- the modifiers of a group, and the cells that are one of them
of-group : (g : Group) (y : Modifier) → is_of_group g y ≡ true → group_of y ≡ Some g
of-group group.Shift LeftShift e = cc
of-group group.Control LeftShift e = cc
of-group group.Alt LeftShift e = cc
of-group group.AltShift LeftShift e = cc
of-group _ _ e = cc

-- the group of a group's bit
pub group-bit : (g : Group) → group_at (bit_of_group g) ≡ g
group-bit group.Shift = refl
group-bit _ = refl

-- a cell of a group is a modifier of that group
pub group-cell : (g : Group) (c : Cell) → is_group_cell g c ≡ true
    → (y : Modifier) × (c ≡ Act (act.Mod y)) × (group_of y ≡ Some g)
group-cell g (Act (act.Mod y)) e = (y, refl, of-group g y e)
group-cell g c e = absurd (true≢false (sym e))

-- what the further bit's key is
abbrev IsFurther : MapValue → ℕ → Group → ℕ → Type 0
IsFurther m k g j =
    ((j == k) ≡ false) × ((y : Modifier) × (group_of y ≡ Some g) × ((c : Cell) → IsCellOf m j c → c ≡ Act (act.Mod y)))

-- the second key bears a modifier of the group, in each of its cells
further : (m : MapValue) (k : ℕ) (g : Group) (j : ℕ) → bit_key m k (bit_of_group g) ≡ Some j → IsOneAction m j
    → IsFurther m k g j
unfolding bit_key
further m k g j e one =
    let s = first_below-some (is_other (bears_group m (bit_of_group g)) k) 128 j e in
    let t : (not (j == k) ≡ true) × (is_some (first_place m (kind.Of (group_at (bit_of_group g))) j) ≡ true) =
    and_parts _ _ s.1 in
    let h : HasCellOf m j (kind.Of g) =
    (has-cell m (kind.Of g) j).0 (rw (group-bit g) at t.1) in
    let y = group-cell g h.0 h.2 in
    let same : Act one.0 ≡ Act (act.Mod y.0) = sym (one.1 h.0 h.1) ∙ y.1 in
    (not-true (j == k) t.0, (y.0, y.2, λ c is. one.1 c is ∙ same))

same-modifier : (y i : Modifier) → act.Mod y ≡ act.Mod i → y ≡ i
same-modifier y i e = cc

-- a modifier of another group is another modifier
other_modifier : (i y : Modifier) (g : Group) → group_of i ≢ Some g → group_of y ≡ Some g
    → same_modifier y i ≡ false
other_modifier i y g ne e =
    false_from_ne_true (same_modifier y i) (λ t.
    ne (ap group_of (sym (same-modifier y i (same_action-true (act.Mod y) (act.Mod i) t))) ∙ e))

-- a trap under one modifier more is demonstrated
shown-further : (m : MapValue) (i : Modifier) (k : ℕ) (g : Group) (j : ℕ) → k < 128 → cell_at m k 0 ≡ Act (act.Mod i)
    → HasCharacterWith m k (bits_with i (Some g)) → group_of i ≢ Some g
    → bit_key m k (bit_of_group g) ≡ Some j → IsOneAction m j → demonstration_of m ≢ None
shown-further m i k g j lt e char other is_key one none =
    let is : IsCellOf m k (Act (act.Mod i)) = inl (0, lit< tt, e) in
    let finding =
    (unsafe-key m k).1 (holding.Mod i, is, (char.1.0, character-cell m k (bits_with i (Some g)) char)) in
    let s : HasSet (bit_keys m k) k j = has-set m k j g is_key in
    let f : IsFurther m k g j = further m k g j is_key one in
    let en : (k == j) ≡ false =
    false_from_ne_true (k == j) (λ q. true≢false (sym (eq-eqb j k (sym (eqb-true k j q))) ∙ f.0)) in
    let all : AllLooked m (PressedAction k (act.Mod i) ∷ []) = ((lt, is), tt) in
    let seen : look m (PressedAction k (act.Mod i) ∷ []) j ≡ Act (act.Mod f.1.0) =
    f.1.2 _ (look-cell m (PressedAction k (act.Mod i) ∷ []) j all) in
    let character : cell_with m k (bits_with i (group_of f.1.0)) ≡ Char char.1.0 =
    ap (λ o. cell_with m k (bits_with i o)) f.1.1 ∙ char.1.1 in
    let off = tried-none m k s.0 lt s.1 finding s.2 none in
    let h = ap reverse s.3 in
    let is_on : is_on_after (between m m) i (Release j ∷ Release k ∷ Press k ∷ Press j ∷ Press k ∷ []) ≡ true =
    ap (λ r. on i r) (resolved-further m i f.1.0 k j char.1.0 en e seen character)
    ∙ on-further i f.1.0 k j char.1.0 f.0 en (other_modifier i f.1.0 g other f.1.1) in
    true≢false (sym (some-on (between m m) _ i is_on) ∙ ap (λ x. is_any_on_after (between m m) x) (sym h) ∙ off)

-- a trap under at most one modifier more is demonstrated
shown_by : (m : MapValue) (i : Modifier) (k : ℕ) (further : Option Group) → k < 128 → cell_at m k 0 ≡ Act (act.Mod i)
    → HasCharacterWith m k (bits_with i further) → HasFurtherKey m k i further → demonstration_of m ≢ None
shown_by m i k None lt e char more = shown-alone m i k lt e char
shown_by m i k (Some g) lt e char more = shown-further m i k g more.1.0 lt e char more.0 more.1.1 more.1.2

-- a trap that is shown is demonstrated
pub shown_traps_are_demonstrated : (m : MapValue) (i : Modifier) (k : ℕ) → HasShownTrap m i k
    → demonstration_of m ≢ None
shown_traps_are_demonstrated m i k trap = shown_by m i k trap.2.0 trap.0 trap.1 trap.2.1 trap.2.2
