-- Which diagnostics a text has that spells a map, kind by kind, and the place of each.
use Rattle.std.specs.Prelude.{ℕ, ◌+◌, ◌*◌, ◌-◌, ◌==◌, Bool, true, false, ◌&&◌, ◌||◌, not, if◌then◌else◌, nat_lt, List}
use Rattle.std.specs.Prelude.{[], ◌∷◌, length, slice_index_or, Option, Some, None, find}
use Rattle.std.specs.Option.{is_some, option_to_list}
use Rattle.std.specs.List.{flat_map, list_any}
use Rattle.keymap_core.specs.Accents.{AccentValue, own_of}
use Rattle.keymap_core.specs.Maps.{MapValue, accent_at, cell_at}
use Rattle.keymap_core.specs.Borne.{is_upper_live, is_borne, any_below}
use Rattle.keymap_core.specs.Numbers.{key_count, slot_limit, accent_limit}
use Rattle.keymap_core.specs.declared.action.Action.TheVariants as act
use Rattle.keymap_core.specs.declared.action.Modifier.TheVariants as modifier
use Rattle.keymap_core.specs.declared.action.Lock.TheVariants as lock
use Rattle.keymap_lint.specs.Types.{Holding, Cell, Char, Act, Defined, Slot, Accent, Placed, Finding, CellInForce}
use Rattle.keymap_lint.specs.Types.{Diagnostic, Kind}
use Rattle.keymap_core.specs.declared.action.Holding.TheVariants as holding
use Rattle.keymap_places.specs.Placed.{last_of}
use Rattle.keymap_core.specs.Below.{first_below, gathered}
use Rattle.keymap_lint.specs.declared.diagnostic.Kind.TheVariants as kinds
use Rattle.keymap_lint.specs.Spelled.{Spelled, offset_at, content, is_live, is_in_force}

-- what is said of a place, and of the whole text
abbrev pub at : ℕ → Kind → Diagnostic
at place k = record { place = Some place; kind = k }

abbrev pub nowhere : Kind → Diagnostic
nowhere k = record { place = None; kind = k }

-- DEFINED AGAIN: a definition that isn't the last one of what it defines
abbrev pub again_by : Spelled → Placed → Option Placed → Option Diagnostic
again_by t p (Some q) =
    if q.first == p.first then None
    else Some (at (offset_at t p.first) (kinds.DefinedAgain p.what (offset_at t q.first)))
again_by t p None = None

abbrev pub again : Spelled → Placed → List Diagnostic
again t p = option_to_list (again_by t p (last_of p.what t.definitions))

abbrev pub defined_again : Spelled → List Diagnostic
defined_again t = flat_map (again t) t.definitions

-- BARE DIGIT: a cell that is a character, spelled by one byte; only a digit is
abbrev pub digit_by : CellInForce → Cell → Option Diagnostic
digit_by c (Char n) = if c.span.end - c.span.start == 1 then Some (at c.span.start (kinds.BareDigit n)) else None
digit_by c (Act a) = None

abbrev pub digit : Spelled → CellInForce → List Diagnostic
digit t c = option_to_list (digit_by c (content t c))

abbrev pub bare_digits : Spelled → List CellInForce → List Diagnostic
bare_digits t cells = flat_map (digit t) cells

-- the accent of a live dead key
abbrev pub dead_key_of : Cell → Option ℕ
dead_key_of (Act (act.DeadKey i)) = Some i
dead_key_of _ = None

abbrev pub live_accent : Spelled → CellInForce → Option ℕ
live_accent t c = if is_live t c.slot then dead_key_of (content t c) else None

abbrev pub is_the : ℕ → Option ℕ → Bool
is_the i (Some j) = j == i
is_the i None = false

-- some live cell is the accent's dead key
abbrev pub is_given : Spelled → List CellInForce → ℕ → Bool
is_given t cells i = list_any (λ c. is_the i (live_accent t c)) cells

-- the text defines the slot, and the accent
abbrev pub defines : Spelled → ℕ → Bool
defines t slot = is_some (last_of (Slot slot) t.definitions)

abbrev pub is_defined : Spelled → ℕ → Bool
is_defined t i = is_some (last_of (Accent i) t.definitions)

-- ZERO ACCENT: an accent with the character 0, and some live cell is its dead key
abbrev pub is_zero : Option ℕ → Bool
is_zero (Some c) = c == 0
is_zero None = true

abbrev pub zero_by : Spelled → List CellInForce → ℕ → Option Placed → Option Diagnostic
zero_by t cells i (Some p) =
    if is_zero (own_of (accent_at t.map i)) && is_given t cells i
    then Some (at (offset_at t (p.first + 1)) (kinds.ZeroAccent i))
    else None
zero_by t cells i None = None

abbrev pub zero_accent : Spelled → List CellInForce → ℕ → List Diagnostic
zero_accent t cells i = option_to_list (zero_by t cells i (last_of (Accent i) t.definitions))

abbrev pub zero_accents : Spelled → List CellInForce → List Diagnostic
zero_accents t cells = gathered (zero_accent t cells) accent_limit

-- UNUSED HALF: no live cell selects the slots from 128 on, and some are defined
abbrev pub is_above : Defined → Bool
is_above (Slot slot) = not (nat_lt slot key_count)
is_above (Accent i) = false

abbrev pub is_above_in_force : Spelled → Placed → Bool
is_above_in_force t p = is_above p.what && is_in_force t p

abbrev pub unused_by : Spelled → Option Placed → List Diagnostic
unused_by t (Some p) = at (offset_at t p.first) kinds.UnusedHalf ∷ []
unused_by t None = []

abbrev pub unused_half : Spelled → List Diagnostic
unused_half t = if is_upper_live t.map then [] else unused_by t (find (is_above_in_force t) t.definitions)

-- the slots from 128 on that are defined
abbrev pub slot_above : Spelled → ℕ → List ℕ
slot_above t k = if defines t (k + key_count) then (k + key_count) ∷ [] else []

abbrev pub slots_above : Spelled → List ℕ
slots_above t = gathered (slot_above t) key_count

abbrev pub unused_slots : Spelled → List ℕ
unused_slots t = if is_upper_live t.map then [] else slots_above t

-- DEAD KEY: a live cell is the dead key of an accent that isn't defined
abbrev pub is_missing_of : Spelled → Option ℕ → Bool
is_missing_of t (Some i) = not (is_defined t i)
is_missing_of t None = false

abbrev pub is_missing : Spelled → CellInForce → Bool
is_missing t c = is_missing_of t (live_accent t c)

abbrev pub dead_key_by : Spelled → Option CellInForce → List Diagnostic
dead_key_by t (Some c) = at c.span.start (kinds.DeadKey (any_below (is_defined t) accent_limit)) ∷ []
dead_key_by t None = []

abbrev pub dead_key : Spelled → List CellInForce → List Diagnostic
dead_key t cells = dead_key_by t (find (is_missing t) cells)

abbrev pub missing_accent : Spelled → List CellInForce → ℕ → List ℕ
missing_accent t cells i = if is_given t cells i && not (is_defined t i) then i ∷ [] else []

abbrev pub missing_accents : Spelled → List CellInForce → List ℕ
missing_accents t cells = gathered (missing_accent t cells) accent_limit

-- PAIR AGAIN: a pair whose base an earlier pair of the accent has
abbrev pub base_at : List (ℕ × ℕ) → ℕ → ℕ
base_at pairs j = (slice_index_or pairs j (0, 0)).0

-- the parenthesis of a pair: behind the name, the character and four tokens for each pair before
abbrev pub paren : Spelled → ℕ → ℕ → ℕ
paren t first j = offset_at t (first + (4 * j + 2))

-- the first pair before it with the same base
abbrev pub has_base : List (ℕ × ℕ) → ℕ → ℕ → Bool
has_base pairs j k = base_at pairs k == base_at pairs j

abbrev pub pair_by : Spelled → ℕ → ℕ → ℕ → ℕ → Option ℕ → Option Diagnostic
pair_by t i first base j (Some k) = Some (at (paren t first j) (kinds.PairAgain i base (paren t first k)))
pair_by t i first base j None = None

abbrev pub pair_again : Spelled → ℕ → ℕ → List (ℕ × ℕ) → ℕ → List Diagnostic
pair_again t i first pairs j =
    option_to_list (pair_by t i first (base_at pairs j) j (first_below (has_base pairs j) j))

abbrev pub pairs_by : Spelled → ℕ → Option Placed → Option AccentValue → List Diagnostic
pairs_by t i (Some p) (Some a) = gathered (pair_again t i p.first a.pairs) (length a.pairs)
pairs_by t i _ _ = []

abbrev pub accent_pairs : Spelled → ℕ → List Diagnostic
accent_pairs t i = pairs_by t i (last_of (Accent i) t.definitions) (accent_at t.map i)

abbrev pub pairs_again : Spelled → List Diagnostic
pairs_again t = gathered (accent_pairs t) accent_limit

-- NO KEY: no slot is defined
abbrev pub has_keys : MapValue → Bool
has_keys m = nat_lt 0 (length m.entries)

abbrev pub no_key : MapValue → List Diagnostic
no_key m = if has_keys m then [] else nowhere kinds.NoKey ∷ []

-- NO SHIFT: a slot is defined, and no live cell is lshift or rshift
abbrev pub has_shift : MapValue → Bool
has_shift m = is_borne m (holding.Mod modifier.LeftShift) || is_borne m (holding.Mod modifier.RightShift)

abbrev pub no_shift : MapValue → List Diagnostic
no_shift m = if has_keys m && not (has_shift m) then nowhere kinds.NoShift ∷ [] else []

-- MIXED KEY: a finding of the check, whose slots are both defined
abbrev pub is_mixed : Spelled → Finding → Bool
is_mixed t f = defines t f.holding_at.slot && defines t f.character_at.slot

abbrev pub character_of : Cell → ℕ
character_of (Char c) = c
character_of (Act a) = 0

abbrev pub mixed_by : Spelled → Finding → Option Placed → Option Diagnostic
mixed_by t f (Some p) =
    if is_mixed t f
    then Some (at (offset_at t (p.first + (1 + f.holding_at.column))) (kinds.MixedKey f
    (character_of (cell_at t.map f.character_at.slot f.character_at.column))))
    else None
mixed_by t f None = None

abbrev pub mixed_key : Spelled → Finding → List Diagnostic
mixed_key t f = option_to_list (mixed_by t f (last_of (Slot f.holding_at.slot) t.definitions))

abbrev pub mixed_keys : Spelled → List Finding → List Diagnostic
mixed_keys t findings = flat_map (mixed_key t) findings

-- the keys of the findings that have a character in a slot that isn't defined
abbrev pub nul_key : Spelled → Finding → List ℕ
nul_key t f = if not (is_mixed t f) then f.key ∷ [] else []

abbrev pub nul_keys : Spelled → List Finding → List ℕ
nul_keys t findings = flat_map (nul_key t) findings

-- HALF DEFINED: some cell selects the slots from 128 on, and of some key one slot is defined and the other one isn't
abbrev pub selector_of : Cell → Option Holding
selector_of (Act (act.Mod modifier.AltShift)) = Some (holding.Mod modifier.AltShift)
selector_of (Act (act.Lock lock.Alt)) = Some (holding.Lock lock.Alt)
selector_of _ = None

abbrev pub selector : Spelled → CellInForce → Option Holding
selector t c = if nat_lt c.slot key_count then selector_of (content t c) else None

abbrev pub other_slot : ℕ → ℕ
other_slot slot = if nat_lt slot key_count then slot + key_count else slot - key_count

abbrev pub missing_slot : Spelled → ℕ → List ℕ
missing_slot t slot = if defines t (other_slot slot) && not (defines t slot) then slot ∷ [] else []

abbrev pub missing_slots : Spelled → List ℕ
missing_slots t = if is_upper_live t.map then gathered (missing_slot t) slot_limit else []

-- the first cell that selects them, and what it is
abbrev pub selects : Spelled → CellInForce → Bool
selects t c = is_some (selector t c)

abbrev pub half_by : CellInForce → Bool → Option Holding → Option Diagnostic
half_by c has_keys (Some s) = Some (at c.span.start (kinds.HalfDefined s has_keys))
half_by c has_keys None = None

abbrev pub half_at : Spelled → Bool → Option CellInForce → Option Diagnostic
half_at t has_keys (Some c) = half_by c has_keys (selector t c)
half_at t has_keys None = None

-- what is said: whether there are such slots, and such keys
abbrev pub half : Spelled → List CellInForce → Bool → Bool → Option Diagnostic
half t cells has_slots has_keys =
    if has_slots then half_at t has_keys (find (selects t) cells) else None

abbrev pub is_some_in : {X : Type 0} → List X → Bool
is_some_in xs = nat_lt 0 (length xs)

abbrev pub half_defined : Spelled → List CellInForce → List Finding → List Diagnostic
half_defined t cells findings =
    option_to_list (half t cells (is_some_in (missing_slots t)) (is_some_in (nul_keys t findings)))
