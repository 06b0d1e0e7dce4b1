-- Which token is accepted at which place of a row, and why another is refused. No place holds anything of the map.
use Rattle.std.specs.Prelude.{ℕ, ◌+◌, Bool, true, false, if◌then◌else◌, ◌==◌, nat_lt, Some, None, Result, Ok, Err}
use Rattle.keymap_text.specs.Types.{TextFaultKind, Number, Act, Item, Open, Close, Value}
use Rattle.keymap_text.specs.declared.fault.TextFaultKind.TheVariants as faults
use Rattle.keymap_text.specs.Items.{refusal, character, cell, lock, accent_index}
use Rattle.keymap_core.specs.Numbers.{slot_limit, pair_limit}

pub data RowPlace : Type 0 where
  AtDefinition : RowPlace
  -- with the number of cells before it
  AtCell : ℕ → RowPlace
  AtLock : RowPlace
  AtAccentCharacter : RowPlace
  -- with the number of pairs before it
  AfterPairs : ℕ → RowPlace
  AtBase : ℕ → RowPlace
  AtResult : ℕ → RowPlace
  AtPairEnd : ℕ → RowPlace

-- where an accepted token leads
abbrev pub if_accepted : {A : Type 0} → Result A TextFaultKind → (A → Result RowPlace TextFaultKind)
    → Result RowPlace TextFaultKind
if_accepted (Ok x) f = f x
if_accepted (Err e) f = Err e

abbrev pub next_at_definition : Item → Result RowPlace TextFaultKind
next_at_definition (Value (Number n)) = if nat_lt n slot_limit then Ok (AtCell 0) else Err faults.KeyTooLarge
next_at_definition (Value (Act a)) =
    elim (accent_index a) [ Some i ↦ Ok AtAccentCharacter | None ↦ Err faults.Unexpected ]
next_at_definition other = Err (refusal other)

abbrev pub next : RowPlace → Item → Result RowPlace TextFaultKind
next AtDefinition t = next_at_definition t
next (AtCell n) t = if_accepted (cell t) (λ c. Ok (if n == 7 then AtLock else AtCell (n + 1)))
next AtLock t = if_accepted (lock t) (λ f. Ok AtDefinition)
next AtAccentCharacter t = if_accepted (character t) (λ c. Ok (AfterPairs 0))
next (AfterPairs n) Open = if nat_lt n pair_limit then Ok (AtBase n) else Err faults.TooManyPairs
next (AfterPairs n) other = next_at_definition other
next (AtBase n) t = if_accepted (character t) (λ c. if c == 0 then Err faults.ZeroBase else Ok (AtResult n))
next (AtResult n) t = if_accepted (character t) (λ c. Ok (AtPairEnd n))
next (AtPairEnd n) Close = Ok (AfterPairs (n + 1))
next (AtPairEnd n) other = Err (refusal other)

-- may the text end here?
abbrev pub may_end : RowPlace → Bool
may_end AtDefinition = true
may_end (AfterPairs n) = true
may_end _ = false
