-- Kinds by their numbers: a number that names no kind of fault has no sentence, an index is that of one modifier or
-- lock, and a byte is 0 where the bit of each modifier is not set.
use Rattle.kmap_c.proofs.Common.{suc, zero, Holding, Modifier, Bool, List, [], ap, arith, false, length, refl, sym}
use Rattle.kmap_c.proofs.Common.{true, ℕ, ◌+◌, ◌<◌, ◌==◌, ◌∙◌, ◌∷◌, ◌≡◌, ◌≢◌, range_with_len, map, rules}
use Rattle.std.specs.Int.{bit_at}
use Rattle.std.proofs.Common.{get_or, inl, inr}
use Rattle.std.proofs.lemmas.Bool.{cases_lt, eq-eqb}
use Rattle.std.proofs.lemmas.List.{get_or-map, get_or_past}
use Rattle.std.proofs.lemmas.List.FromFn.{get_or-range_with_len}
use Rattle.std.proofs.lemmas.Nat.Bits.{bit_at-lt, bit_at-zero, same_from_bits_below}
use Rattle.keymap_core.specs.Actions.{modifiers, modifier_index, holdings, holding_index}
use Rattle.keymap_tables.specs.declared.fault.TableFaultKind.{TableFaultKind}
use Rattle.keymap_text.specs.declared.fault.TextFaultKind.{TextFaultKind}
use Rattle.console_core.specs.PackedWord.{bit_is_set}
use Rattle.kmap_c.specs.Numbers.{kind_number}
use Rattle.kmap_c.specs.Sentences.{table_sentences, text_sentences}
use Rattle.kmap_c.specs.TextFaults.{text_kind_number}
use Rattle.keymap_core.specs.declared.action.Holding.TheVariants as h
use Rattle.keymap_core.specs.declared.action.Lock.TheVariants as l
use Rattle.keymap_core.specs.declared.action.Modifier.TheVariants as m
use Rattle.keymap_tables.specs.declared.fault.TableFaultKind.TheVariants as table
use Rattle.keymap_text.specs.declared.fault.TextFaultKind.TheVariants as text

-- kinds that have the numbers from some number on, in their order, have each its own
numbered : {K : Type 0} (number : K → ℕ) (kinds : List K) (from : ℕ)
    → map number kinds ≡ range_with_len from (length kinds) → (i : ℕ) (d : K) → i < length kinds
    → number (get_or kinds i d) ≡ from + i
numbered number kinds from e i d lt =
    sym (get_or-map number kinds i d 0 lt) ∙ ap (λ (ns : List ℕ). get_or ns i 0) e
    ∙ get_or-range_with_len from (length kinds) i 0 lt

-- ---- sentences

-- a number of no kind has no sentence, where the kinds have the numbers from 1 on
none_of : {K : Type 0} (number : K → ℕ) (kinds : List K) (d : K) (sentences : List (List ℕ))
    → map number kinds ≡ range_with_len 1 (length kinds) → length sentences ≡ length kinds + 1
    → get_or sentences 0 [] ≡ [] → (n : ℕ) → ((k : K) → n ≢ number k) → get_or sentences n [] ≡ []
none_of number kinds d sentences e size first zero none = first
none_of number kinds d sentences e size first (suc i) none =
    elim (cases_lt i (length kinds)) [
      | inl lt ↦
          let own : number (get_or kinds i d) ≡ 1 + i = numbered number kinds 1 e i d lt in
          absurd (none (get_or kinds i d) (omega arith))
      | inr past ↦ get_or_past sentences (suc i) [] (omega arith)
    ]

table_kinds : List TableFaultKind
table_kinds =
    table.Short ∷ table.Long ∷ table.BadCount ∷ table.BadPad ∷ table.BadFlag ∷ table.BadAction ∷ table.Combined
    ∷ table.BadChar ∷ table.NotEmpty ∷ []

pub no_table_sentence : (n : ℕ) (words : List ℕ) → ((k : TableFaultKind) → n ≢ kind_number k)
    → words ≡ get_or table_sentences n [] → (length words == 0) ≡ true
unfolding table_kinds
no_table_sentence n words none e =
    ap (λ (v : List ℕ). length v == 0)
    (e ∙ none_of kind_number table_kinds table.Short table_sentences refl refl refl n none)

text_kinds : List TextFaultKind
text_kinds =
    text.BadByte ∷ text.BadLiteral ∷ text.BadWord ∷ text.Unexpected ∷ text.KeyTooLarge ∷ text.BadChar
    ∷ text.BadFunction ∷ text.TooManyPairs ∷ text.ZeroBase ∷ text.Combined ∷ text.EndInside ∷ []

pub no_text_sentence : (n : ℕ) (words : List ℕ) → ((k : TextFaultKind) → n ≢ text_kind_number k)
    → words ≡ get_or text_sentences n [] → (length words == 0) ≡ true
unfolding text_kinds
no_text_sentence n words none e =
    ap (λ (v : List ℕ). length v == 0)
    (e ∙ none_of text_kind_number text_kinds text.BadByte text_sentences refl refl refl n none)

-- ---- modifiers and locks

again : (a : Holding) → get_or holdings (holding_index a) (h.Lock l.Alt) ≡ a
again (h.Mod m.LeftShift) = refl
again (h.Lock l.Caps) = refl
again _ = refl

pub one_holding : (a b : Holding) → holding_index a ≡ holding_index b → a ≡ b
one_holding a b same = sym (again a) ∙ ap (λ i. get_or holdings i (h.Lock l.Alt)) same ∙ again b

-- ---- bytes

pub up_down : (b : Bool) → b ≡ false → b ≡ true → ⊥
up_down b up down = cc

off-at : (n i : ℕ) → (bit_is_set n i ≡ true → ⊥) → bit_at n i ≡ bit_at 0 i
off-at n i off = search (rules, eq-eqb, bit_at-lt, bit_at-zero)

pub none-set : (n : ℕ) → n < 256 → ((i : Modifier) → bit_is_set n (modifier_index i) ≡ true → ⊥) → n ≡ 0
none-set n fits off =
    same_from_bits_below 8 n 0 fits (omega arith) (λ i lt.
    let own = numbered modifier_index modifiers 0 refl i m.Meta lt in
    let same : modifier_index (get_or modifiers i m.Meta) ≡ i = omega arith in
    rw (← same) (off-at n _ (off (get_or modifiers i m.Meta))))
