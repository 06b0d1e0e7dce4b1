-- What a token leads to, and where tokens lead, one by one.
use Rattle.keymap_places.proofs.Common.{arith, ◌≡◌, ℕ, List, [], ◌∷◌, Ok, Err, Option, Some, None, refl, IsErr}
use Rattle.keymap_places.proofs.Common.{TextFaultKind, Span}
use Rattle.keymap_places.proofs.Common.{Item, TokenValue, item_of, span_of, RowPlace, next, definition_behind}
use Rattle.keymap_places.proofs.Common.{first_refused, begins, Slot, Accent}
use Rattle.keymap_places.specs.declared.wanted.DefinitionStart.{DefinitionStart}
use Rattle.keymap_text.specs.Places.{AtAccentCharacter, AtCell, next_at_definition}

-- what a token leads to that begins a definition, or none
pub slot_begun : (i : Item) (slot : ℕ) → begins i ≡ Some (Slot slot) → next_at_definition i ≡ Ok (AtCell 0)
slot_begun i slot h = grind arith

pub accent_begun : (i : Item) (index : ℕ) → begins i ≡ Some (Accent index) → next_at_definition i ≡ Ok AtAccentCharacter
accent_begun i index h = grind arith

pub none_begun : (i : Item) → begins i ≡ None → IsErr (next_at_definition i)
none_begun i h = grind arith

-- behind the last token
pub reached_end : (p : RowPlace) (d : Option DefinitionStart) (n : ℕ) (ts : List TokenValue) → ts ≡ []
    → first_refused p d n ts ≡ (p, d, n)
unfolding first_refused
reached_end p d n ts h = rw h refl

-- behind an accepted token
accepted : (p q : RowPlace) (d : Option DefinitionStart) (n : ℕ) (t : TokenValue) (ts : List TokenValue)
    → next p (item_of t) ≡ Ok q
    → first_refused p d n (t ∷ ts)
    ≡ first_refused q (definition_behind p d (item_of t) t.start) (span_of t).end ts
unfolding first_refused
accepted p q d n t ts h = rw (first_refused, h) refl

pub reached_on : (p q : RowPlace) (d e : Option DefinitionStart) (n : ℕ) (i : Item) (t : TokenValue) (s : Span)
    (ts us : List TokenValue) → us ≡ t ∷ ts → i ≡ item_of t → next p i ≡ Ok q → e ≡ definition_behind p d i t.start
    → span_of t ≡ s → first_refused p d n us ≡ first_refused q e s.end ts
reached_on p q d e n i t s ts us h is f g place = grind (arith, accepted)

-- at a refused token
refused : (p : RowPlace) (d : Option DefinitionStart) (n : ℕ) (t : TokenValue) (ts : List TokenValue)
    (f : TextFaultKind) → next p (item_of t) ≡ Err f → first_refused p d n (t ∷ ts) ≡ (p, d, n)
unfolding first_refused
refused p d n t ts f h = rw (first_refused, h) refl

pub reached_fault : (p : RowPlace) (d : Option DefinitionStart) (n : ℕ) (i : Item) (t : TokenValue)
    (ts us : List TokenValue) → us ≡ t ∷ ts → i ≡ item_of t → IsErr (next p i) → first_refused p d n us ≡ (p, d, n)
reached_fault p d n i t ts us h is f = grind (arith, refused)
