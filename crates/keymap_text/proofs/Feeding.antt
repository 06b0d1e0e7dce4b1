-- A text that is read from a device, piece by piece.
use Rattle.keymap_text.proofs.Common.{◌≡◌, ℕ, zero, suc, ◌+◌, ◌≤◌, ◌<◌, List, [], ◌∷◌, ◌++◌, length, take, refl, sym}
use Rattle.keymap_text.proofs.Common.{◌∙◌, arith, Option, Result, Ok, Err, length-append, append-nil, IfErr, MapValue}
use Rattle.keymap_text.proofs.Common.{TextError, TextFault, verdict, judge, Spelled, tokens_after, empty_map, at_end}
use Rattle.keymap_text.proofs.Common.{Reads, ◌≢◌, StandsAfter, FedAfter, limit, HasNoEarlyFault, FailsInside}
use Rattle.keymap_text.proofs.Common.{TextGoesPast, ReadsMap, StopsAtOnce, length-take-le, none-some}
use Rattle.std.specs.Io.KnownBytes.{Consumes, IsAtEnd, Keeps}
use Rattle.std.proofs.KnownBytes.{Consumes-trans, Consumes-kept, Consumes-nil}
use Rattle.keymap_text.specs.Progress.{Progress}
use Rattle.keymap_text.proofs.Verdicts.{spells_from, fault_or_map}
use Rattle.keymap_core.specs.declared.transfer.ReadFaultKind.TheVariants as kinds
use Rattle.keymap_text.specs.declared.fault.TextError.TheVariants as errors

-- The reader stands after the bytes that the device gave, which have no early fault.
pub record IsFed (old new : Option (List ℕ)) (reader : Progress) (taken : ℕ) : Type 0 where
  pub text : List ℕ
  pub consumed : Consumes old new text
  pub size : length text ≡ taken
  pub stands : StandsAfter reader text
  pub sound : HasNoEarlyFault text

-- no bytes spell the empty map
empty_verdict : verdict [] ≡ Spelled empty_map
unfolding judge tokens_after at_end
empty_verdict = refl

-- no bytes have no early fault
none_early : HasNoEarlyFault []
none_early f e = none-some _ (sym (fault_or_map [] empty_map (spells_from [] empty_map empty_verdict)) ∙ e.0)

-- a reader that was fed nothing
pub fed_none : (old : Option (List ℕ)) (r : Progress) → StandsAfter r [] → IsFed old old r 0
fed_none old r h = record { text = []; consumed = Consumes-nil old; size = refl; stands = h; sound = none_early }

-- a piece behind what was fed is fed, and together they have no early fault
pub fed_more : {a b c : Option (List ℕ)} {r r' : Progress} {taken n : ℕ} → (buffer : List ℕ) → (fed : IsFed a b r taken)
    → Consumes b c (take n buffer) → n ≤ length buffer → FedAfter (Ok tt) r' (fed.text ++ take n buffer)
    → IsFed a c r' (taken + n)
fed_more buffer fed h l k = grind (arith, Consumes-trans, length-append, length-take-le)

-- the piece has an early fault
pub fed_early : {a b c : Option (List ℕ)} {r : Progress} {taken n : ℕ} {f : TextFault} → (r' : Progress)
    → (buffer : List ℕ) → (fed : IsFed a b r taken) → Consumes b c (take n buffer) → n ≤ length buffer
    → taken + n ≤ limit → FedAfter (Err f) r' (fed.text ++ take n buffer) → ReadsMap a c (Err (errors.Fault f))
fed_early r' buffer fed h l few k = grind (arith, Consumes-trans, length-append, length-take-le)

-- the device has no more bytes, so the text is whole
pub fed_whole : {a b : Option (List ℕ)} {r : Progress} {taken n : ℕ} → (c : Option (List ℕ)) → (buffer : List ℕ)
    → (result : Result MapValue TextError) → (fed : IsFed a b r taken) → taken ≤ limit → n ≡ 0
    → Consumes b c (take n buffer) → IsAtEnd c
    → Reads result fed.text × (result ≢ Err errors.Memory) → ReadsMap a c result
fed_whole c buffer result fed few z h e k = grind (arith, Consumes-trans, append-nil)

-- the device fails after these bytes
pub fed_fails : {a b : Option (List ℕ)} {r : Progress} {taken : ℕ} → (c : Option (List ℕ)) → (offset : ℕ)
    → (fed : IsFed a b r taken) → taken ≡ offset → taken ≤ limit → Keeps b c
    → FailsInside a c (record { offset = offset; kind = kinds.Device })
fed_fails c offset fed e few k = grind (arith, Consumes-kept)

-- a buffer of one byte that is full
one_byte : (n : ℕ) (buffer : List ℕ) → 0 < n → n ≤ length buffer → length buffer ≡ 1
    → (next : ℕ) × (take n buffer ≡ next ∷ [])
one_byte zero buffer z l s = absurd (omega (arith, z))
one_byte (suc n) [] z l s = absurd (omega (arith, l))
one_byte (suc zero) (c ∷ buffer) z l s = (c, refl)
one_byte (suc (suc n)) (c ∷ buffer) z l s = absurd (omega (arith, l, s))

-- the device has a byte more than the limit
pub fed_past : {a b : Option (List ℕ)} {r : Progress} {taken n : ℕ} → (c : Option (List ℕ)) → (buffer : List ℕ)
    → (fed : IsFed a b r taken) → taken ≡ limit → 0 < n → n ≤ length buffer → length buffer ≡ 1
    → Consumes b c (take n buffer) → TextGoesPast a c (record { offset = limit; kind = kinds.Endless })
fed_past c buffer fed full z l s h = grind (arith, Consumes-trans, one_byte)

-- nothing is read after a fault
pub at_once_more : {a b c : Option (List ℕ)} {r : Progress} {taken n : ℕ} → (f : TextFault) → (buffer : List ℕ)
    → (fed : IsFed a b r taken) → Consumes b c (take n buffer) → n ≤ length buffer → n ≤ 512
    → StopsAtOnce a c (errors.Fault f)
at_once_more f buffer fed h l few = grind (arith, Consumes-trans, length-take-le)

-- nothing was read after the end
pub at_once_whole : {a b : Option (List ℕ)} {r : Progress} {taken n : ℕ} → (c : Option (List ℕ)) → (buffer : List ℕ)
    → (result : Result MapValue TextError) → (fed : IsFed a b r taken) → n ≡ 0 → Consumes b c (take n buffer)
    → IfErr result (StopsAtOnce a c)
at_once_whole c buffer result fed z h = grind (arith, Consumes-trans)
