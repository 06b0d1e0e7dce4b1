-- A text that goes to a writer through a buffer.
use Rattle.std.specs.Prelude.{◌≡◌, ℕ, ◌+◌, ◌<◌, List, ◌++◌, length, take, Option, Result, MatchResult}
use Rattle.std.specs.Io.KnownBytes.{Appends}
use Rattle.keymap_core.specs.declared.transfer.WriteFault.{WriteFault}

-- how many bytes the writer took, and the bytes that wait
pub record StreamValue : Type 0 where
  pub written : ℕ
  pub waiting : List ℕ

abbrev pub size_of : StreamValue → ℕ
size_of s = s.written + length s.waiting

-- Of a text, the writer has taken the first bytes, so many as counted, and the others wait.
pub record Gathers (start now : Option (List ℕ)) (stream : StreamValue) (text : List ℕ) : Type 0 where
  pub front : List ℕ
  pub taken : Appends start now front
  pub counted : stream.written ≡ length front
  pub whole : text ≡ front ++ stream.waiting

-- The writer has taken the first bytes of a text, so many as counted, and not all.
abbrev pub StopsIn : Option (List ℕ) → Option (List ℕ) → List ℕ → ℕ → Type 0
StopsIn start now text count = (count < length text) × Appends start now (take count text)

-- Whatever text was gathered is gathered still, or the writer failed within it.
abbrev pub Flushes : {X : Type 0} → Option (List ℕ) → Option (List ℕ) → StreamValue → StreamValue
    → Result X WriteFault → Type 0
Flushes old new before after r =
    (start : Option (List ℕ)) (text : List ℕ) → Gathers start old before text
    → MatchResult r (λ _. Gathers start new after text) (λ f. StopsIn start new text f.written)

-- Whatever text was gathered, that text with the piece is gathered now, or the writer failed within it.
abbrev pub Pushes : {X : Type 0} → Option (List ℕ) → Option (List ℕ) → StreamValue → StreamValue → List ℕ
    → Result X WriteFault → Type 0
Pushes old new before after piece r =
    (start : Option (List ℕ)) (text : List ℕ) → Gathers start old before text
    → MatchResult r (λ _. Gathers start new after (text ++ piece))
    (λ f. StopsIn start new (text ++ piece) f.written)
