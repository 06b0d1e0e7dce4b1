-- A text that goes to a writer through a buffer.
use Rattle.keymap_core.proofs.Common.{◌≡◌, ℕ, ◌+◌, List, [], ◌++◌, length, sym, ◌∙◌, append_assoc, rules}
use Rattle.keymap_core.proofs.Common.{length-append, subst, Option, Appends}
use Rattle.std.proofs.Common.{append-nil}
use Rattle.std.specs.Prelude.{Result, Ok, Err, IsErrAnd, MatchResult}
use Rattle.std.proofs.lemmas.List.{take-append-le}
use Rattle.keymap_core.specs.Streams.{StreamValue, Gathers, StopsIn}
use Rattle.keymap_core.proofs.Taking.{Appends-trans}

-- The buffer was taken.
pub Gathers-flushed : {start mid : Option (List ℕ)} (new : Option (List ℕ)) {before : StreamValue} (after : StreamValue)
    {text : List ℕ}
    → Gathers start mid before text → after.written ≡ before.written + length before.waiting
    → Appends mid new before.waiting → after.waiting ≡ [] → Gathers start new after text
Gathers-flushed {start = start} {mid = mid} new {before = before} after g counted taken empty =
    search (rules, Appends-trans, length-append, append-nil)

-- The buffer got a piece.
pub Gathers-more : {start now : Option (List ℕ)} {before : StreamValue} (after : StreamValue) {text : List ℕ}
    (piece : List ℕ)
    → Gathers start now before text → after.written ≡ before.written → after.waiting ≡ before.waiting ++ piece
    → Gathers start now after (text ++ piece)
Gathers-more {before = before} after piece g counted grown = search (rules, append_assoc)

-- a text that is equal to the one that was gathered was gathered
pub Gathers-same : {start now : Option (List ℕ)} {stream : StreamValue} (text : List ℕ) {same : List ℕ} → text ≡ same
    → Gathers start now stream text → Gathers start now stream same
Gathers-same text equal g =
    record { front = g.front; taken = g.taken; counted = g.counted; whole = sym equal ∙ g.whole }

-- The writer failed in a longer text.
pub StopsIn-more : (start now : Option (List ℕ)) (text rest all : List ℕ) (w : ℕ) → all ≡ text ++ rest
    → StopsIn start now text w → StopsIn start now all w
StopsIn-more start now text rest all w parts stops = search (rules, take-append-le, length-append)

-- what a `?` passes on
pub passed_on : {X E : Type 0} (r : Result X E) (e : E) (P : X → Type 0) (Q : E → Type 0) → IsErrAnd r (λ f. f ≡ e)
    → Q e → MatchResult r P Q
passed_on (Ok x) e P Q is here = absurd is
passed_on (Err f) e P Q is here = subst Q (sym is) here

-- Nothing was written yet.
pub Gathers-start : (now : Option (List ℕ)) (stream : StreamValue) → stream.waiting ≡ [] → stream.written ≡ 0
    → Gathers now now stream []
Gathers-start now stream empty none = search (rules, append-nil)
