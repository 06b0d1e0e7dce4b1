-- Texts that are put at the places of some words, one after another.
use Rattle.std.proofs.Common.{◌≡◌, ℕ, ◌+◌, ◌<◌, ◌≤◌, List, [], ◌∷◌, ◌++◌, length, drop, get_or, map, Bor, append_assoc}
use Rattle.std.proofs.Common.{add-one, drop-cons, refl, sym, ap, subst, length-append}
use Rattle.std.specs.Prelude.{IsTrue}
use Rattle.std.proofs.Math.ListN.{drop_of_length-le}
use Rattle.std.proofs.lemmas.Bool.{and_parts}
use Rattle.messages.specs.Filled.{filled, has_places, HasRoom, words_before, words_behind}

-- What is left to put behind the line: the rest of the words, with texts at its places.
pub record IsLeft (texts : List (List ℕ)) (line rest all : List ℕ) : Type 0 where
  pub text : line ++ filled rest texts ≡ all
  pub places : IsTrue (has_places rest texts)
  pub room : HasRoom (length line) rest texts

-- the texts from the place i on
abbrev pub behind : List (Bor (List ℕ)) → ℕ → List (List ℕ)
behind told i = map (λ t. t.now) (drop i told)

-- what stands where there is no text
abbrev pub no_text : Bor (List ℕ)
no_text = record { ref_ptr = (0, 0); now = [] }

-- a text that is left is the first of those that are
pub at-place : (told : List (Bor (List ℕ))) (i : ℕ) (line rest all : List ℕ) → i < length told
    → IsLeft (behind told i) line rest all → IsLeft ((get_or told i no_text).now ∷ behind told (i + 1)) line rest all
at-place told i line rest all lt left =
    subst (λ ts. IsLeft ts line rest all) (rw add-one (ap (λ l. map (λ t. t.now) l) (drop-cons told i no_text lt))) left

-- behind the last none is left
pub at-end : (told : List (Bor (List ℕ))) (i : ℕ) (line rest all : List ℕ) → length told ≤ i
    → IsLeft (behind told i) line rest all → IsLeft [] line rest all
at-end told i line rest all le left =
    subst (λ ts. IsLeft ts line rest all) (ap (λ l. map (λ t. t.now) l) (drop_of_length-le told le)) left

-- once the words before a place and the text at it are put, the words behind it are left, with the other texts
pub filled-more : (words next t text : List ℕ) (texts : List (List ℕ)) (old new all : List ℕ) → text ≡ t
    → next ≡ words_behind words → new ≡ (old ++ words_before words) ++ text → old ++ filled words (t ∷ texts) ≡ all
    → new ++ filled next texts ≡ all
unfolding filled
filled-more words next t text texts old new all same behind added before =
    let rest : List ℕ = filled (words_behind words) texts in
    cc (
      append_assoc (old ++ words_before words) t rest,
      append_assoc old (words_before words) (t ++ rest),
      append_assoc (words_before words) t rest,
    )

-- what is left then of a line that has room
pub left-more : (t : List ℕ) (texts : List (List ℕ)) (line rest new all : List ℕ) → IsLeft (t ∷ texts) line rest all
    → new ≡ (line ++ words_before rest) ++ t → IsLeft texts new (words_behind rest) all
left-more t texts line rest new all left e =
    let size : length new ≡ (length line + length (words_before rest)) + length t =
    simp length-append at (ap length e) in
    record {
      text = filled-more rest (words_behind rest) t t texts line new all refl refl e left.text;
      places = (and_parts _ _ left.places).1;
      room = subst (λ n. HasRoom n (words_behind rest) texts) (sym size) left.room.1;
    }
