-- Texts with the same tokens have the same definitions.
use Rattle.keymap_places.proofs.Common.{◌≡◌, ℕ, zero, suc, ◌+◌, Bool, true, false, List, [], ◌∷◌, length, map, refl}
use Rattle.keymap_places.proofs.Common.{sym, ◌∙◌, ap, arith, cond, Option, Some, None, item, TokenKind, TokenValue}
use Rattle.keymap_places.proofs.Common.{tokens, Placed, Defined, begins, behind, begun, is_open}
use Rattle.keymap_places.proofs.RowPlaces.{places_are}
use Rattle.keymap_places.specs.Same.{SameTokensSameDefinitions, kind_and_bytes}
use Rattle.keymap_text.proofs.Shared.{same_head, same_tail}

-- where definitions begin, where one that defines this may begin at the token before, or none
begun_by : ℕ → List TokenValue → Option Defined → List Placed
begun_by n ts (Some what) = record { what = what; first = n } ∷ begun (behind what) (n + 1) ts
begun_by n ts None = begun 0 (n + 1) ts

-- where they begin from a token on, by its kind and its bytes
begun_with : ℕ → List TokenValue → TokenKind × List ℕ → List Placed
begun_with n ts token = cond (is_open token.0) (begun 3 (n + 1) ts) (begun_by n ts (begins (item token.0 token.1)))

begun_at : (n : ℕ) (t : TokenValue) (ts : List TokenValue) → begun 0 n (t ∷ ts) ≡ begun_with n ts (kind_and_bytes t)
unfolding begun begun_with begun_by
begun_at n t ts = go (begins (item t.kind t.bytes))
  where
    go : (o : Option Defined)
        → cond (is_open t.kind) (begun 3 (n + 1) ts) (elim o [
          | Some what ↦ record { what = what; first = n } ∷ begun (behind what) (n + 1) ts
          | None ↦ begun 0 (n + 1) ts
        ]) ≡ cond (is_open t.kind) (begun 3 (n + 1) ts) (begun_by n ts o)
    go (Some what) = refl
    go None = refl

begun_with_same : (n : ℕ) (ts us : List TokenValue) (token : TokenKind × List ℕ)
    → ((left : ℕ) → begun left (n + 1) ts ≡ begun left (n + 1) us) → begun_with n ts token ≡ begun_with n us token
unfolding begun_with begun_by
begun_with_same n ts us token h = go (is_open token.0) (begins (item token.0 token.1))
  where
    go : (b : Bool) (o : Option Defined)
        → cond b (begun 3 (n + 1) ts) (begun_by n ts o) ≡ cond b (begun 3 (n + 1) us) (begun_by n us o)
    go true o = h 3
    go false (Some what) = ap (λ ps. record { what = what; first = n } ∷ ps) (h (behind what))
    go false None = h 0

begun_same : (ts us : List TokenValue) → map kind_and_bytes ts ≡ map kind_and_bytes us → (left n : ℕ)
    → begun left n ts ≡ begun left n us
unfolding begun
begun_same [] [] e left n = refl
begun_same [] (u ∷ us) e left n = absurd (omega (arith, ap length e))
begun_same (t ∷ ts) [] e left n = absurd (omega (arith, ap length e))
begun_same (t ∷ ts) (u ∷ us) e (suc left) n = begun_same ts us (same_tail _ _ _ _ e) left (n + 1)
begun_same (t ∷ ts) (u ∷ us) e zero n =
    let rest : map kind_and_bytes ts ≡ map kind_and_bytes us = same_tail _ _ _ _ e in
    begun_at n t ts ∙ ap (begun_with n ts) (same_head (kind_and_bytes t) (kind_and_bytes u) _ _ e)
    ∙ begun_with_same n ts us (kind_and_bytes u) (λ left. begun_same ts us rest left (n + 1)) ∙ sym (begun_at n u us)

pub same_places : SameTokensSameDefinitions
same_places text other m n rows others same by is =
    sym (places_are by.are_rows 0) ∙ begun_same (tokens text) (tokens other) same 0 0 ∙ places_are is.are_rows 0
