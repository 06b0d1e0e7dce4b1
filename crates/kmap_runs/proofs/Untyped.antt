-- Of characters one after another, those that keys can't type.
use Rattle.std.proofs.Common.{rules}
use Rattle.std.proofs.Common.{◌≡◌, ◌∙◌, ◌<◌, ◌≤◌, ◌⊎◌, ◌∷◌, ◌++◌, ℕ, All, Bool, List, [], ap, append_assoc}
use Rattle.std.proofs.Common.{arith, below_more, eqb, false, inl, inr, length, length-append, refl, subst}
use Rattle.std.proofs.Common.{sym, true, true≢false}
use Rattle.std.proofs.lemmas.Bool.{eqb-true}
use Rattle.std.proofs.lemmas.List.{get_or_append_left, get_or_push, map-append}
use Rattle.std.proofs.lemmas.List.Elements.{All-contains, All-map, All-push, All-weaker, Contains-append_left}
use Rattle.std.proofs.lemmas.List.Elements.{Contains-push}
use Rattle.std.proofs.lemmas.List.Folds.{list_any-append}
use Rattle.std.proofs.lemmas.Map.Views.{Contains-from_any, list_any-from_Contains}
use Rattle.std.proofs.lemmas.Str.{chars_from_encodes, encodes-append, len_utf8_bounds, length-encode, scalars-chars}
use Rattle.std.specs.Cmp.{nat_eq_equiv}
use Rattle.std.specs.List.{Contains, list_any}
use Rattle.std.specs.Prelude.{if◌then◌else◌, nat_eq, ◌||◌}
use Rattle.std.specs.Str.{IsUtf8, all_scalars, encode_utf8_all}
use Rattle.keymap_core.specs.Maps.{MapValue}
use Rattle.console_scripts.specs.Typing.{CanType}
use Rattle.kmap_runs.specs.Missing.{AreMissing, AreMissingIn, Ascend, IsMissing, StandsFirst, characters_of, offsets_of}
use Rattle.kmap_runs.specs.declared.missing.Missing.{Missing}

-- ---- where a character stands first

-- what stands first does so with one more behind it
stands-still : (cs : List ℕ) (c : ℕ) (x : Missing) → StandsFirst cs x → StandsFirst (cs ++ c ∷ []) x
stands-still cs c x s = search (rules, append_assoc)

-- one that isn't among those before it
stands-last : (cs : List ℕ) (x : Missing) → list_any (eqb x.character) cs ≡ false
    → x.offset ≡ length (encode_utf8_all cs)
    → StandsFirst (cs ++ x.character ∷ []) x
stands-last cs x new is = record {
  before = cs;
  after = [];
  there = refl;
  first = λ h. absurd (true≢false (sym (list_any-from_Contains nat_eq_equiv x.character cs h) ∙ new));
  offset = is;
}

-- it begins before the text ends
pub stands-inside : (cs : List ℕ) (n : ℕ) (x : Missing) → n ≡ length (encode_utf8_all cs) → StandsFirst cs x
    → x.offset < n
stands-inside cs n x is s =
    search (rules, encodes-append, length-append, length-encode, len_utf8_bounds)

-- ---- numbers that ascend

-- with a greater one behind them
ascend-more : (ns : List ℕ) (n : ℕ) → Ascend ns → All (λ k. k < n) ns → Ascend (ns ++ n ∷ [])
ascend-more ns n ascend below i j lt inside =
    search (rules, length-append, below_more, get_or_append_left, get_or_push)

-- ---- one character more

-- one that keys can type, or that was there before
pub none-more : (m : MapValue) (cs : List ℕ) (c : ℕ) (found : List Missing) → AreMissing m cs found
    → CanType m c ⊎ (list_any (eqb c) cs ≡ true)
    → AreMissing m (cs ++ c ∷ []) found
none-more m cs c found are (inl can) = record {
  missing = All-weaker (IsMissing m cs) (IsMissing m (cs ++ c ∷ [])) (λ x h. (stands-still cs c x h.0, h.1)) found
      are.missing;
  others = All-push (λ d. CanType m d ⊎ Contains (characters_of found) d) cs c are.others (inl can);
  order = are.order;
}
none-more m cs c found are (inr there) = record {
  missing = All-weaker (IsMissing m cs) (IsMissing m (cs ++ c ∷ [])) (λ x h. (stands-still cs c x h.0, h.1)) found
      are.missing;
  others =
      All-push (λ d. CanType m d ⊎ Contains (characters_of found) d) cs c are.others
      (All-contains (λ d. CanType m d ⊎ Contains (characters_of found) d) cs c are.others
      (Contains-from_any eqb-true c cs there));
  order = are.order;
}

-- those that keys can type, or that were found, when one more is found
widen : (m : MapValue) (found : List Missing) (x : Missing) (d : ℕ) → CanType m d ⊎ Contains (characters_of found) d
    → CanType m d ⊎ Contains (characters_of found ++ x.character ∷ []) d
widen m found x d (inl can) = inl can
widen m found x d (inr h) = inr (Contains-append_left (characters_of found) (x.character ∷ []) d h)

-- one that wasn't there before, and that keys can't type
pub one-more : (m : MapValue) (cs : List ℕ) (x : Missing) (found : List Missing) → AreMissing m cs found
    → list_any (eqb x.character) cs ≡ false → x.offset ≡ length (encode_utf8_all cs) → (CanType m x.character → ⊥)
    → AreMissing m (cs ++ x.character ∷ []) (found ++ x ∷ [])
one-more m cs x found are new is cannot =
    let characters : characters_of (found ++ x ∷ []) ≡ characters_of found ++ x.character ∷ [] =
    map-append (λ (y : Missing). y.character) found (x ∷ []) in
    let offsets : offsets_of (found ++ x ∷ []) ≡ offsets_of found ++ x.offset ∷ [] =
    map-append (λ (y : Missing). y.offset) found (x ∷ []) in
    let P : ℕ → Type 0 = λ d. CanType m d ⊎ Contains (characters_of found) d in
    let Q : ℕ → Type 0 = λ d. CanType m d ⊎ Contains (characters_of found ++ x.character ∷ []) d in
    record {
      missing =
          All-push (IsMissing m (cs ++ x.character ∷ [])) found x
          (All-weaker (IsMissing m cs) (IsMissing m (cs ++ x.character ∷ []))
          (λ y h. (stands-still cs x.character y h.0, h.1))
          found
          are.missing)
          (stands-last cs x new is, cannot);
      others =
          subst (λ z. All (λ d. CanType m d ⊎ Contains z d) (cs ++ x.character ∷ [])) (sym characters)
          (All-push Q cs x.character (All-weaker P Q (widen m found x) cs are.others)
          (inr (Contains-push (characters_of found) x.character)));
      order =
          subst Ascend (sym offsets)
          (ascend-more (offsets_of found) x.offset are.order
          (All-map (λ n. n < x.offset) (λ (y : Missing). y.offset) found
          (All-weaker (IsMissing m cs) (λ y. y.offset < x.offset) (λ y h. stands-inside cs x.offset y is h.0) found
          are.missing)));
    }

-- one that was judged
pub judged-more : (m : MapValue) (cs : List ℕ) (x : Missing) (old new : List Missing)
    → x.offset ≡ length (encode_utf8_all cs) → AreMissing m cs old
    → (list_any (eqb x.character) cs ≡ true → new ≡ old)
    → (list_any (eqb x.character) cs ≡ false
    → ((new ≡ old) × CanType m x.character) ⊎ ((new ≡ old ++ x ∷ []) × (CanType m x.character → ⊥)))
    → AreMissing m (cs ++ x.character ∷ []) new
judged-more m cs x old new at are seen unseen = by (list_any (eqb x.character) cs) refl
  where
    more : (now : List Missing) → new ≡ now → AreMissing m (cs ++ x.character ∷ []) now
        → AreMissing m (cs ++ x.character ∷ []) new
    more now is h = subst (λ z. AreMissing m (cs ++ x.character ∷ []) z) (sym is) h

    judged : list_any (eqb x.character) cs ≡ false
        → ((new ≡ old) × CanType m x.character) ⊎ ((new ≡ old ++ x ∷ []) × (CanType m x.character → ⊥))
        → AreMissing m (cs ++ x.character ∷ []) new
    judged e (inl can) = more old can.0 (none-more m cs x.character old are (inl can.1))
    judged e (inr cannot) = more (old ++ x ∷ []) cannot.0 (one-more m cs x old are e at cannot.1)

    by : (b : Bool) → list_any (eqb x.character) cs ≡ b → AreMissing m (cs ++ x.character ∷ []) new
    by true e = more old (seen e) (none-more m cs x.character old are (inr e))
    by false e = judged e (unseen e)

-- what was seen before, or is it
either : (is_it was : Bool) → (if is_it then true else was) ≡ (was || (is_it || false))
either true true = refl
either true false = refl
either false true = refl
either false false = refl

-- what was seen, with one more
pub seen-more : (q x : ℕ) (new old : Bool) (cs : List ℕ) → new ≡ (if nat_eq x q then true else old)
    → old ≡ list_any (nat_eq q) cs
    → new ≡ list_any (nat_eq q) (cs ++ x ∷ [])
seen-more q x new old cs is same = search (rules, nat_eq, either, list_any-append)

-- ---- of a sentence

-- those of its characters
pub are_missing_in : (m : MapValue) (cs bytes : List ℕ) (found : List Missing) → IsUtf8 bytes
    → encode_utf8_all cs ≡ bytes → AreMissing m cs found
    → AreMissingIn m bytes found
are_missing_in m cs bytes found u text are = record {
  characters = cs;
  scalars = subst (λ z. all_scalars z ≡ true) (sym (chars_from_encodes cs bytes u text)) (scalars-chars bytes u);
  text = text;
  are = are;
}

-- each offset is one of the sentence
pub offsets_within : (m : MapValue) (bytes : List ℕ) (found : List Missing) → AreMissingIn m bytes found
    → All (λ (x : Missing). x.offset ≤ length bytes) found
offsets_within m bytes found are =
    All-weaker (IsMissing m are.characters) (λ (x : Missing). x.offset ≤ length bytes)
    (λ x h. let lt = stands-inside are.characters (length bytes) x (sym (ap length are.text)) h.0 in omega arith)
    found
    are.are.missing
