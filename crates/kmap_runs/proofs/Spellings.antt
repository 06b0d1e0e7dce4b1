-- Characters one after another, of which each different one is typed by itself.
use Rattle.kmap_runs.proofs.Common.{◌≡◌, ◌∙◌, ◌∷◌, ◌++◌, ℕ, All, Bool, List, [], ap, append-nil, false, refl}
use Rattle.kmap_runs.proofs.Common.{subst, sym, true}
use Rattle.kmap_runs.proofs.Common.{arith, get_or, get_or_default, if◌then◌else◌, inl, inr, length, MapValue, take}
use Rattle.kmap_runs.proofs.Common.{◌+◌, ◌<◌}
use Rattle.keymap_lint.proofs.Shared.{rising_last}
use Rattle.std.proofs.Common.{eqb}
use Rattle.std.proofs.lemmas.List.{get_or-take, length-take-le, map-append}
use Rattle.std.proofs.lemmas.List.Elements.{All-contains, All-nil, All-push, All-weaker}
use Rattle.std.proofs.lemmas.List.Elements.{Contains-append_left, Contains-push}
use Rattle.std.proofs.lemmas.Map.Keys.{below_from_sorted}
use Rattle.std.specs.List.{Contains, list_any}
use Rattle.std.specs.List.Sorted.{IsStrictlyIncreasing, IsStrictlySortedBy}
use Rattle.std.specs.Ordering.{nat_cmp}
use Rattle.std.specs.Prelude.{nat_eq, ◌||◌, ◌⊎◌}
use Rattle.console_scripts.specs.Typing.{CanType, IsTypingError}
use Rattle.keyboard.specs.declared.board.Board.{Board}
unfoldable use Rattle.kmap_runs.specs.Spelling.{different_behind}
use Rattle.kmap_runs.specs.Spelling.{Adds, AddsOnBoard, AreSpelled, AreSpelledIn, IsSpelled, LeavesBoard}
use Rattle.kmap_runs.specs.Spelling.{different, spelled_of}
use Rattle.kmap_runs.specs.declared.spelling.Spelled.{Spelled}
use Rattle.kmap_runs.specs.declared.spelling.Spelling.{Spelling}
use Rattle.console_scripts.specs.declared.typing.TypingError.{TypingError}
use Rattle.console_scripts.specs.declared.typing.TypingError.TheVariants as typing_error
use Rattle.std.proofs.lemmas.Option.{none-some, same_Some}
use Rattle.std.proofs.lemmas.Str.{chars_from_encodes, scalars-chars}
use Rattle.std.specs.Str.{IsUtf8, all_scalars, encode_utf8_all}
use Prim.Native.Nat.{zero, suc}

alone-more : (b : Bool) (c : ℕ) → (if b then [] else c ∷ []) ≡ (if (b || false) then [] else c ∷ [])
alone-more true c = refl
alone-more false c = refl

grown : (b : Bool) (d : ℕ) (x y last : List ℕ) → y ≡ x ++ last
    → (if b then y else d ∷ y) ≡ (if b then x else d ∷ x) ++ last
grown true d x y last e = e
grown false d x y last e = ap (λ z. d ∷ z) e

moved : (p q r : Bool) → ((p || q) || r) ≡ (q || (p || r))
moved true true r = refl
moved true false r = refl
moved false true r = refl
moved false false r = refl

-- one character more is another one, unless it stands before or among them
different-more : (before cs : List ℕ) (c : ℕ)
    → different_behind before (cs ++ c ∷ [])
    ≡ different_behind before cs
    ++ (if (list_any (nat_eq c) before || list_any (nat_eq c) cs) then [] else c ∷ [])
unfolding different_behind
different-more before [] c = alone-more (list_any (nat_eq c) before) c
different-more before (d ∷ ds) c =
    grown (list_any (nat_eq d) before) d (different_behind (d ∷ before) ds)
    (different_behind (d ∷ before) (ds ++ c ∷ []))
    (if (list_any (nat_eq c) before || (nat_eq c d || list_any (nat_eq c) ds)) then [] else c ∷ [])
    (different-more (d ∷ before) ds c
    ∙ ap (λ b. different_behind (d ∷ before) ds ++ (if b then [] else c ∷ []))
    (moved (nat_eq c d) (list_any (nat_eq c) before) (list_any (nat_eq c) ds)))

different-again : (cs : List ℕ) (c : ℕ) → list_any (eqb c) cs ≡ true → different (cs ++ c ∷ []) ≡ different cs
different-again cs c e =
    different-more [] cs c ∙ ap (λ b. different cs ++ (if b then [] else c ∷ [])) e ∙ append-nil (different cs)

different-new : (cs : List ℕ) (c : ℕ) → list_any (eqb c) cs ≡ false → different (cs ++ c ∷ []) ≡ different cs ++ c ∷ []
different-new cs c e = different-more [] cs c ∙ ap (λ b. different cs ++ (if b then [] else c ∷ [])) e

-- the characters so far are typed each by itself, each different one once
pub record AreSpelledSo (b : Board) (m : MapValue) (cs : List ℕ) (xs : List Spelled) : Type 0 where
  pub each : All (IsSpelled b m) xs
  pub are : spelled_of xs ≡ different cs

-- one character more, which is typed if it wasn't seen before
pub spelled-more : (b : Board) (m : MapValue) (cs : List ℕ) (c : ℕ) (old new : List Spelled) → AreSpelledSo b m cs old
    → (list_any (eqb c) cs ≡ true → new ≡ old) → (list_any (eqb c) cs ≡ false → Adds b m c old new)
    → AreSpelledSo b m (cs ++ c ∷ []) new
spelled-more b m cs c old new so seen unseen = by (list_any (eqb c) cs) refl
  where
    added : list_any (eqb c) cs ≡ false → Adds b m c old new → AreSpelledSo b m (cs ++ c ∷ []) new
    added e (x, is, spelled, same) = record {
      each = subst (λ z. All (IsSpelled b m) z) (sym same) (All-push (IsSpelled b m) old x so.each spelled);
      are =
          ap spelled_of same ∙ map-append (λ (y : Spelled). y.character) old (x ∷ [])
          ∙ ap (λ d. spelled_of old ++ d ∷ []) is ∙ ap (λ z. z ++ c ∷ []) so.are ∙ sym (different-new cs c e);
    }

    by : (d : Bool) → list_any (eqb c) cs ≡ d → AreSpelledSo b m (cs ++ c ∷ []) new
    by true e = record {
      each = subst (λ z. All (IsSpelled b m) z) (sym (seen e)) so.each;
      are = ap spelled_of (seen e) ∙ so.are ∙ sym (different-again cs c e);
    }
    by false e = added e (unseen e)

-- ---- of a sentence

-- a character that isn't typed by itself can't be
pub none-typed : (m : MapValue) (c n : ℕ) (e : TypingError) → e ≡ typing_error.NoWay n → IsTypingError m (c ∷ []) e
    → CanType m c → ⊥
none-typed m c n e is wrong = go n (subst (IsTypingError m (c ∷ [])) is wrong)
  where
    go : (n : ℕ) → IsTypingError m (c ∷ []) (typing_error.NoWay n) → CanType m c → ⊥
    go zero (all, (d, at, none)) can = none (subst (CanType m) (same_Some c d at) can)
    go (suc n) (all, (d, at, none)) can = absurd (none-some d at)

-- none are, of no characters
pub none-so : (b : Board) (m : MapValue) → AreSpelledSo b m [] []
unfolding different_behind
none-so b m = record {
  each = All-nil (IsSpelled b m);
  are = refl;
}

-- they are those of the sentence
pub are-spelled-in : (b : Board) (m : MapValue) (cs bytes : List ℕ) (r : Spelling) → IsUtf8 bytes
    → encode_utf8_all cs ≡ bytes → AreSpelled b m cs r
    → AreSpelledIn b m bytes r
are-spelled-in b m cs bytes r u text are = record {
  characters = cs;
  scalars = subst (λ z. all_scalars z ≡ true) (sym (chars_from_encodes cs bytes u text)) (scalars-chars bytes u);
  text = text;
  are = are;
}

-- ---- of all characters

-- one that keys can type is told, or leaves the board
abbrev pub IsTold : Board → MapValue → List Spelled → ℕ → Type 0
IsTold b m xs d = CanType m d → Contains (spelled_of xs) d ⊎ LeavesBoard b m d

-- the characters so far are told, and no others, by their numbers
pub record IsSheetSo (b : Board) (m : MapValue) (cs : List ℕ) (xs : List Spelled) : Type 0 where
  pub each : All (IsSpelled b m) xs
  pub told : All (IsTold b m xs) cs
  pub among : All (λ d. Contains cs d) (spelled_of xs)
  pub order : IsStrictlyIncreasing (spelled_of xs)

with-one : (xs : List Spelled) (x : Spelled) → spelled_of (xs ++ x ∷ []) ≡ spelled_of xs ++ x.character ∷ []
with-one xs x = map-append (λ (y : Spelled). y.character) xs (x ∷ [])

still-told : (b : Board) (m : MapValue) (xs : List Spelled) (x : Spelled) (d : ℕ) → IsTold b m xs d
    → IsTold b m (xs ++ x ∷ []) d
still-told b m xs x d told can = elim (told can) [
  | inl h ↦
      inl (subst (λ z. Contains z d) (sym (with-one xs x))
      (Contains-append_left (spelled_of xs) (x.character ∷ []) d h))
  | inr h ↦ inr h
]

-- what stands before a place is smaller
pub before-smaller : (cs : List ℕ) (k x : ℕ) → IsStrictlySortedBy nat_cmp cs → k < length cs → x ≡ get_or cs k x
    → All (λ d. d < x) (take k cs)
before-smaller cs k x sorted lt is i d low =
    let inside : i < k = subst (λ n. i < n) (length-take-le k cs (omega (arith, lt))) low in
    let less : get_or cs i d < x =
    subst (λ z. get_or cs i d < z) (get_or_default cs k d x lt ∙ sym is)
    (below_from_sorted cs i k d sorted inside lt) in
    subst (λ z. z < x) (sym (get_or-take k cs i d inside)) less

-- one character more, behind smaller ones
pub sheet-more : (b : Board) (m : MapValue) (cs : List ℕ) (c : ℕ) (old new : List Spelled) → All (λ d. d < c) cs
    → IsSheetSo b m cs old → AddsOnBoard b m c old new
    → IsSheetSo b m (cs ++ c ∷ []) new
sheet-more b m cs c old new below so (inl (x, is, spelled, same)) =
    let grown : spelled_of new ≡ spelled_of old ++ c ∷ [] =
    ap spelled_of same ∙ with-one old x ∙ ap (λ d. spelled_of old ++ d ∷ []) is in
    let before : All (λ d. Contains (cs ++ c ∷ []) d) (spelled_of old) =
    All-weaker (λ d. Contains cs d) (λ d. Contains (cs ++ c ∷ []) d) (λ d h. Contains-append_left cs (c ∷ []) d h)
    (spelled_of old) so.among in
    record {
      each = subst (λ z. All (IsSpelled b m) z) (sym same) (All-push (IsSpelled b m) old x so.each spelled);
      told =
          subst (λ z. All (IsTold b m z) (cs ++ c ∷ [])) (sym same)
          (All-push (IsTold b m (old ++ x ∷ [])) cs c
          (All-weaker (IsTold b m old) (IsTold b m (old ++ x ∷ [])) (λ d h. still-told b m old x d h) cs so.told)
          (λ can. inl (subst (λ d. Contains (spelled_of (old ++ x ∷ [])) d) is
          (subst (λ z. Contains z x.character) (sym (with-one old x)) (Contains-push (spelled_of old) x.character)))));
      among =
          subst (λ z. All (λ d. Contains (cs ++ c ∷ []) d) z) (sym grown)
          (All-push (λ d. Contains (cs ++ c ∷ []) d) (spelled_of old) c before (Contains-push cs c));
      order =
          subst IsStrictlyIncreasing (sym grown)
          (rising_last c (spelled_of old)
          (All-weaker (λ d. Contains cs d) (λ d. d < c) (λ d h. All-contains (λ e. e < c) cs d below h) (spelled_of old)
          so.among)
          so.order);
    }
sheet-more b m cs c old new below so (inr (same, leaves)) = record {
  each = subst (λ z. All (IsSpelled b m) z) (sym same) so.each;
  told =
      subst (λ z. All (IsTold b m z) (cs ++ c ∷ [])) (sym same)
      (All-push (IsTold b m old) cs c so.told (λ can. inr (leaves can)));
  among =
      subst (λ z. All (λ d. Contains (cs ++ c ∷ []) d) (spelled_of z)) (sym same)
      (All-weaker (λ d. Contains cs d) (λ d. Contains (cs ++ c ∷ []) d) (λ d h. Contains-append_left cs (c ∷ []) d h)
      (spelled_of old) so.among);
  order = subst (λ z. IsStrictlyIncreasing (spelled_of z)) (sym same) so.order;
}
