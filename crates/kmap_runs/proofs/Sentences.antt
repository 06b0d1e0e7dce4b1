-- What answers type, and the offset of a character in a text.
use Rattle.kmap_runs.proofs.Common.{◌≡◌, ℕ, ◌<◌, List, [], ◌∷◌, ◌++◌, refl, ap, sym, ◌∙◌, map, length, take, drop}
use Rattle.kmap_runs.proofs.Common.{get_or, ◌+◌, ◌≤◌, arith, suc, flat_map, Some, subst, rules}
use Rattle.std.proofs.Common.{length-append, drop-cons, take-append-drop}
use Rattle.std.proofs.lemmas.List.{take_more}
use Rattle.std.specs.Str.{encode_utf8_all}
use Rattle.console_core.specs.History.{answers_to}
use Rattle.console_core.specs.declared.event.Answer.{Answer}
use Rattle.console_scripts.specs.Typing.{AreTyped}
use Rattle.play_core.specs.Written.{typed_by, typed_text}
use Rattle.std.specs.Char.{len_utf8}
use Rattle.std.specs.Str.{IsUtf8, all_scalars, chars}
use Rattle.std.proofs.lemmas.Option.{slice_get-get_or, slice_get_within, same_Some}
use Rattle.std.proofs.lemmas.Str.{encodes-append, encodes-chars, length-encode, scalars-chars}
use Rattle.std.specs.Prelude.{filter, encode_utf8}
use Rattle.keymap_core.specs.Maps.{MapValue}
use Rattle.console_scripts.specs.declared.typing.Typing.{Typing}
use Rattle.console_scripts.specs.declared.typing.TypingError.{TypingError}
use Rattle.console_scripts.specs.declared.typing.TypingError.TheVariants as error
use Rattle.console_scripts.specs.Typing.{CanType, IsTypingError, plainly, types_something}
use Rattle.kmap_runs.specs.Sentences.{alone, IsTyped, IsUntyped}
use Rattle.console_core.specs.declared.event.Answer.TheVariants as answer

-- ---- what is typed

-- answers that type nothing add no text
typing-alone : (xs : List Answer) → flat_map typed_by xs ≡ flat_map typed_by (filter types_something xs)
unfolding typed_by
typing-alone [] = refl
typing-alone (answer.Char c meta ∷ xs) = ap (λ t. typed_by (answer.Char c meta) ++ t) (typing-alone xs)
typing-alone (answer.BackTab ∷ xs) = ap (λ t. typed_by answer.BackTab ++ t) (typing-alone xs)
typing-alone (_ ∷ xs) = typing-alone xs

-- characters without meta are their text
plain-text : (cs : List ℕ) → flat_map typed_by (map plainly cs) ≡ encode_utf8_all cs
unfolding typed_by
plain-text [] = refl
plain-text (c ∷ cs) = ap (λ t. encode_utf8 c ++ t) (plain-text cs)

-- what types the characters types their text
pub typed-sentence : (m : MapValue) (bytes cs : List ℕ) (x : Typing) → encode_utf8_all cs ≡ bytes → AreTyped m cs x
    → IsTyped m bytes x
unfolding typed_text
typed-sentence m bytes cs x text are = record {
  characters = cs;
  text = text;
  are = are;
  typed = typing-alone (answers_to (alone m) [] x.events.items) ∙ ap (λ z. flat_map typed_by z) are.types
      ∙ plain-text cs ∙ text;
}

-- ---- a character without a way

-- characters are those before an index, the one there, and those behind
pub split-item : (cs : List ℕ) (k c : ℕ) → k < length cs → c ≡ get_or cs k c → cs ≡ take k cs ++ c ∷ drop (suc k) cs
split-item cs k c lt is = search (rules, take-append-drop, drop-cons)

-- the place of a character without a way is one of the characters
pub way_within : (m : MapValue) (cs : List ℕ) (e : TypingError) (place : ℕ) → e ≡ error.NoWay place
    → IsTypingError m cs e → place < length cs
way_within m cs e place is wrong =
    let (can, (c, at, none)) = subst (IsTypingError m cs) is wrong in slice_get_within cs place c at

-- the first character of a text that keys can't type
pub untyped : (m : MapValue) (bytes cs : List ℕ) (e : TypingError) (place c offset : ℕ) → IsUtf8 bytes
    → cs ≡ chars bytes → e ≡ error.NoWay place → IsTypingError m cs e → c ≡ get_or cs place c
    → offset ≡ length (encode_utf8_all (take place cs)) → IsUntyped m bytes offset c
untyped m bytes cs e place c offset u same is wrong there at =
    let (can, (y, found, none)) = subst (IsTypingError m cs) is wrong in
    let lt = slice_get_within cs place y found in
    let split = sym (split-item cs place c lt there) ∙ same in
    let one : c ≡ y =
    same_Some c y (sym (slice_get-get_or cs place c lt ∙ ap (λ z. Some z) (sym there)) ∙ found) in (
      take place cs,
      drop (suc place) cs,
      ap all_scalars split ∙ scalars-chars bytes u,
      ap encode_utf8_all split ∙ encodes-chars bytes u,
      at,
      can,
      (λ z. none (subst (λ d. CanType m d) one z)),
    )

-- a character's bytes fit where the text has room for all
pub room-for : (cs : List ℕ) (k c : ℕ) → k < length cs → c ≡ get_or cs k c
    → length (encode_utf8_all (take k cs)) + len_utf8 c ≤ length (encode_utf8_all cs)
room-for cs k c lt is =
    let e = ap length (ap encode_utf8_all (split-item cs k c lt is) ∙ encodes-append (take k cs) (c ∷ drop (suc k) cs))
    in
    let a = length-append (encode_utf8_all (take k cs)) (encode_utf8 c ++ encode_utf8_all (drop (suc k) cs)) in
    let b = length-append (encode_utf8 c) (encode_utf8_all (drop (suc k) cs)) in
    let l = length-encode c in
    omega arith

-- the text up to the next character is that up to this one, and its bytes
pub one-further : (cs : List ℕ) (k c : ℕ) → k < length cs → c ≡ get_or cs k c
    → length (encode_utf8_all (take k cs)) + len_utf8 c ≡ length (encode_utf8_all (take (k + 1) cs))
one-further cs k c lt is =
    let t : take (k + 1) cs ≡ take k cs ++ c ∷ [] = take_more cs k c lt ∙ ap (λ y. take k cs ++ y ∷ []) (sym is) in
    let e = ap length (ap encode_utf8_all t ∙ encodes-append (take k cs) (c ∷ [])) in
    let a = length-append (encode_utf8_all (take k cs)) (encode_utf8 c ++ []) in
    let b = length-append (encode_utf8 c) [] in
    let l = length-encode c in
    omega arith
