use Rattle.kmap_runs.proofs.Common.{◌≡◌, ◌∙◌, ◌<◌, ℕ, Ok, ap, length, subst, sym, take}
use Rattle.std.specs.Str.{chars, encode_utf8_all}
use Rattle.console_scripts.specs.Typing.{AreTyped}
use Rattle.std.proofs.lemmas.Iterator.{YieldsList-from_chars, items_from_collect}
use Rattle.std.proofs.lemmas.Str.{encodes-chars}
use Rattle.console_scripts.specs.Typing.{IsTypingError}
use Rattle.kmap_runs.proofs.Sentences.{untyped, typed-sentence, way_within}
use Rattle.kmap_runs.proofs.sentence.type_sentence.Goals as goal

pub returns-in-Ok-type_characters-clause-ok : goal.returns-in-Ok-type_characters-clause-ok
returns-in-Ok-type_characters-clause-ok c =
    let (same, u) = c.in-Ok.ensures.cases in
    let cs = c.in_ok-characters.characters.items in
    let is : cs ≡ chars c.args.sentence.now =
    items_from_collect {E = ℕ} (Ok c.in_ok-characters.characters) c.in_ok-characters.ensures.ran
    (YieldsList-from_chars c.args.sentence.now u (c.chars.ensures.rest ∙ same)) in
    typed-sentence c.args.map.now c.args.sentence.now cs c.in-Ok-type_characters.typing
    (ap encode_utf8_all is ∙ encodes-chars c.args.sentence.now u)
    (subst (λ z. AreTyped c.args.map.now z c.in-Ok-type_characters.typing) c.as_slice.ensures.value
    c.in-Ok-type_characters.ensures.typed)

pub offset_of-requires-clause-place : goal.offset_of-requires-clause-place
offset_of-requires-clause-place c =
    subst (λ n. c.in-Err-NoWay.place < n) (c.as_slice.ensures.len ∙ sym c.deref.ensures.len)
    (way_within c.args.map.now c.as_slice.result.now _ _ c.in-Err-NoWay.field-0-is c.in-Err-NoWay.ensures.error)

pub index-requires : goal.index-requires
index-requires c =
    subst (λ n. c.in-Err-NoWay.place < n) c.as_slice.ensures.len
    (way_within c.args.map.now c.as_slice.result.now _ _ c.in-Err-NoWay.field-0-is c.in-Err-NoWay.ensures.error)

pub returns-in-Err-NoWay-clause-err : goal.returns-in-Err-NoWay-clause-err
returns-in-Err-NoWay-clause-err c =
    let m = c.args.map.now in
    let bytes = c.args.sentence.now in
    let cs = c.in_ok-characters.characters.items in
    let (same, u) = c.in-Ok.ensures.cases in
    let is : cs ≡ chars bytes =
    items_from_collect {E = ℕ} (Ok c.in_ok-characters.characters) c.in_ok-characters.ensures.ran
    (YieldsList-from_chars bytes u (c.chars.ensures.rest ∙ same)) in
    untyped m bytes cs _ c.in-Err-NoWay.place c.index.result.now c.offset_of.result u is
    c.in-Err-NoWay.field-0-is
    (subst (λ z. IsTypingError m z c.in-Err-NoWay.field-0) c.as_slice.ensures.value c.in-Err-NoWay.ensures.error)
    c.index.ensures
    (c.offset_of.ensures ∙ ap (λ z. length (encode_utf8_all (take c.in-Err-NoWay.place z))) c.deref.ensures.value)
