-- How words are read with what is told at their places.
use Rattle.keymap_draw.proofs.Common.{◌≡◌, ℕ, ◌==◌, Bool, true, false, List, [], ◌∷◌, ◌++◌, Option, Some, rules}
use Rattle.keymap_draw.proofs.Common.{Number, None, refl, sym, ap, ◌∙◌, map, arith, decimal}
use Rattle.keymap_draw.proofs.Common.{◌||◌, if◌then◌else◌, list_all, flat_map, eqb-true, name_of, Finding, finding_words}
use Rattle.keymap_draw.proofs.Common.{Content, Plain, Bytes, Fact, escaped, is_class, within, is_inner, is_seen, over}
use Rattle.keymap_draw.proofs.Common.{ReadAs, IsWithin, last_facts, reverse, State, Read, Place, Element, at, scan}
use Rattle.keymap_draw.proofs.Common.{none-some, or_cases, inl, inr}
use Rattle.keymap_draw.proofs.Common.{saying, within_element, Text, Value, nat_tests}
use Rattle.std.specs.Prelude.{slice_index}
use Rattle.std.specs.Option.{option_and_then}
use Rattle.std.proofs.lemmas.Option.{option_and_then_some}
use Rattle.keymap_core.specs.declared.action.Holding.{Holding}
use Rattle.keymap_core.specs.Actions.{holding_action}
use Rattle.keymap_draw.specs.declared.sheet.Content.TheVariants.{Characters}
use Rattle.keymap_draw.specs.Sheets.{ends_told, written, is_ready, taking}
use Rattle.messages.specs.Filled.{filled, words_before, words_behind}
use Rattle.keymap_draw.proofs.Scans.{both_true, first_true, second_true, failed, scan-append, inside_from, was_inside}
use Rattle.keymap_draw.proofs.Scans.{value_scan, text_scan, further, decimal_inner, place, ends as ends_in}
use Rattle.keymap_draw.proofs.Scans.{escaped_scan, end_scan}
use Rattle.messages.proofs.Shared.{filled_all}
use Rattle.keymap_core.specs.declared.action.Holding.TheVariants as h
use Rattle.keymap_core.specs.declared.action.Modifier.TheVariants as m
use Rattle.keymap_core.specs.declared.action.Lock.TheVariants as l

-- ---- what is told at a place

tag_end : (c : ℕ) (w : List ℕ) → (c == 60 || c == 44) ≡ true → words_before (c ∷ w) ≡ c ∷ words_before w
tag_end c w h = elim (or_cases (c == 60) (c == 44) h) [
  | inl tag ↦ rw (eqb-true c 60 tag) (search rules)
  | inr comma ↦ rw (eqb-true c 44 comma) (search rules)
]

feed_end : (c : ℕ) (w : List ℕ) → (c == 58 || c == 10) ≡ true → words_before (c ∷ w) ≡ c ∷ words_before w
feed_end c w h = elim (or_cases (c == 58) (c == 10) h) [
  | inl colon ↦ rw (eqb-true c 58 colon) (search rules)
  | inr feed ↦ rw (eqb-true c 10 feed) (search rules)
]

before_end : (c : ℕ) (w : List ℕ) → ends_told c ≡ true → words_before (c ∷ w) ≡ c ∷ words_before w
before_end c w h = elim (or_cases (c == 60 || c == 44) (c == 58 || c == 10) h) [
  | inl first ↦ tag_end c w first
  | inr second ↦ feed_end c w second
]

-- bytes behind words that begin so
begins_end : (w : List ℕ) (ts : List Content) → ends_told (slice_index w 0) ≡ true
    → (bs : List ℕ) × (filled w (map written ts) ≡ slice_index w 0 ∷ bs)
unfolding filled
begins_end [] ts h = cc
begins_end (c ∷ w) [] h = (w, refl)
begins_end (c ∷ w) (t ∷ ts) h =
    let rest : List ℕ = filled (words_behind (c ∷ w)) (map written ts) in
    ((words_before w ++ written t) ++ rest, ap (λ b. (b ++ written t) ++ rest) (before_end c w h))

-- the reader behind characters that have references
escaped_taken : (r : Read) (cs next : List ℕ) (ts : List Content) (b : Bool) (q : State) → list_all is_seen cs ≡ true
    → ends_told (slice_index next 0) ≡ b → (if b then within_element Text (saying cs r) else None) ≡ Some q
    → scan (scan (Some (at Text r)) (flat_map escaped cs)) (filled next (map written ts))
    ≡ scan (Some q) (filled next (map written ts))
escaped_taken r cs next ts false q h t e = absurd (none-some q e)
escaped_taken r cs next ts true q h t e =
    let (i, f) = inside_from Text (saying cs r) q e in
    let (bs, g) = begins_end next ts t in
    ap (λ o. scan o (filled next (map written ts))) (escaped_scan r false cs (was_inside r cs i) h)
    ∙ ap (scan (Some (at (place (ends_in false cs)) (saying cs r)))) g
    ∙ end_scan (saying cs r) (ends_in false cs) (slice_index next 0) bs t
    ∙ sym (ap (scan (Some (at Text (saying cs r)))) g)
    ∙ ap (λ o. scan o (filled next (map written ts))) f

taken : (p : Place) (r : Read) (t : Content) (next : List ℕ) (ts : List Content) (q : State) → is_ready t ≡ true
    → taking p r t next ≡ Some q
    → scan (scan (Some (at p r)) (written t)) (filled next (map written ts))
    ≡ scan (Some q) (filled next (map written ts))
taken (Value tag name value) r (Plain t) next ts q h e =
    ap (λ o. scan o (filled next (map written ts))) (value_scan tag name value r t.now h ∙ e)
taken (Value tag name value) r (Number n) next ts q h e =
    ap (λ o. scan o (filled next (map written ts))) (value_scan tag name value r (decimal n) (decimal_inner n) ∙ e)
taken Text r (Number n) next ts q h e =
    search (rules, inside_from, text_scan, was_inside, decimal_inner)
taken Text r (Plain t) next ts q h e = search (rules, inside_from, text_scan, was_inside)
taken Text r (Bytes t) next ts q h e = escaped_taken r t.now next ts (ends_told (slice_index next 0)) q h refl e
taken Text r (Characters t) next ts q h e = escaped_taken r t.now next ts (ends_told (slice_index next 0)) q h refl e
taken _ r t next ts q h e = absurd (none-some q e)

-- ---- words

over_none : (ts : List Content) (w : List ℕ) → over None w ts ≡ None
over_none [] w = failed w
over_none (t ∷ ts) w = search (rules, failed, over_none ts (words_behind w))

-- words are read past what is told at their first place, if they are read at all
over_some : (o : Option State) (w : List ℕ) (ts : List Content) (u : State) → over o w ts ≡ Some u
    → (q : State) × (o ≡ Some q)
over_some None w ts u e = absurd (none-some u (sym (over_none ts w) ∙ e))
over_some (Some q) w ts u e = (q, refl)

pub over_scan : (ts : List Content) (s : Option State) (w : List ℕ) (u : State) → list_all is_ready ts ≡ true
    → over s w ts ≡ Some u → scan s (filled w (map written ts)) ≡ Some u
unfolding filled
over_scan [] s w u h e = e
over_scan (t ∷ ts) s w u h e =
    let next : List ℕ = words_behind w in
    let rest : List ℕ = filled next (map written ts) in
    let take_in : State → Option State = λ v. taking v.place v.read t next in
    let (q, past_it) = over_some (option_and_then take_in (scan s (words_before w))) next ts u e in
    option_and_then_some take_in (scan s (words_before w)) q past_it (λ v here taken_in.
    scan-append s (words_before w ++ written t) rest
    ∙ ap (λ o. scan o rest) (scan-append s (words_before w) (written t) ∙ ap (λ o. scan o (written t)) here)
    ∙ taken v.place v.read t next ts q (first_true _ h) taken_in
    ∙ over_scan ts (Some q) next u (second_true _ h) (ap (λ o. over o next ts) (sym past_it) ∙ e))

-- a text behind which words stand with what is told
pub behind : {s t : State} {old new : List ℕ} (words : List ℕ) (told : List Content) → ReadAs s old
    → new ≡ old ++ filled words (map written told) → list_all is_ready told ≡ true
    → over (Some s) words told ≡ Some t → ReadAs t new
behind {s} {t} words told h e r o =
    further (filled words (map written told)) h e (over_scan told (Some s) words t r o)

-- a text that ends in some elements, behind which words stand that tell new facts
pub led : {begun next : List Element} {old new : List ℕ} (words : List ℕ) (told : List Content) (facts : List Fact)
    → IsWithin begun old → new ≡ old ++ filled words (map written told) → list_all is_ready told ≡ true
    → ((fs : List Fact) → over (Some (within begun fs)) words told ≡ Some (within next (reverse facts ++ fs)))
    → ReadAs (within next (reverse facts ++ last_facts old)) new
led {old = old} words told facts h e r read = behind words told h e r (read (last_facts old))

-- ---- what is inner

class_inner : (c : ℕ) → is_class c ≡ true → is_inner c ≡ true
class_inner c h = grind (arith, nat_tests)

-- classes may stand in a value
pub classes_inner : (classes : List ℕ) → list_all is_class classes ≡ true → list_all is_inner classes ≡ true
classes_inner [] h = refl
classes_inner (c ∷ classes) h =
    both_true (class_inner c (first_true _ h)) (classes_inner classes (second_true _ h))

-- ---- what the check says

holding_inner : (a : Holding) → list_all is_inner (name_of (holding_action a)) ≡ true
holding_inner (h.Mod m.LeftShift) = refl
holding_inner (h.Lock l.Caps) = refl
holding_inner _ = refl

pub said_inner : (f : Finding) → list_all is_inner (finding_words f) ≡ true
said_inner f = search (rules, filled_all, decimal_inner, holding_inner)
