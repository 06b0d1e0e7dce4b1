-- A text with its characters between apostrophes: its tokens, its keymap, its comments, and the same once more.
use Rattle.keymap_fmt.proofs.Common.{◌≡◌, ◌⊎◌, inl, inr, ℕ, zero, suc, Bool, true, false, true≢false, List, []}
use Rattle.keymap_fmt.proofs.Common.{◌∷◌, ◌++◌, ◌&&◌, map, refl, sym, ◌∙◌, ap, subst, flat_map, list_all, TokenKind}
use Rattle.keymap_fmt.proofs.Common.{Standing, AtTop, Part, Comment, Code, TokenValue, PieceValue, pieces, behind}
use Rattle.keymap_fmt.proofs.Common.{start}
use Rattle.keymap_fmt.proofs.Common.{formatted, rendered, part_and_bytes}
use Rattle.std.proofs.Common.{not, ◌||◌}
use Rattle.std.specs.List.{list_any}
use Rattle.keymap_core.specs.Maps.{MapValue}
use Rattle.keymap_places.specs.Unicode.{is_lone, is_wide, is_unicode}
use Rattle.keymap_text.specs.Meaning.{tokens, items, Spells}
use Rattle.keymap_text.specs.Words.{item}
use Rattle.keymap_text.specs.declared.words.Item.{Item}
use Rattle.keymap_fmt.specs.Same.{kind_and_bytes, token_in, token_of}
use Rattle.keymap_fmt.specs.Quoted.{change_by, left_by, part_by, bytes_by, changed, quoted, laid_by}
use Rattle.keymap_fmt.specs.Quoted.{AreSameItems, comment_in, comment_of}
unfoldable use Rattle.keymap_fmt.specs.Quoted.{written_from}
use Rattle.keymap_fmt.specs.declared.quoted.Change.TheVariants.{Stays}
use Rattle.keymap_fmt.specs.declared.quoted.Characters.{Characters}
use Rattle.keymap_fmt.specs.declared.quoted.Characters.TheVariants as characters
use Rattle.keymap_fmt.specs.declared.quoted.Quoting.TheVariants.{On}
use Rattle.keymap_fmt.proofs.Texts.{ArePieces, no_piece, one_piece, text_pieces}
use Rattle.keymap_fmt.proofs.Again.{parts_from, again_from}
use Rattle.keymap_fmt.proofs.Spelling.{tokens_of_pieces, in_parts, item_of_both, rendered_whole, keymap_stays}
use Rattle.keymap_fmt.proofs.Changed.{SaysSame, both, lone_in, wide_in, fits}
use Rattle.keymap_fmt.proofs.SameRow.{AreSame, all_same, row_same}

-- what stands for pieces are pieces
written_are : (sure : Bool) (left : ℕ) (s : Standing) (ps : List PieceValue) → ArePieces s ps
    → ArePieces s (written_from (On sure) left ps)
unfolding written_from
written_are sure left s [] no_piece = no_piece
written_are sure left s qs (one_piece {ps = ps} p r h more) =
    let f = fits sure left p.part p.bytes in
    one_piece (changed (change_by (On sure) left p.part p.bytes) p) (f.reads r) h
    (subst (λ t. ArePieces t (written_from (On sure) (left_by (On sure) left p.part p.bytes) ps)) (sym f.standing)
    (written_are sure (left_by (On sure) left p.part p.bytes) (behind p.part) ps more))

-- The tokens of some pieces mean the same as others, where so many belong to what has begun.
abbrev items_in : List PieceValue → List Item
items_in ps = map (λ (t : TokenKind × List ℕ). item t.0 t.1) (flat_map token_of ps)

abbrev items_on : Part → List ℕ → List Item → List Item
items_on part bytes is = map (λ (t : TokenKind × List ℕ). item t.0 t.1) (token_in part bytes) ++ is

token_same : (sure : Bool) (left : ℕ) (part new : Part) (bytes others : List ℕ) (is js : List Item)
    → SaysSame left part bytes new others → AreSame (left_by (On sure) left part bytes) is js
    → AreSame left (items_on part bytes is) (items_on new others js)
token_same sure left Comment Comment bytes others is js h k = k
token_same sure zero (Code kind) (Code other) bytes others is js h k = (h, k)
token_same sure (suc left) (Code kind) (Code other) bytes others is js h k = (h, k)
token_same sure left part new bytes others is js h k = absurd h

items_split : (part : Part) (bytes : List ℕ) (ts : List (TokenKind × List ℕ))
    → map (λ (t : TokenKind × List ℕ). item t.0 t.1) (token_in part bytes ++ ts)
    ≡ items_on part bytes (map (λ (t : TokenKind × List ℕ). item t.0 t.1) ts)
items_split Comment bytes ts = refl
items_split (Code kind) bytes ts = refl

items_same : (sure : Bool) (left : ℕ) (ps : List PieceValue)
    → AreSame left (items_in ps) (items_in (written_from (On sure) left ps))
unfolding written_from
items_same sure left [] = tt
items_same sure left (p ∷ ps) =
    let x = change_by (On sure) left p.part p.bytes in
    let n = left_by (On sure) left p.part p.bytes in
    let qs = written_from (On sure) n ps in
    let f = fits sure left p.part p.bytes in
    subst (λ is. AreSame left is (items_in (changed x p ∷ qs)))
    (sym (items_split p.part p.bytes (flat_map token_of ps)))
    (subst (λ js. AreSame left (items_on p.part p.bytes (items_in ps)) js)
    (sym (items_split (part_by x p.part) (bytes_by x p.bytes) (flat_map token_of qs)))
    (token_same sure left p.part (part_by x p.part) p.bytes (bytes_by x p.bytes) (items_in ps) (items_in qs)
    f.says (items_same sure n ps)))

-- comments stay
in_comments : (ps : List PieceValue)
    → map (λ (p : Part × List ℕ). comment_in p.0 p.1) (map part_and_bytes ps) ≡ map comment_of ps
in_comments [] = refl
in_comments (p ∷ ps) = ap (λ os. comment_of p ∷ os) (in_comments ps)

comments_from : (sure : Bool) (left : ℕ) (ps : List PieceValue)
    → map comment_of (written_from (On sure) left ps) ≡ map comment_of ps
unfolding written_from
comments_from sure left [] = refl
comments_from sure left (p ∷ ps) =
    let n = left_by (On sure) left p.part p.bytes in
    ap (λ o. o ∷ map comment_of (written_from (On sure) n ps)) (fits sure left p.part p.bytes).comment
    ∙ ap (λ os. comment_of p ∷ os) (comments_from sure n ps)

-- What stands in a text that is Unicode for sure stays, and so does what stands in another where that is none still.
stays_from : (sure u : Bool) (left : ℕ) (ps qs : List PieceValue) → (sure ≡ true) ⊎ (u ≡ false)
    → map part_and_bytes qs ≡ map part_and_bytes (written_from (On sure) left ps) → written_from (On u) left qs ≡ qs
unfolding written_from
stays_from sure u left [] [] k e = refl
stays_from sure u left [] (q ∷ qs) k e = absurd (cc)
stays_from sure u left (p ∷ ps) [] k e = absurd (cc)
stays_from sure u left (p ∷ ps) (q ∷ qs) k e =
    let x = change_by (On sure) left p.part p.bytes in
    let n = left_by (On sure) left p.part p.bytes in
    let f = fits sure left p.part p.bytes in
    let one = first_same (part_and_bytes q) (part_and_bytes (changed x p)) _ _ e in
    let stays : change_by (On u) left q.part q.bytes ≡ Stays =
    ap (λ (t : Part × List ℕ). change_by (On u) left t.0 t.1) one.0 ∙ f.stays u k in
    let next : left_by (On u) left q.part q.bytes ≡ n =
    ap (λ (t : Part × List ℕ). left_by (On u) left t.0 t.1) one.0 ∙ f.next u in
    ap (λ y. changed y q ∷ written_from (On u) (left_by (On u) left q.part q.bytes) qs) stays
    ∙ ap (λ m. q ∷ written_from (On u) m qs) next
    ∙ ap (λ (rs : List PieceValue). q ∷ rs) (stays_from sure u n ps qs k one.1)
  where
    first_same : (a b : Part × List ℕ) (xs ys : List (Part × List ℕ)) → a ∷ xs ≡ b ∷ ys → (a ≡ b) × (xs ≡ ys)
    first_same a b xs ys h = (cc, cc)

-- whether some tokens make a text Unicode for sure
abbrev no_lone : List (TokenKind × List ℕ) → Bool
no_lone ts = list_all (λ (t : TokenKind × List ℕ). not (is_lone t.0 t.1)) ts

abbrev some_wide : List (TokenKind × List ℕ) → Bool
some_wide ts = list_any (λ (t : TokenKind × List ℕ). is_wide t.0 t.1) ts

no_lone_of : (ts : List TokenValue)
    → list_all (λ (t : TokenValue). not (is_lone t.kind t.bytes)) ts ≡ no_lone (map kind_and_bytes ts)
no_lone_of [] = refl
no_lone_of (t ∷ ts) = ap (λ b. not (is_lone t.kind t.bytes) && b) (no_lone_of ts)

some_wide_of : (ts : List TokenValue)
    → list_any (λ (t : TokenValue). is_wide t.kind t.bytes) ts ≡ some_wide (map kind_and_bytes ts)
some_wide_of [] = refl
some_wide_of (t ∷ ts) = ap (λ b. is_wide t.kind t.bytes || b) (some_wide_of ts)

no_lone_on : (part : Part) (bytes : List ℕ) (ts : List (TokenKind × List ℕ))
    → no_lone (token_in part bytes ++ ts) ≡ (not (lone_in part bytes) && no_lone ts)
no_lone_on Comment bytes ts = refl
no_lone_on (Code kind) bytes ts = refl

some_wide_on : (part : Part) (bytes : List ℕ) (ts : List (TokenKind × List ℕ))
    → some_wide (token_in part bytes ++ ts) ≡ (wide_in part bytes || some_wide ts)
some_wide_on Comment bytes ts = refl
some_wide_on (Code kind) bytes ts = refl

-- tests of two that pass where those of two others do
not_and : (a b c d : Bool) → (a ≡ true → b ≡ true) → (d ≡ true → c ≡ true) → (not b && d) ≡ true
    → (not a && c) ≡ true
not_and true b c d f g h = absurd (true≢false (sym h ∙ ap (λ b. not b && d) (f refl)))
not_and false false c d f g h = g h
not_and false true c d f g h = absurd (true≢false (sym h))

or_both : (a b c d : Bool) → (b ≡ true → a ≡ true) → (d ≡ true → c ≡ true) → (b || d) ≡ true → (a || c) ≡ true
or_both a true c d f g h = ap (λ a. a || c) (f refl)
or_both true false c d f g h = refl
or_both false false c d f g h = g h

no_lone_back : (sure : Bool) (left : ℕ) (ps : List PieceValue)
    → no_lone (flat_map token_of (written_from (On sure) left ps)) ≡ true → no_lone (flat_map token_of ps) ≡ true
unfolding written_from
no_lone_back sure left [] h = h
no_lone_back sure left (p ∷ ps) h =
    let x = change_by (On sure) left p.part p.bytes in
    let n = left_by (On sure) left p.part p.bytes in
    no_lone_on p.part p.bytes (flat_map token_of ps)
    ∙ not_and (lone_in p.part p.bytes) (lone_in (part_by x p.part) (bytes_by x p.bytes))
    (no_lone (flat_map token_of ps)) (no_lone (flat_map token_of (written_from (On sure) n ps)))
    (fits sure left p.part p.bytes).lone (no_lone_back sure n ps)
    (sym (no_lone_on (part_by x p.part) (bytes_by x p.bytes) (flat_map token_of (written_from (On sure) n ps))) ∙ h)

some_wide_back : (sure : Bool) (left : ℕ) (ps : List PieceValue) → sure ≡ false
    → some_wide (flat_map token_of (written_from (On sure) left ps)) ≡ true → some_wide (flat_map token_of ps) ≡ true
unfolding written_from
some_wide_back sure left [] unsure h = h
some_wide_back sure left (p ∷ ps) unsure h =
    let x = change_by (On sure) left p.part p.bytes in
    let n = left_by (On sure) left p.part p.bytes in
    some_wide_on p.part p.bytes (flat_map token_of ps)
    ∙ or_both (wide_in p.part p.bytes) (wide_in (part_by x p.part) (bytes_by x p.bytes))
    (some_wide (flat_map token_of ps)) (some_wide (flat_map token_of (written_from (On sure) n ps)))
    ((fits sure left p.part p.bytes).wide unsure) (some_wide_back sure n ps unsure)
    (sym (some_wide_on (part_by x p.part) (bytes_by x p.bytes) (flat_map token_of (written_from (On sure) n ps))) ∙ h)

-- by the pieces of a text
abbrev item_in : TokenKind × List ℕ → Item
item_in t = item t.0 t.1

items_are : (text : List ℕ) → items text ≡ items_in (pieces text)
items_are text = sym (item_of_both (tokens text)) ∙ ap (map item_in) (sym (tokens_of_pieces text))

sure_are : (text : List ℕ) → is_unicode (tokens text)
    ≡ (no_lone (flat_map token_of (pieces text)) && some_wide (flat_map token_of (pieces text)))
sure_are text =
    ap (λ b. b && list_any (λ (t : TokenValue). is_wide t.kind t.bytes) (tokens text)) (no_lone_of (tokens text))
    ∙ ap (λ b. no_lone (map kind_and_bytes (tokens text)) && b) (some_wide_of (tokens text))
    ∙ ap (λ ts. no_lone ts && some_wide ts) (sym (tokens_of_pieces text))

-- the pieces of the text that is quoted
module _ (text : List ℕ) where
  abbrev sure : Bool
  sure = is_unicode (tokens text)

  abbrev new : List PieceValue
  new = written_from (On sure) 0 (pieces text)

  new_are : ArePieces AtTop new
  new_are = written_are sure 0 AtTop (pieces text) (text_pieces text 0 AtTop)

  parts_are : map part_and_bytes (pieces (quoted text)) ≡ map part_and_bytes new
  parts_are = parts_from start AtTop new new_are

  tokens_are : flat_map token_of (pieces (quoted text)) ≡ flat_map token_of new
  tokens_are =
      sym (in_parts (pieces (quoted text))) ∙ ap (flat_map (λ (p : Part × List ℕ). token_in p.0 p.1)) parts_are
      ∙ in_parts new

  same : AreSame 0 (items text) (items (quoted text))
  same =
      subst (λ is. AreSame 0 is (items (quoted text))) (sym (items_are text))
      (subst (λ js. AreSame 0 (items_in (pieces text)) js)
      (sym (items_are (quoted text) ∙ ap (map item_in) tokens_are)) (items_same sure 0 (pieces text)))

  pub says_the_same : AreSameItems (items text) (items (quoted text))
  says_the_same = all_same 0 (items text) (items (quoted text)) same

  pub keymap_kept : (m : MapValue) → Spells text m → Spells (quoted text) m
  keymap_kept m h =
      let end = rendered_whole new new_are in
      record {
        definitions = h.definitions;
        row = row_same (items text) h.definitions (items (quoted text)) h.row same;
        end = end.0;
        whole = end.1;
        map = h.map;
      }

  pub comments_kept : map comment_of (pieces (quoted text)) ≡ map comment_of (pieces text)
  comments_kept =
      sym (in_comments (pieces (quoted text))) ∙ ap (map (λ (p : Part × List ℕ). comment_in p.0 p.1)) parts_are
      ∙ in_comments new ∙ comments_from sure 0 (pieces text)

  -- a text that isn't Unicode for sure is none when it is quoted
  not_sure : sure ≡ false → is_unicode (tokens (quoted text)) ≡ false
  not_sure h = go (is_unicode (tokens (quoted text))) refl
    where
      go : (b : Bool) → is_unicode (tokens (quoted text)) ≡ b → b ≡ false
      go false e = refl
      go true e =
          let here : (no_lone (flat_map token_of new) && some_wide (flat_map token_of new)) ≡ true =
          sym (sure_are (quoted text) ∙ ap (λ ts. no_lone ts && some_wide ts) tokens_are) ∙ e in
          let t = both (no_lone (flat_map token_of new)) _ here in
          absurd (true≢false (sym (sure_are text
          ∙ ap (λ b. b && some_wide (flat_map token_of (pieces text))) (no_lone_back sure 0 (pieces text) t.0)
          ∙ some_wide_back sure 0 (pieces text) h t.1) ∙ h))

  pub in_layout : formatted (quoted text) ≡ quoted text
  in_layout = again_from start AtTop new refl new_are

  pub quoted_again : quoted (quoted text) ≡ quoted text
  quoted_again =
      let u = is_unicode (tokens (quoted text)) in
      ap rendered (stays_from sure u 0 (pieces text) (pieces (quoted text)) (go sure refl) parts_are) ∙ in_layout
    where
      go : (b : Bool) → sure ≡ b → (sure ≡ true) ⊎ (is_unicode (tokens (quoted text)) ≡ false)
      go true e = inl e
      go false e = inr (not_sure e)

-- either layout spells what the text spells
pub laid_keymap : (how : Characters) (text : List ℕ) (m : MapValue) → Spells text m → Spells (laid_by how text) m
laid_keymap characters.Kept text m h = keymap_stays text m h
laid_keymap characters.Quoted text m h = keymap_kept text m h
