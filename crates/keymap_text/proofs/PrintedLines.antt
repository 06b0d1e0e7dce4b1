-- The printed lines are definitions.
use Rattle.keymap_text.proofs.Common.{lt-ltb, ◌≡◌, ◌≢◌, ℕ, zero, suc, ◌+◌, ◌-◌, ◌*◌, ◌/◌, ◌%◌, ◌<◌, ◌≤◌, true, List, []}
use Rattle.keymap_text.proofs.Common.{◌∷◌, ◌++◌, length, replicate, refl, ◌∙◌, ap, subst, arith, Ok, Some, append-nil}
use Rattle.keymap_text.proofs.Common.{flat_map, digit_value, nat_tests, Entry, Cell, LockFlag, Action, Item, Open}
use Rattle.keymap_text.proofs.Common.{Close, Value, Number, Act, Letter, leading, is_word, meaning, digits_of, named}
use Rattle.keymap_text.proofs.Common.{is_digit, AccentValue, character, cell, accent_index, KeyDefinition}
use Rattle.keymap_text.proofs.Common.{AccentDefinition, AreCells, no_cells, one_cell, ArePairs, no_pairs, one_pair}
use Rattle.keymap_text.proofs.Common.{Defines, of_key, of_accent, key_line, accent_line, slot_text, column, filled}
use Rattle.keymap_text.proofs.Common.{cell_text, flag_letter, pair_text, character_text, accent_name, slot_words}
use Rattle.keymap_text.proofs.Common.{accent_words}
use Rattle.keymap_text.proofs.Leading.{leading_pass}
use Rattle.keymap_text.proofs.Numbers.{digits_good}
use Rattle.keymap_text.proofs.Splitting.{split_blank}
use Rattle.keymap_text.proofs.Lexed.{Lexes, NoWord, Any, lexes_none, lexes_both, lexes_blank, lexes_word, lexes_left}
use Rattle.keymap_text.proofs.Lexed.{lexes_right}
use Rattle.keymap_core.specs.declared.entry.LockFlag.TheVariants as flags

-- a blank in front changes nothing
lexes_behind_blank : {P : List ℕ → Type 0} {t : List ℕ} {is : List Item} → Lexes P t is → Lexes P (32 ∷ t) is
lexes_behind_blank a = grind (arith, split_blank)

-- blanks begin with no letter or digit
pad_first : (n : ℕ) (y : List ℕ) → leading is_word y ≡ 0 → leading is_word (replicate n 32 ++ y) ≡ 0
pad_first n y h = grind arith

-- blanks are no token
lexes_pad : (n : ℕ) → Lexes NoWord (replicate n 32) []
lexes_pad zero = lexes_none NoWord
lexes_pad (suc n) = lexes_behind_blank (lexes_pad n)

-- a column is its token
lexes_column : {t : List ℕ} {i : Item} → Lexes NoWord t (i ∷ []) → Lexes NoWord (column t) (i ∷ [])
lexes_column {t = t} h = lexes_behind_blank (lexes_both h (lexes_pad (6 - length t)) (pad_first (6 - length t)))

-- A cell's text is one token, which is the cell; a character's likewise.
pub record PrintsCell (c : Cell) : Type 0 where
  pub token : Item
  pub lexes : Lexes NoWord (cell_text c) (token ∷ [])
  pub reads : cell token ≡ Ok c

pub record PrintsCharacter (c : ℕ) : Type 0 where
  pub token : Item
  pub lexes : Lexes NoWord (character_text c) (token ∷ [])
  pub reads : character token ≡ Ok c

abbrev pub EachCell : List Cell → Type 0
EachCell [] = Unit {0}
EachCell (c ∷ cs) = PrintsCell c × EachCell cs

abbrev pub EachPair : List (ℕ × ℕ) → Type 0
EachPair [] = Unit {0}
EachPair (p ∷ ps) = (p.0 ≢ 0) × PrintsCharacter p.0 × PrintsCharacter p.1 × EachPair ps

-- the texts of cells, each behind a blank and filled or not
module _ (text : Cell → List ℕ) where
  -- the texts begin with no letter or digit
  texts_first : (cs : List Cell) (u y : List ℕ)
      → leading is_word ((flat_map (λ c. 32 ∷ text c) cs ++ 32 ∷ u) ++ y) ≡ 0
  texts_first [] u y = refl
  texts_first (c ∷ cs) u y = refl

  more_texts : (cs : List Cell) (y : List ℕ) → leading is_word y ≡ 0
      → leading is_word (flat_map (λ c. 32 ∷ text c) cs ++ y) ≡ 0
  more_texts [] y h = h
  more_texts (c ∷ cs) y h = refl

  -- the texts are the tokens of the cells
  texts_lexed : ((c : Cell) (p : PrintsCell c) → Lexes NoWord (32 ∷ text c) (p.token ∷ [])) → (cs : List Cell)
      → EachCell cs → (ts : List Item) × Lexes NoWord (flat_map (λ c. 32 ∷ text c) cs) ts × AreCells ts cs
  texts_lexed each [] h = ([], lexes_none NoWord, no_cells)
  texts_lexed each (c ∷ cs) (p, h) = let r =
      texts_lexed each cs h in
      (p.token ∷ r.0, lexes_both (each c p) r.1 (more_texts cs), one_cell p.reads r.2)

-- the slot
meaning_digits : (w : List ℕ) (n : ℕ) → digits_of 10 w ≡ Some n → meaning w ≡ Number n
unfolding meaning
meaning_digits w n h = rw (h, meaning) refl

-- a decimal digit has its value
decimal : (d : ℕ) → d < 10 → digit_value (48 + d) ≡ d
decimal d h = grind (arith, nat_tests)

-- a decimal digit is a byte of words
decimal_word : (d : ℕ) → d < 10 → is_word (48 + d) ≡ true
decimal_word d h = grind (arith, nat_tests)

-- a decimal digit passes the test of digits
decimal_digit : (d : ℕ) → d < 10 → is_digit 10 (48 + d) ≡ true
decimal_digit d h = rw (decimal d h) (lt-ltb d 10 h)

-- three digits are one word
three_word : (a b c : ℕ) → is_word a ≡ true → is_word b ≡ true → is_word c ≡ true → leading is_word (a ∷ b ∷ c ∷ []) ≡ 3
three_word a b c h k l = grind (arith, leading_pass)

-- three digits spell their number
three_number : (a b c : ℕ) → a < 10 → b < 10 → c < 10
    → digits_of 10 ((48 + a) ∷ (48 + b) ∷ (48 + c) ∷ []) ≡ Some (100 * a + 10 * b + c)
three_number a b c h k l = grind (arith, decimal, decimal_digit, digits_good)

-- a printed slot is its number
lexes_slot : (s : ℕ) → s < 256 → Lexes NoWord (slot_text s) (Value (Number s) ∷ [])
lexes_slot s h =
    let a : s / 100 < 10 = omega arith in
    let b : s / 10 % 10 < 10 = omega arith in
    let c : s % 10 < 10 = omega arith in
    let n : 100 * (s / 100) + 10 * (s / 10 % 10) + s % 10 ≡ s = omega arith in
    subst (λ (i : Item). Lexes NoWord (slot_text s) (i ∷ []))
    (ap Value (meaning_digits (slot_text s) s (three_number (s / 100) (s / 10 % 10) (s % 10) a b c ∙ ap Some n)))
    (lexes_word (slot_text s) (omega arith) (omega arith)
    (three_word (48 + s / 100) (48 + s / 10 % 10) (48 + s % 10) (decimal_word _ a) (decimal_word _ b)
    (decimal_word _ c)))

-- a printed lock letter is that letter
lexes_letter : (f : LockFlag) → Lexes NoWord (flag_letter f ∷ []) (Value (Letter f) ∷ [])
unfolding meaning digits_of named
lexes_letter flags.O = lexes_word (79 ∷ []) (omega arith) (omega arith) refl
lexes_letter flags.C = lexes_word (67 ∷ []) (omega arith) (omega arith) refl
lexes_letter flags.N = lexes_word (78 ∷ []) (omega arith) (omega arith) refl
lexes_letter flags.B = lexes_word (66 ∷ []) (omega arith) (omega arith) refl

-- the words of a slot are its definition
pub slot_printed : (slot : ℕ) (e : Entry) → slot < 256 → length e.cells ≡ 8 → EachCell e.cells
    → (ts : List Item) × Lexes NoWord (slot_words slot e) ts × Defines ts (KeyDefinition slot e)
unfolding slot_words
slot_printed slot e h l p =
    let r = texts_lexed cell_text (λ c p. lexes_behind_blank p.lexes) e.cells p in (
      Value (Number slot) ∷ (r.0 ++ Value (Letter e.flag) ∷ []),
      lexes_both (lexes_slot slot h)
          (lexes_both r.1 (lexes_behind_blank (lexes_letter e.flag)) (λ y k. refl))
          (λ y k. texts_first cell_text e.cells _ y),
      of_key h l r.2,
    )

-- the line of an entry is its definition
pub key_printed : (slot : ℕ) (e : Entry) → slot < 256 → length e.cells ≡ 8 → EachCell e.cells
    → (ts : List Item) × Lexes Any (key_line slot e) ts × Defines ts (KeyDefinition slot e)
unfolding key_line
key_printed slot e h l p =
    let r = texts_lexed (λ c. filled (cell_text c)) (λ c p. lexes_column p.lexes) e.cells p in (
      Value (Number slot) ∷ (r.0 ++ Value (Letter e.flag) ∷ []),
      lexes_both (lexes_slot slot h)
          (lexes_both r.1 (lexes_behind_blank (lexes_both (lexes_letter e.flag) (lexes_blank Any 10 refl)
          (λ y k. refl))) (λ y k. refl))
          (λ y k. texts_first (λ c. filled (cell_text c)) e.cells _ y),
      of_key h l r.2,
    )

-- an accent's line
pairs_first : (ps : List (ℕ × ℕ)) (y : List ℕ) → leading is_word y ≡ 0
    → leading is_word (flat_map pair_text ps ++ y) ≡ 0
unfolding pair_text
pairs_first [] y h = h
pairs_first (p ∷ ps) y h = refl

-- a printed pair is four tokens
lexes_pair : (p : (ℕ × ℕ)) (b : PrintsCharacter p.0) (r : PrintsCharacter p.1)
    → Lexes NoWord (pair_text p) (Open ∷ b.token ∷ r.token ∷ Close ∷ [])
unfolding pair_text
lexes_pair p b r =
    lexes_behind_blank (lexes_both lexes_left (lexes_behind_blank
    (lexes_both b.lexes (lexes_behind_blank (lexes_both r.lexes (lexes_behind_blank lexes_right)
    (λ y k. refl))) (λ y k. refl)))
    (λ y k. refl))

-- printed pairs are pairs
pairs_printed : (ps : List (ℕ × ℕ)) → EachPair ps
    → (ts : List Item) × Lexes NoWord (flat_map pair_text ps) ts × ArePairs ts ps
pairs_printed [] h = ([], lexes_none NoWord, no_pairs)
pairs_printed (p ∷ ps) (z, b, r, h) = let m =
    pairs_printed ps h in (
      Open ∷ b.token ∷ r.token ∷ Close ∷ m.0,
      lexes_both (lexes_pair p b r) m.1 (pairs_first ps),
      one_pair b.reads z r.reads m.2,
    )

-- the end of an accent's line begins with no letter or digit
pairs_end : (ps : List (ℕ × ℕ)) (y : List ℕ) → leading is_word ((flat_map pair_text ps ++ 10 ∷ []) ++ y) ≡ 0
unfolding pair_text
pairs_end [] y = refl
pairs_end (p ∷ ps) y = refl

-- the name of accent i is one word, which means its action
pub record PrintsName (i : ℕ) : Type 0 where
  pub action : Action
  pub lexes : Lexes NoWord (accent_name i) (Value (Act action) ∷ [])
  pub reads : accent_index action ≡ Some i

-- the line of an accent is its definition
pub accent_printed : (i : ℕ) (a : AccentValue) → PrintsName i → PrintsCharacter a.own → length a.pairs ≤ 52
    → EachPair a.pairs → (ts : List Item) × Lexes Any (accent_line i a) ts × Defines ts (AccentDefinition i a)
unfolding accent_line
accent_printed i a n o l p =
    let m = pairs_printed a.pairs p in (
      Value (Act n.action) ∷ o.token ∷ m.0,
      lexes_both n.lexes (lexes_behind_blank (lexes_both o.lexes (subst
          (λ (is : List Item). Lexes Any (flat_map pair_text a.pairs ++ 10 ∷ []) is) (append-nil m.0)
          (lexes_both m.1 (lexes_blank Any 10 refl) (λ y k. refl)))
          (λ y k. pairs_end a.pairs y))) (λ y k. refl),
      of_accent n.action n.reads o.reads l m.2,
    )

-- the words of an accent are its definition
pub accent_words_printed : (i : ℕ) (a : AccentValue) → PrintsName i → PrintsCharacter a.own → length a.pairs ≤ 52
    → EachPair a.pairs → (ts : List Item) × Lexes NoWord (accent_words i a) ts × Defines ts (AccentDefinition i a)
unfolding accent_words
accent_words_printed i a n o l p =
    let m = pairs_printed a.pairs p in (
      Value (Act n.action) ∷ o.token ∷ m.0,
      lexes_both n.lexes (lexes_behind_blank (lexes_both o.lexes m.1 (pairs_first a.pairs)))
          (λ y k. refl),
      of_accent n.action n.reads o.reads l m.2,
    )
