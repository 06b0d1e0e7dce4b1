-- Texts that stay in their line, and comments of such texts, which send nothing.
use Rattle.script_text.proofs.Common.{◌≡◌, ℕ, ◌==◌, Bool, true, false, not, List, [], ◌∷◌, ◌++◌, refl, ap, sym, ◌∙◌}
use Rattle.script_text.proofs.Common.{subst, arith, append-nil, append_assoc, decimal, if◌then◌else◌, flat_map, rules}
use Rattle.script_text.proofs.Common.{ne_eqb, not-true, get_or, get_or_default, All, All-head, All-tail}
use Rattle.script_text.proofs.Common.{EachPasses, filled_all, Sent, IsScript, script-nil, line-script, comment, name_of}
use Rattle.std.specs.Prelude.{◌≢◌, encode_utf8}
use Rattle.std.proofs.lemmas.Bool.{false≢true}
use Rattle.std.proofs.lemmas.List.Folds.{list_any_none}
use Rattle.std.proofs.lemmas.List.Sums.{AllPass-from_list_all, list_all-from_AllPass}
use Rattle.std.proofs.lemmas.Str.{inside_one}
pub use Rattle.script_text.specs.Comments.{IsInLine, is_in_line}
use Rattle.messages.proofs.Shared.{append_all}
use Rattle.messages.specs.Filled.{filled}
use Rattle.keymap_names.proofs.Shared.{accent_line, decimal_line}
use Rattle.keymap_names.specs.Lists.{accent_name}
use Rattle.keymap_names.specs.Shown.{IsLine, IsSeen, is_seen}
use Rattle.play_core.specs.Spelling.{says, has_line_feed}
use Rattle.keymap_core.specs.declared.action.Action.TheVariants as act

pub stays : (text : List ℕ) → IsInLine text → has_line_feed text ≡ false
stays text h =
    list_any_none (λ b. b == 10) text
    (λ k d lt. not-true (get_or text k d == 10) (AllPass-from_list_all is_in_line text h k d lt))

pub append-line : (a b : List ℕ) → IsInLine a → IsInLine b → IsInLine (a ++ b)
append-line a b h k = append_all is_in_line a b h k

pub flat-line : {X : Type 0} (f : X → List ℕ) → ((x : X) → IsInLine (f x)) → (xs : List X) → IsInLine (flat_map f xs)
flat-line f each [] = refl
flat-line f each (x ∷ xs) = append-line (f x) (flat_map f xs) (each x) (flat-line f each xs)

pub if-line : (t : Bool) (text : List ℕ) → IsInLine text → IsInLine (if t then text else [])
if-line true text h = h
if-line false text h = refl

-- ---- what a terminal shows in one line

-- the bytes of a character that is no line feed
pub encoded-line : (c : ℕ) → c ≢ 10 → IsInLine (encode_utf8 c)
encoded-line c other =
    list_all-from_AllPass is_in_line (encode_utf8 c)
    (λ k d lt. ap not (ne_eqb _ 10 (λ e.
    let at = get_or_default (encode_utf8 c) k 0 d lt ∙ e in
    other (inside_one c [] (encode_utf8 c) k (sym (append-nil _)) lt (omega (arith, at)) ∙ at))))

-- a line feed isn't shown
no_feed : (c : ℕ) → is_seen c ≡ true → c ≢ 10
no_feed c seen e = false≢true (subst (λ x. is_seen x ≡ true) e seen)

characters-line : (cs : List ℕ) → All IsSeen cs → IsInLine (flat_map encode_utf8 cs)
characters-line [] h = refl
characters-line (c ∷ cs) h =
    append-line (encode_utf8 c) (flat_map encode_utf8 cs) (encoded-line c (no_feed c (All-head IsSeen c cs h).1))
    (characters-line cs (All-tail IsSeen c cs h))

pub in-line : (text : List ℕ) → IsLine text → IsInLine text
in-line text is = subst IsInLine (sym is.spelled) (characters-line is.characters is.seen)

-- the name of an accent
pub name-line : (i : ℕ) → IsInLine (name_of (act.DeadKey i))
name-line i = in-line (accent_name i) (accent_line i)

pub decimal-line : (n : ℕ) → IsInLine (decimal n)
decimal-line n = in-line (decimal n) (decimal_line n)

-- ---- comments

-- a comment before a script
pub comment-before : (words : List ℕ) (told : List (List ℕ)) → IsInLine words → EachPasses is_in_line told
    → (rest : List ℕ) (sent : List Sent) → IsScript rest sent → IsScript (comment words told ++ rest) sent
comment-before words told w t rest sent h =
    line-script (says (filled words told)) rest sent
    (stays (filled words told) (filled_all is_in_line words told w t)) h

-- a comment alone is a script of no events
pub comment-alone : (words : List ℕ) (told : List (List ℕ)) → IsInLine words → EachPasses is_in_line told
    → IsScript (comment words told) []
comment-alone words told w t =
    subst (λ t. IsScript t []) (append-nil (comment words told)) (comment-before words told w t [] [] script-nil)

-- ---- texts before a script

-- before any script the text sends this first
pub record Adds (text : List ℕ) (first : List Sent) : Type 0 where
  pub before : (rest : List ℕ) (sent : List Sent) → IsScript rest sent → IsScript (text ++ rest) (first ++ sent)

pub adds-nil : Adds [] []
adds-nil = record { before = λ rest sent h. h }

infixl 10 ◌⊳◌
pub ◌⊳◌ : {a b : List ℕ} {xs ys : List Sent} → Adds a xs → Adds b ys → Adds (a ++ b) (xs ++ ys)
◌⊳◌ {a} {b} {xs} {ys} h k = search (rules, append_assoc)

pub quiet-flat : {X : Type 0} (f : X → List ℕ) → ((x : X) → Adds (f x) []) → (xs : List X) → Adds (flat_map f xs) []
quiet-flat f each [] = adds-nil
quiet-flat f each (x ∷ xs) = each x ⊳ quiet-flat f each xs

pub quiet-if : (t : Bool) (text : List ℕ) → Adds text [] → Adds (if t then text else []) []
quiet-if true text h = h
quiet-if false text h = adds-nil

-- a text that sends this is a script of it
pub adds-script : (text : List ℕ) (sent : List Sent) → Adds text sent → IsScript text sent
adds-script text sent h =
    subst (λ t. IsScript t sent) (append-nil text) (subst (IsScript _) (append-nil sent) (h.before [] [] script-nil))

-- a comment sends nothing
pub quiet-comment : (words : List ℕ) (told : List (List ℕ)) → IsInLine words → EachPasses is_in_line told
    → Adds (comment words told) []
quiet-comment words told w t = record { before = comment-before words told w t }
