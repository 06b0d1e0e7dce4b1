-- What a word means, by the tests that are made in turn.
use Rattle.keymap_core.proofs.Common.{◌≡◌, ℕ, ◌<◌, min, Bool, true, false, cond, List, [], ◌∷◌, map, refl, sym, rules}
use Rattle.keymap_core.proofs.Common.{◌∙◌, ap, arith, Option, Some, None, find, list_any, option_map, option_map_or}
use Rattle.keymap_core.proofs.Common.{option_or, bytes_eq, nat_tests, none-some, same_Some, find-append, name_of}
use Rattle.keymap_core.proofs.Common.{plain_actions, meaning_of, number_behind, combined_names, Action}
use Rattle.std.proofs.Common.{codes}
use Rattle.keymap_core.specs.Actions.{dead_keys}
use Rattle.keymap_core.specs.Names.{numbered, aliases, names, entry}
use Rattle.keymap_core.specs.declared.named.Named.{Named}
use Rattle.keymap_core.specs.declared.action.Action.TheVariants as a
use Rattle.keymap_core.specs.declared.named.Named.TheVariants as n

-- the row of an action in the table of names
abbrev named_entry : Action → List ℕ × Action
named_entry action = entry (name_of action) action

-- the number, where larger ones count as 255: what one byte keeps
abbrev pub cut_at_255 : Option ℕ → Option ℕ
cut_at_255 = option_map (λ n. min n 255)

-- a number that is cut at 255 is in the range exactly where it was before
cut-numbered : (most : ℕ) (action : ℕ → Action) (n : ℕ) → most < 255
    → numbered most action (min n 255) ≡ numbered most action n
cut-numbered most action n h = grind (arith, nat_tests)

-- a number was found: it decides, also after the cut at 255
numbered-found : (most : ℕ) (action : ℕ → Action) (o : Option ℕ) (k : ℕ) (rest : Named) → most < 255
    → Some k ≡ cut_at_255 o
    → numbered most action k ≡ option_map_or (numbered most action) o rest
numbered-found most action None k rest h e = absurd (none-some k (sym e))
numbered-found most action (Some n) k rest h e =
    ap (numbered most action) (same_Some k (min n 255) e) ∙ cut-numbered most action n h

-- no number was found: what is left decides
numbered-not_found : (most : ℕ) (action : ℕ → Action) (o : Option ℕ) (rest : Named) → None ≡ cut_at_255 o
    → rest ≡ option_map_or (numbered most action) o rest
numbered-not_found most action None rest e = refl
numbered-not_found most action (Some n) rest e = absurd (none-some (min n 255) e)

-- a word that is scr and a number means that screen
pub meaning-screen : (low : List ℕ) (k : ℕ) → Some k ≡ cut_at_255 (number_behind (codes "scr") low)
    → numbered 16 a.Screen k ≡ meaning_of low
meaning-screen low k e = numbered-found 16 a.Screen (number_behind (codes "scr") low) k _ (omega arith) e

-- a word that is fkey and a number, and no screen, means that function key
pub meaning-function : (low : List ℕ) (k : ℕ) → None ≡ cut_at_255 (number_behind (codes "scr") low)
    → Some k ≡ cut_at_255 (number_behind (codes "fkey") low) → numbered 96 a.Function k ≡ meaning_of low
meaning-function low k screen e =
    numbered-found 96 a.Function (number_behind (codes "fkey") low) k _ (omega arith) e
    ∙ numbered-not_found 16 a.Screen (number_behind (codes "scr") low) _ screen

-- a look-up among names that were made of values
step-entries : (b : Bool) (x : Action) (o : Option (List ℕ × Action)) (r : Option Action) → o ≡ option_map named_entry r
    → cond b (Some (named_entry x)) o ≡ option_map named_entry (cond b (Some x) r)
step-entries true x o r e = refl
step-entries false x o r e = e

-- a search of the rows by name is a search of the actions by their names
find-entries : (p : List ℕ → Bool) (xs : List Action)
    → find (λ name. p name.0) (map named_entry xs) ≡ option_map named_entry (find (λ action. p (name_of action)) xs)
find-entries p [] = refl
find-entries p (x ∷ xs) = step-entries (p (name_of x)) x _ _ (find-entries p xs)

-- the action of the first row found is the first action found
action-entry : (o : Option Action) (p : Option (List ℕ × Action))
    → option_map (λ name. name.1) (option_or (option_map named_entry o) p) ≡ option_or o (option_map (λ name. name.1) p)
action-entry (Some x) p = refl
action-entry None p = refl

-- the look-up among all names, in three turns
pub find-names : (low : List ℕ)
    → option_map (λ name. name.1) (find (λ name. bytes_eq low name.0) names)
    ≡ option_or (option_or (find (λ action. bytes_eq low (name_of action)) plain_actions)
    (find (λ action. bytes_eq low (name_of action)) dead_keys))
    (option_map (λ name. name.1) (find (λ name. bytes_eq low name.0) aliases))
find-names low = search (rules, find-append, find-entries, action-entry)

-- what the action found means is what the row found means
meaning-of_action : (o : Option (List ℕ × Action))
    → option_map_or n.Action (option_map (λ name. name.1) o) n.Unknown
    ≡ option_map_or (λ name. n.Action name.1) o n.Unknown
meaning-of_action None = refl
meaning-of_action (Some name) = refl

-- a word that is no screen, function key or combined name means what the table of names says
pub meaning-named : (low : List ℕ) (found : Option Action) → None ≡ cut_at_255 (number_behind (codes "scr") low)
    → None ≡ cut_at_255 (number_behind (codes "fkey") low) → list_any (bytes_eq low) combined_names ≡ false
    → found ≡ option_map (λ name. name.1) (find (λ name. bytes_eq low name.0) names)
    → option_map_or n.Action found n.Unknown ≡ meaning_of low
meaning-named low found screen function combined e =
    ap (λ o. option_map_or n.Action o n.Unknown) e
    ∙ meaning-of_action (find (λ name. bytes_eq low name.0) names)
    ∙ ap (λ b. cond b n.Combined
    (option_map_or (λ name. n.Action name.1) (find (λ name. bytes_eq low name.0) names) n.Unknown))
    (sym combined)
    ∙ numbered-not_found 96 a.Function (number_behind (codes "fkey") low) _ function
    ∙ numbered-not_found 16 a.Screen (number_behind (codes "scr") low) _ screen

-- a word that is no screen or function key, but a combined name, means that
pub meaning-combined : (low : List ℕ) → None ≡ cut_at_255 (number_behind (codes "scr") low)
    → None ≡ cut_at_255 (number_behind (codes "fkey") low) → list_any (bytes_eq low) combined_names ≡ true
    → n.Combined ≡ meaning_of low
meaning-combined low screen function combined = search (rules, numbered-not_found)
