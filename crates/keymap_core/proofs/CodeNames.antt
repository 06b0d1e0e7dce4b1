-- A search for the first action of some codes that passes a test.
use Rattle.keymap_core.proofs.Common.{◌≡◌, ℕ, ◌<◌, ◌+◌, Bool, true, false, List, [], ◌∷◌, ◌++◌, take, drop, get_or}
use Rattle.keymap_core.proofs.Common.{length, refl, sym, ap, ◌∙◌, Option, Some, None, find, filter_map, option_map_or}
use Rattle.keymap_core.proofs.Common.{find-append, Action, action_of, rules}
use Rattle.std.proofs.Common.{take-append-drop}
use Rattle.std.specs.List.{cons_option}
use Rattle.std.proofs.Math.Seq.{drop-cons}
use Rattle.std.proofs.lemmas.List.{take_more}
use Rattle.std.proofs.lemmas.List.Elements.{filter_map-append}

-- an action that fails the test changes nothing of the search
passed_over : (p : Action → Bool) (o : Option Action) (xs : List Action) → option_map_or p o false ≡ false
    → find p (cons_option o xs) ≡ find p xs
passed_over p None xs e = refl
passed_over p (Some x) xs e = rw e refl

-- an action that passes the test is what the search finds
found : (p : Action → Bool) (o : Option Action) (xs : List Action) → option_map_or p o false ≡ true
    → find p (cons_option o xs) ≡ o
found p None xs e = cc
found p (Some x) xs e = rw e refl

-- where nothing in front passes, the search finds what it finds behind
behind : (p : Action → Bool) (front rest : List ℕ) → find p (filter_map action_of front) ≡ None
    → find p (filter_map action_of (front ++ rest)) ≡ find p (filter_map action_of rest)
behind p front rest e = search (rules, filter_map-append, find-append)

-- with the code of an action that fails behind the others still nothing is found
pub none-more : (p : Action → Bool) (codes : List ℕ) (i : ℕ) → i < length codes
    → find p (filter_map action_of (take i codes)) ≡ None
    → option_map_or p (action_of (get_or codes i 0)) false ≡ false
    → find p (filter_map action_of (take (i + 1) codes)) ≡ None
none-more p codes i h e misses =
    ap (λ l. find p (filter_map action_of l)) (take_more codes i 0 h)
    ∙ behind p (take i codes) (get_or codes i 0 ∷ []) e
    ∙ passed_over p (action_of (get_or codes i 0)) [] misses

-- the first code whose action passes is what the whole search finds
pub first-found : (p : Action → Bool) (codes : List ℕ) (i : ℕ) → i < length codes
    → find p (filter_map action_of (take i codes)) ≡ None
    → option_map_or p (action_of (get_or codes i 0)) false ≡ true
    → action_of (get_or codes i 0) ≡ find p (filter_map action_of codes)
first-found p codes i h e hits =
    sym (ap (λ l. find p (filter_map action_of l)) (sym (take-append-drop i codes))
    ∙ behind p (take i codes) (drop i codes) e
    ∙ ap (λ l. find p (filter_map action_of l)) (drop-cons codes i 0 h) ∙ found p (action_of (get_or codes i 0)) _ hits)
