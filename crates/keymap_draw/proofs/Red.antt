-- A red cap is that of a key with a finding, and which classes a key has.
use Rattle.keymap_draw.proofs.Common.{◌≡◌, ℕ, Bool, true, false, List, [], ◌∷◌, Option, Some, None, refl, sym, ap}
use Rattle.keymap_draw.proofs.Common.{◌∙◌, arith, All, ◌%◌, if◌then◌else◌, list_all, key_count, Entry, Finding, rules}
use Rattle.keymap_draw.proofs.Common.{finding_of, is_class, nat_tests, each}
use Rattle.std.specs.Prelude.{option_to_list}
use Rattle.std.specs.Option.{is_some}
use Rattle.keymap_draw.specs.Drawn.{column}
use Rattle.keymap_draw.specs.Keys.{names_key, red, key_class, is_blank_entry, is_holding, is_doing}
use Rattle.keymap_draw.specs.Places.{IsClass}

found : (fs : List Finding) (k : ℕ) → is_some (finding_of fs k) ≡ names_key fs k
found [] k = refl
found (f ∷ fs) k = search (rules, found fs k)

-- the classes behind the first, of which none is red
abbrev other_class : Bool → Bool → Bool → Option ℕ
other_class blank holding doing =
    if blank then Some 112
    else if holding then Some 109
    else if doing then Some 103
    else None

class_red : (named blank holding doing : Bool)
    → (if named then Some red else other_class blank holding doing) ≡ Some red → named ≡ true
class_red named blank holding doing h = grind (arith, nat_tests)

pub red_named : (fs : List Finding) (slot : ℕ) (e : Entry) → key_class fs slot e ≡ Some red
    → names_key fs (slot % key_count) ≡ true
unfolding key_class
red_named fs slot e h =
    sym (found fs (slot % key_count))
    ∙ class_red (is_some (finding_of fs (slot % key_count))) (is_blank_entry e) (is_holding (column e 0))
    (is_doing (column e 0)) h

pub named_red : (fs : List Finding) (slot : ℕ) (e : Entry) → names_key fs (slot % key_count) ≡ true
    → key_class fs slot e ≡ Some red
unfolding key_class
named_red fs slot e h =
    ap (λ b. if b then Some red else other_class (is_blank_entry e) (is_holding (column e 0)) (is_doing (column e 0)))
    (found fs (slot % key_count) ∙ h)

class_listed : (named blank holding doing : Bool)
    → list_all is_class (option_to_list (if named then Some red else other_class blank holding doing)) ≡ true
class_listed true blank holding doing = refl
class_listed false true holding doing = refl
class_listed false false true doing = refl
class_listed false false false true = refl
class_listed false false false false = refl

pub keys_classed : (fs : List Finding) (slot : ℕ) (e : Entry) → All IsClass (option_to_list (key_class fs slot e))
unfolding key_class
keys_classed fs slot e =
    each is_class _
    (class_listed (is_some (finding_of fs (slot % key_count))) (is_blank_entry e) (is_holding (column e 0))
    (is_doing (column e 0)))
