-- The table of names begins with the names of the control characters.
use Rattle.keymap_text.proofs.Common.{leb-true, ◌≡◌, ℕ, ◌<◌, ◌≤◌, ◌==◌, ◌⊎◌, true, cond, length, map, refl, arith, List}
use Rattle.keymap_text.proofs.Common.{[], ◌∷◌, nat_le, get_or, range_with_len, letters, control_name, filled, NAMES}
use Rattle.keymap_text.proofs.Common.{along}
use Rattle.keymap_text.specs.declared.names.Name.{Name}

-- what two functions say of the control characters, computed over them
along_controls : {X : Type 0} (f g : ℕ → X) → map f (range_with_len 0 32) ≡ map g (range_with_len 0 32)
    → f 127 ≡ g 127 → (c : ℕ) → (c < 32) ⊎ (c ≡ 127) → f c ≡ g c
along_controls f g low delete c o = grind (arith, along)

-- the row of a control character has its name
pub control_letters : (c : ℕ) (d : Name) → (c < 32) ⊎ (c ≡ 127)
    → letters (get_or NAMES (cond (c == 127) 32 c) d).0 ≡ control_name c
control_letters c d =
    along_controls (λ c. letters (get_or NAMES (cond (c == 127) 32 c) d).0) control_name refl refl c

-- a name of three letters at most, filled with blanks to six
abbrev pub six_of : List ℕ → List ℕ
six_of name = get_or name 0 0 ∷ get_or name 1 0 ∷ get_or name 2 0 ∷ 32 ∷ 32 ∷ 32 ∷ []

-- the row of a control character has its name, filled
pub control_six : (c : ℕ) (d : Name) → (c < 32) ⊎ (c ≡ 127)
    → six_of (get_or NAMES (cond (c == 127) 32 c) d).0 ≡ filled (control_name c)
control_six c d =
    along_controls (λ c. six_of (get_or NAMES (cond (c == 127) 32 c) d).0) (λ c. filled (control_name c)) refl refl c

-- the name of a control character has at most three letters
pub short_name : (c : ℕ) → (c < 32) ⊎ (c ≡ 127) → length (control_name c) ≤ 3
short_name c h =
    leb-true _ 3 (along_controls (λ c. nat_le (length (control_name c)) 3) (λ c. true) refl refl c h)
