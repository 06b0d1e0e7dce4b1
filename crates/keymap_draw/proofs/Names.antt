-- What is shown of a name, and how words are read behind it.
use Rattle.keymap_draw.proofs.Common.{zero, suc, ◌≡◌, ℕ, Bool, true, false, List, [], ◌∷◌, ◌++◌, refl, map, take}
use Rattle.keymap_draw.proofs.Common.{nat_lt, ◌∙◌, sym, append-nil, append_assoc, length, cond_both, list_all, is_seen}
use Rattle.keymap_draw.proofs.Common.{if◌then◌else◌}
use Rattle.bstr.specs.Utf8.{lossy_chars}
use Rattle.messages.proofs.Shared.{append_all}
use Rattle.keymap_draw.specs.Drawings.{shown_character, shortened, shown_name}
use Rattle.keymap_draw.proofs.Scans.{both_true, first_true, second_true}

-- a text and characters behind it, one after the other
abbrev pub one_by_one : List ℕ → List ℕ → List ℕ
one_by_one said [] = said
one_by_one said (c ∷ cs) = one_by_one (said ++ c ∷ []) cs

pub all_behind : (said cs : List ℕ) → one_by_one said cs ≡ said ++ cs
all_behind said [] = sym (append-nil said)
all_behind said (c ∷ cs) = all_behind (said ++ c ∷ []) cs ∙ append_assoc said (c ∷ []) cs

shown_seen : (c : ℕ) → is_seen (shown_character c) ≡ true
shown_seen c = by (is_seen c) refl
  where
    by : (b : Bool) → is_seen c ≡ b → is_seen (if b then c else 0xfffd) ≡ true
    by true e = e
    by false e = refl

pub all_seen : (cs : List ℕ) → list_all is_seen (map shown_character cs) ≡ true
all_seen [] = refl
all_seen (c ∷ cs) = both_true (shown_seen c) (all_seen cs)

first_seen : (n : ℕ) (cs : List ℕ) → list_all is_seen cs ≡ true → list_all is_seen (take n cs) ≡ true
first_seen zero cs h = refl
first_seen (suc n) [] h = refl
first_seen (suc n) (c ∷ cs) h = both_true (first_true _ h) (first_seen n cs (second_true _ h))

shortened_seen : (cs : List ℕ) → list_all is_seen cs ≡ true → list_all is_seen (shortened cs) ≡ true
shortened_seen cs h =
    cond_both (nat_lt 48 (length cs)) (take 47 cs ++ 0x2026 ∷ []) cs (λ ds. list_all is_seen ds ≡ true)
    (λ _. append_all is_seen (take 47 cs) (0x2026 ∷ []) (first_seen 47 cs h) refl)
    (λ _. h)

-- each character of a name is seen
pub shown_name_seen : (given : List ℕ) → list_all is_seen (shown_name given) ≡ true
unfolding shown_name
shown_name_seen given = shortened_seen (map shown_character (lossy_chars given)) (all_seen (lossy_chars given))
