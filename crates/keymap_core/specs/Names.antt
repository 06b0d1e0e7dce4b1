-- What a name means when it is read. Names are read without regard to ASCII case.
use Rattle.std.specs.Prelude.{ℕ, ◌+◌, ◌-◌, ◌*◌, nat_lt, List, [], ◌∷◌, ◌++◌, length, take, drop, map, fold, codes}
use Rattle.std.specs.Prelude.{Option, Some, None, Bool, ◌&&◌, if◌then◌else◌}
use Rattle.std.specs.List.{find, list_all, list_any}
use Rattle.std.specs.Option.{option_map_or}
use Rattle.std.specs.Str.{bytes_eq}
use Rattle.std.specs.Char.{to_ascii_lowercase, is_ascii_digit}
use Rattle.keymap_core.specs.Actions.{name_of, plain_actions, dead_keys, within}
use Rattle.keymap_core.specs.declared.action.Action.{Action}
use Rattle.keymap_core.specs.declared.action.Action.TheVariants as a
use Rattle.keymap_core.specs.declared.action.Modifier.TheVariants as m
use Rattle.keymap_core.specs.declared.named.Named.{Named}
use Rattle.keymap_core.specs.declared.named.Named.TheVariants as n

-- the bytes are decimal digits, at least one
abbrev pub are_digits : List ℕ → Bool
are_digits digits = nat_lt 0 (length digits) && list_all is_ascii_digit digits

-- the number that decimal digits spell
abbrev pub digits_value : List ℕ → ℕ
digits_value digits = fold (λ n c. 10 * n + (c - 48)) 0 digits

-- the number of a word that is these letters and then one or more decimal digits
abbrev pub number_behind : List ℕ → List ℕ → Option ℕ
number_behind letters word =
    let digits = drop (length letters) word in
    if bytes_eq (take (length letters) word) letters && are_digits digits then Some (digits_value digits) else None

-- the numbered action with this number, of those from 1 to `most`
abbrev pub numbered : ℕ → (ℕ → Action) → ℕ → Named
numbered most action number = if within 1 most number then n.Action (action number) else n.OutOfRange

abbrev pub combined_names : List (List ℕ)
combined_names =
    codes "lshifta" ∷ codes "rshifta" ∷ codes "lctrla" ∷ codes "rctrla" ∷ codes "lalta" ∷ codes "ralta" ∷ []

-- a name and what it names
abbrev pub entry : List ℕ → Action → List ℕ × Action
entry name action = (name, action)

-- the further names of some actions
abbrev pub aliases : List (List ℕ × Action)
aliases =
    entry (codes "alt") (a.Mod m.LeftAlt) ∷ entry (codes "ctrl") (a.Mod m.LeftControl)
    ∷ entry (codes "backtab") a.BackTab ∷ entry (codes "ddia") (a.DeadKey 7) ∷ []

-- each name of an action without a number in its name, with the action
abbrev pub names : List (List ℕ × Action)
names = map (λ action. entry (name_of action) action) (plain_actions ++ dead_keys) ++ aliases

-- the meaning of a word of lower case
abbrev pub meaning_of : List ℕ → Named
meaning_of word =
    option_map_or (numbered 16 a.Screen) (number_behind (codes "scr") word)
    (option_map_or (numbered 96 a.Function) (number_behind (codes "fkey") word)
    (if list_any (bytes_eq word) combined_names then n.Combined
    else option_map_or (λ name. n.Action name.1) (find (λ name. bytes_eq word name.0) names) n.Unknown))

abbrev pub named_of : List ℕ → Named
named_of word = meaning_of (map to_ascii_lowercase word)
