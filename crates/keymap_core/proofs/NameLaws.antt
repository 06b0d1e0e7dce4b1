-- The name of each action, read again, gives the action.
use Rattle.keymap_core.proofs.Common.{List, All, map, ◌≡◌, ℕ, refl, ap, arith, range_with_len, to_ascii_lowercase}
use Rattle.keymap_core.proofs.Common.{IsAction, name_of, meaning_of, combined_names, Action, rules}
use Rattle.std.proofs.Common.{suc}
use Rattle.keymap_core.proofs.Lists.{along}
use Rattle.keymap_core.specs.Names.{named_of}
use Rattle.keymap_core.specs.declared.action.Action.TheVariants as a
use Rattle.keymap_core.specs.declared.action.Modifier.TheVariants as m
use Rattle.keymap_core.specs.declared.action.Lock.TheVariants as l
use Rattle.keymap_core.specs.declared.named.Named.TheVariants as n

-- the names of the screens mean them, computed over the table
screens : map (λ k. named_of (name_of (a.Screen k))) (range_with_len 1 16)
    ≡ map (λ k. n.Action (a.Screen k)) (range_with_len 1 16)
screens = refl

-- the names of the function keys mean them, computed over the table
functions : map (λ k. named_of (name_of (a.Function k))) (range_with_len 1 96)
    ≡ map (λ k. n.Action (a.Function k)) (range_with_len 1 96)
functions = refl

-- the names of the dead keys mean them, computed over the table
dead-keys : map (λ k. named_of (name_of (a.DeadKey k))) (range_with_len 0 15)
    ≡ map (λ k. n.Action (a.DeadKey k)) (range_with_len 0 15)
dead-keys = refl

-- the name of a known action means that action
pub name-read : (action : Action) → IsAction action → named_of (name_of action) ≡ n.Action action
name-read (a.Screen k) known =
    along (λ k. named_of (name_of (a.Screen k))) (λ k. n.Action (a.Screen k)) 1 16 screens k (omega arith) (omega arith)
name-read (a.Function k) known = search (rules, functions)
name-read (a.DeadKey k) known =
    along (λ k. named_of (name_of (a.DeadKey k))) (λ k. n.Action (a.DeadKey k)) 0 15 dead-keys k (omega arith)
    (omega arith)
name-read (a.Mod m.LeftShift) known = refl
name-read (a.Lock l.Caps) known = refl
name-read _ known = refl

-- computed over the table
pub combined-refused : All (λ word. named_of word ≡ n.Combined) combined_names
combined-refused (suc (suc (suc (suc (suc (suc k)))))) d h = absurd (omega (arith, h))
combined-refused _ d h = refl

-- words that differ in case alone mean the same
pub same-meaning : (a b : List ℕ) → map to_ascii_lowercase a ≡ map to_ascii_lowercase b → named_of a ≡ named_of b
same-meaning a b h = ap meaning_of h
