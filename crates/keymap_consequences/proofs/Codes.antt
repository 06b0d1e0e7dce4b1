-- Actions that a tap gives under one keymap alone, by their codes.
use Rattle.keymap_consequences.proofs.Common.{◌≡◌, ◌<◌, ◌+◌, ◌∙◌, ℕ, Bool, true, false, List, Some, None, sym, ap, arith, subst}
use Rattle.keymap_consequences.proofs.Common.{true≢false}
use Rattle.std.specs.Prelude.{slice_index_or}
use Rattle.std.proofs.lemmas.Option.{none-some, same_Some}
use Rattle.keymap_core.proofs.Shared.{code-read}
use Rattle.keymap_core.specs.Actions.{IsAction, action_of, code_of}
use Rattle.keymap_core.specs.Maps.{MapValue}
use Rattle.keymap_core.specs.declared.action.Action.{Action}
use Rattle.keymap_core.specs.declared.action.Action.TheVariants as act
use Rattle.keymap_core.specs.declared.action.Modifier.TheVariants as m
use Rattle.keymap_core.specs.declared.action.Lock.TheVariants as l
use Rattle.console_scripts.specs.Typing.{AreGiven, Gives}
use Rattle.keymap_consequences.specs.Consequences.{IsGivenAlone}

-- an action is known by its code
pub code-same : (a b : Action) → IsAction a → IsAction b → code_of a ≡ code_of b → a ≡ b
code-same a b p q e = same_Some a b (sym (code-read a p) ∙ ap action_of e ∙ code-read b q)

-- which has one byte
pub code-small : (a : Action) → IsAction a → code_of a < 256
code-small (act.Screen n) known = let le = known.1 in omega (arith, le)
code-small (act.Function n) known = let le = known.1 in omega (arith, le)
code-small (act.DeadKey i) lt = omega (arith, lt)
code-small (act.Mod m.LeftShift) known = omega arith
code-small (act.Mod i) known = omega arith
code-small (act.Lock l.Caps) known = omega arith
code-small (act.Lock i) known = omega arith
code-small a known = omega arith

-- what stands for a code
abbrev pub IsCodeAlone : MapValue → MapValue → ℕ → Type 0
IsCodeAlone m n c = (a : Action) × (code_of a ≡ c) × IsGivenAlone m n a

pub given-push : (m n : MapValue) (these others : List Bool) (c : ℕ) (b : Action) → AreGiven m these
    → AreGiven n others → slice_index_or these c false ≡ true → slice_index_or others c false ≡ false
    → action_of c ≡ Some b
    → (code_of b ≡ c) × IsGivenAlone m n b
given-push m n these others c b are other has lacks some =
    let (a, known, code, gives) = (are c).0 has in
    let same : a ≡ b = same_Some a b (sym (code-read a known) ∙ ap action_of code ∙ some) in
    let at : code_of b ≡ c = subst (λ z. code_of z ≡ c) same code in
    (at, (subst IsAction same known, subst (Gives m) same gives, (λ there. true≢false (sym ((other c).1 (b, subst IsAction same known, at, there)) ∙ lacks))))

pub given-here : (m n : MapValue) (these : List Bool) (c : ℕ) → AreGiven m these
    → slice_index_or these c false ≡ false → IsCodeAlone m n c → ⊥
given-here m n these c are lacks (a, code, (known, gives, none)) =
    true≢false (sym ((are c).1 (a, known, code, gives)) ∙ lacks)

pub given-there : (m n : MapValue) (others : List Bool) (c : ℕ) → AreGiven n others
    → slice_index_or others c false ≡ true → IsCodeAlone m n c → ⊥
given-there m n others c other has (a, code, (known, gives, none)) =
    let (b, there, at, also) = (other c).0 has in
    none (subst (Gives n) (code-same b a there known (at ∙ sym code)) also)

pub given-none : (m n : MapValue) (c : ℕ) → action_of c ≡ None → IsCodeAlone m n c → ⊥
given-none m n c none (a, code, (known, gives, lacks)) =
    none-some a (sym none ∙ ap action_of (sym code) ∙ code-read a known)
