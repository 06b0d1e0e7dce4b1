-- Routes home, one move longer, and looked up by the state where they begin.
use Rattle.console_scripts.proofs.Common.{◌≡◌, ◌⊎◌, ℕ, ◌<◌, false, List, [], ◌∷◌, Option, None, refl, ap, Result, Ok}
use Rattle.console_scripts.proofs.Common.{Err, IfOk, subst, sym, ◌∙◌, inl, inr, arith, IfSome, ◌+◌, ◌≤◌, ◌++◌, length}
use Rattle.console_scripts.proofs.Common.{take, get_or, reverse, Contains, take_more, take_all, reverse-append}
use Rattle.console_scripts.proofs.Common.{Contains-push, Contains-push_cases, Contains-append_left, Held, Step, Under}
use Rattle.console_scripts.proofs.Common.{State, IsMove, moved, Holds, with_holder, state_from, IsPathFrom, IsHome}
use Rattle.console_scripts.proofs.Common.{state_of, StepsTo, PressesLead, IsStep, LeadsHome, Routes, AllLeadHome}
use Rattle.console_scripts.proofs.Common.{HasRoute, NoPressLeads, IsAstray, Modifier, Move, rules}
use Rattle.std.proofs.lemmas.List.{length_push}
use Rattle.console_scripts.specs.declared.routes.Route.{Route}
use Rattle.console_scripts.specs.Inner.Routes.{NoLetGoLeads}
use Rattle.console_states.proofs.Shared.{presses-map, steps-to}

-- a path behind a move
pub path-begin : (u : Under) (s : State) (by : Move) (path : List Move) → IsMove u s by
    → IsPathFrom u (moved u s by) path
    → IsPathFrom u s (path ++ by ∷ []) × (state_from u s (path ++ by ∷ []) ≡ state_from u (moved u s by) path)
path-begin u s by [] is p = ((is, tt), refl)
path-begin u s by (move ∷ path) is p = search (rules, path-begin u s by path is p.1)

-- a step leads to where a route begins
pub step-home : (u : Under) (s : State) (n : ℕ) (x : Step) (moves : List Move) → IsStep u s n x
    → LeadsHome u (state_of x.to) moves → LeadsHome u s (x.by ∷ moves)
step-home u s n x moves (is, to, presses) home =
    let from : LeadsHome u (moved u s x.by) moves = subst (λ t. LeadsHome u t moves) to home in
    let longer : reverse (x.by ∷ moves) ≡ reverse moves ++ x.by ∷ [] = reverse-append (x.by ∷ []) moves in
    let path = path-begin u s x.by (reverse moves) is from.0 in (
      subst (λ p. IsPathFrom u s p) (sym longer) path.0,
      subst (λ p. IsHome (state_from u s p)) (sym longer) (subst IsHome (sym path.1) from.1),
    )

-- where a step leads no route begins, so none does where letting go leads, or a press
pub let_go-astray : (routes : Routes) (s : State) (i : Modifier) (step : Option Step)
    → ((k : ℕ) → Holds s k i → StepsTo step (with_holder s i None))
    → IfSome step (λ x. HasRoute routes (state_of x.to) → ⊥) → (k : ℕ) → Holds s k i
    → HasRoute routes (with_holder s i None) → ⊥
let_go-astray routes s i step leads none k holds =
    steps-to (λ t. HasRoute routes t → ⊥) step (with_holder s i None) (leads k holds) none

pub press-astray : (u : Under) (routes : Routes) (s : State) (k : ℕ) (step : Option Step)
    → PressesLead u s k (StepsTo step) → IfSome step (λ x. HasRoute routes (state_of x.to) → ⊥)
    → NoPressLeads u routes s k
press-astray u routes s k step leads none = search (rules, presses-map, steps-to)

-- what the loop over states keeps
pub record Settled (u : Under) (old : Routes) (states : List Held) (n : ℕ) (routes : Routes) (rest : List Held)
    : Type 0 where
  pub home : AllLeadHome u routes
  pub fewer : length rest ≤ n
  pub astray : length rest ≡ n → u.has_loads ≡ false
      → (routes ≡ old) × ((x : Held) → Contains (take n states) x → IsAstray u routes (state_of x))
  pub all : (x : Held) → Contains (take n states) x → HasRoute routes (state_of x) ⊎ Contains rest x
  pub kept : (s : State) → HasRoute old s → HasRoute routes s

-- before the first state
pub settled-new : (u : Under) (old : Routes) (states rest : List Held) → AllLeadHome u old → rest ≡ []
    → Settled u old states 0 old rest
settled-new u old states rest home e = search rules

-- behind the last one
pub settled-all : (u : Under) (old : Routes) (states : List Held) (n : ℕ) (routes : Routes) (rest : List Held)
    → Settled u old states n routes rest → length states ≤ n → n ≤ length states
    → ((length rest ≡ length states → u.has_loads ≡ false → (x : Held) → Contains states x
    → IsAstray u routes (state_of x))
    × ((x : Held) → Contains states x → HasRoute routes (state_of x) ⊎ Contains rest x))
settled-all u old states n routes rest p up down =
    let all : take n states ≡ states = take_all n states up in (
      (λ e loads x has.
          (p.astray (omega (arith, e, up, down)) loads).1 x (subst (λ z. Contains z x) (sym all) has)),
      (λ x has. p.all x (subst (λ z. Contains z x) (sym all) has)),
    )

-- the states before the next place are those before this one, and the one here
pub before-next : {X : Type 0} (states : List X) (n : ℕ) (x y : X) → x ≡ get_or states n x → n < length states
    → Contains (take (n + 1) states) y → Contains (take n states) y ⊎ (x ≡ y)
before-next states n x y at lt has =
    Contains-push_cases (take n states) x y
    (subst (λ z. Contains z y) (take_more states n x lt ∙ ap (λ z. take n states ++ z ∷ []) (sym at)) has)

-- a route is added
pub settled-some : (u : Under) (old : Routes) (states : List Held) (n : ℕ) (routes more : Routes) (rest : List Held)
    (x : Held) → Settled u old states n routes rest → x ≡ get_or states n x → n < length states
    → AllLeadHome u more → HasRoute more (state_of x) → ((s : State) → HasRoute routes s → HasRoute more s)
    → Settled u old states (n + 1) more rest
settled-some u old states n routes more rest x p at lt home added kept = record {
  home = home;
  fewer = omega (arith, p.fewer);
  astray = λ e loads. absurd (omega (arith, e, p.fewer));
  all = λ y has. elim (before-next states n x y at lt has) [
    | inl before ↦ elim (p.all y before) [ inl is ↦ inl (kept (state_of y) is) | inr left ↦ inr left ]
    | inr e ↦ inl (subst (λ z. HasRoute more (state_of z)) e added)
  ];
  kept = λ s has. kept s (p.kept s has);
}

-- no route is found for the next state
pub settled-none : (u : Under) (old : Routes) (states : List Held) (n : ℕ) (routes : Routes) (rest now : List Held)
    (x : Held) → Settled u old states n routes rest → x ≡ get_or states n x → n < length states
    → now ≡ rest ++ x ∷ [] → (u.has_loads ≡ false → IsAstray u routes (state_of x))
    → Settled u old states (n + 1) routes now
settled-none u old states n routes rest now x p at lt e none =
    let longer : length now ≡ length rest + 1 = ap (λ z. length z) e ∙ length_push rest x in
    record {
      home = p.home;
      fewer = omega (arith, p.fewer, longer);
      astray = λ f loads.
          let before = p.astray (omega (arith, f, longer)) loads in (
            before.0,
            λ y has. elim (before-next states n x y at lt has) [
              | inl earlier ↦ before.1 y earlier
              | inr g ↦ subst (λ z. IsAstray u routes (state_of z)) g (none loads)
            ],
          );
      all = λ y has. elim (before-next states n x y at lt has) [
        | inl before ↦ elim (p.all y before) [
          | inl is ↦ inl is
          | inr left ↦ inr (subst (λ z. Contains z y) (sym e) (Contains-append_left rest (x ∷ []) y left))
        ]
        | inr g ↦
            inr
            (subst (λ z. Contains z y) (sym e) (subst (λ z. Contains (rest ++ x ∷ []) z) g (Contains-push rest x)))
      ];
      kept = p.kept;
    }

-- a state that isn't home, and from which no step leads to where a route begins
pub astray : (u : Under) (routes : Routes) (s : State) → u.has_loads ≡ false → (IsHome s → ⊥)
    → NoLetGoLeads routes s → ((k : ℕ) → k < 128 → NoPressLeads u routes s k) → IsAstray u routes s
astray u routes s loads away let_go press = search rules

-- a state is astray where no route by a press is answered
pub astray-when : {E : Type 0} (u : Under) (routes : Routes) (s : State) (r : Result (Option Route) E) → (IsHome s → ⊥)
    → NoLetGoLeads routes s
    → IfOk r (λ route. route ≡ None → (k : ℕ) → k < 128 → NoPressLeads u routes s k)
    → IfOk r (λ route. route ≡ None → u.has_loads ≡ false → IsAstray u routes s)
astray-when u routes s (Ok route) away let_go press = λ none loads. astray u routes s loads away let_go (press none)
astray-when u routes s (Err e) away let_go press = tt
