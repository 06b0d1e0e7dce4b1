-- Two consoles of two keymaps stay alike as long as no press shows a difference, and answer alike.
use Rattle.keymap_diff.proofs.Reached.{IsWithinReach, reach-before}
use Rattle.keymap_diff.specs.Telling.{IsKeptAlike}
use Rattle.keymap_diff.proofs.Common.{NeverForgetsBelow}
use Rattle.std.proofs.Common.{rules}
use Rattle.keymap_diff.proofs.Common.{◌≡◌, ℕ, ◌<◌, Bool, List, [], ◌∷◌, ◌++◌, Some, None, false, refl, ap, subst}
use Rattle.keymap_diff.proofs.Common.{sym, ◌∙◌, inl, inr, arith, true≢false, reverse, All-head, append-nil, Action}
use Rattle.keymap_diff.proofs.Common.{Char, Act, Event, Press, Release, Reset, Load, MapValue, answer_release}
use Rattle.keymap_diff.proofs.Common.{taken_over, on, remembered, pending, look, ResolvedEvent, between, resolved}
use Rattle.keymap_diff.proofs.Common.{answer_to, answers_to, HasKey, IsNoLoad, State, Follows, presses}
use Rattle.keymap_diff.proofs.Common.{IsAdmitted, looked_up, AreClear, MakesSame, Option, true}
use Rattle.keymap_diff.proofs.Common.{ShowsNothing, IsAnsweredAlike}
use Rattle.keymap_diff.specs.Telling.{AnswersAreSame}
use Rattle.keymap_diff.proofs.Reached.{stands-by, pends-by}
use Rattle.console_core.proofs.Shared.{one_in_force, resolved-more, resolved-start, reverse-cons}
use Rattle.console_states.proofs.Shared.{admitted-before, taken-dead}
use Rattle.keymap_core.specs.declared.action.Action.TheVariants as act
use Rattle.keymap_core.specs.declared.action.Holding.TheVariants as holding
use Rattle.keymap_diff.proofs.OneEvent.{Alike, look-is, alike-look, alike-start, alike-release, alike-reset}
use Rattle.keymap_diff.proofs.OneEvent.{press-answered, press-resolved, ShowNothingFor, ComposesCell, one-press}

abbrev pub AlikeAfter : MapValue → MapValue → List Event → Type 0
AlikeAfter m n h = Alike m n (resolved (between m m) h) (resolved (between n n) h)

-- where the console stands in a state, a press of a key that shows nothing there
press-event : (m n : MapValue) (h : List Event) (s : State) (k : ℕ) → AlikeAfter m n h
    → Follows (resolved (between m m) h) s → ShowsNothing m n None s k
    → ComposesCell m n (pending m (resolved (between m m) h)) (remembered k (resolved (between m m) h))
    (look m (resolved (between m m) h) k)
    → AlikeAfter m n (Press k ∷ h) × (answer_to (between m m) h (Press k) ≡ answer_to (between n n) h (Press k))
press-event m n h s k alike f nothing compose =
    let r : List ResolvedEvent = resolved (between m m) h in
    let q : List ResolvedEvent = resolved (between n n) h in
    let x : look m r k ≡ looked_up m s k = look-is m r s k f in
    let y : look n q k ≡ looked_up n s k = alike-look m n r q k alike ∙ look-is n r s k f in
    let (after, answers) = one-press m n r q k (look m r k) (look n q k) alike (rw (x, y) (by nothing)) compose in
    (rw (press-resolved m h k, press-resolved n h k) after, press-answered m h k ∙ answers ∙ sym (press-answered n h k))
  where
    by : ShowsNothing m n None s k
        → ShowNothingFor m n (remembered k (resolved (between m m) h)) (looked_up m s k) (looked_up n s k)
    by (inl same) = inl same
    by (inr (i, holds, u, v)) = inr (i, f.holds i k holds, u, v)

-- where an accent is pending and the console stands in a state, a press of a key that shows nothing there composes
-- alike
composes-there : (m n : MapValue) (r : List ResolvedEvent) (s : State) (k i : ℕ) → Follows r s
    → ShowsNothing m n (Some i) s k → s.is_pending ≡ true
    → ((c : ℕ) → look m r k ≡ Char c → MakesSame m n i c)
    × ((a : Action) → look m r k ≡ Act a → taken_over (remembered k r) a ≡ act.DeadKey i → MakesSame m n i 32)
composes-there m n r s k i f nothing on =
    let seen : look m r k ≡ looked_up m s k = look-is m r s k f in (
      (λ c e. nothing on c (inl (sym seen ∙ e))),
      (λ a e taken.
          let (same, free) = taken-dead (remembered k r) a i taken in
          nothing on 32 (inr ((λ j holds. free j (f.holds j k holds)), sym seen ∙ e ∙ ap (λ z. Act z) same, refl))),
    )

-- Where fewer than b presses show nothing, whatever list of at most b presses comes: the consoles stay alike, and
-- answer alike.
pub below : (m n : MapValue) (forgets : Bool) (b : ℕ) → (forgets ≡ false → NeverForgetsBelow m b)
    → ((p : Option ℕ) → AreClear m n p b) → (h : List Event) → IsWithinReach m forgets b h
    → AlikeAfter m n h × IsAnsweredAlike m n h
below m n forgets b never clear [] given =
    (rw (resolved-start (between m m), resolved-start (between n n)) (alike-start m n), tt)
below m n forgets b never clear (Press k ∷ h) given =
    let r : List ResolvedEvent = resolved (between m m) h in
    let lt : presses h < b = omega (arith, given.1) in
    let key : k < 128 = All-head HasKey (Press k) h given.0.0 in
    let before : IsWithinReach m forgets b h = reach-before m forgets b (Press k) h given in
    let (alike, answered) = below m n forgets b never clear h before in
    let (s, (path, is, few, leads), f) = stands-by m forgets b h never before in
    let nothing : ShowsNothing m n None s k =
    subst (λ t. ShowsNothing m n None t k) leads (clear None path is (omega (arith, few, lt)) k key) in
    let composes : (i : ℕ) → pending m r ≡ Some i
    → ((c : ℕ) → look m r k ≡ Char c → MakesSame m n i c)
    × ((a : Action) → look m r k ≡ Act a → taken_over (remembered k r) a ≡ act.DeadKey i → MakesSame m n i 32) =
    λ i e.
    let (t, (path, made, count, to), on, g) = pends-by m forgets b h i never before e in
    composes-there m n r t k i g
    (subst (λ z. ShowsNothing m n (Some i) z k) to (clear (Some i) path made (omega (arith, count, lt)) k key)) on in
    press-event m n h s k alike f nothing
    ((λ c seen i e. (composes i e).0 c seen), (λ a seen i taken e. (composes i e).1 a seen taken))
below m n forgets b never clear (Release k ∷ h) given =
    let (alike, answered) =
    below m n forgets b never clear h (reach-before m forgets b (Release k) h given) in (
      rw (resolved-more (between m m) h (Release k), resolved-more (between n n) h (Release k))
          (alike-release m n (resolved (between m m) h) (resolved (between n n) h) k alike),
      ap answer_release (alike.remembered k),
    )
below m n forgets b never clear (Reset ∷ h) given =
    let (alike, answered) = below m n forgets b never clear h (reach-before m forgets b Reset h given) in
    search (rules, resolved-more, alike-reset)
below m n forgets b never clear (Load ∷ h) given =
    absurd (true≢false (All-head IsNoLoad Load h given.0.1))

-- what the consoles keep is the same
pub kept-alike : (m n : MapValue) (h : List Event) → AlikeAfter m n h → IsKeptAlike m n h
kept-alike m n h alike = search (rules, one_in_force)

-- where no list tells them apart, the answers to each are the same
pub answers_are_same : AnswersAreSame
answers_are_same m n forgets es never admitted = go es [] (rw (append-nil (reverse es)) admitted)
  where
    newest : (later h : List Event) → IsAdmitted m forgets (reverse later ++ h) → IsAdmitted m forgets h
    newest [] h is = is
    newest (e ∷ later) h is =
        admitted-before m forgets e h
        (newest later (e ∷ h) (subst (λ z. IsAdmitted m forgets z) (reverse-cons e later h) is))

    go : (later h : List Event) → IsAdmitted m forgets (reverse later ++ h)
        → answers_to (between m m) h later ≡ answers_to (between n n) h later
    go [] h is = refl
    go (e ∷ later) h is =
        let there : IsAdmitted m forgets (reverse later ++ e ∷ h) =
        subst (λ z. IsAdmitted m forgets z) (reverse-cons e later h) is in
        rw ((never (e ∷ h) (newest later (e ∷ h) there)).0, go later (e ∷ h) there) refl
