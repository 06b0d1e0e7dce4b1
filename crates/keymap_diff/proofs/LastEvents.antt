-- A list that tells two keymaps apart by the fewest presses is answered alike up to its last event.
use Rattle.std.proofs.Common.{rules}
use Rattle.keymap_diff.proofs.Common.{◌≡◌, ◌<◌, true, inl, inr, List, [], ◌∷◌, ◌++◌, refl, ap, subst, sym, ◌∙◌}
use Rattle.keymap_diff.proofs.Common.{arith, reverse, append-nil, MapValue, Event, Press, Release, Answer}
use Rattle.keymap_diff.proofs.Common.{between, answer_to, answers_to, presses, IsAdmitted, true≢false}
use Rattle.std.proofs.lemmas.List.{reverse-append, reverse-reverse}
use Rattle.std.specs.Bool.{Decides}
use Rattle.std.proofs.lemmas.Bool.Decides.{Decides-and}
use Rattle.console_core.proofs.Shared.{answers_to-push}
use Rattle.console_core.specs.History.{Maps}
use Rattle.console_core.specs.contracts.event.AnswerPartialEq.TheImpl as answer
use Rattle.console_core.specs.declared.event.Answer.TheVariants as variant
use Rattle.console_states.proofs.Shared.{admitted-before}
use Rattle.keymap_diff.proofs.Reached.{presses-before}
use Rattle.keymap_diff.proofs.Same.{action-same, stable}
use Rattle.keymap_diff.specs.Telling.{DifferAtLast, HasFewestTelling, IsAnsweredBy, ToldListsDifferAtLast}

pub answer-same : (a b : Answer) → Decides (answer.eq-value.it a b) (a ≡ b)
answer-same (variant.Special a) (variant.Special b) =
    let d = action-same a b in (λ e. ap (λ z. variant.Special z) (d.0 e), λ e. d.1 (cc))
answer-same (variant.Released a) (variant.Released b) =
    let d = action-same a b in (λ e. ap (λ z. variant.Released z) (d.0 e), λ e. d.1 (cc))
answer-same (variant.Char c m) (variant.Char d n) = search (rules, Decides-and)
answer-same variant.None variant.None = (λ e. refl, λ e. refl)
answer-same variant.Error variant.Error = (λ e. refl, λ e. refl)
answer-same variant.BackTab variant.BackTab = (λ e. refl, λ e. refl)
answer-same a b = (λ e. absurd (true≢false (sym e)), λ e. cc)

-- the answers to events, of which the newest comes first, and to one behind them
answers-more : (ms : Maps) (e : Event) (h : List Event)
    → answers_to ms [] (reverse (e ∷ h)) ≡ answers_to ms [] (reverse h) ++ answer_to ms h e ∷ []
answers-more ms e h =
    let before : reverse (reverse h) ++ [] ≡ h = append-nil (reverse (reverse h)) ∙ reverse-reverse h in
    ap (λ es. answers_to ms [] es) (reverse-append (e ∷ []) h) ∙ answers_to-push ms [] (reverse h) e
    ∙ ap (λ g. answers_to ms [] (reverse h) ++ answer_to ms g e ∷ []) before

-- clean lists of fewer presses are answered alike, each event of them
alike-below : (m n : MapValue) (h : List Event) → HasFewestTelling m n h → (g : List Event) → IsAdmitted m true g
    → presses g < presses h → answers_to (between m m) [] (reverse g) ≡ answers_to (between n n) [] (reverse g)
alike-below m n h fewest [] given lt = refl
alike-below m n h fewest (e ∷ g) given lt =
    let a : Answer = answer_to (between m m) g e in
    let b : Answer = answer_to (between n n) g e in
    let before =
    alike-below m n h fewest g (admitted-before m true e g given) (omega (arith, lt, presses-before e g)) in
    let same : a ≡ b =
    stable (a ≡ b) (answer.eq-value.it a b) (answer-same a b)
    (λ apart. let le = fewest (e ∷ g) given apart in omega (arith, lt, le)) in
    answers-more (between m m) e g ∙ cc (before, same) ∙ sym (answers-more (between n n) e g)

-- what is answered alike, and then another event by these answers
differ-behind : (m n : MapValue) (h g : List Event) (e : Event) (old new : Answer) → h ≡ e ∷ g
    → IsAnsweredBy m h old → IsAnsweredBy n h new
    → answers_to (between m m) [] (reverse g) ≡ answers_to (between n n) [] (reverse g)
    → DifferAtLast m n (reverse h) old new
differ-behind m n h g e old new is a b same =
    let first : answer_to (between m m) g e ≡ old = subst (λ z. IsAnsweredBy m z old) is a in
    let second : answer_to (between n n) g e ≡ new = subst (λ z. IsAnsweredBy n z new) is b in
    subst (λ z. DifferAtLast m n (reverse z) old new) (sym is) (
      answers_to (between m m) [] (reverse g),
      answers-more (between m m) e g ∙ ap (λ z. answers_to (between m m) [] (reverse g) ++ z ∷ []) first,
      answers-more (between n n) e g ∙ cc (same, second),
    )

pub told_lists_differ_at_last : ToldListsDifferAtLast
told_lists_differ_at_last m n h old new told fewest =
    let (g, k, given, ends) = told.ends in
    elim ends [
      | inl is ↦
          let lt : presses g < presses h = omega (arith, ap (λ z. presses z) is) in
          differ-behind m n h g (Press k) old new is told.old_answer told.new_answer
          (alike-below m n h fewest g given lt)
      | inr (is, alike) ↦
          let lt : presses g < presses h = omega (arith, ap (λ z. presses z) is) in
          let before = alike-below m n h fewest g given lt in
          differ-behind m n h (Press k ∷ g) (Release k) old new is told.old_answer told.new_answer
          (answers-more (between m m) (Press k) g ∙ cc (before, alike) ∙ sym (answers-more (between n n) (Press k) g))
    ]
