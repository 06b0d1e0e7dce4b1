-- What is remembered, by positions.
use Rattle.console_core.proofs.Common.{◌≡◌, ℕ, Bool, false, true, ◌&&◌, List, [], ◌∷◌, ◌++◌, Option, None, Some, refl}
use Rattle.console_core.proofs.Common.{ap, sym, ◌∙◌, if◌then◌else◌, append_assoc, ◌==◌, option_or, is_some}
use Rattle.console_core.proofs.Common.{none-some, Action, Cell, Char, Act, Event, Press, Release, Reset, Load}
use Rattle.console_core.proofs.Common.{resolve_press, remembered, unless_nop, Maps, resolved}
use Rattle.console_core.proofs.Common.{remembered_after, NoneOf, option_or-none, rules}
use Rattle.console_core.specs.Positions.{first_since_at}
use Rattle.console_core.specs.Reading.{forgets_at, offers_at, IsSinceLast, is_character, offered, FirstSince}
use Rattle.console_core.specs.Reading.{NothingSince, RememberedByPositions, NothingRememberedByPositions}
use Rattle.console_core.proofs.OneMore.{is-nothing, resolved-start, resolved-more, remembered-start}
use Rattle.console_core.proofs.OneMore.{remembered-character, remembered-action, remembered-release, remembered-reset}
use Rattle.console_core.proofs.OneMore.{remembered-load}

-- a looked-up character, by the test of its key
press_char : (t : Bool) (o : Option Action)
    → (if t && true then None else option_or o (if t then None else None)) ≡ (if t then None else o)
press_char true o = refl
press_char false o = option_or-none o

-- a looked-up action, by the test of its key
press_act : (t : Bool) (o : Option Action) (b : Action)
    → (if t && false then None else option_or o (if t then unless_nop b else None))
    ≡ option_or o (if t then unless_nop b else None)
press_act true o b = refl
press_act false o b = refl

-- the step of the next lemma at a press, by the cell looked up
remembered_press : (ms : Maps) (k j : ℕ) (h : List Event) (y : Cell) (o : Option Action)
    → o ≡ remembered k (resolved ms h)
    → (if (j == k) && is_character y then None else option_or o (if j == k then offered y else None))
    ≡ remembered k (resolve_press j y ∷ resolved ms h)
remembered_press ms k j h (Char c) o r = search (rules, press_char, remembered-character)
remembered_press ms k j h (Act b) o r = search (rules, press_act, remembered-action)

-- what is remembered, by the events that offer and forget it
pub remembered-events : (ms : Maps) (k : ℕ) (h : List Event)
    → first_since_at (forgets_at ms k) (offers_at ms k) h ≡ remembered_after ms k h
remembered-events ms k [] = sym (ap (λ r. remembered k r) (resolved-start ms) ∙ remembered-start k)
remembered-events ms k (Press j ∷ h) =
    search (rules, remembered_press, resolved-more, remembered-events ms k h)
remembered-events ms k (Release j ∷ h) =
    search (rules, option_or-none, resolved-more, remembered-release, remembered-events ms k h)
remembered-events ms k (Reset ∷ h) = cc (resolved-more ms h Reset, remembered-reset k (resolved ms h))
remembered-events ms k (Load ∷ h) = cc (resolved-more ms h Load, remembered-load k _ (resolved ms h))

module _ {A B : Type 0} (ends : A → List A → Bool) (pick : A → List A → Option B) where
  -- a further element since the last that ends
  more_since : (x : A) (recent old : List A) → ends x (recent ++ old) ≡ false → IsSinceLast ends recent old
      → IsSinceLast ends (x ∷ recent) old
  more_since x recent [] e s = (e, s)
  more_since x recent (y ∷ old) e s = ((e, s.0), s.1)

  -- the step of the next lemma, by whether the event ends
  nothing_by : (x : A) (h : List A) (t : Bool) (o p : Option B) → ends x h ≡ t → first_since_at ends pick h ≡ o
      → pick x h ≡ p → (first_since_at ends pick h ≡ None → NothingSince ends pick h)
      → (if t then None else option_or o p) ≡ None → NothingSince ends pick (x ∷ h)
  nothing_by x h true o p e f g rec is = ([], x ∷ h, refl, (tt, e), tt)
  nothing_by x h false (Some b) p e f g rec is = absurd (none-some b (sym is))
  nothing_by x h false None (Some b) e f g rec is = absurd (none-some b (sym is))
  nothing_by x h false None None e f g rec is =
      let s : NothingSince ends pick h = rec f in (
        x ∷ s.0,
        s.1,
        ap (λ t. x ∷ t) s.2,
        more_since x s.0 s.1 (ap (λ t. ends x t) (sym s.2) ∙ e) s.3,
        (ap (λ t. is_some (pick x t)) (sym s.2) ∙ ap (λ o. is_some o) g, s.4),
      )

  -- where nothing is found since the last end, nothing was offered since
  pub nothing-since : (h : List A) → first_since_at ends pick h ≡ None → NothingSince ends pick h
  nothing-since [] is = ([], [], refl, tt, tt)
  nothing-since (x ∷ h) is =
      nothing_by x h (ends x h) (first_since_at ends pick h) (pick x h) refl refl refl (nothing-since h) is

  -- the step of the next lemma, by whether the event ends
  first_by : (x : A) (h : List A) (b : B) (t : Bool) (o p : Option B) → ends x h ≡ t → first_since_at ends pick h ≡ o
      → pick x h ≡ p → ((c : B) → first_since_at ends pick h ≡ Some c → FirstSince ends pick h c)
      → (if t then None else option_or o p) ≡ Some b → FirstSince ends pick (x ∷ h) b
  first_by x h b true o p e f g rec is = absurd (none-some b is)
  first_by x h b false (Some c) p e f g rec is =
      let s : FirstSince ends pick h b = rec b (f ∙ is) in (
        x ∷ s.0,
        s.1,
        s.2,
        s.3,
        ap (λ t. x ∷ t) s.4,
        more_since x (s.0 ++ s.1 ∷ s.2) s.3 (ap (λ t. ends x t) (sym s.4) ∙ e) s.5,
        s.6,
        s.7,
      )
  first_by x h b false None p e f g rec is =
      let s : NothingSince ends pick h = nothing-since h f in (
        [],
        x,
        s.0,
        s.1,
        ap (λ t. x ∷ t) s.2,
        more_since x s.0 s.1 (ap (λ t. ends x t) (sym s.2) ∙ e) s.3,
        ap (λ t. pick x t) (sym s.2) ∙ g ∙ is,
        s.4,
      )

  -- what is found since the last end is the first that was offered
  pub first-since : (h : List A) (b : B) → first_since_at ends pick h ≡ Some b → FirstSince ends pick h b
  first-since [] b is = absurd (none-some b is)
  first-since (x ∷ h) b is =
      first_by x h b (ends x h) (first_since_at ends pick h) (pick x h) refl refl refl (λ c. first-since h c) is

  -- conversely
  none_of : (recent old : List A) → IsSinceLast ends recent old → NoneOf ends recent old
  none_of recent [] s = s
  none_of recent (x ∷ old) s = s.0

  -- nothing is found before the last end
  old_none : (recent old : List A) → IsSinceLast ends recent old → first_since_at ends pick old ≡ None
  old_none recent [] s = refl
  old_none recent (x ∷ old) s = rw s.1 refl

  -- what offers nothing and doesn't end keeps that nothing is found
  since_nothing : (recent old : List A) → first_since_at ends pick old ≡ None → NoneOf ends recent old
      → NoneOf (λ y before. is_some (pick y before)) recent old → first_since_at ends pick (recent ++ old) ≡ None
  since_nothing [] old e none picked = e
  since_nothing (x ∷ recent) old e none picked =
      rw (none.0, since_nothing recent old e none.1 picked.1, is-nothing (pick x (recent ++ old)) picked.0) refl

  -- what doesn't end keeps what was found
  since_kept : (later tail : List A) (b : B) → first_since_at ends pick tail ≡ Some b → NoneOf ends later tail
      → first_since_at ends pick (later ++ tail) ≡ Some b
  since_kept [] tail b e none = e
  since_kept (x ∷ later) tail b e none = rw (none.0, since_kept later tail b e none.1) refl

  -- the elements of two lists in a row
  none_later : (later rest old : List A) → NoneOf ends (later ++ rest) old
      → NoneOf ends later (rest ++ old) × NoneOf ends rest old
  none_later [] rest old none = (tt, none)
  none_later (x ∷ later) rest old none =
      let s : NoneOf ends later (rest ++ old) × NoneOf ends rest old = none_later later rest old none.1 in
      ((ap (λ t. ends x t) (sym (append_assoc later rest old)) ∙ none.0, s.0), s.1)

  -- where nothing was offered since the last end, nothing is found
  pub since-nothing : (h : List A) → NothingSince ends pick h → first_since_at ends pick h ≡ None
  since-nothing h s = cc (s.2, since_nothing s.0 s.1 (old_none s.0 s.1 s.3) (none_of s.0 s.1 s.3) s.4)

  -- what was first offered since the last end is found
  pub since-first : (h : List A) (b : B) → FirstSince ends pick h b → first_since_at ends pick h ≡ Some b
  since-first h b s =
      let none : NoneOf ends s.0 ((s.1 ∷ s.2) ++ s.3) × NoneOf ends (s.1 ∷ s.2) s.3 =
      none_later s.0 (s.1 ∷ s.2) s.3 (none_of (s.0 ++ s.1 ∷ s.2) s.3 s.5) in
      let before : first_since_at ends pick (s.2 ++ s.3) ≡ None =
      since_nothing s.2 s.3 (old_none (s.0 ++ s.1 ∷ s.2) s.3 s.5) none.1.1 s.7 in
      let here : first_since_at ends pick (s.1 ∷ (s.2 ++ s.3)) ≡ Some b = rw (none.1.0, before, s.6) refl in
      cc (s.4, append_assoc s.0 (s.1 ∷ s.2) s.3, since_kept s.0 (s.1 ∷ (s.2 ++ s.3)) b here none.0)

-- what is remembered is the first action offered since the last event that forgets
pub remembered-positions : RememberedByPositions
remembered-positions ms k h a = (
  (λ e. first-since (forgets_at ms k) (offers_at ms k) h a (remembered-events ms k h ∙ e)),
  (λ s. sym (remembered-events ms k h) ∙ since-first (forgets_at ms k) (offers_at ms k) h a s),
)

-- nothing is remembered exactly if nothing was offered since the last event that forgets
pub nothing_remembered-positions : NothingRememberedByPositions
nothing_remembered-positions ms k h = (
  (λ e. nothing-since (forgets_at ms k) (offers_at ms k) h (remembered-events ms k h ∙ e)),
  (λ s. sym (remembered-events ms k h) ∙ since-nothing (forgets_at ms k) (offers_at ms k) h s),
)
