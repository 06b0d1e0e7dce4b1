-- What is pending, by the longest run at the end.
use Rattle.console_core.proofs.Common.{suc, ◌≡◌, ℕ, Bool, false, true, List, [], ◌∷◌, ◌++◌, length, eqb, Option, None}
use Rattle.console_core.proofs.Common.{Some, refl, ap, sym, ◌∙◌, if◌then◌else◌, true≢false, eqb-true, eqb-false}
use Rattle.console_core.proofs.Common.{eq-eqb, ne_eqb, none-some, same_Some, Cell, Char, Act, Event, Press, Release}
use Rattle.console_core.proofs.Common.{Reset, Load, MapValue, is_odd, resolve_press, look, dead_keys_taken, run_length}
use Rattle.console_core.proofs.Common.{pending_by_dead_keys, Maps, in_force, resolved, resolved_event, taken_of}
use Rattle.console_core.proofs.Common.{remembered_after, rules}
use Rattle.console_core.specs.Positions.{positions_without}
use Rattle.console_core.specs.Resolved.{keeps, dead_key}
use Rattle.console_core.specs.Reading.{keeps_at, dead_key_taken_at, AllTake, LastDoesNotTake, PendingByRun}
use Rattle.console_core.specs.Reading.{keeps_option, dead_key_of}

-- the step of the next lemma at a press, by the cell looked up
keeps_press : (ms : Maps) (k : ℕ) (h : List Event) (x : Cell)
    → keeps (resolve_press k x) (resolved ms h) ≡ keeps_option (taken_of (remembered_after ms k h) x)
keeps_press ms k h (Char c) = refl
keeps_press ms k h (Act a) = refl

-- what an event is resolved to keeps what is pending exactly if the event does
keeps-event : (ms : Maps) (e : Event) (h : List Event) → keeps (resolved_event ms h e) (resolved ms h) ≡ keeps_at ms e h
keeps-event ms (Press k) h = keeps_press ms k h (look (in_force ms h) (resolved ms h) k)
keeps-event ms (Release k) h = refl
keeps-event ms Reset h = refl
keeps-event ms Load h = refl

-- the step of the next lemma at a press, by the cell looked up
takes_press : (ms : Maps) (m : MapValue) (k : ℕ) (h : List Event) (x : Cell)
    → dead_key m (resolve_press k x) (resolved ms h) ≡ dead_key_of m (taken_of (remembered_after ms k h) x)
takes_press ms m k h (Char c) = refl
takes_press ms m k h (Act a) = refl

-- what an event is resolved to takes the dead key that the event takes
takes-event : (ms : Maps) (m : MapValue) (e : Event) (h : List Event)
    → dead_key m (resolved_event ms h e) (resolved ms h) ≡ dead_key_taken_at ms m e h
takes-event ms m (Press k) h = takes_press ms m k h (look (in_force ms h) (resolved ms h) k)
takes-event ms m (Release k) h = refl
takes-event ms m Reset h = refl
takes-event ms m Load h = refl

-- the dead keys taken at the positions
abbrev takings : Maps → MapValue → List (Event × List Event) → List (Option ℕ)
takings ms m [] = []
takings ms m (p ∷ positions) = dead_key_taken_at ms m p.0 p.1 ∷ takings ms m positions

-- a further event, which is left out or not
left_out : (ms : Maps) (m : MapValue) (b : Bool) (e : Event) (h : List Event)
    → (if b then takings ms m (positions_without (keeps_at ms) h)
    else dead_key_taken_at ms m e h ∷ takings ms m (positions_without (keeps_at ms) h))
    ≡ takings ms m (if b then positions_without (keeps_at ms) h else (e, h) ∷ positions_without (keeps_at ms) h)
left_out ms m true e h = refl
left_out ms m false e h = refl

-- the dead keys taken, by the positions that keep nothing
dead_keys_taken-events : (ms : Maps) (m : MapValue) (h : List Event)
    → dead_keys_taken m (resolved ms h) ≡ takings ms m (positions_without (keeps_at ms) h)
unfolding dead_keys_taken resolved
dead_keys_taken-events ms m [] = refl
dead_keys_taken-events ms m (e ∷ h) =
    rw (keeps-event ms e h, takes-event ms m e h, dead_keys_taken-events ms m h) (left_out ms m (keeps_at ms e h) e h)

-- pending exactly if the run is odd
odd_some : (b : Bool) (i j : ℕ) → (if b then Some j else None) ≡ Some i → (b ≡ true) × (j ≡ i)
odd_some true i j e = (refl, same_Some j i e)
odd_some false i j e = absurd (none-some i e)

-- what is pending has a run of odd length at the end
pending-odd : (xs : List (Option ℕ)) (i : ℕ) → pending_by_dead_keys xs ≡ Some i → is_odd (run_length i xs) ≡ true
unfolding pending_by_dead_keys
pending-odd [] i e = absurd (none-some i e)
pending-odd (None ∷ rest) i e = absurd (none-some i e)
pending-odd (Some j ∷ rest) i e = search (rules, odd_some)

-- the step of the next lemma, by whether the dead key before is the same
odd_pending : (rest : List (Option ℕ)) (i j : ℕ) (b : Bool) → eqb j i ≡ b → is_odd (run_length i (Some j ∷ rest)) ≡ true
    → pending_by_dead_keys (Some j ∷ rest) ≡ Some i
unfolding pending_by_dead_keys
odd_pending rest i j true e odd = search (rules, eqb-true)
odd_pending rest i j false e odd = search (rules, true≢false)

-- a run of odd length at the end leaves its dead key pending
odd-pending : (xs : List (Option ℕ)) (i : ℕ) → is_odd (run_length i xs) ≡ true → pending_by_dead_keys xs ≡ Some i
odd-pending [] i odd = absurd (true≢false (sym odd))
odd-pending (None ∷ rest) i odd = absurd (true≢false (sym odd))
odd-pending (Some j ∷ rest) i odd = odd_pending rest i j (eqb j i) refl odd

-- the run at the end
abbrev Split : Maps → MapValue → ℕ → List (Event × List Event) → Type 0
Split ms m i positions =
    (run : List (Event × List Event)) × (rest : List (Event × List Event)) × (positions ≡ run ++ rest)
    × AllTake ms m i run × LastDoesNotTake ms m i rest × (length run ≡ run_length i (takings ms m positions))

-- a further position, by whether it takes the dead key
split_by : (ms : Maps) (m : MapValue) (i : ℕ) (p : Event × List Event) (positions : List (Event × List Event))
    (o : Option ℕ) (b : Bool)
    → dead_key_taken_at ms m p.0 p.1 ≡ o → ((j : ℕ) → o ≡ Some j → eqb j i ≡ b) → Split ms m i positions
    → Split ms m i (p ∷ positions)
split_by ms m i p positions None b e f s = search (rules, none-some)
split_by ms m i p positions (Some j) true e f s =
    let is : j ≡ i = eqb-true j i (f j refl) in (
      p ∷ s.0,
      s.1,
      ap (λ t. p ∷ t) s.2,
      (e ∙ ap (λ x. Some x) is, s.3),
      s.4,
      cc (s.5, f j refl, e),
    )
split_by ms m i p positions (Some j) false e f s = (
  [],
  p ∷ positions,
  refl,
  tt,
  (λ g. eqb-false j i (f j refl) (same_Some j i (sym e ∙ g))),
  cc (f j refl, e),
)

-- whether the dead key is this one
abbrev same_number : ℕ → Option ℕ → Bool
same_number i None = false
same_number i (Some j) = eqb j i

-- positions are a run of the dead key at the end, and the rest
split : (ms : Maps) (m : MapValue) (i : ℕ) (positions : List (Event × List Event)) → Split ms m i positions
split ms m i [] = ([], [], refl, tt, tt, refl)
split ms m i (p ∷ positions) =
    split_by ms m i p positions (dead_key_taken_at ms m p.0 p.1) (same_number i (dead_key_taken_at ms m p.0 p.1)) refl
    (λ j e. ap (λ o. same_number i o) (sym e)) (split ms m i positions)

-- a run ends where another dead key is taken, or none
stops : (i : ℕ) (o : Option ℕ) (xs : List (Option ℕ)) → (o ≡ Some i → ⊥) → run_length i (o ∷ xs) ≡ 0
stops i None xs f = refl
stops i (Some j) xs f = ap (λ t. if t then suc (run_length i xs) else 0) (ne_eqb j i (λ e. f (ap (λ x. Some x) e)))

-- the rest has no run of the dead key at its end
run-rest : (ms : Maps) (m : MapValue) (i : ℕ) (rest : List (Event × List Event)) → LastDoesNotTake ms m i rest
    → run_length i (takings ms m rest) ≡ 0
run-rest ms m i [] f = refl
run-rest ms m i (p ∷ rest) f = stops i (dead_key_taken_at ms m p.0 p.1) (takings ms m rest) f

-- a run and a rest have a run of that length
run-all : (ms : Maps) (m : MapValue) (i : ℕ) (run rest : List (Event × List Event)) → AllTake ms m i run
    → LastDoesNotTake ms m i rest → run_length i (takings ms m (run ++ rest)) ≡ length run
run-all ms m i [] rest all f = run-rest ms m i rest f
run-all ms m i (p ∷ run) rest all f = rw (all.0, eq-eqb i i refl, run-all ms m i run rest all.1 f) refl

-- a dead key is pending exactly after an odd run of its presses
pub pending-run : PendingByRun
pending-run ms h i = (
  (λ e.
      let odd : is_odd (run_length i (takings ms (in_force ms h) (positions_without (keeps_at ms) h))) ≡ true =
      pending-odd (takings ms (in_force ms h) (positions_without (keeps_at ms) h)) i
      (ap pending_by_dead_keys (sym (dead_keys_taken-events ms (in_force ms h) h)) ∙ e) in
      let s : Split ms (in_force ms h) i (positions_without (keeps_at ms) h) =
      split ms (in_force ms h) i (positions_without (keeps_at ms) h) in
      (s.0, s.1, s.2, s.3, s.4, ap is_odd s.5 ∙ odd)),
  (λ s.
      let length_is : run_length i (takings ms (in_force ms h) (positions_without (keeps_at ms) h)) ≡ length s.0 =
      ap (λ x. run_length i (takings ms (in_force ms h) x)) s.2 ∙ run-all ms (in_force ms h) i s.0 s.1 s.3 s.4 in
      ap pending_by_dead_keys (dead_keys_taken-events ms (in_force ms h) h)
      ∙ odd-pending (takings ms (in_force ms h) (positions_without (keeps_at ms) h)) i (ap is_odd length_is ∙ s.5)),
)
