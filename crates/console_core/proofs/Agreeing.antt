-- After each kind of resolved event what a console keeps still agrees with the list of resolved events.
use Rattle.console_core.proofs.Common.{resolve_press, ◌≡◌, ℕ, ◌<◌, false, ◌&&◌, not, List, [], ◌∷◌, refl, ap, rules}
use Rattle.console_core.proofs.Common.{sym, ◌∙◌, if◌then◌else◌, Action, Modifier, Meta, Cell, Event, Press}
use Rattle.console_core.proofs.Common.{Load, MapValue, is_borne, look_with, answer_resolved, ResolvedEvent}
use Rattle.console_core.proofs.Common.{locked, remembered, taken_over, look, on, Maps, in_force, loaded}
use Rattle.console_core.proofs.Common.{is_second_in_force, is_load, resolved_event, answer_to, resolved, StandsAt, Kept}
use Rattle.console_core.proofs.Common.{after_character, after_action}
use Rattle.console_core.proofs.Common.{after_release, after_reset, after_load, PressedCharacter, PressedAction}
use Rattle.console_core.proofs.Common.{ReleasedKey, WasReset, WasLoaded, fun_ext}
use Rattle.console_core.specs.Answers.{answer_char, answer_action, answer_release}
use Rattle.console_core.specs.Types.{Answer}
use Rattle.console_core.specs.Agrees.{Agrees, nothing_kept}
use Rattle.console_core.proofs.OneMore.{resolved-start, resolved-more, held-start, held-character, held-action}
use Rattle.console_core.proofs.OneMore.{held-release, held-reset, locked-start, locked-character, locked-action}
use Rattle.console_core.proofs.OneMore.{locked-release, locked-reset, remembered-start, remembered-character}
use Rattle.console_core.proofs.OneMore.{remembered-action, remembered-release, remembered-reset, pending-start}
use Rattle.console_core.proofs.OneMore.{pending-character, pending-action, pending-release, pending-reset, held-load}
use Rattle.console_core.proofs.OneMore.{locked-load, remembered-load, pending-load}
use Rattle.keymap_core.specs.declared.action.Holding.TheVariants as holding

-- a look by what is kept is the look of the events
pub agrees-look : (m : MapValue) (h : List ResolvedEvent) (k : Kept) (key : ℕ) → Agrees m h k
    → look_with m (λ i. k.mark (holding.Mod i)) k.lock key ≡ look m h key
unfolding look
agrees-look m h k key agrees =
    let e : (λ (i : Modifier). k.mark (holding.Mod i)) ≡ (λ i. on i h) = fun_ext (λ i. agrees.marks (holding.Mod i)) in
    let f : k.lock ≡ (λ l. locked l h) = fun_ext (λ l. agrees.locks l) in
    ap (λ x. look_with m x k.lock key) e ∙ ap (λ y. look_with m (λ i. on i h) y key) f

-- what is kept agrees with one more resolved event after what the machine does for it
module _ (m : MapValue) (h : List ResolvedEvent) (k : Kept) (agrees : Agrees m h k) where
  -- a looked-up character keeps the agreement
  pub agrees-character : (key c : ℕ)
      → Agrees m (PressedCharacter key c ∷ h) (after_character key k)
  agrees-character key c = record {
    marks = λ a. agrees.marks a ∙ sym (held-character a key c h);
    locks = λ l. agrees.locks l ∙ sym (locked-character l key c h);
    memories = λ j lt. cc (agrees.memories j lt, remembered-character j key c h);
    pending = sym (pending-character m key c h);
  }

  -- a looked-up action keeps the agreement
  pub agrees-action : (key : ℕ) (b : Action) → key < 128
      → Agrees m (PressedAction key b ∷ h) (after_action m key b k)
  agrees-action key b lt =
      let e : taken_over (k.memory key) b ≡ taken_over (remembered key h) b = ap (λ x. taken_over x b)
      (agrees.memories key lt) in
      record {
        marks = λ a. rw (e, agrees.marks a) (sym (held-action a key b h));
        locks = λ l. rw (e, agrees.marks (holding.Lock l), agrees.locks l) (sym (locked-action l key b h));
        memories = λ j lt2. rw (agrees.memories j lt2) (sym (remembered-action j key b h));
        pending = rw (e, agrees.pending) (sym (pending-action m key b h));
      }

  -- a release keeps the agreement
  pub agrees-release : (key : ℕ) → key < 128 → Agrees m (ReleasedKey key ∷ h) (after_release key k)
  agrees-release key lt =
      let e : k.memory key ≡ remembered key h = agrees.memories key lt in
      record {
        marks = λ a. rw (agrees.marks a, e) (sym (held-release a key h));
        locks = λ l. agrees.locks l ∙ sym (locked-release l key h);
        memories = λ j lt2. cc (agrees.memories j lt2, remembered-release j key h);
        pending = agrees.pending ∙ sym (pending-release m key h);
      }

  -- a reset keeps the agreement
  pub agrees-reset : Agrees m (WasReset ∷ h) (after_reset k)
  agrees-reset = record {
    marks = λ a. sym (held-reset a h);
    locks = λ l. agrees.locks l ∙ sym (locked-reset l h);
    memories = λ j lt. sym (remembered-reset j h);
    pending = sym (pending-reset m h);
  }

  -- a load of the map n
  pub agrees-load : (n : MapValue) → Agrees n (WasLoaded n ∷ h) (after_load n k)
  agrees-load n = record {
    marks = λ a. sym (held-load a n h);
    locks = λ l. ap (λ x. is_borne n (holding.Lock l) && x) (agrees.locks l) ∙ sym (locked-load l n h);
    memories = λ j lt. sym (remembered-load j n h);
    pending = sym (pending-load n n h);
  }

  -- the answers are those to the resolved event
  pub answers-character : (key c : ℕ)
      → answer_char m k.pending (k.mark (holding.Mod Meta)) c ≡ answer_resolved m (PressedCharacter key c) h
  answers-character key c = rw (agrees.pending, agrees.marks (holding.Mod Meta)) refl

  -- the answer to an action by what is kept is that of the events
  pub answers-action : (key : ℕ) (b : Action) → key < 128
      → answer_action m k.pending (k.mark (holding.Mod Meta)) (taken_over (k.memory key) b)
      ≡ answer_resolved m (PressedAction key b) h
  answers-action key b lt = rw (agrees.pending, agrees.marks (holding.Mod Meta), agrees.memories key lt) refl

  -- the answer to a release by what is kept is that of the events
  pub answers-release : (key : ℕ) → key < 128 → answer_release (k.memory key) ≡ answer_resolved m (ReleasedKey key) h
  answers-release key lt = ap answer_release (agrees.memories key lt)

-- from resolved events to events, where the console stands at them
module _ (ms : Maps) (h : List Event) (e : Event) (kept : Kept) (stands : StandsAt ms h kept) where
  -- a press that looks up a cell by what is kept is resolved to the press that does
  pub resolves-press : (k : ℕ) (cell x : Cell) → e ≡ Press k
      → cell ≡ look_with (in_force ms h) (λ i. kept.mark (holding.Mod i)) kept.lock k → cell ≡ x
      → resolved_event ms h e ≡ resolve_press k x
  resolves-press k cell x is look_is cell_is =
      let f : look (in_force ms h) (resolved ms h) k ≡ x =
      cc (agrees-look (in_force ms h) (resolved ms h) kept k stands.agrees, look_is, cell_is) in
      ap (λ y. resolved_event ms h y) is ∙ ap (λ y. resolve_press k y) f

  -- the answer to what an event is resolved to is the answer to the event
  pub answer-of : (x : ResolvedEvent) (r : Answer) → resolved_event ms h e ≡ x
      → r ≡ answer_resolved (in_force ms h) x (resolved ms h) → r ≡ answer_to ms h e
  answer-of x r is answer = cc (answer, is)

  -- an event other than a load leaves the map in force
  pub stands-next : (f : Event) (x : ResolvedEvent) (k : Kept) → e ≡ f → is_load f h ≡ false
      → resolved_event ms h e ≡ x → k.is_second ≡ kept.is_second
      → Agrees (in_force ms h) (x ∷ resolved ms h) k → StandsAt ms (e ∷ h) k
  stands-next f x k same no_load is second agrees =
      let s : is_second_in_force (e ∷ h) ≡ is_second_in_force h = cc (same, no_load) in
      let t : in_force ms (e ∷ h) ≡ in_force ms h = ap (λ b. if b then ms.second else ms.first) s in
      record {
        map_in_force = second ∙ stands.map_in_force ∙ sym s;
        agrees = rw (t, resolved-more ms h e ∙ ap (λ y. y ∷ resolved ms h) is) agrees;
      }

-- a load puts the other map in force
pub stands-load : (ms : Maps) (h : List Event) (e : Event) (m : MapValue) (k : Kept) → e ≡ Load → m ≡ loaded ms h
    → StandsAt ms h k → StandsAt ms (e ∷ h) (after_load m k)
stands-load ms h e m k is force stands = record {
  map_in_force = ap not stands.map_in_force ∙ ap (λ y. is_second_in_force (y ∷ h)) (sym is);
  agrees = rw (is, resolved-more ms h Load, ← force) (agrees-load (in_force ms h) (resolved ms h) k stands.agrees m);
}

-- where nothing is kept, a console stands at no events
pub stands-start : (ms : Maps) → StandsAt ms [] nothing_kept
stands-start ms =
    search (rules, resolved-start, held-start, locked-start, remembered-start, pending-start)
