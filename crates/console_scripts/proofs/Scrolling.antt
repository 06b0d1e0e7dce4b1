-- Moves and a press turn the scroll lock off.
use Rattle.console_scripts.proofs.Common.{◌≡◌, ℕ, Bool, true, not, List, [], ◌∷◌, ◌++◌, refl, ap, subst, sym, ◌∙◌, inl}
use Rattle.console_scripts.proofs.Common.{inr, append_assoc, cases_Bool, fun_ext, MapValue, Lock}
use Rattle.console_scripts.proofs.Common.{Scroll, Event, Press, Reset, Move, between}
use Rattle.console_scripts.proofs.Common.{is_locked_after, HasKeys, HasNoLoads, Under, alone, State, IsPathFrom}
use Rattle.console_scripts.proofs.Common.{state_from, events_along, but_scroll, Explored, IsExplored}
use Rattle.console_scripts.proofs.Common.{IsTrail, map_of_explored, origin_in, state_of, ReachesMoreThanFrom}
use Rattle.console_scripts.proofs.Common.{state_limit, KeyAt, free_with, CannotScroll, TurnsScrollOff, resting_after}
use Rattle.console_scripts.proofs.Common.{Act, IsAt, Stands, Takes, locked, resolved, resolved-more, reached-one}
use Rattle.console_scripts.proofs.Common.{TurnsScroll, arith, length, stands-from}
use Rattle.console_states.specs.Looks.{HoldsAt, HoldsBelow, IsNowhere}
use Rattle.console_states.proofs.Shared.{is-nowhere, press-flips, scroll-along}
use Rattle.console_core.proofs.Shared.{locked-reset}
use Rattle.keymap_core.specs.declared.action.Action.TheVariants as act
use Rattle.console_scripts.proofs.Approaching.{at-reset}
use Rattle.console_scripts.proofs.Leading.{out-leads}

-- where a console shows that it rests
pub shown-resting : (m : MapValue) (h : List Event) (on : Lock → Bool)
    → ((l : Lock) → on l ≡ is_locked_after (between m m) l h) → free_with (but_scroll on) ≡ resting_after m h
shown-resting m h on e = ap (λ f. free_with (but_scroll f)) (fun_ext e)

-- no moves lead to a turn where no press turns it in what was met
pub unturned : (e : Explored) → IsExplored e → IsNowhere (TurnsScroll e) e.met.entries → (h : List Event)
    → origin_in e ≡ resting_after (map_of_explored e) h → CannotScroll (map_of_explored e) h
unturned e x none h same (path, k, is, takes) = subst (λ s. (p : ℕ) × ReachesMoreThanFrom u s state_limit p) same
    (elim (cases_Bool e.is_complete) [
      | inl complete ↦
          absurd (is-nowhere u e.met.entries (x.whole complete).0
          (λ s. (n : ℕ) → Takes u s n (Act (act.Lock Scroll)) → ⊥)
          (subst (λ v. HoldsBelow (λ y. (n : ℕ) → Takes v (state_of y) n (Act (act.Lock Scroll)) → ⊥) e.met.entries
          (length e.met.entries)) x.under none) (origin_in e) (0, omega arith, refl) path
          (subst (λ s. IsPathFrom u s path) (sym same) is) k
          (subst (λ s. Takes u (state_from u s path) k (Act (act.Lock Scroll))) (sym same) takes))
      | inr more ↦ x.more more
    ])
  where
    u : Under
    u = alone (map_of_explored e)

-- a reset, the events to a place, and a press there that turns it
pub turns-off : (e : Explored) → IsExplored e → (at : KeyAt) → HoldsAt (TurnsScroll e) e.met.entries at
    → (h : List Event)
    → origin_in e ≡ resting_after (map_of_explored e) h → HasKeys h → HasNoLoads h
    → is_locked_after (between (map_of_explored e) (map_of_explored e)) Scroll h ≡ true
    → (old there now : List Event) → old ≡ Reset ∷ []
    → ((path : List Move) → IsTrail e.met.entries at.place path → there ≡ events_along path ++ old)
    → now ≡ Press at.key ∷ there → TurnsScrollOff (map_of_explored e) h now
turns-off e x at (y, here, move) h same keys none on old there now is out last =
    let m : MapValue = map_of_explored e in
    let u : Under = alone m in
    let s : State = origin_in e in
    let (path, trail, from, leads, presses) = reached-one x.searched at.place y here in
    let rests = subst (λ z. IsAt m z h (Reset ∷ [])) (sym same) (at-reset m h keys none) in
    let begun : Stands u (Reset ∷ h) s = subst (λ z. Stands u (Reset ∷ h) z) rests.near rests.stands in
    let stands = stands-from u (Reset ∷ h) s path begun from in
    let (lt, idle, (seen, may)) : Takes u (state_from u s path) at.key (Act (act.Lock Scroll)) =
    subst (λ z. Takes u z at.key (Act (act.Lock Scroll))) (sym leads)
    (subst (λ v. Takes v (state_of y.0) at.key (Act (act.Lock Scroll))) x.under move) in
    let behind : there ++ h ≡ events_along path ++ Reset ∷ h =
    ap (λ z. z ++ h) (out path trail ∙ ap (λ z. events_along path ++ z) is)
    ∙ append_assoc (events_along path) (Reset ∷ []) h in
    let is_on : is_locked_after (between m m) Scroll (events_along path ++ Reset ∷ h) ≡ true =
    scroll-along m (Reset ∷ h) s path begun from ∙ ap (λ r. locked Scroll r) (resolved-more (between m m) h Reset)
    ∙ locked-reset Scroll (resolved (between m m) h) ∙ on in
    let led = out-leads e x at.place y here old there out h (rw is rests) in
    rw last (
      (refl, tt, led.0.taken),
      rw behind
          (press-flips m (events_along path ++ Reset ∷ h) (state_from u s path) at.key Scroll stands idle seen
          ∙ ap not is_on),
    )
