-- A script that ends at rest, and shows in its parts what is told of, covers.
use Rattle.keymap_cover.proofs.Common.{◌≡◌, ◌⊎◌, inl, inr, Bool, true, List, subst, sym, ◌∙◌, arith, length, reverse}
use Rattle.keymap_cover.proofs.Common.{IsPair, IsReachable, IsTold, Sight}
use Rattle.keymap_cover.proofs.Common.{MapValue, Event, SeesAlong, AreSightsOf, events_of, has_seen, IsScript}
use Rattle.keymap_cover.proofs.Common.{AreUp, HoldParts, ScriptEvent, ℕ}
use Rattle.std.proofs.lemmas.List.{take_all}
use Rattle.console_core.specs.History.{HasKeys}
use Rattle.keymap_cover.specs.declared.parts.Cover.{Cover}
use Rattle.console_scripts.specs.Visiting.{CannotSee}
use Rattle.keymap_cover.specs.Covering.{IsAtRest, IsScrollOff, Covers}
use Rattle.keymap_cover.proofs.Showing.{sees-more}

pub script-covers : (m : MapValue) (h : List Event) (c : Cover) (down : List Bool)
    → IsScript m h c.events.items down (has_seen c.seen) → IsAtRest m h × IsScrollOff m h
    → ((x : Sight) → IsTold m x → (IsPair x → ⊥) → IsReachable m x → (has_seen c.seen x ≡ true) ⊎ CannotSee m h x)
    → AreUp down
    → AreSightsOf m c.sights
    → ((first second third : ℕ) × HoldParts m c.events.items c.starts.items first second third) → Covers m c
script-covers m h c down t (rest, off) ahead up are (first, second, third, parts) = record {
  seen = λ x has. subst (λ g. SeesAlong m g x) (sym t.history) (t.seen x has);
  all_seen = λ x along. t.all_seen x (subst (λ g. SeesAlong m g x) t.history along);
  sights = are;
  keys = subst HasKeys (sym t.history) t.keys;
  possible = t.possible;
  rest = subst (λ g. IsAtRest m g) (sym t.history) rest;
  up = λ k lt. sym (t.pressed k lt) ∙ up k lt;
  scroll = subst (λ g. IsScrollOff m g) (sym t.history) off;
  parts = (first, second, third, parts);
  complete = λ x has can.
      subst (λ z. SeesAlong m (events_of (reverse z)) x) (take_all (length events) events (omega arith))
      (sees-more m events second (length events) x (omega (arith, parts.in_order)) (parts.pairs x has can));
  onward = λ x told key can unseen. elim (ahead x told key can) [
    | inl was ↦ absurd (unseen (subst (λ g. SeesAlong m g x) (sym t.history) (t.seen x was)))
    | inr none ↦ subst (λ g. CannotSee m g x) (sym t.history) none
  ];
}
  where
    events : List ScriptEvent
    events = c.events.items
