use Rattle.console_states.proofs.Common.{subst, sym, inl, inr, under_of, get_or_read_under, length, refl}
use Rattle.console_states.proofs.Common.{AreKeysOf, DeadKey}
use Rattle.console_states.proofs.Adding.{empty-none}
use Rattle.console_states.proofs.offers.unlocked_accents.Goals as goal

pub loop-held-init : goal.loop-held-init
loop-held-init c = λ a has. absurd (empty-none _ a c.new-accents.ensures.items has)

pub add_offers-requires : goal.add_offers-requires
add_offers-requires c =
    subst (λ z. AreKeysOf DeadKey (under_of c.args.maps.now) z 128) (sym c.as_slice.ensures.value) c.in_ok-keys.ensures

pub loop-held-preserved : goal.loop-held-preserved
loop-held-preserved c = λ a has. elim (c.in_ok-add_offers.ensures.only a has) [
  | inl was ↦ c.loop-held.invariant a was
  | inr (can, offers) ↦
      let held = c.held-item.result in
      let n = c.loop-held.held-index in
      let states = c.args.states.now in
      let at = sym (get_or_read_under states n (length states) held held c.held-item.is c.loop-held-test.true refl) in
      let unlocked = c.is_any_locked.ensures.unlocked c.if-is_any_locked.false in
      (can, (held, (n, c.loop-held-test.true, at), (unlocked, offers)))
]
