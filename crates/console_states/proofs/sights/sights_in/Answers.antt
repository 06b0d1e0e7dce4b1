use Rattle.console_states.proofs.Common.{◌≡◌, ℕ, Option, Some, None, true, false, length, subst, sym, ◌∙◌}
use Rattle.console_states.proofs.Common.{is_some, true≢false, Sights, Under, alone, AreSelectionsOf, Entries, AreSafe}
use Rattle.console_states.proofs.Common.{IsStuck}
use Rattle.console_states.specs.Looks.{IsFirstStuck}
use Rattle.console_states.specs.declared.look.KeyAt.{KeyAt}
use Rattle.console_states.proofs.Offering.{sights-are}
use Rattle.console_states.proofs.sights.sights_in.Goals as goal

pub offers_of-requires-clause-all : goal.offers_of-requires-clause-all
offers_of-requires-clause-all c =
    subst (λ z. AreSelectionsOf false c.args.met.now.entries z) (sym c.deref.ensures.value) c.in_ok-selections.ensures

some-place : (u : Under) (es : Entries) (o : Option KeyAt) → IsFirstStuck u es o → is_some o ≡ true
    → (j k : ℕ) × IsStuck u es j k
some-place u es (Some x) first e = (x.place, x.key, first.is.0)
some-place u es None first e = absurd (true≢false (sym e))

no-place : (u : Under) (es : Entries) (o : Option KeyAt) → IsFirstStuck u es o → is_some o ≡ false
    → AreSafe u es (length es)
no-place u es (Some x) first e = absurd (true≢false e)
no-place u es None first e = first.is

pub returns : goal.returns
returns c =
    let m = c.args.maps.now.first.now in
    let es = c.args.met.now.entries in
    let x : Sights = record {
      selections = c.in_ok-selections.selections;
      offers = c.in_ok-offers.offers;
      forgets = c.is_some.result;
    } in
    let first = subst (λ u. IsFirstStuck u es c.first_stuck.result) c.requires.0 c.first_stuck.ensures in
    sights-are m es x c.in_ok-offers.ensures.0 c.requires.1 c.in_ok-selections.ensures c.in_ok-offers.ensures.1
    c.in_ok-offers.ensures.2 (λ e. some-place (alone m) es c.first_stuck.result first (sym c.is_some.ensures ∙ e))
    (λ e. no-place (alone m) es c.first_stuck.result first (sym c.is_some.ensures ∙ e))
