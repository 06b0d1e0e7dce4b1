use Rattle.keymap_cover.proofs.Common.{subst, Contains, inl, is_pair}
use Rattle.console_states.specs.declared.selection.Sight.TheVariants.{Pair}
use Rattle.console_states.proofs.Shared.{any-member}
use Rattle.keymap_cover.proofs.Marking.{is-this, pair-marked}
use Rattle.keymap_cover.proofs.seen.Seen.add_pair.Goals as goal

pub returns-in_ok-push : goal.returns-in_ok-push
returns-in_ok-push c =
    pair-marked c.args.self.now.cells.items c.args.self.now.lock_settings.items c.args.self.now.pairs.items
    c.push.new.self.items c.args.accent c.args.character c.in_ok-push.ensures.items

pub returns-else-not-has_pair : goal.returns-else-not-has_pair
returns-else-not-has_pair c = (
  any-member (is_pair c.args.accent c.args.character) c.args.self.now.pairs.items (Pair c.args.accent c.args.character)
      (subst (λ z. Contains z (Pair c.args.accent c.args.character)) c.deref.ensures.value
      (c.has_pair.ensures.among c.if-not-has_pair.false)) (is-this c.args.accent c.args.character),
  (λ y. ((λ was. was), (λ now. inl now))),
)
