-- each round saw one more of the sights
use Rattle.keymap_cover.specs.Inner.OneWay.{AreKeys}
use Rattle.keymap_cover.proofs.Onward.{GoesRounds}
use Rattle.keymap_cover.proofs.one_way.show_rest.Given as goal

abbrev pub invariant-loop : goal.invariant-loop
invariant-loop g l =
    AreKeys l.fn.sights.items
    → GoesRounds l.map g.T.Translator.stands l.fn.sights.items l.fn.script l.script l.left.items l.counter
